-- An order of tests as a table.
use Rattle.std.specs.Prelude.{Bool, cond, List, [], ◌∷◌}

-- MODEL B3: the first row whose test holds says what happens, and the default where none does
abbrev pub first : {A : Type 0} → List (Bool × A) → A → A
first [] d = d
first (row ∷ rest) d = cond row.0 row.1 (first rest d)
