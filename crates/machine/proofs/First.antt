-- Laws of `first`: what a table picks, found by going down its rows, and which tests fell where no row was picked.
use Prim.Native.Nat.{ℕ, zero, suc}
use mathlib.Core.Bool.{Bool, true, false, cond, ◌||◌}
use mathlib.Core.List.{List, [], ◌∷◌}
use mathlib.Core.Path.{◌≡◌, refl, sym, ◌∙◌}
use Rattle.machine.specs.First.{first}
use Rattle.machine.proofs.Bools.{or_right}

-- x is what a table picks, going down its rows: a test fell, and the rest picks it; or a test held; or no row is left
infixr 20 ◌↓◌
pub data Picks {A : Type 0} (d x : A) : List (Bool × A) → Type 0 where
  none : x ≡ d → Picks d x []
  ◌↓◌ : {b : Bool} {a : A} {rest : List (Bool × A)} → b ≡ false → Picks d x rest → Picks d x ((b, a) ∷ rest)
  held : {b : Bool} {a : A} {rest : List (Bool × A)} → b ≡ true → x ≡ a → Picks d x ((b, a) ∷ rest)

-- and such an x is what `first` gives
pub picked : {A : Type 0} {d x : A} (rows : List (Bool × A)) → Picks d x rows → x ≡ first rows d
picked [] (none e) = e
picked (row ∷ rest) (n ↓ p) = rw n (picked rest p)
picked (row ∷ rest) (held t e) = rw t e

module _ {A : Type 0} where
  -- the test of row i
  abbrev pub test_at : ℕ → List (Bool × A) → Bool
  test_at i [] = false
  test_at zero (row ∷ rest) = row.0
  test_at (suc i) (row ∷ rest) = test_at i rest

  -- the answer of some row has p
  abbrev pub gives : (A → Bool) → List (Bool × A) → Bool
  gives p [] = false
  gives p (row ∷ rest) = p row.1 || gives p rest

  module _ (p : A → Bool) (d : A) where
    row-fell :
        (b : Bool) (a : A) (rest : List (Bool × A)) → p a || gives p rest ≡ false → p (cond b a (first rest d)) ≡ true
        → (b ≡ false) × (gives p rest ≡ false) × (p (first rest d) ≡ true)
    row-fell true a rest n e = let z : true ≡ false = rw e at n in (cc, cc, cc)
    row-fell false a rest n e = (refl, or_right (p a) (gives p rest) n, e)

    -- where no row's answer has p and the table's has, every test fell
    pub all-fell :
        (rows : List (Bool × A)) → gives p rows ≡ false → p (first rows d) ≡ true
        → (i : ℕ) → test_at i rows ≡ false
    all-fell [] n e i = refl
    all-fell (row ∷ rest) n e zero = (row-fell row.0 row.1 rest n e).0
    all-fell (row ∷ rest) n e (suc i) =
        let t = row-fell row.0 row.1 rest n e in all-fell rest t.1 t.2 i

    -- so where some test holds, the table's answer has not
    pub some-held :
        (rows : List (Bool × A)) (i : ℕ) → gives p rows ≡ false → test_at i rows ≡ true
        → p (first rows d) ≡ false
    some-held rows i n t = go (p (first rows d)) refl
      where
        go : (b : Bool) → p (first rows d) ≡ b → b ≡ false
        go true e = sym t ∙ all-fell rows n e i
        go false e = refl
