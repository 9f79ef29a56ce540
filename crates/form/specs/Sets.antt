-- Which bytes are commands in a form, and how wide its sets are.
use Rattle.std.specs.Prelude.{ℕ, ◌^◌, Bool, false, cond, ltb, eqb}
use Rattle.form.specs.declared.Form.{Form}

-- MODEL R1 and Z2: no command of the form has this byte
abbrev pub is_unknown : Form → ℕ → Bool
is_unknown Form.Long c = ltb 0x08 c
is_unknown Form.Short c = cond (eqb c 0x11) false (cond (eqb c 0x12) false (ltb 0x08 c))

-- MODEL Z3: how many bytes the narrowest of the short form's sets that holds a value gives it
abbrev pub narrowest : ℕ → ℕ
narrowest v = cond (ltb v (256 ^ 1)) 1 (cond (ltb v (256 ^ 4)) 4 8)

-- MODEL Z3: the form has a narrower set for the value than one with k bytes
abbrev pub is_too_wide : Form → ℕ → ℕ → Bool
is_too_wide Form.Long k v = false
is_too_wide Form.Short k v = ltb (narrowest v) k
