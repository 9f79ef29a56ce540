-- Laws of the two forms: the form of a session by its first byte, what stands before the commands, and how many bytes the
-- narrowest set that holds a value gives it.
use Prim.Native.Nat.{ℕ, suc, ◌^◌, ◌<◌, ◌≤◌}
use mathlib.Core.Bool.{Bool, true, false, cond}
use mathlib.Core.List.{List, [], ◌∷◌}
use mathlib.Core.Path.{◌≡◌, refl}
use native.Mathlib.Omega.{arith}
use borrow.Author.Tests.{lt-ltb, le-ltb, eq-eqb, ne_eqb}
use lib.Dec.{eqb}
use lib.ListN.{length, get_or}
use Rattle.form.specs.declared.Form.{Form}
use Rattle.form.specs.Form.{head_of, form_of}
use Rattle.form.specs.Sets.{narrowest}

pub form-none : (s : List ℕ) → length s ≡ 0 → Form.Long ≡ form_of s
form-none [] h = refl
form-none (b ∷ s) h = let z : ⊥ = omega arith in absurd z

pub form-short : (s : List ℕ) → 0 < length s → get_or s 0 0 ≡ 0x10 → Form.Short ≡ form_of s
form-short [] h e = let z : ⊥ = omega arith in absurd z
form-short (b ∷ s) h e = rw (eq-eqb b 0x10 e)

pub form-long : (s : List ℕ) → 0 < length s → (get_or s 0 0 ≡ 0x10 → ⊥) → Form.Long ≡ form_of s
form-long [] h e = let z : ⊥ = omega arith in absurd z
form-long (b ∷ s) h e = rw (ne_eqb b 0x10 e)

pub narrowest-1 : (v : ℕ) → v < 256 → narrowest v ≡ 1
narrowest-1 v h = rw (lt-ltb v (256 ^ 1) (omega arith))

pub narrowest-4 : (v : ℕ) → 256 ≤ v → v < 0x100000000 → narrowest v ≡ 4
narrowest-4 v l h = rw (le-ltb v (256 ^ 1) (omega arith), lt-ltb v (256 ^ 4) (omega arith))

pub narrowest-8 : (v : ℕ) → 0x100000000 ≤ v → narrowest v ≡ 8
narrowest-8 v l = rw (le-ltb v (256 ^ 1) (omega arith), le-ltb v (256 ^ 4) (omega arith))

-- what stands before the commands is there
pub head-fits : (s : List ℕ) → length (head_of (form_of s)) ≤ length s
head-fits [] = omega arith
head-fits (b ∷ s) = go (eqb b 0x10)
  where
    go : (t : Bool) → length (head_of (cond t Form.Short Form.Long)) ≤ suc (length s)
    go true = omega arith
    go false = omega arith
