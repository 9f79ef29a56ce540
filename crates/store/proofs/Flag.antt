-- What `flag` says, as a choice: the value where the number is the field's, else what was there.
use Prim.Native.Nat.{ℕ}
use mathlib.Core.Bool.{Bool, cond}
use mathlib.Core.Path.{◌≡◌, refl}
use lib.Dec.{eqb}
use Rattle.store.specs.Store.{flag}

pub flag-chosen : (k f v : ℕ) (old : Bool) → flag k f v old ≡ cond (eqb f k) (eqb v 1) old
flag-chosen k f v old = refl
