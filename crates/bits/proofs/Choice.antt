-- Laws of a choice by a test: what holds of both sides holds of what is chosen. (The library's `cond_both` asks of the first side
-- only where the test holds.)
use mathlib.Core.Bool.{Bool, false, cond}
use mathlib.Core.Path.{◌≡◌}
use Rattle.std.proofs.lemmas.Bool.{cond_both}

module _ {A : Type 0} (P : A → Type 0) where
  -- the first side, or the second where the test does not hold
  pub either : (b : Bool) (x y : A) → P x → (b ≡ false → P y) → P (cond b x y)
  either b x y p q = cond_both b x y P (λ _. p) q

  -- the second side, since the test does not hold
  pub second : (b : Bool) (x y : A) → b ≡ false → P y → P (cond b x y)
  second b x y e q = rw e q
