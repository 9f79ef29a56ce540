-- What a conjunction that holds, and a disjunction that does not, say of each part (the library's laws give both parts at once,
-- and most uses want one); and what holds of a choice by a test. (How they compute is in the library's Core.Bool.)
use mathlib.Core.Bool.{Bool, true, false, cond, ◌&&◌, ◌||◌}
use mathlib.Core.Path.{◌≡◌, refl}
use Rattle.std.proofs.lemmas.Bool.{and_parts, or_parts, cond_both}

pub and_left : (a b : Bool) → a && b ≡ true → a ≡ true
and_left a b e = (and_parts a b e).0

pub and_right : (a b : Bool) → a && b ≡ true → b ≡ true
and_right a b e = (and_parts a b e).1

pub or_left : (a b : Bool) → a || b ≡ false → a ≡ false
or_left a b e = (or_parts a b e).0

pub or_right : (a b : Bool) → a || b ≡ false → b ≡ false
or_right a b e = (or_parts a b e).1

-- what holds of both sides holds of what is chosen
pub chosen : {A : Type 0} (P : A → Type 0) (b : Bool) (x y : A) → P x → P y → P (cond b x y)
chosen P b x y p q = cond_both b x y P (λ _. p) (λ _. q)

-- two tests that fail, where two others failed
pub or-fails : (a a' b b' : Bool) → (a ≡ false → a' ≡ false) → (b ≡ false → b' ≡ false) → a || b ≡ false → a' || b' ≡ false
or-fails false a' b b' p q e = rw (p refl) (q e)
or-fails true a' b b' p q e = cc
