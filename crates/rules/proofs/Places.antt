-- Laws of lists of counters, place by place: a store, a map over the places, and the test of refusal 15 after either.
use Prim.Native.Nat.{ℕ, zero, suc, ◌+◌, ◌^◌, ◌<◌}
use mathlib.Core.Bool.{Bool, true, false, cond}
use mathlib.Core.List.{List, [], ◌∷◌}
use mathlib.Core.Path.{◌≡◌, refl, sym, ◌∙◌, ap}
use native.Mathlib.Nat.{zero-add, add-zero}
use native.Mathlib.Omega.{arith}
use borrow.Author.Tests.{eqb-true, eqb-false}
use lib.Dec.{leb, eqb}
use lib.ListN.{get_or, set, length}
use lib.Seq.{get_or-set_same, get_or-set_other}
use Rattle.machine.proofs.Bools.{or_left, or_right}
use Rattle.state.specs.State.{any_wide}
use Rattle.rules.specs.Apply.{map_from}

-- place i after a store at place m
pub get_d_set : (l : List ℕ) (m x i : ℕ) → i < length l → get_or (set l m x) i 0 ≡ cond (eqb m i) x (get_or l i 0)
get_d_set l m x i h = go (eqb m i) refl
  where
    go : (b : Bool) → eqb m i ≡ b → get_or (set l m x) i 0 ≡ cond (eqb m i) x (get_or l i 0)
    go true e = let q : m ≡ i = eqb-true m i e in rw (e, q) (get_or-set_same l i x 0 h)
    go false e = rw e (get_or-set_other l m i x 0 (λ q. eqb-false m i e (sym q)))

module _ (f : ℕ → ℕ → ℕ) where
  pub length-map_from : (k : ℕ) (l : List ℕ) → length (map_from f k l) ≡ length l
  length-map_from k [] = refl
  length-map_from k (y ∷ ys) = ap suc (length-map_from (suc k) ys)

  get_or-from : (k : ℕ) (l : List ℕ) (i : ℕ) → i < length l → get_or (map_from f k l) i 0 ≡ f (k + i) (get_or l i 0)
  get_or-from k [] i h = let z : ⊥ = omega arith in absurd z
  get_or-from k (y ∷ ys) zero h = rw (add-zero k)
  get_or-from k (y ∷ ys) (suc i) h = get_or-from (suc k) ys i (omega arith) ∙ ap (λ j. f j (get_or ys i 0)) (omega arith)

  -- place i of a map over the places
  pub get_or-map_from : (l : List ℕ) (i : ℕ) → i < length l → get_or (map_from f 0 l) i 0 ≡ f i (get_or l i 0)
  get_or-map_from l i h = get_or-from 0 l i h ∙ ap (λ j. f j (get_or l i 0)) (zero-add i)

-- no counter of a list is wide exactly where its first is not and none of the rest is
module _ (y : ℕ) (ys : List ℕ) where
  narrow-head : any_wide (y ∷ ys) ≡ false → leb (2 ^ 32) y ≡ false
  narrow-head = or_left (leb (2 ^ 32) y) (any_wide ys)

  narrow-tail : any_wide (y ∷ ys) ≡ false → any_wide ys ≡ false
  narrow-tail = or_right (leb (2 ^ 32) y) (any_wide ys)

  narrow-cons : leb (2 ^ 32) y ≡ false → any_wide ys ≡ false → any_wide (y ∷ ys) ≡ false
  narrow-cons p q = rw (p, q)

-- a narrow store, and a map to narrow values, leave no wide counter
pub narrow-set : (l : List ℕ) (m x : ℕ) → leb (2 ^ 32) x ≡ false → any_wide l ≡ false → any_wide (set l m x) ≡ false
narrow-set [] m x n e = e
narrow-set (y ∷ ys) zero x n e = narrow-cons x ys n (narrow-tail y ys e)
narrow-set (y ∷ ys) (suc m) x n e = narrow-cons y (set ys m x) (narrow-head y ys e) (narrow-set ys m x n (narrow-tail y ys e))

module _ (f : ℕ → ℕ → ℕ) (n : (i y : ℕ) → leb (2 ^ 32) y ≡ false → leb (2 ^ 32) (f i y) ≡ false) where
  pub narrow-map_from : (k : ℕ) (l : List ℕ) → any_wide l ≡ false → any_wide (map_from f k l) ≡ false
  narrow-map_from k [] e = e
  narrow-map_from k (y ∷ ys) e =
      narrow-cons (f k y) (map_from f (suc k) ys) (n k y (narrow-head y ys e)) (narrow-map_from (suc k) ys (narrow-tail y ys e))
