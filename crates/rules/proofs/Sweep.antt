-- A map over the places of a list, one store a turn: what a loop has done after i turns, and that it comes to `map_from`.
use Prim.Native.Nat.{ℕ, zero, suc, ◌<◌, ◌≤◌}
use mathlib.Core.Bool.{Bool, true, false}
use mathlib.Core.List.{List}
use mathlib.Core.Path.{◌≡◌, refl, sym, ◌∙◌, ap}
use native.Mathlib.Omega.{arith}
use borrow.Author.Tests.{ltb-true, ltb-false}
use lib.Dec.{ltb}
use lib.ListN.{get_or, set, length, length-set}
use lib.Seq.{ext_get_or, get_or-set_same, get_or-set_other}
use Rattle.rules.specs.Apply.{map_from}
use Rattle.rules.proofs.Places.{length-map_from, get_or-map_from}

module _ (f : ℕ → ℕ → ℕ) where
  -- the first i places mapped
  abbrev pub sweep : ℕ → List ℕ → List ℕ
  sweep zero l = l
  sweep (suc i) l = set (sweep i l) i (f i (get_or (sweep i l) i 0))

  pub length-sweep : (i : ℕ) (l : List ℕ) → length (sweep i l) ≡ length l
  length-sweep zero l = refl
  length-sweep (suc i) l = simp length-set (length-sweep i l)

  -- places from i on are as they were
  pub ahead : (i : ℕ) (l : List ℕ) (j : ℕ) → i ≤ j → get_or (sweep i l) j 0 ≡ get_or l j 0
  ahead zero l j h = refl
  ahead (suc i) l j h = get_or-set_other (sweep i l) i j _ 0 (omega arith) ∙ ahead i l j (omega arith)

  -- places below i are mapped
  behind : (i : ℕ) (l : List ℕ) (j : ℕ) → j < i → j < length l → get_or (sweep i l) j 0 ≡ f j (get_or l j 0)
  behind zero l j h k = let z : ⊥ = omega arith in absurd z
  behind (suc i) l j h k = go (behind i l j) (ltb j i) refl
    where
      go :
          (j < i → j < length l → get_or (sweep i l) j 0 ≡ f j (get_or l j 0)) → (b : Bool) → ltb j i ≡ b
          → get_or (sweep (suc i) l) j 0 ≡ f j (get_or l j 0)
      go r true t =
          let q : j < i = ltb-true j i t in
          get_or-set_other (sweep i l) i j _ 0 (omega arith) ∙ r q k
      go r false t =
          let q : j ≡ i = omega (arith, ltb-false j i t) in
          rw q
          (get_or-set_same (sweep i l) i _ 0 (omega (arith, length-sweep i l)) ∙ ap (f i) (ahead i l i (omega arith)))

  -- where f leaves the places from i on as they are, the sweep is the map
  pub sweep-map :
      (i : ℕ) (l : List ℕ) → ((j y : ℕ) → i ≤ j → j < length l → f j y ≡ y) → sweep i l ≡ map_from f 0 l
  sweep-map i l idle = ext_get_or 0 (sweep i l) (map_from f 0 l) (length-sweep i l ∙ sym (length-map_from f 0 l))
      (λ j h. at j (omega (arith, length-sweep i l)) (ltb j i) refl ∙ sym (get_or-map_from f l j (omega (
        arith,
        length-sweep i l,
      ))))
    where
      at : (j : ℕ) → j < length l → (b : Bool) → ltb j i ≡ b → get_or (sweep i l) j 0 ≡ f j (get_or l j 0)
      at j h true t = behind i l j (ltb-true j i t) h
      at j h false t = ahead i l j (ltb-false j i t) ∙ sym (idle j (get_or l j 0) (ltb-false j i t) h)
