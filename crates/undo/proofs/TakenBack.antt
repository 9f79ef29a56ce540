-- What is kept of an access takes it back: the record after it, with that put back, is the record before it.
use Prim.Native.Nat.{ℕ, suc, ◌+◌, ◌-◌, ◌^◌, ◌<◌}
use mathlib.Core.Bool.{Bool, true, false, cond}
use mathlib.Core.List.{List, [], ◌∷◌}
use mathlib.Core.Path.{◌≡◌, refl, ◌∙◌, ap}
use native.Mathlib.Omega.{arith}
use borrow.Author.Tests.{lt-ltb, ne_eqb, le-leb}
use lib.ListN.{get_or, set}
use lib.Seq.{set-set, set-get_or}
use Rattle.counters.specs.Decremented.{minus_one, decremented}
use Rattle.counters.proofs.Less.{less-more}
use Rattle.machine.specs.declared.Machine.{Machine}
use Rattle.machine.specs.Machine.{with_counters}
use Rattle.rules.specs.declared.Decision.{Decision}
use Rattle.rules.specs.declared.Decision.TheVariants.{Says, Read, Write, Add}
use Rattle.rules.specs.declared.Place.{Place}
use Rattle.rules.specs.declared.Place.TheVariants.{Counter, Instructions, Interval, Nvmem}
use Rattle.rules.specs.Apply.{added, incremented, map_from, with_value, value_at, apply}
use Rattle.rules.specs.Overflow.{width, plus_one}
use Rattle.undo.specs.Undo.{held, field_of, change_of, undo_of, undone}

-- the place is no event counter past the last
abbrev pub InRecord : Place → Type 0
InRecord (Counter m) = m < 31
InRecord Instructions = Unit {0}
InRecord Interval = Unit {0}
InRecord Nvmem = Unit {0}

-- what a decision needs to be taken back: a place that is written is in the record, and counters that are added to hold no more
-- than their width
abbrev pub Takeable : Decision → Machine → Type 0
Takeable (Says a) r = Unit {0}
Takeable (Read p rt) r = Unit {0}
Takeable (Write p x) r = InRecord p
Takeable (Add mask) r = (m : ℕ) → get_or r.counters m 0 < 2 ^ width r.settings.features.p5

-- a map that takes back another, on numbers below b
map_back :
    (f g : ℕ → ℕ → ℕ) (b : ℕ) → ((j y : ℕ) → y < b → f j (g j y) ≡ y) → (i : ℕ) (c : List ℕ) → ((j : ℕ) → get_or c j 0 < b)
    → map_from f i (map_from g i c) ≡ c
map_back f g b back i [] h = refl
map_back f g b back i (y ∷ ys) h = λ k. back i y (h 0) k ∷ map_back f g b back (suc i) ys (λ j. h (suc j)) k

-- an increment, taken back
less-incremented :
    (p5 : Bool) (e : List ℕ) (mask m y : ℕ) → y < 2 ^ width p5 → decremented p5 e mask m (incremented p5 e mask m y) ≡ y
unfolding decremented incremented
less-incremented p5 e mask m y h = go (added e mask m)
  where
    go : (b : Bool) → cond b (minus_one (width p5) (cond b (plus_one (width p5) y) y)) (cond b (plus_one (width p5) y) y) ≡ y
    go true = less-more (width p5) y h
    go false = refl

module _ (r : Machine) where
  -- what a place held is put back
  put_back : (p : Place) (x : ℕ) → InRecord p → undone (undo_of (held (field_of p) (value_at p r)) r) (with_value p x r) ≡ r
  unfolding undone
  put_back (Counter m) x h =
      let c = r.counters in
      let at : 0x60 + m - 0x60 ≡ m = omega arith in
      rw (
        lt-ltb m 31 h,
        ne_eqb (0x60 + m) 0x34 (λ e. omega (arith, e)),
        ne_eqb (0x60 + m) 0xFE (λ e. omega (arith, e)),
        ne_eqb (0x60 + m) 0x7F (λ e. omega (arith, e)),
        ne_eqb (0x60 + m) 0x8C (λ e. omega (arith, e)),
        ne_eqb (0x60 + m) 0x8D (λ e. omega (arith, e)),
        le-leb 0x60 (0x60 + m) (omega arith),
        le-leb (0x60 + m) (0x60 + 30) (omega arith),
      )
      (ap (λ l. with_counters l r) (ap (λ k. set (set c m x) k (get_or c m 0)) at ∙ set-set c m x (get_or c m 0)
      ∙ set-get_or c m 0))
  put_back Instructions x h = refl
  put_back Interval x h = refl
  put_back Nvmem x h = refl

  pub taken_back : (d : Decision) → Takeable d r → undone (undo_of (change_of d r) r) (apply d r).machine ≡ r
  unfolding undone apply
  taken_back (Says a) t = refl
  taken_back (Read p rt) t = refl
  taken_back (Write p x) t = put_back p _ t
  taken_back (Add mask) t =
      let p5 = r.settings.features.p5 in
      let e = r.events in
      ap (λ l. with_counters l r)
      (map_back (decremented p5 e mask) (incremented p5 e mask) _ (λ m y. less-incremented p5 e mask m y) 0 r.counters t)
