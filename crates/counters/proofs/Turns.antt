-- The loops of PMSWINC and of taking it back: a turn does to the list of counters what the next step of the sweep does, and the
-- mask's remaining bits say when the rest of the counters stay.
use Rattle.std.proofs.Common.{◌≡◌, ℕ, ◌+◌, ◌*◌, ◌/◌, ◌%◌, ◌^◌, ◌<◌, ◌≤◌, Bool, false, cond, ◌&&◌, eqb, List, length, get_or, set}
use Rattle.std.proofs.Common.{sym, ap, ◌∙◌, div-lt_iff_lt-mul, add-one, arith, pow_pos, shr-shr}
use Rattle.bits.proofs.Single.{bit_past}
use Rattle.bits.specs.Bits.{bit}
use Rattle.rules.specs.Apply.{map_from, added}
use Rattle.rules.proofs.Sweep.{sweep, sweep-map}

-- the bits that are left after i turns
pub half : (mask i rest : ℕ) → rest ≡ mask / 2 ^ i → rest / 2 ≡ mask / 2 ^ (i + 1)
half mask i rest q = ap (λ r. r / 2) q ∙ shr-shr mask i 1

-- with no bit left there is none from there on
pub no-bit : (mask i : ℕ) → 0 ≡ mask / 2 ^ i → (j : ℕ) → i ≤ j → bit j mask ≡ false
no-bit mask i q j h =
    let low : mask < 1 * 2 ^ i = (div-lt_iff_lt-mul (pow_pos i)).0 (omega arith) in
    bit_past {x = mask} i j (omega arith) h

-- f does g to a counter that takes an increment by the mask, and leaves every other
module _
    (f : ℕ → ℕ → ℕ) (g : ℕ → ℕ) (e : List ℕ) (mask : ℕ) (is : (m y : ℕ) → f m y ≡ cond (added e mask m) (g y) y)
    (c : List ℕ) where
  -- one turn, from the bits that are left and the counter's event number
  pub turn :
      (i rest : ℕ) (on : Bool) (next : List ℕ) (r : ℕ)
      → next ≡ sweep f i c
      → rest ≡ mask / 2 ^ i
      → on ≡ eqb (rest % 2) 1 && eqb (get_or e i 0) 0
      → r ≡ cond on (g (get_or next i 0)) (get_or next i 0)
      → set next i r ≡ sweep f (i + 1) c
  turn i rest on next r p q n h =
      let y = get_or next i 0 in
      ap (set next i) (h ∙ ap (λ b. cond b (g y) y) (n ∙ ap (λ b. eqb (b % 2) 1 && eqb (get_or e i 0) 0) q) ∙ sym (is i y))
      ∙ ap (λ l. set l i (f i (get_or l i 0))) p
      ∙ sym (ap (λ n. sweep f n c) (add-one i))

  -- with no bit left a counter stays
  idle : (i : ℕ) → 0 ≡ mask / 2 ^ i → (j y : ℕ) → i ≤ j → f j y ≡ y
  idle i q j y h = is j y ∙ rw (no-bit mask i q j h)

  pub done-early : (i : ℕ) → 0 ≡ mask / 2 ^ i → sweep f i c ≡ map_from f 0 c
  done-early i q = sweep-map f i c (λ j y h k. idle i q j y h)

  -- after the last counter
  pub done_all : (i : ℕ) → length c ≤ i → sweep f i c ≡ map_from f 0 c
  done_all i h = sweep-map f i c (λ j y a b. let z : ⊥ = omega arith in absurd z)
