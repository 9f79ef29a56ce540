-- The overflow flags in the loop of PMSWINC: a turn sets the flag of its counter where that overflows, and after the last turn
-- the flags are those of the definition.
use Rattle.std.proofs.Common.{◌≡◌, ℕ, ◌+◌, ◌-◌, ◌/◌, ◌%◌, ◌^◌, ◌≤◌, Bool, true, false, ◌&&◌, ◌||◌, eqb, ltb, List, length, get_or}
use Rattle.std.proofs.Common.{sym, refl, ap, ◌∙◌, arith, ltb-false, ltb-true, le-ltb, lt-ltb, eq-eqb, eqb-true}
use mathlib.Core.Bool.{and-false, or-false}
use borrow.Author.Tests.{eqb-false}
use lib.ListN.{get_or-eq_default}
use Rattle.machine.specs.declared.Settings.{Settings}
use Rattle.rules.specs.Ranges.{long_bit}
use Rattle.rules.specs.Overflow.{width, carries, overflow_width, raised}
use Rattle.rules.specs.Apply.{added, overflows}
use Rattle.bits.proofs.Single.{mod-mod}
use Rattle.rules.proofs.Width.{carries-ones}
use Rattle.rules.proofs.Flags.{raised-ext, raised-none, raised-on}
use Rattle.counters.proofs.Turns.{no-bit}

-- a counter at 0 does not overflow
zero-carries : (long : Bool) → carries (width long) 0 ≡ false
zero-carries true = refl
zero-carries false = refl

last-first : (a o l : Bool) → (a && o) && l ≡ (l && a) && o
last-first true true true = refl
last-first true true false = refl
last-first true false true = refl
last-first true false false = refl
last-first false o true = refl
last-first false o false = refl

-- an increment that carries out of the counter's overflow width carries out of its lower half
carries-low : (long : Bool) (y : ℕ) → carries (width long) y ≡ true → eqb (y % 2 ^ 32) (2 ^ 32 - 1) ≡ true
carries-low true y e =
    let all : y % 2 ^ 64 ≡ 2 ^ 64 - 1 = eqb-true (y % 2 ^ 64) (2 ^ 64 - 1) (sym (carries-ones 64 y) ∙ e) in
    eq-eqb (y % 2 ^ 32) (2 ^ 32 - 1) (sym (mod-mod y 64 32 (omega arith)) ∙ ap (λ z. z % 2 ^ 32) all)
carries-low false y e = sym (carries-ones 32 y) ∙ e

-- so where the lower half is not all ones, or the counter takes no increment, it does not overflow
pub no_overflow :
    (on long : Bool) (y : ℕ) → on && eqb (y % 2 ^ 32) (2 ^ 32 - 1) ≡ false → on && carries (width long) y ≡ false
no_overflow false long y n = refl
no_overflow true long y n = go (carries (width long) y) refl
  where
    go : (b : Bool) → carries (width long) y ≡ b → b ≡ false
    go true e = sym (carries-low long y e) ∙ n
    go false e = refl

-- below i + 1 is below i, or i
below_next : (m i : ℕ) → (eqb m i ≡ false) → ltb m i ≡ ltb m (i + 1)
below_next m i n = go (ltb m i) refl
  where
    go : (b : Bool) → ltb m i ≡ b → b ≡ ltb m (i + 1)
    go true t = sym (lt-ltb m (i + 1) (omega (arith, ltb-true m i t)))
    go false t = sym (le-ltb m (i + 1) (omega (arith, ltb-false m i t, eqb-false m i n)))

next_one : (f : ℕ → Bool) (i m : ℕ) → (ltb m i && f m) || (eqb m i && f i) ≡ ltb m (i + 1) && f m
next_one f i m = go (eqb m i) refl
  where
    go : (b : Bool) → eqb m i ≡ b → (ltb m i && f m) || (b && f i) ≡ ltb m (i + 1) && f m
    go true t =
        let q : m ≡ i = eqb-true m i t in
        rw (q, le-ltb i i (omega arith), lt-ltb i (i + 1) (omega arith))
    go false t = or-false (ltb m i && f m) ∙ ap (λ b. b && f m) (below_next m i t)

-- where nothing from i on has f, all that has it is below i
all-below : (f : ℕ → Bool) (i : ℕ) → ((m : ℕ) → i ≤ m → f m ≡ false) → (m : ℕ) → ltb m i && f m ≡ f m
all-below f i none m = go (ltb m i) refl
  where
    go : (b : Bool) → ltb m i ≡ b → b && f m ≡ f m
    go true t = refl
    go false t = sym (none m (ltb-false m i t))

module _ (s : Settings) (e : List ℕ) (mask : ℕ) (c : List ℕ) (ovs : ℕ) where
  -- the counters that overflow
  abbrev carried : ℕ → Bool
  carried m = overflows s e mask m (get_or c m 0)

  -- the flags after i turns
  abbrev pub flagged : ℕ → ℕ
  flagged i = raised (λ m. ltb m i && carried m) ovs

  pub flags-start : ovs % 2 ^ 33 ≡ flagged 0
  flags-start = sym (raised-none _ ovs (λ m h. ap (λ b. b && carried m) (le-ltb m 0 (omega arith))))

  -- one turn, from the bits that are left, whether the counter takes an increment, and what it holds
  pub flag-turn :
      (i rest : ℕ) (on : Bool) (y flags r : ℕ)
      → flags ≡ flagged i
      → rest ≡ mask / 2 ^ i
      → on ≡ eqb (rest % 2) 1 && eqb (get_or e i 0) 0
      → y ≡ get_or c i 0
      → r ≡ raised (λ m. eqb m i && ((on && carries (overflow_width s i) y) && ltb i 31)) flags
      → r ≡ flagged (i + 1)
  flag-turn i rest on y flags r p q n v h =
      let takes : on ≡ added e mask i = n ∙ ap (λ b. eqb (b % 2) 1 && eqb (get_or e i 0) 0) q in
      h
      ∙ (λ j. raised (λ m. eqb m i && ((takes j && carries (overflow_width s i) (v j)) && ltb i 31)) (p j))
      ∙ raised-ext _ (flagged i) (λ m. eqb m i && carried i)
      (λ m l. ap (λ b. eqb m i && b) (last-first (added e mask i) (carries _ (get_or c i 0)) (ltb i 31)))
      ∙ raised-on _ ovs _
      ∙ raised-ext _ ovs (λ m. ltb m (i + 1) && carried m) (λ m l. next_one carried i m)

  -- with no bit left
  pub flags-early : (i : ℕ) → 0 ≡ mask / 2 ^ i → flagged i ≡ raised carried ovs
  flags-early i q = raised-ext _ ovs carried (λ m l. all-below carried i quiet m)
    where
      quiet : (m : ℕ) → i ≤ m → carried m ≡ false
      quiet m h = rw (no-bit mask i q m h, and-false)

  -- after the last counter
  pub flags-all : (i : ℕ) → length c ≤ i → flagged i ≡ raised carried ovs
  flags-all i h = raised-ext _ ovs carried (λ m l. all-below carried i quiet m)
    where
      quiet : (m : ℕ) → i ≤ m → carried m ≡ false
      quiet m k =
          ap (λ y. (ltb m 31 && added e mask m) && carries (width (s.features.p5 && long_bit s m)) y)
          (get_or-eq_default c 0 (omega (arith, h, k)))
          ∙ ap (λ b. (ltb m 31 && added e mask m) && b) (zero-carries (s.features.p5 && long_bit s m))
          ∙ and-false (ltb m 31 && added e mask m)
