-- No decision touches a named place, for each of the four claims: counters from HPMN on, counters without their P bit, the
-- instruction counter without F0, and PMSICR with the word at 0x838.
use Prim.Native.Nat.{ℕ}
use mathlib.Core.Bool.{Bool, true, false, not, ◌&&◌, or-true, and-false}
use mathlib.Core.Path.{◌≡◌, refl, ◌∙◌, ap}
use borrow.Author.Tests.{eqb-true}
use lib.Dec.{leb, eqb}
use Rattle.bits.specs.Bits.{bit}
use Rattle.bits.proofs.FromBits.{bit-off}
use Rattle.machine.proofs.Bools.{chosen}
use Rattle.state.specs.declared.View.{View}
use Rattle.rules.specs.declared.Instruction.{Instruction}
use Rattle.rules.specs.declared.Place.{Place}
use Rattle.rules.specs.declared.Place.TheVariants.{Counter, Instructions, Interval, Nvmem}
use Rattle.rules.specs.declared.Register.{Register}
use Rattle.rules.specs.declared.Register.TheVariants.{Pmevcntr, Pmswinc, Pmicntr, Pmsicr, Other}
use Rattle.rules.specs.Word.{decode, written}
use Rattle.rules.specs.Traps.{inaccessible, counter_rules, pmevcntr_disabled, pmevcntr_bit, rules_of, stop_of}
use Rattle.rules.specs.Ranges.{counter_enabled}
use Rattle.rules.specs.Permitted.{denied, read_only, denied_f0, read_only_ir, ignored, add_mask, pmswinc_access}
use Rattle.rules.specs.Permitted.{redirected, pmsicr_place, pmsicr_access}
use Rattle.rules.specs.Isolation.{same_place}
use Rattle.rules.specs.Step.{undefined_at_once, permitted, decide_register, decide}
use Rattle.rules.proofs.Touches.{in_mask, touches, other_place, denied-place}
use Rattle.rules.proofs.Touches.{through-cond, through-register, through-decide, stopped_by}

-- an access of PMSICR touches no place of another kind
pmsicr-elsewhere :
    (p : Place) (v : View) (i : Instruction) (x : ℕ) → same_place Interval p ≡ false → same_place Nvmem p ≡ false
    → touches p (pmsicr_access v i x) ≡ false
pmsicr-elsewhere p v i x a b =
    other_place p false false (pmsicr_place v) i x
    (chosen (λ q. same_place q p ≡ false) (redirected v) Nvmem Interval b a)

-- event counter n is touched only through PMEVCNTR<n> and PMSWINC
module _ (v : View) (n : ℕ) (w x : ℕ) where
  decided :
      ((m : ℕ) → m ≡ n → touches (Counter n) (decide_register v (Pmevcntr m) (decode w) x) ≡ false)
      → touches (Counter n) (pmswinc_access v (decode w) x) ≡ false
      → touches (Counter n) (decide v w x) ≡ false
  decided own sw = through-decide (Counter n) v w x go
    where
      counter :
          (m : ℕ) (b : Bool) → eqb m n ≡ b
          → touches (Counter n) (decide_register v (Pmevcntr m) (decode w) x) ≡ false
      counter m true e = own m (eqb-true m n e)
      counter m false e =
          through-register (Counter n) v (Pmevcntr m) (decode w) x
          (other_place (Counter n) (denied v m) (read_only v) (Counter m) (decode w) x e)

      go : (r : Register) → touches (Counter n) (decide_register v r (decode w) x) ≡ false
      go (Pmevcntr m) = counter m (eqb m n) refl
      go Pmswinc = through-register (Counter n) v Pmswinc (decode w) x sw
      go Pmicntr =
          through-register (Counter n) v Pmicntr (decode w) x
          (other_place (Counter n) (denied_f0 v) (read_only_ir v) Instructions (decode w) x refl)
      go Pmsicr =
          through-register (Counter n) v Pmsicr (decode w) x (pmsicr-elsewhere (Counter n) v (decode w) x refl refl)
      go Other = through-register (Counter n) v Other (decode w) x refl

  -- PMSWINC does not touch a counter whose bit is ignored
  not-added : ignored v n ≡ true → touches (Counter n) (pmswinc_access v (decode w) x) ≡ false
  unfolding add_mask
  not-added e =
      let y = written (decode w) x in
      let on : ℕ → Bool = counter_enabled v.settings in
      bit-off 31 (λ m. bit m y && not (ignored v m) && on m) n
      (ap (λ b. bit n y && not b && on n) e ∙ ap (λ b. b && on n) (and-false (bit n y)))

-- from EL0 and EL1 with EL2 enabled, no decision touches a counter at or above HPMN
module _
    (v : View) (n : ℕ) (el2 : v.settings.execution.el2enabled ≡ true) (low : leb v.level 1 ≡ true)
    (above : leb v.settings.mdcr2.hpmn n ≡ true) where
  trapped : (i : Instruction) (x m : ℕ) → m ≡ n → touches (Counter n) (decide_register v (Pmevcntr m) i x) ≡ false
  unfolding decide_register stop_of rules_of counter_rules
  trapped i x m q =
      through-cond (Counter n) (undefined_at_once v (Pmevcntr m) i.read) _ _ refl
      (stopped_by (Counter n) 4 i.syndrome v (pmevcntr_disabled v i.read) (pmevcntr_bit v i.read) (inaccessible v m) _
      (rw (q, el2, low, above)))

  above-ignored : ignored v n ≡ true
  above-ignored = rw (low, el2, above, or-true)

  pub hpmn-hidden : (w x : ℕ) → touches (Counter n) (decide v w x) ≡ false
  hpmn-hidden w x = decided v n w x (trapped (decode w) x) (not-added v n w x above-ignored)

-- from EL0 with p9, UEN 1 and SW 0, no decision touches a counter whose P bit is 0
module _
    (v : View) (n : ℕ) (el0 : eqb v.level 0 ≡ true) (p9 : v.settings.features.p9 ≡ true)
    (uen : v.settings.pmuserenr.uen ≡ true) (sw : v.settings.pmuserenr.sw ≡ false)
    (p : not (bit n v.settings.pmuacr.p) ≡ true) where
  denies : denied v n ≡ true
  denies = rw (el0, p9, uen, p)

  own : (i : Instruction) (x m : ℕ) → m ≡ n → touches (Counter n) (decide_register v (Pmevcntr m) i x) ≡ false
  own i x m q =
      through-register (Counter n) v (Pmevcntr m) i x
      (denied-place (Counter n) (denied v m) (read_only v) (Counter m) i x (rw q denies))

  held_back : ignored v n ≡ true
  held_back = rw (sw, el0, p9, uen, p, or-true)

  pub pmuacr-hidden : (w x : ℕ) → touches (Counter n) (decide v w x) ≡ false
  pmuacr-hidden w x = decided v n w x (own (decode w) x) (not-added v n w x held_back)

-- from EL0 with F0 0, no decision touches the instruction counter
module _ (v : View) (el0 : eqb v.level 0 ≡ true) (f0 : v.settings.pmuacr.f0 ≡ false) where
  no_register : (r : Register) (i : Instruction) (x : ℕ) → touches Instructions (permitted v r i x) ≡ false
  no_register (Pmevcntr m) i x = other_place Instructions (denied v m) (read_only v) (Counter m) i x refl
  no_register Pmswinc i x = refl
  no_register Pmicntr i x = denied-place Instructions (denied_f0 v) (read_only_ir v) Instructions i x (rw (el0, f0))
  no_register Pmsicr i x = pmsicr-elsewhere Instructions v i x refl refl
  no_register Other i x = refl

  pub f0-hidden : (w x : ℕ) → touches Instructions (decide v w x) ≡ false
  f0-hidden w x =
      through-decide Instructions v w x (λ r. through-register Instructions v r (decode w) x (no_register r (decode w) x))

-- from EL0 no decision touches a place that is no counter of these two kinds, in which no mask has a bit: PMSICR is undefined
module _
    (v : View) (el0 : eqb v.level 0 ≡ true) (p : Place) (counter : (m : ℕ) → same_place (Counter m) p ≡ false)
    (instructions : same_place Instructions p ≡ false) (mask : (n : ℕ) → in_mask n p ≡ false) where
  undefined : (i : Instruction) (x : ℕ) → touches p (decide_register v Pmsicr i x) ≡ false
  unfolding decide_register
  undefined i x = rw (el0, or-true) refl

  sampling-untouched : (r : Register) (i : Instruction) (x : ℕ) → touches p (decide_register v r i x) ≡ false
  sampling-untouched (Pmevcntr m) i x =
      through-register p v (Pmevcntr m) i x (other_place p (denied v m) (read_only v) (Counter m) i x (counter m))
  sampling-untouched Pmswinc i x = through-register p v Pmswinc i x (mask _)
  sampling-untouched Pmicntr i x =
      through-register p v Pmicntr i x (other_place p (denied_f0 v) (read_only_ir v) Instructions i x instructions)
  sampling-untouched Pmsicr i x = undefined i x
  sampling-untouched Other i x = through-register p v Other i x refl

  pub sampling-hidden : (w x : ℕ) → touches p (decide v w x) ≡ false
  sampling-hidden w x = through-decide p v w x (λ r. sampling-untouched r (decode w) x)
