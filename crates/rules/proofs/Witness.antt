-- The claims of noninterference are not empty: records that differ in one hidden counter and meet all that a claim asks for, and
-- what it says of them. Counter 5 is at or above HPMN and has no P bit; F0 is 0; every event counter is enabled;
-- SPE is there, so that EL1 reads PMSICR. And records that differ in PMSICR and the word at 0x838, or in an overflow flag.
use Prim.Native.Nat.{zero, suc}
use mathlib.Core.Bool.{true, false, false≢true}
use mathlib.Core.List.{List, [], ◌∷◌}
use mathlib.Core.Path.{◌≡◌, refl, sym, ◌∙◌}
use Rattle.fields.specs.Largest.{largest}
use Rattle.fields.specs.Set.{set}
use Rattle.store.specs.Store.{store, store_settings, store_features, store_mdcr2, store_mdcr3, store_pmuacr, store_sampling}
use Rattle.machine.specs.declared.Machine.{Machine}
use Rattle.rules.specs.Example.{set_all, counters_on, usual}
use Rattle.rules.specs.declared.Place.{Place}
use Rattle.rules.specs.declared.Place.TheVariants.{Counter, Instructions, Interval, Nvmem}
use Rattle.rules.specs.Apply.{value_at}
use Rattle.rules.specs.Isolation.{Named, is_place, Start, Isolated, from_levels}
use Rattle.rules.specs.Isolation.{from_hpmn, without_p, instruction_counter, sampling_counter}
use Rattle.rules.specs.OverflowClaims.{AlikeButOvs}
use Rattle.rules.specs.SamplingClaim.{AlikeButSampling}
use Rattle.rules.specs.Step.{Access, run}
use Rattle.rules.proofs.Isolation.{noninterference}
use Rattle.rules.proofs.OverflowClaims.{overflow-claims}
use Rattle.rules.proofs.SamplingClaim.{sampling-unseen}
use Rattle.state.specs.State.{view_of, too_large, refusals, verdict_of}

one : Machine
one = set_all (counters_on ((0x80, 1) ∷ (0x23, 1) ∷ (0x65, 1) ∷ (0x7F, 1) ∷ [])) usual

-- another value in counter 5
two : Machine
two = set_all (counters_on ((0x80, 1) ∷ (0x23, 1) ∷ (0x65, 2) ∷ (0x7F, 1) ∷ [])) usual

-- another value in PMICNTR
three : Machine
three = set_all (counters_on ((0x80, 1) ∷ (0x23, 1) ∷ (0x65, 1) ∷ (0x7F, 2) ∷ [])) usual

-- another overflow flag
four : Machine
four = set_all (counters_on ((0x80, 1) ∷ (0x23, 1) ∷ (0x65, 1) ∷ (0x7F, 1) ∷ (0x37, 0x20) ∷ [])) usual

-- another PMSICR, and another word at 0x838
five : Machine
five = set_all (counters_on ((0x80, 1) ∷ (0x23, 1) ∷ (0x65, 1) ∷ (0x7F, 1) ∷ (0x8C, 1) ∷ (0x8D, 2) ∷ [])) usual

start-one : Start one
unfolding one largest set store store_settings store_features store_mdcr2 store_mdcr3 store_pmuacr store_sampling set_all usual
    view_of too_large refusals verdict_of
start-one = record { sized = refl; consistent = refl }

start-two : Start two
unfolding two largest set store store_settings store_features store_mdcr2 store_mdcr3 store_pmuacr store_sampling set_all usual
    view_of too_large refusals verdict_of
start-two = record { sized = refl; consistent = refl }

start-three : Start three
unfolding three largest set store store_settings store_features store_mdcr2 store_mdcr3 store_pmuacr store_sampling
    set_all usual view_of too_large refusals verdict_of
start-three = record { sized = refl; consistent = refl }

start-four : Start four
unfolding four largest set store store_settings store_features store_mdcr2 store_mdcr3 store_pmuacr store_sampling
    set_all usual view_of too_large refusals verdict_of
start-four = record { sized = refl; consistent = refl }

start-five : Start five
unfolding five largest set store store_settings store_features store_mdcr2 store_mdcr3 store_pmuacr store_sampling
    set_all usual view_of too_large refusals verdict_of
start-five = record { sized = refl; consistent = refl }

-- places other than counter 5 are equal in the first two
others :
    (named : Named) → named (Counter 5) ≡ true → (p : Place) → is_place p ≡ true → named p ≡ false
    → value_at p one ≡ value_at p two
unfolding one two largest set store store_settings store_features store_mdcr2 store_mdcr3 store_pmuacr store_sampling set_all
    usual
others named five (Counter zero) h e = refl
others named five (Counter (suc zero)) h e = refl
others named five (Counter (suc (suc zero))) h e = refl
others named five (Counter (suc (suc (suc zero)))) h e = refl
others named five (Counter (suc (suc (suc (suc zero))))) h e = refl
others named five (Counter (suc (suc (suc (suc (suc zero)))))) h e = absurd (false≢true (sym e ∙ five))
others named five (Counter (suc (suc (suc (suc (suc (suc m))))))) h e = refl
others named five Instructions h e = refl
others named five Interval h e = refl
others named five Nvmem h e = refl

-- places other than the instruction counter are equal in the first and the third
all-but-instructions :
    (p : Place) → is_place p ≡ true → instruction_counter one.settings p ≡ false → value_at p one ≡ value_at p three
unfolding one three largest set store store_settings store_features store_mdcr2 store_mdcr3 store_pmuacr store_sampling set_all
    usual
all-but-instructions (Counter m) h e = refl
all-but-instructions Instructions h e = absurd (false≢true (sym e))
all-but-instructions Interval h e = refl
all-but-instructions Nvmem h e = refl

-- places other than PMSICR and the word at 0x838 are equal in the first and the fifth
all-but-sampling :
    (p : Place) → is_place p ≡ true → sampling_counter one.settings p ≡ false → value_at p one ≡ value_at p five
unfolding one five largest set store store_settings store_features store_mdcr2 store_mdcr3 store_pmuacr store_sampling set_all
    usual
all-but-sampling (Counter m) h e = refl
all-but-sampling Instructions h e = refl
all-but-sampling Interval h e = absurd (false≢true (sym e))
all-but-sampling Nvmem h e = absurd (false≢true (sym e))

from-hpmn :
    (accesses : List Access) → from_levels 1 accesses ≡ true → Isolated (from_hpmn one.settings) accesses one two
unfolding one two largest set store store_settings store_features store_mdcr2 store_mdcr3 store_pmuacr store_sampling set_all
    usual
from-hpmn accesses l =
    noninterference.hpmn one two accesses start-one start-two refl l
    (record {
      level = refl;
      settings = refl;
      events = refl;
      ovs = refl;
      places = others (from_hpmn one.settings) refl;
    })

without-p :
    (accesses : List Access) → from_levels 0 accesses ≡ true → Isolated (without_p one.settings) accesses one two
unfolding one two largest set store store_settings store_features store_mdcr2 store_mdcr3 store_pmuacr store_sampling set_all
    usual
without-p accesses l =
    noninterference.pmuacr one two accesses start-one start-two refl l
    (record {
      level = refl;
      settings = refl;
      events = refl;
      ovs = refl;
      places = others (without_p one.settings) refl;
    })

instructions :
    (accesses : List Access) → from_levels 0 accesses ≡ true
    → Isolated (instruction_counter one.settings) accesses one three
unfolding one three largest set store store_settings store_features store_mdcr2 store_mdcr3 store_pmuacr store_sampling set_all
    usual
instructions accesses l =
    noninterference.f0 one three accesses start-one start-three refl l
    (record {
      level = refl;
      settings = refl;
      events = refl;
      ovs = refl;
      places = all-but-instructions;
    })

sampling :
    (accesses : List Access) → from_levels 0 accesses ≡ true → Isolated (sampling_counter one.settings) accesses one five
unfolding one five largest set store store_settings store_features store_mdcr2 store_mdcr3 store_pmuacr store_sampling set_all
    usual
sampling accesses l =
    noninterference.sampling one five accesses start-one start-five refl l
    (record {
      level = refl;
      settings = refl;
      events = refl;
      ovs = refl;
      places = all-but-sampling;
    })

unseen :
    (accesses : List Access) → from_levels 0 accesses ≡ true
    → AlikeButSampling one five (run accesses one) (run accesses five)
unfolding one five largest set store store_settings store_features store_mdcr2 store_mdcr3 store_pmuacr store_sampling set_all
    usual
unseen accesses l = sampling-unseen one five accesses l refl

flags : (accesses : List Access) → AlikeButOvs one.values.ovs four.values.ovs (run accesses one) (run accesses four)
unfolding one four largest set store store_settings store_features store_mdcr2 store_mdcr3 store_pmuacr store_sampling set_all
    usual
flags accesses = overflow-claims.unread one four accesses start-one start-four refl
