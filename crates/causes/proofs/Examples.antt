-- The examples of causes hold. Computed.
use mathlib.Core.Bool.{true}
use mathlib.Core.List.{map, ◌++◌}
use mathlib.Core.Path.{◌≡◌, refl}
use Rattle.bits.specs.Bits.{from_bits}
use Rattle.fields.specs.Largest.{largest}
use Rattle.fields.specs.Set.{set, set_all}
use Rattle.pmsicr.specs.Pmsicr.{implemented}
use Rattle.state.specs.State.{view_of, too_large, refusals, verdict_of}
use Rattle.store.specs.Store.{store, store_settings, store_features, store_mdcr2, store_mdcr3, store_pmuacr, store_sampling}
use Rattle.rules.specs.Word.{named, register, syndrome, decode, written}
use Rattle.rules.specs.Traps.{disabled_target, stop_at_el3, counter_rules, icntr_rules, pmsicr_rules, rules_of, stop_of}
use Rattle.rules.specs.Permitted.{place_access, add_mask}
use Rattle.rules.specs.Overflow.{raised}
use Rattle.rules.specs.Apply.{incremented, apply}
use Rattle.rules.specs.Step.{decide_register, decide, step}
use Rattle.rules.specs.Example.{perform, perform_all, all_valid, valid, usual, start, actual, expected}
use Rattle.causes.specs.Examples.{single, pairs}
use Rattle.causes.specs.Opening.{in_turn, all_closed, turns_actual, turns_expected, turn_examples}

-- MODEL D0 to D9: one control closed, and two
pub examples-hold : map actual (single ++ pairs) ≡ map expected (single ++ pairs)
unfolding
    largest set set_all view_of too_large refusals verdict_of store store_settings store_features store_mdcr2 store_mdcr3
    store_pmuacr
    store_sampling
    named register syndrome decode written disabled_target stop_at_el3 counter_rules icntr_rules pmsicr_rules rules_of stop_of
    decide_register decide apply step perform perform_all usual start actual expected single pairs
examples-hold = refl

-- every set command of theirs is one that is not refused
pub settings-valid : all_valid (single ++ pairs) ≡ true
unfolding largest valid all_valid single pairs
settings-valid = refl

-- MODEL D10 to D13: all controls closed, and opened one after the other as the causes name them
pub turns-hold : map turns_actual turn_examples ≡ map turns_expected turn_examples
unfolding
    largest set set_all view_of too_large refusals verdict_of store store_settings store_features store_mdcr2 store_mdcr3
    store_pmuacr
    store_sampling
    named register syndrome decode written disabled_target stop_at_el3 counter_rules icntr_rules pmsicr_rules rules_of stop_of
    place_access add_mask raised incremented implemented from_bits decide_register decide apply step usual
    in_turn all_closed turns_actual turns_expected turn_examples
turns-hold = refl
