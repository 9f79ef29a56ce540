-- The examples hold: for each, the definitions give the answers and the record that it says. Computed.
use mathlib.Core.Bool.{true}
use mathlib.Core.List.{map}
use mathlib.Core.Path.{◌≡◌, refl}
use Rattle.bits.specs.Bits.{from_bits}
use Rattle.fields.specs.Largest.{largest}
use Rattle.fields.specs.Set.{set, set_all}
use Rattle.pmsicr.specs.Pmsicr.{implemented, with_primary, with_secondary, started, secondary_counts, primary_counts, counted}
use Rattle.state.specs.State.{view_of, too_large, refusals, verdict_of}
use Rattle.store.specs.Store.{store, store_settings, store_features, store_mdcr2, store_mdcr3, store_pmuacr, store_sampling}
use Rattle.rules.specs.Word.{named, register, syndrome, decode, written}
use Rattle.rules.specs.Traps.{disabled_target, stop_at_el3, counter_rules, icntr_rules, pmsicr_rules, rules_of, stop_of}
use Rattle.rules.specs.Permitted.{place_access, add_mask}
use Rattle.rules.specs.Overflow.{raised, lowered}
use Rattle.rules.specs.Apply.{incremented, apply}
use Rattle.rules.specs.Step.{decide_register, decide, step}
use Rattle.rules.specs.External.{shown_of, reach, effect_of, external_read, external_write, tick, member}
use Rattle.rules.specs.Example.{perform, perform_all, valid, all_valid, usual, start, actual, expected}
use Rattle.examples.specs.Traps.{trap_examples}
use Rattle.examples.specs.Icntr.{icntr_examples}
use Rattle.examples.specs.Pmsicr.{pmsicr_traps, pmsicr_permitted}
use Rattle.examples.specs.Permitted.{permitted_examples}
use Rattle.examples.specs.Enabled.{enabled_examples}
use Rattle.examples.specs.External.{external_examples}
use Rattle.examples.specs.Overflow.{overflow_examples}
use Rattle.examples.specs.Sampling.{member_examples, start_examples}
use Rattle.examples.specs.State.{state_examples, ovs_limits, with_limits, limits_actual, limits_expected}
use Rattle.examples.specs.State.{above_largest, above_actual, above_expected}
use Rattle.examples.specs.Further.{further}

-- MODEL P12
pub further-hold : map actual further ≡ map expected further
unfolding
    largest set view_of too_large refusals verdict_of store store_settings store_features store_mdcr2 store_mdcr3 store_pmuacr
    store_sampling
    named register syndrome decode written disabled_target stop_at_el3 counter_rules icntr_rules pmsicr_rules rules_of stop_of
    place_access add_mask decide_register decide incremented apply step from_bits
    shown_of raised lowered reach effect_of external_read external_write tick member
    implemented with_primary with_secondary started secondary_counts primary_counts counted
    perform perform_all set_all usual start actual expected
    trap_examples icntr_examples pmsicr_traps pmsicr_permitted permitted_examples enabled_examples external_examples
    overflow_examples member_examples start_examples state_examples further
further-hold = refl

-- MODEL R4 and R10: overflow flags at and beyond their largest
pub limits-hold : map limits_actual ovs_limits ≡ map limits_expected ovs_limits
unfolding
    largest set view_of too_large refusals verdict_of store store_settings store_features store_mdcr2 store_mdcr3 store_pmuacr
    store_sampling
    named register syndrome decode written counter_rules rules_of stop_of place_access decide_register decide apply step
    perform set_all usual ovs_limits with_limits limits_actual limits_expected
limits-hold = refl

-- MODEL R10: numbers above the largest of their fields
pub above-hold : map above_actual above_largest ≡ map above_expected above_largest
unfolding
    largest set view_of too_large refusals verdict_of store store_settings store_features store_mdcr2 store_mdcr3 store_pmuacr
    store_sampling
    decide apply step member perform set_all usual above_largest above_actual above_expected
above-hold = refl

-- every set command of the examples is one that is not refused
pub settings-valid : all_valid further ≡ true
unfolding
    largest valid all_valid trap_examples icntr_examples pmsicr_traps pmsicr_permitted permitted_examples enabled_examples
    external_examples overflow_examples member_examples start_examples state_examples further
settings-valid = refl
