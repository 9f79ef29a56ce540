-- The worked examples hold: for each, the definitions give the answers and the record that it says. Computed.
use mathlib.Core.Bool.{true, ◌&&◌}
use mathlib.Core.List.{List, map, ◌++◌}
use mathlib.Core.Path.{◌≡◌, refl}
use Rattle.bits.specs.Bits.{from_bits}
use Rattle.fields.specs.Largest.{largest}
use Rattle.fields.specs.Set.{set, set_all}
use Rattle.pmsicr.specs.Pmsicr.{implemented, with_primary, with_secondary, started, secondary_counts, primary_counts, counted}
use Rattle.state.specs.State.{view_of, too_large, refusals, verdict_of}
use Rattle.store.specs.Store.{store, store_settings, store_features, store_mdcr2, store_mdcr3, store_pmuacr, store_sampling}
use Rattle.rules.specs.Word.{named, register, syndrome, decode, written}
use Rattle.rules.specs.Traps.{disabled_target, stop_at_el3, counter_rules, icntr_rules, pmsicr_rules, rules_of, stop_of}
use Rattle.rules.specs.Permitted.{place_access, add_mask}
use Rattle.rules.specs.Overflow.{raised, lowered}
use Rattle.rules.specs.Apply.{incremented, apply}
use Rattle.rules.specs.Step.{decide_register, decide, step}
use Rattle.rules.specs.External.{shown_of, reach, effect_of, external_read, external_write, tick, member}
use Rattle.rules.specs.Example.{Example, perform, perform_all, valid, all_valid}
use Rattle.rules.specs.Example.{usual_settings, usual, start, actual, expected}
use Rattle.rules.specs.Worked.{worked, misreadings, telling}

-- the examples of a list hold
abbrev Hold : List Example → Type 0
Hold l = map actual l ≡ map expected l

-- each of the three lists, computed
hold : Hold worked × Hold misreadings × Hold telling
unfolding
    largest set view_of too_large refusals verdict_of store store_settings store_features store_mdcr2 store_mdcr3 store_pmuacr
    store_sampling
    named register syndrome decode written disabled_target stop_at_el3 counter_rules icntr_rules rules_of stop_of
    pmsicr_rules place_access add_mask decide_register decide incremented apply step from_bits
    shown_of raised lowered reach effect_of external_read external_write tick member
    implemented with_primary with_secondary started secondary_counts primary_counts counted
    perform perform_all set_all usual start actual expected worked misreadings telling
hold = (refl, refl, refl)

-- MODEL P1 to P11
pub worked-hold : Hold worked
worked-hold = hold.0

-- MODEL Q1 to Q5
pub misreadings-hold : Hold misreadings
misreadings-hold = hold.1

-- MODEL P12: examples that wrong definitions are told by; the crate `examples` has the others
pub telling-hold : Hold telling
telling-hold = hold.2

-- every set command of the examples, and of what they start from, is one that is not refused
pub settings-valid : valid usual_settings && all_valid (worked ++ misreadings ++ telling) ≡ true
unfolding largest valid all_valid worked misreadings telling
settings-valid = refl
