-- The examples of steps back hold: for each, the definitions give the answers, the record and the list that it says. Computed.
use mathlib.Core.List.{map}
use mathlib.Core.Path.{◌≡◌, refl}
use Rattle.bits.specs.Bits.{from_bits}
use Rattle.execute.specs.Execute.{tick_command, obey, perform}
use Rattle.undo_list.specs.History.{remember}
use Rattle.fields.specs.Largest.{largest}
use Rattle.fields.specs.Set.{set, set_level, set_all}
use Rattle.pmsicr.specs.Pmsicr.{implemented, with_primary, with_secondary, started, secondary_counts, primary_counts, counted}
use Rattle.state.specs.State.{view_of, too_large, refusals, verdict_of}
use Rattle.store.specs.Store.{store, store_settings, store_features, store_mdcr2, store_mdcr3, store_pmuacr, store_sampling}
use Rattle.rules.specs.Word.{named, register, syndrome, decode, written}
use Rattle.rules.specs.Traps.{disabled_target, stop_at_el3, counter_rules, icntr_rules, pmsicr_rules, rules_of, stop_of}
use Rattle.rules.specs.Permitted.{place_access, add_mask}
use Rattle.rules.specs.Overflow.{raised, lowered}
use Rattle.rules.specs.Apply.{incremented, apply}
use Rattle.rules.specs.Step.{decide_register, decide, step}
use Rattle.rules.specs.External.{shown_of, reach, effect_of, external_read, external_write, tick, member}
use Rattle.rules.specs.Example.{usual}
use Rattle.undo_claims.specs.Back.{steps, forward}
use Rattle.undo_claims.specs.Examples.{actual, expected, back_examples, premise, premises}

-- MODEL H11
pub examples-hold : map actual back_examples ≡ map expected back_examples
unfolding
    largest set set_level view_of too_large refusals verdict_of store store_settings store_features store_mdcr2 store_mdcr3
    store_pmuacr
    store_sampling
    named register syndrome decode written disabled_target stop_at_el3 counter_rules icntr_rules pmsicr_rules rules_of stop_of
    place_access add_mask decide_register decide incremented apply step from_bits
    shown_of raised lowered reach effect_of external_read external_write tick member
    implemented with_primary with_secondary started secondary_counts primary_counts counted
    remember tick_command obey set_all usual perform actual expected back_examples
examples-hold = refl

-- MODEL H7 and H11: what the claim asks of commands
pub premises-hold : map premise premises ≡ premises
unfolding
    largest set set_level view_of too_large refusals verdict_of store store_settings store_features store_mdcr2 store_mdcr3
    store_pmuacr
    store_sampling
    named register syndrome decode stop_at_el3 counter_rules rules_of stop_of decide_register decide apply step from_bits
    raised shown_of reach effect_of external_read external_write tick member
    tick_command obey set_all usual forward steps premise premises
premises-hold = refl
