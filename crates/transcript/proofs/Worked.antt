-- The worked session (MODEL S8) gives exactly its seven lines, and the other sessions of specs/Example theirs. Computed.
use mathlib.Core.List.{map}
use mathlib.Core.Path.{◌≡◌, refl}
use Rattle.fields.specs.Largest.{largest}
use Rattle.fields.specs.Set.{set, set_level}
use Rattle.state.specs.State.{view_of, too_large, refusals, verdict_of}
use Rattle.store.specs.Store.{store, store_settings, store_features, store_mdcr2, store_mdcr3, store_pmuacr, store_sampling}
use Rattle.pmsicr.specs.Pmsicr.{implemented, with_primary, with_secondary, started, secondary_counts, primary_counts, counted}
use Rattle.rules.specs.External.{effect_of, member}
use Rattle.rules.specs.Word.{named, register, syndrome, decode, written}
use Rattle.rules.specs.Traps.{disabled_target, stop_at_el3, counter_rules, rules_of, stop_of}
use Rattle.rules.specs.Permitted.{place_access}
use Rattle.rules.specs.Apply.{apply}
use Rattle.rules.specs.Step.{decide_register, decide, step}
use Rattle.text.specs.Text.{bytes, decimal, hex}
use Rattle.command.specs.Command.{command_of, commands_from, commands_in}
use Rattle.line.specs.Line.{text_of, line_of}
use Rattle.execute.specs.Execute.{tick_command, obey, perform}
use Rattle.undo_list.specs.History.{remember}
use Rattle.transcript.specs.Session.{lines_from, answers_in, output_of}
use Rattle.transcript.specs.Example.{Example, examples}

pub examples-hold : map (λ (e : Example). output_of e.input) examples ≡ map (λ (e : Example). bytes e.output) examples
unfolding
    largest set set_level view_of too_large refusals verdict_of store store_settings store_features store_mdcr2 store_mdcr3
    store_pmuacr store_sampling
    named register syndrome decode written disabled_target stop_at_el3 counter_rules rules_of stop_of place_access
    decide_register decide apply step decimal hex command_of text_of line_of
    implemented with_primary with_secondary started secondary_counts primary_counts counted effect_of member
    remember tick_command obey perform commands_from commands_in lines_from answers_in output_of examples
examples-hold = refl
