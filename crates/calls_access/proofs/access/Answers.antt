-- `calls_access::access` meets its contract: the decision on the view of the record that the words hold, applied.
use mathlib.Core.Path.{◌∙◌, ap, subst}
use Rattle.rules.specs.declared.Decision.{Decision}
use Rattle.rules.specs.Apply.{apply}
use Rattle.rules.specs.Step.{step, decide}
use Rattle.state.specs.State.{view_at, view_of}
use Rattle.undo.specs.Undo.{change_of}
use Rattle.words.specs.Words.{counters_of, record_of}
use Rattle.calls_access.specs.Access.{Did}
use Rattle.calls_access.proofs.access.Goals as goal

pub returns : goal.returns
unfolding step view_of record_of
returns c =
    let b = c.args.m.now in
    subst (λ (d : Decision). Did (apply d (record_of b)) (change_of d (record_of b)) b c.apply.result c.apply.new.m)
    (c.decide-d.ensures ∙ ap (λ v. decide v c.args.w c.args.x)
    (c.view.ensures ∙ (λ i. view_at (c.level-level.ensures i) (c.settings-s.ensures i) (counters_of b)
    (c.values-v.ensures i).ovs)))
    c.apply.ensures
