-- `conversion::measure` meets its contract: its loop keeps the invariant, which at the end says the definition.
use Rattle.std.proofs.Common.{◌∷◌, Err, ap, ◌∙◌}
use Rattle.std.proofs.lemmas.Result.{err_from_is_err_and}
use Rattle.command.specs.Left.{commands_left}
use Rattle.conversion.proofs.Measuring.{measuring-start, measured-bad, measured-end, measuring-on}
use Rattle.conversion.proofs.measure.Goals as goal

pub loop-read-init : goal.loop-read-init
loop-read-init c =
    measuring-start c.args.f c.args.g c.args.body.now c.requires
    (ap commands_left c.into_iter-read-iterator.ensures.into_iter_gives ∙ c.new-read-items.ensures)

pub returns-in_err-read : goal.returns-in_err-read
returns-in_err-read c =
    let passed = err_from_is_err_and c.from_residual.result c.from_residual.ensures.1 in
    passed.1
    ∙ ap Err passed.2
    ∙ measured-bad c.loop-read.invariant
    (c.in-Some.ensures.steps ∙ ap (λ r. r ∷ commands_left c.next.new.self) c.in_err-read.was)

pub loop-read-preserved : goal.loop-read-preserved
loop-read-preserved c =
    measuring-on c.loop-read.invariant (c.in-Some.ensures.steps ∙ ap (λ r. r ∷ commands_left c.next.new.self) c.in_ok-read.was)
    c.size.ensures.0 c.size.ensures.1

pub returns : goal.returns
returns c = measured-end c.loop-read.invariant c.in-None.ensures.steps.0
