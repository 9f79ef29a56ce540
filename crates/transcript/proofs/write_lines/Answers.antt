-- `transcript::write_lines` meets its contract: its loop keeps the invariant, which at the end says the definition. The earlier
-- records are those of the local `list`.
use Rattle.std.proofs.Common.{[], ap, ◌∙◌, arith}
use Rattle.command.specs.Left.{commands_left}
use Rattle.machine.specs.declared.Machine.{Machine}
use Rattle.undo_list.specs.History.{History}
use Rattle.undo_list.specs.Words.{earlier_by}
use Rattle.undo_words.specs.Journal.{backwards, entries}
use Rattle.transcript.proofs.Running.{running-start, running-end, running-on, position-fits, line-room}
use Rattle.transcript.proofs.write_lines.Goals as goal

-- nothing is listed
abbrev beginning : Machine → History
beginning m = record { machine = m; earlier = [] }

pub loop-read-init : goal.loop-read-init
unfolding entries backwards earlier_by
loop-read-init c =
    running-start c.args.f c.args.input.now
    (ap commands_left c.into_iter-read-iterator.ensures.into_iter_gives ∙ c.new-read-items.ensures)
    (ap beginning c.fresh-m.ensures) c.requires.0 c.requires.1

pub loop-read-preserved : goal.loop-read-preserved
loop-read-preserved c =
    running-on c.loop-read.invariant c.in-Some.ensures.steps c.obey-a.ensures c.line.ensures.0 c.line.ensures.1

pub line-requires : goal.line-requires
line-requires c = (
  omega (arith, position-fits c.loop-read.invariant c.in-Some.ensures.steps),
  line-room c.loop-read.invariant c.in-Some.ensures.steps,
)

pub returns : goal.returns
returns c = (
  running-end c.loop-read.invariant c.in-None.ensures.steps.0,
  omega (arith, c.loop-read.invariant.spare, c.loop-read.invariant.lines.same_length),
)
