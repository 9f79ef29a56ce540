-- `transcript::write_lines`: what is written and what is left is the whole output.
use Rattle.command.specs.Left.{commands_left}
use Rattle.machine.specs.Machine.{with_counters}
use Rattle.undo_list.specs.Words.{history_by}
use Rattle.transcript.specs.Session.{lines_from, answers_in}
use Rattle.transcript.proofs.Running.{Running}
use Rattle.transcript.proofs.write_lines.Given as goal

abbrev pub invariant-loop-read : goal.invariant-loop-read
invariant-loop-read l =
    Running l.initial.w l.w (lines_from 1 (answers_in l.fn.f l.fn.input)) (commands_left l.read-iterator)
    (history_by (with_counters l.counters l.m) l.list) l.position
