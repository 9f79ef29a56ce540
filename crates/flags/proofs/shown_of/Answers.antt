-- `flags::shown_of` meets its contract: the sum that is shown, of which no part meets another.
use mathlib.Core.Path.{sym}
use Rattle.rules.proofs.Shown.{shown-sum}
use Rattle.flags.proofs.shown_of.Goals as goal

pub returns : goal.returns
returns c =
    simp (c.below-counters.ensures, c.pick-cycle.ensures, c.pick-instructions.ensures)
    (sym (shown-sum c.args.cycles c.args.s c.args.x))
