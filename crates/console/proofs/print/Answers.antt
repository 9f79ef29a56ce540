-- `print`: the bytes that the session function says it wrote are bytes of the buffer.
use Rattle.std.proofs.Common.{sym, ◌∙◌}
use lib.Seq.{length-take-le}
use Rattle.transcript.proofs.Whole.{bytes_fit}
use Rattle.console.proofs.print.Goals as goal

pub slice_bounds-out-end : goal.slice_bounds-out-end
slice_bounds-out-end g c = bytes_fit _ _ (sym c.in-Ok.is ∙ c.session.ensures.0) c.session.ensures.1

pub slice_bounds-write-end : goal.slice_bounds-write-end
slice_bounds-write-end g c =
    sym (length-take-le _ _ (bytes_fit _ _ (sym c.in-Ok.is ∙ c.session.ensures.0) c.session.ensures.1))
