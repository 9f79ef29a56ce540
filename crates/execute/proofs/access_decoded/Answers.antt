-- `execute::access_decoded` meets its contract: the lent step, listed by what is kept of it, which takes it back.
use Rattle.machine.specs.Machine.{machine_of}
use Rattle.execute.proofs.Ran.{access-listed}
use Rattle.execute.proofs.access_decoded.Goals as goal

pub returns : goal.returns
returns c =
    let args = c.args in
    let m = machine_of args.level args.s args.events.now args.counters.now args.v in
    let parts = c.in_parts_decoded-said.ensures in
    record {
      parts = parts;
      listed = access-listed args.i args.x m c.typed.ensures parts args.list.now _ 0 c.note.ensures;
      kept = c.note.ensures;
    }
