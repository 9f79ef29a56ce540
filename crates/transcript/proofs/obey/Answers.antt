-- `transcript::obey` meets its contract: an access by what was said and the counters that were lent.
use Rattle.std.proofs.Common.{Ok, refl, ap, ◌∙◌}
use Rattle.machine.specs.Machine.{with_counters}
use Rattle.execute.proofs.Ran.{access-ran}
use Rattle.transcript.proofs.obey.Goals as goal

pub returns-in-Ok-Access : goal.returns-in-Ok-Access
returns-in-Ok-Access c =
    let command = rw c.in-Ok-Access.is at c.in-Ok-Access.field-0-is in
    access-ran c.args.read (with_counters c.args.counters.now c.args.m.now) c.args.list.now _ _ _ _ _ _
    c.access_decoded-said.result _ _ (c.in-Ok-Access.is ∙ ap Ok command)
    c.decode.ensures c.access_decoded-said.ensures refl refl refl
