-- `external_apply::respond` meets its contract: what is handed back and what stayed make the record of the definition.
use Rattle.rules.specs.External.{judge}
use Rattle.state.specs.State.{view_of}
use Rattle.external_apply.proofs.Whole.{whole}
use Rattle.external_apply.proofs.respond.Goals as goal

pub returns : goal.returns
unfolding view_of
returns c =
    whole (judge (view_of c.args.r) c.args.q) c.args.r _
    (c.in_parts-told.ensures c.args.r.events)
