-- `pmsicr_after` meets its contract: as profiling begins, or what is stored.
use Rattle.store.specs.Store.{store}
use Rattle.words.specs.Words.{settings_of, record_of}
use Rattle.calls_fields.proofs.pmsicr_after.Goals as goal

pub returns : goal.returns
unfolding store record_of settings_of
returns c =
    simp (
      c.pick-2.ensures,
      c.pick.ensures,
      c.started-begun.ensures,
      c.on.ensures,
      c.on-2.ensures,
      c.on-3.ensures,
    )
