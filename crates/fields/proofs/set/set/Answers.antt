-- `set` meets its contract: a field takes the value; how a refusal answers the check finds alone.
use Rattle.fields.proofs.SetLaws.{known, set-stores}
use Rattle.fields.proofs.set.set.Goals as goal

pub returns : goal.returns
unfolding Rattle.store.specs.Store.store
returns c =
    let k = known _ _ c.in-Some.ensures in
    simp (
      c.settings-next.ensures,
      c.events-next.ensures,
      c.counters-next.ensures,
      c.values-next.ensures,
      c.started-begun.ensures,
      c.pick-next.ensures,
    )
    (set-stores _ _ _ k.0 (simp (c.bit.ensures, k.1) at c.if-f-bit.false))
