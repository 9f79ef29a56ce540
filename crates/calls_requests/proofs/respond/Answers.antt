-- `calls_requests::respond` meets its contract: the request to the record that the words hold, and what it leaves stored.
use Prim.Native.Nat.{ℕ}
use mathlib.Core.Path.{subst}
use native.Mathlib.Omega.{arith}
use Rattle.external_apply.specs.InParts.{InParts}
use Rattle.machine.specs.declared.Settings.{Settings}
use Rattle.machine.specs.declared.Values.{Values}
use Rattle.machine.specs.Machine.{machine_of}
use Rattle.rules.specs.External.{judge, enact}
use Rattle.state.specs.State.{view_at, view_of}
use Rattle.words.specs.Words.{events_of, counters_of, record_of}
use Rattle.calls_requests.proofs.Made.{made}
use Rattle.calls_requests.proofs.respond.Goals as goal

pub returns : goal.returns
unfolding view_of record_of
returns c =
    let b = c.args.m.now in
    let q = c.args.q in
    let at-record =
    subst (λ (p : ℕ × (Settings × Values)). InParts (enact (judge (view_at p.0 p.1.0 (counters_of b) p.1.1.ovs) q)
    (machine_of p.0 p.1.0 (events_of b) (counters_of b) p.1.1))
    c.in_parts-t.result)
    (λ i. (c.level-level.ensures i, (c.settings-s.ensures i, c.values-v.ensures i)))
    (c.in_parts-t.ensures (events_of b)) in
    made b (omega arith)
    (judge (view_of (record_of b)) q)
    c.in_parts-t.result _ at-record c.values.ensures
