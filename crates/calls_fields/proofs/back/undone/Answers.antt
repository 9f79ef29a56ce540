-- `undone` meets its contract: each part of what was kept is put back where it stands in the words.
use Prim.Native.Nat.{ℕ}
use mathlib.Core.List.{List}
use mathlib.Core.Path.{◌∙◌, ap}
use native.Mathlib.Omega.{arith}
use lib.ListN.{set}
use Rattle.store.specs.Store.{store_values}
use Rattle.words.specs.Words.{settings_of, record_of, level_word}
use Rattle.words.specs.Put.{put_values}
use Rattle.calls_fields.proofs.Taken.{put_back}
use Rattle.calls_fields.proofs.back.undone.Goals as goal

pub returns : goal.returns
unfolding record_of settings_of
returns c =
    let b = c.args.m.now in
    let u = c.args.u in
    let kept = c.values-kept.ensures ∙ ap (store_values u.change.field u.change.old) c.values.ensures in
    put_back b (omega arith) u (omega arith) _
    (ap (λ (l : List ℕ). set l level_word u.level)
    (c.values-2.ensures
    ∙ (λ i. put_values
    (record { instructions = (kept i).instructions; ovs = u.ovs; pmsicr = (kept i).pmsicr; nvmem = (kept i).nvmem })
    (set (c.counters.ensures i) 0x34 (c.pick-cnten.ensures i)))))
