-- `pmu_access_listed` meets its contract: `pmu_access`, and what is kept of it is listed.
use Prim.Native.Nat.{ℕ}
use mathlib.Core.Path.{sym, ◌∙◌, ap}
use Rattle.rules.specs.Step.{step}
use Rattle.undo_words.specs.Journal.{entries}
use Rattle.undo_list.specs.Words.{noted}
use Rattle.words.specs.Words.{word, record_of}
use Rattle.words.specs.Call.{call_of}
use Rattle.calls.proofs.Refused.{typed_call, called-reply}
use Rattle.pmu_access.proofs.Kept.{counters-typed, access-listed}
use Rattle.pmu_access.proofs.pmu_access_listed.Goals as goal

pub returns : goal.returns
unfolding record_of
returns c =
    let s = c.args.m.now in
    let list = c.args.list.now in
    let w = c.args.word in
    let x = c.args.operand in
    let acted = c.access-acted in
    let same = typed_call (step w x) s (sym c.untyped.ensures ∙ c.if-untyped.false) in
    let noted-so = c.note.ensures
    ∙ ap (λ (level : ℕ). noted acted.result.answer
    (record { change = acted.result.change; level = level; ovs = word s 0x37 }) 0 (entries list)) c.level-level.ensures in (
      called-reply _ (call_of (step w x) s) s _ _ acted.ensures.called same _ c.from.ensures,
      access-listed w x (record_of s) (counters-typed s c.fits-m) (call_of (step w x) s) same
          _ acted.ensures.called.answered _ acted.ensures.change list _ noted-so,
    )
