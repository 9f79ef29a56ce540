-- `calls_access::apply` meets its contract: a case for each decision, by the contracts of what it calls.
use Prim.Native.Nat.{ℕ}
use mathlib.Core.Path.{refl, ap}
use Rattle.answer.specs.declared.Answer.{Answer}
use Rattle.rules.specs.declared.Decision.TheVariants.{Write, Add}
use Rattle.rules.specs.Apply.{apply}
use Rattle.calls_access.proofs.Made.{stays, made}
use Rattle.calls_access.proofs.Parts.{shown_of, kept_of, counters-of, values-of, added_of, flags_of}
use Rattle.calls_access.proofs.apply.Goals as goal

pub returns-in-Says : goal.returns-in-Says
unfolding apply
returns-in-Says c =
    simp c.in-Says.is (record {
      called = stays c.args.m.now c.requires.long _ _ refl refl;
      change = refl;
    })

pub returns-in-Read : goal.returns-in-Read
unfolding apply
returns-in-Read c =
    let p = c.requires in
    let b = c.args.m.now in
    simp c.in-Read.is
    (record {
      called =
          stays b p.long _ _
          (ap (λ (y : ℕ). Answer.Mrs y c.in-Read.rt)
          (shown_of b c.args.s c.args.v p.settings p.values c.in-Read.place _
          c.shown.ensures))
          refl;
      change = refl;
    })

pub returns-in-Write : goal.returns-in-Write
unfolding apply
returns-in-Write c =
    let p = c.requires in
    let b = c.args.m.now in
    let s = c.args.s in
    let v = c.args.v in
    let e = c.put-after.ensures in
    let place = c.in-Write.place in
    let x = c.in-Write.value in
    simp c.in-Write.is
    (record {
      called =
          made b p.long (Write place x) _ _ _ _ refl refl
          (counters-of b s v p.settings p.values place x _ _ e)
          (values-of b s v p.settings p.values place x _ _ e)
          c.values.ensures;
      change = kept_of b s v p.settings p.values place _ c.of_place-change.ensures;
    })

pub returns-in-Add : goal.returns-in-Add
unfolding apply
returns-in-Add c =
    let p = c.requires in
    let b = c.args.m.now in
    let s = c.args.s in
    let v = c.args.v in
    let e = c.increment-ovs.ensures in
    let mask = c.in-Add.mask in
    simp c.in-Add.is
    (record {
      called =
          made b p.long (Add mask) _ _ _ _ refl refl
          (added_of b s v p.settings p.values mask _ c.events-events.ensures _ e.1)
          (flags_of b s v p.settings p.values mask _ c.events-events.ensures _ e.0)
          c.values-in-Add.ensures;
      change = c.of_increments.ensures;
    })
