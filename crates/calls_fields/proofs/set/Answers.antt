-- `set` meets its contract: refused with 3, refused with 4, or the field's word takes the value.
use mathlib.Core.Path.{◌≡◌, refl, sym, ◌∙◌}
use native.Mathlib.Omega.{arith}
use Rattle.fields.proofs.SetLaws.{known, set-unknown, set-large}
use Rattle.words.specs.Words.{record_of}
use Rattle.calls_fields.proofs.Sets.{field-small, refused-made, set-made}
use Rattle.calls_fields.proofs.set.Goals as goal

pub returns-in_default : goal.returns-in_default
returns-in_default c =
    let b = c.args.m.now in
    refused-made _ _ _ b (sym (set-unknown c.args.f c.args.v (record_of b) c.in_default.ensures))

pub returns-then-f-v : goal.returns-then-f-v
returns-then-f-v c =
    let b = c.args.m.now in
    let k = known c.args.f _ c.in-Some.ensures in
    refused-made _ _ _ b
    (sym (set-large c.args.f c.args.v (record_of b) k.0
    (simp k.1 at c.if-f-v.true)))

pub bounds-m-f : goal.bounds-m-f
bounds-m-f c =
    let k = known c.args.f _ c.in-Some.ensures in
    omega (arith, field-small c.args.f (omega (arith, c.ranges)) k.0)

pub returns : goal.returns
returns c =
    let b = c.args.m.now in
    let k = known c.args.f _ c.in-Some.ensures in
    set-made b (omega arith) c.args.f c.args.v (omega (arith, c.ranges)) k.0
    (simp k.1 at c.if-f-v.false) _ _ c.pmsicr_after-pmsicr.ensures
    refl
