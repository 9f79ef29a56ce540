-- `conversion::convert` meets its contract: a case for each branch, by the contracts of what it calls.
use native.Mathlib.Omega.{arith}
use Rattle.conversion.proofs.Whole.{gives-refusal, session-long, session-run, too_short, enough, gives-on}
use Rattle.conversion.proofs.convert.Goals as goal

pub returns-then-out-lt-ROOM : goal.returns-then-out-lt-ROOM
returns-then-out-lt-ROOM c =
    too_short c.args.input.now c.args.out.now (omega (arith, c.if-out-lt-ROOM.true))

pub returns-then-input-start-gt4096 : goal.returns-then-input-start-gt4096
returns-then-input-start-gt4096 c =
    let long = session-long c.args.input.now c.body_start-start.ensures.0 (omega (arith, c.if-input-start-gt4096.true)) in
    enough c.args.input.now c.args.out.now (omega (arith, c.if-out-lt-ROOM.false))
    (gives-refusal c.args.out.now long)

pub returns : goal.returns
returns c =
    let run =
    session-run c.args.input.now c.form_of-f.ensures c.body_start-start.ensures.0
    (omega (arith, c.if-input-start-gt4096.false)) in
    enough c.args.input.now c.args.out.now (omega (arith, c.if-out-lt-ROOM.false))
    (gives-on c.args.out.now run c.convert_body.ensures.0
    c.convert_body.ensures.1)
