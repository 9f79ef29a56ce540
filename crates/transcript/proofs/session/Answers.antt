-- `transcript::session` meets its contract: a case for each branch, by the contracts of what it calls.
use Rattle.std.proofs.Common.{◌≡◌, ◌≤◌, length, sym, ap, ◌∙◌, arith}
use Rattle.text.specs.declared.Writer.{Writer}
use Rattle.transcript.specs.Session.{room}
use Rattle.transcript.proofs.Whole.{no-room, enough, output-long, output-run}
use Rattle.transcript.proofs.session.Goals as goal
use Rattle.transcript.proofs.session.Goals.{then-input-start-gt4096, else-input-start-gt4096}

pub returns-then-out-lt-ROOM : goal.returns-then-out-lt-ROOM
returns-then-out-lt-ROOM c = no-room c.args.input.now c.args.out.now (omega (arith, c.if-out-lt-ROOM.true))

pub returns : goal.returns
returns c =
    let s = c.args.input.now in
    let start = c.body_start-start.ensures.0 in
    let fits : room ≤ length c.args.out.now = omega (arith, c.if-out-lt-ROOM.false) in
    let size = ap length c.new-w.ensures.buffer in
    elim c.if-input-start-gt4096.branch [
      | then-input-start-gt4096 w ↦
          let wrote = w.line.ensures.0 in
          let long = output-long s start (omega (arith, w.if-input-start-gt4096.true)) in
          let given =
          enough s c.args.out.now fits c.new-w.ensures.buffer c.new-w.ensures.front wrote long
          (omega (arith, w.line.ensures.1, c.new-w.ensures.front, c.if-out-lt-ROOM.false))
          (c.place.ensures ∙ ap (λ (v : Writer). v.at) w.w-is) in
          let same = sym (wrote.same_buffer ∙ c.new-w.ensures.same_buffer) in
          let after : _ ≡ w.line.new.w.out.now = grind (arith, same, w.w-is) in
          (given.0, after ∙ given.1)
      | else-input-start-gt4096 w ↦
          let wrote = w.write_lines.ensures.0 in
          let whole = output-run s c.form_of-f.ensures start (omega (arith, w.if-input-start-gt4096.false)) in
          let given =
          enough s c.args.out.now fits c.new-w.ensures.buffer c.new-w.ensures.front wrote whole
          (omega (arith, w.write_lines.ensures.1, size))
          (c.place.ensures ∙ ap (λ (v : Writer). v.at) w.w-is) in
          let same = sym (wrote.same_buffer ∙ c.new-w.ensures.same_buffer) in
          let after : _ ≡ w.write_lines.new.w.out.now = grind (arith, same, w.w-is) in
          (given.0, after ∙ given.1)
    ]
