-- `conversion::convert_body` meets its contract: a case for each branch, by the contracts of what it calls.
use Rattle.std.proofs.Common.{◌≡◌, Err, arith, sym, ◌∙◌, ap, length}
use Rattle.std.proofs.lemmas.Result.{err_from_is_err_and}
use Rattle.command.specs.Command.{commands_in}
use Rattle.conversion.specs.Conversion.{converted}
use Rattle.text.proofs.Writes.{wrote_on}
use Rattle.conversion.proofs.Whole.{
  measured-refused,
  measured-length,
  measured-long,
  measured-session,
  body-fits,
  gives-session,
  gives-refusal,
}
use Rattle.conversion.proofs.convert_body.Goals as goal

pub returns-then-is_too_long : goal.returns-then-is_too_long
returns-then-is_too_long c =
    let g = c.other_form-g.result in
    let cs = commands_in c.args.f c.args.body.now in
    let measured = sym c.in_ok-n.was ∙ c.measure.ensures in
    let long = measured-long g cs measured (sym c.is_too_long.ensures ∙ c.if-is_too_long.true) in
    gives-refusal c.args.out.now (long ∙ ap (λ h. converted h cs) c.other_form-g.ensures)

pub write_commands-requires : goal.write_commands-requires
write_commands-requires c =
    let g = c.other_form-g.result in
    let cs = commands_in c.args.f c.args.body.now in
    let measured = sym c.in_ok-n.was ∙ c.measure.ensures in
    let fits =
    body-fits c.args.f c.args.body.now c.other_form-g.ensures (measured-length g cs measured)
    (sym c.is_too_long.ensures ∙ c.if-is_too_long.false) c.requires.0 in
    omega (
      arith,
      fits,
      c.requires.1,
      c.write_head.ensures.written.behind,
      c.write_head.ensures.same_length,
      c.new-w.ensures.front,
      ap length c.new-w.ensures.buffer,
    )

pub returns-in_err-n : goal.returns-in_err-n
returns-in_err-n c =
    let g = c.other_form-g.result in
    let cs = commands_in c.args.f c.args.body.now in
    let refused = measured-refused g cs (sym c.in_err-n.was ∙ c.measure.ensures) in
    let given = gives-refusal c.args.out.now (refused ∙ ap (λ h. converted h cs) c.other_form-g.ensures) in
    let passed = err_from_is_err_and c.from_residual.result c.from_residual.ensures.1 in
    (passed.1 ∙ ap Err passed.2 ∙ given.0, given.1)

pub returns : goal.returns
returns c =
    let g = c.other_form-g.result in
    let cs = commands_in c.args.f c.args.body.now in
    let measured = sym c.in_ok-n.was ∙ c.measure.ensures in
    let short = sym c.is_too_long.ensures ∙ c.if-is_too_long.false in
    let fits =
    body-fits c.args.f c.args.body.now c.other_form-g.ensures
    (measured-length g cs measured) short c.requires.0 in
    let session = measured-session g cs measured short ∙ ap (λ h. converted h cs) c.other_form-g.ensures in
    let w = wrote_on c.write_head.ensures c.write_commands.ensures in
    let same = sym (w.same_buffer ∙ c.new-w.ensures.same_buffer) in
    let given =
    gives-session g cs session (omega (arith, fits, c.requires.1)) c.new-w.ensures.buffer c.new-w.ensures.front c.place.ensures w
    in
    let after : _ ≡ c.write_commands.new.w.out.now = grind (arith, same) in
    (given.0, after ∙ given.1)
