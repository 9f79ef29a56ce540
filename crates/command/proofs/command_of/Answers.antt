-- `command::command_of` meets its contract: a case for each branch, by the contracts of what it calls.
use Rattle.std.proofs.Common.{sym, ◌∙◌, ap, arith, get_or}
use Rattle.command.specs.Command.{command_with}
use Rattle.form.proofs.Body.{part-all}
use Rattle.command.proofs.Front.{front-none, front-unknown, front_cut, front-whole}
use Rattle.command.proofs.command_of.Goals as goal

pub returns-in_default : goal.returns-in_default
returns-in_default c = sym (front-none _ c.args.t.now (omega (arith, c.in_default.len_below)))

pub returns-then-is_unknown : goal.returns-then-is_unknown
returns-then-is_unknown c =
    sym (front-unknown _ c.args.t.now (omega (arith, c.in-len1-up.len_at_least)) (sym c.is_unknown.ensures
    ∙ c.if-is_unknown.true))

pub returns : goal.returns
returns c =
    let known = sym c.is_unknown.ensures ∙ c.if-is_unknown.false in
    sym (front_cut _ c.args.t.now (omega (arith, c.in-len1-up.len_at_least)) known
    (omega (arith, c.operand_bytes.ensures, c.if-operand_bytes-operands.false)))

pub returns-then-operand_bytes-operands : goal.returns-then-operand_bytes-operands
returns-then-operand_bytes-operands c =
    let known = sym c.is_unknown.ensures ∙ c.if-is_unknown.false in
    c.command_with.ensures
    ∙ ap (λ l. command_with c.args.f (get_or c.args.t.now 0 0) l) (part-all c.args.t.now 1)
    ∙ sym (front-whole c.args.f c.args.t.now (omega (arith, c.in-len1-up.len_at_least)) known
    (omega (arith, c.operand_bytes.ensures, c.if-operand_bytes-operands.true)))
