-- `command::command_with` meets its contract: the sets, whose width is tested.
use Rattle.std.proofs.Common.{◌≤◌, sym, ◌∙◌, ap, ap₂, arith, length}
use Rattle.command.specs.Command.{operand_bytes, set_of}
use Rattle.command.proofs.Operands.{operand-one, four-read, eight-read}
use Rattle.command.proofs.command_with.Goals as goal

pub returns-in-1 : goal.returns-in-1
returns-in-1 c =
    let t = c.args.t.now in
    let there : 9 ≤ length t = omega (arith, c.requires, ap operand_bytes c.in-1.is) in
    let field = sym (operand-one t 0 (omega arith)) in
    let value = eight-read t 1 there c.bytes.ensures c.from_le_bytes.ensures in
    rw c.in-1.is (c.set_of.ensures ∙ ap₂ (set_of c.args.f 8) field value)

pub returns-in-18 : goal.returns-in-18
returns-in-18 c =
    let t = c.args.t.now in
    let there : 5 ≤ length t = omega (arith, c.requires, ap operand_bytes c.in-18.is) in
    let field = sym (operand-one t 0 (omega arith)) in
    let value = four-read t 1 there c.bytes-in-18.ensures c.from_le_bytes-in-18.ensures in
    rw c.in-18.is (c.set_of-in-18.ensures ∙ ap₂ (set_of c.args.f 4) field (c.from-in-18.ensures ∙ value))
