-- `Commands::next` gives the first of the commands that are left: the last alone, any other with those behind it.
use Rattle.std.proofs.Common.{length, [], sym, ap, ◌∙◌, rules}
use Rattle.std.specs.Option.{option_map_or}
use Rattle.command.specs.Command.{commands_in}
use Rattle.command.proofs.Fuel.{read-last, read-on, read-fits}
use Rattle.command.proofs.reading.CommandsIterator.next.Goals as goal

pub slice_bounds-self-count : goal.slice_bounds-self-count
slice_bounds-self-count c =
    read-fits _ _ c.command_of-read.ensures (sym c.is_last.ensures ∙ c.if-not-is_last.true) c.size_at.ensures

pub slice_bounds-self-start : goal.slice_bounds-self-start
slice_bounds-self-start c =
    read-fits _ _ c.command_of-read.ensures (sym c.is_last.ensures ∙ c.if-not-is_last.true) c.size_at.ensures

pub returns-then-not-is_last-clause-steps : goal.returns-then-not-is_last-clause-steps
returns-then-not-is_last-clause-steps c =
    ap (λ r. option_map_or (λ rest. commands_in c.args.self.now.form rest.now) r []) c.in_ok-rest.was
    ∙ read-on _ _ c.command_of-read.ensures (sym c.is_last.ensures ∙ c.if-not-is_last.true) c.size_at.ensures

pub returns-then-not-is_last-clause-goes : goal.returns-then-not-is_last-clause-goes
returns-then-not-is_last-clause-goes c =
    let fewer = ap length (returns-then-not-is_last-clause-steps c) in search rules

pub returns-else-not-is_last-clause-steps : goal.returns-else-not-is_last-clause-steps
returns-else-not-is_last-clause-steps c =
    ap (λ r. option_map_or (λ rest. commands_in c.args.self.now.form rest.now) r []) c.in_ok-rest.was
    ∙ read-last _ _ c.command_of-read.ensures (sym c.is_last.ensures ∙ c.if-not-is_last.false)

pub returns-else-not-is_last-clause-goes : goal.returns-else-not-is_last-clause-goes
returns-else-not-is_last-clause-goes c =
    let fewer = ap length (returns-else-not-is_last-clause-steps c) in search rules
