-- `conversion::write_commands` meets its contract: its loop keeps the invariant, which at the end says the definition.
use Rattle.std.proofs.Common.{ap, ◌∙◌, arith, length, length-append}
use Rattle.command.specs.Left.{commands_left}
use Rattle.encode.specs.Encode.{read_bytes}
use Rattle.text.proofs.Writes.{writing-start, writing_on, writing-done}
use Rattle.conversion.specs.Conversion.{bytes_in}
use Rattle.conversion.proofs.Writing.{bytes-on}
use Rattle.conversion.proofs.write_commands.Goals as goal

pub loop-read-init : goal.loop-read-init
loop-read-init c =
    let whole = ap commands_left c.into_iter-read-iterator.ensures.into_iter_gives ∙ c.new-read-items.ensures in
    rw whole writing-start

pub write-requires : goal.write-requires
write-requires c =
    let front = bytes-on c.args.g c.in-Some.ensures.steps in
    omega (
      arith,
      c.requires,
      c.loop-read.invariant.behind,
      c.loop-read.invariant.same_length,
      ap length front,
      length-append (read_bytes c.args.g c.in-Some.read) (bytes_in c.args.g (commands_left c.next.new.self)),
    )

pub loop-read-preserved : goal.loop-read-preserved
loop-read-preserved c = writing_on c.loop-read.invariant (bytes-on c.args.g c.in-Some.ensures.steps) c.write.ensures

pub returns : goal.returns
unfolding bytes_in
returns c = writing-done c.loop-read.invariant (ap (bytes_in c.args.g) c.in-None.ensures.steps.0)
