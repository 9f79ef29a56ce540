-- `encode::write_command` meets its contract: the commands with two operands, one written behind the other.
use Rattle.encode.specs.Encode.{bytes_of}
use Rattle.text.proofs.Writes.{wrote_on}
use Rattle.encode.proofs.write_command.Goals as goal

pub returns-in-Access : goal.returns-in-Access
unfolding bytes_of
returns-in-Access c =
    rw c.in-Access.is (wrote_on c.byte-in-Access.ensures (wrote_on c.put-in-Access.ensures c.put-in-Access-2.ensures))

pub returns-in-Write : goal.returns-in-Write
unfolding bytes_of
returns-in-Write c =
    rw c.in-Write.is (wrote_on c.byte-in-Write.ensures (wrote_on c.put-in-Write.ensures c.put-in-Write-2.ensures))
