-- `Writer::bytes`: what is stored and what is left to store is the whole text.
use Rattle.std.proofs.Common.{length, ◌≡◌, ◌≤◌, drop}
use Rattle.std.proofs.lemmas.List.Edits.{sets}
use Rattle.text.proofs.Writer.bytes.Given as goal

abbrev pub invariant-loop-i : goal.invariant-loop-i
invariant-loop-i l =
    (l.i ≤ length l.s) × (length l.part ≡ length l.initial.part)
    × (sets l.initial.part 0 l.s ≡ sets l.part l.i (drop l.i l.s))
