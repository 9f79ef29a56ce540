-- `Writer::hex`: the digits that stand and those that are left are the whole number.
use Rattle.std.proofs.Common.{◌≡◌, ◌-◌, ◌≤◌, length}
use Rattle.std.proofs.lemmas.List.Edits.{sets}
use Rattle.text.specs.Text.{hex}
use Rattle.text.proofs.Writer.hex.Given as goal

abbrev pub invariant-loop-i : goal.invariant-loop-i
invariant-loop-i l =
    (l.i ≤ l.k) × (length l.digits ≡ 16)
    × (sets l.initial.digits 0 (hex l.k l.x) ≡ sets l.digits l.i (hex (l.k - l.i) l.x))
