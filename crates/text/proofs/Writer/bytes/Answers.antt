-- `Writer::bytes`: the part of the buffer from the writer's place on is the text.
use Rattle.std.proofs.Common.{ℕ, refl, ap, ◌∙◌, ◌≡◌, ◌-◌, ◌+◌, length, take, drop, arith, length-drop}
use Rattle.std.proofs.lemmas.List.{length-take}
use lib.Seq.{length-sets}
use Rattle.text.proofs.Sets.{sets-whole, sets-copied}
use Rattle.text.proofs.Writer.bytes.Goals as goal

pub returns : goal.returns
returns c =
    let w = c.args.self.now in
    let s = c.args.s.now in
    let size : length (take (w.at + length s - w.at) (drop w.at w.out.now)) ≡ length s =
    omega (arith, length-take {A = ℕ}, length-drop {A = ℕ}) in
    let whole = sets-whole _ s c.loop-i.part c.loop-i.i (omega arith) size c.loop-i.invariant.2 in
    let stored = sets-copied w.out.now w.at whole c.requires in
    record {
      same_buffer = refl;
      same_length = ap length stored ∙ length-sets w.out.now w.at s;
      written = record { stored = stored; behind = refl };
    }
