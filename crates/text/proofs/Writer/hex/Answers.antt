-- `Writer::hex`: a digit is stored each turn, and at the end none is left.
use Rattle.std.proofs.Common.{arith, ◌≡◌, ◌-◌, ◌+◌, ap, sym, ◌∙◌, take, subst, List, ℕ, length-set}
use Rattle.std.proofs.lemmas.List.Edits.{sets, sets-eq}
use Rattle.std.proofs.lemmas.List.{take_at}
use Rattle.text.specs.Text.{hex}
use Rattle.text.specs.Wrote.{Wrote}
use Rattle.text.proofs.Digits.{length-hex, hex-turn}
use Rattle.text.proofs.Writer.hex.Goals as goal

pub loop-i-preserved : goal.loop-i-preserved
loop-i-preserved c =
    let k = c.args.k in
    let i = c.loop-i.i in (
      omega arith,
      simp length-set c.loop-i.invariant.1,
      c.loop-i.invariant.2
          ∙ hex-turn c.loop-i.digits i (k - (i + 1)) c.args.x (omega arith) c.hex_digit.ensures (omega arith),
    )

pub returns-clause-wrote : goal.returns-clause-wrote
unfolding hex
returns-clause-wrote c =
    let k = c.args.k in
    let x = c.args.x in
    let none : k - c.loop-i.i ≡ 0 = omega arith in
    let whole = c.loop-i.invariant.2 ∙ ap (λ n. sets c.loop-i.digits c.loop-i.i (hex n x)) none in
    let size = length-hex k x in
    let e = sym whole ∙ sets-eq (hex k x) _ 0 (omega (arith, size)) in
    let digits = ap (take k) e ∙ take_at (hex k x) _ k size in
    subst (λ (b : List ℕ). Wrote c.args.self.now b c.bytes.new.self) digits c.bytes.ensures
