-- `encode::put` meets its contract: the bytes of the whole number begin with the low ones.
use Rattle.std.proofs.Common.{subst, ap, ◌∙◌, List, ℕ, take}
use Rattle.text.specs.Wrote.{Wrote}
use Rattle.encode.proofs.Bytes.{low-bytes}
use Rattle.encode.proofs.put.Goals as goal

pub returns : goal.returns
returns c =
    let low = ap (take c.args.k) c.to_le_bytes.ensures ∙ low-bytes c.args.k c.args.n c.requires.0 in
    subst (λ (b : List ℕ). Wrote c.args.w.now b c.bytes.new.self) low c.bytes.ensures
