-- What stands at a place of a list that a function of the place makes, and so at a place of the table.
use Prim.Native.Nat.{ℕ, zero, suc, ◌+◌, ◌<◌}
use mathlib.Core.Path.{◌≡◌, ◌∙◌, ap, sym}
use native.Mathlib.Nat.{add-zero, zero-add, add-suc, suc-add, le_of_suc-le-suc, not-suc-le-zero}
use lib.ListN.{get_or}
use Rattle.word.specs.Codes.{tabulate, code_at, codes}

module _ (f : ℕ → ℕ) where
  from : (n i k : ℕ) → k < n → get_or (tabulate f n i) k 0 ≡ f (i + k)
  from zero i k h = absurd (not-suc-le-zero h)
  from (suc n) i zero h = ap f (sym (add-zero i))
  from (suc n) i (suc k) h = from n (suc i) k (le_of_suc-le-suc h) ∙ ap f (suc-add i k ∙ sym (add-suc i k))

  pub at : (n k : ℕ) → k < n → get_or (tabulate f n 0) k 0 ≡ f k
  at n k h = from n 0 k h ∙ ap f (zero-add k)

pub entry : (k : ℕ) → k < 256 → get_or codes k 0 ≡ code_at k
unfolding codes
entry k h = at code_at 256 k h
