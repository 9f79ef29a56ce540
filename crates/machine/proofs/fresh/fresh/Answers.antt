-- `machine::fresh::fresh` meets its contract: each field is its type's default, and the two arrays are of zeros.
use Rattle.std.proofs.Common.{rules, ℕ, ◌≡◌, ◌∙◌, sym, List, replicate, arith}
use Rattle.std.proofs.lemmas.List.{ext_get_or, get_or-replicate, length-replicate}
use Rattle.std.specs.Array.{AllOfLen}
use Rattle.machine.proofs.fresh.fresh.Goals as goal

all_zeros : (xs : List ℕ) (n : ℕ) → AllOfLen (λ x. x ≡ 0) xs n → xs ≡ replicate n 0
all_zeros xs n h =
    ext_get_or 0 xs (replicate n 0) (h.long ∙ sym (length-replicate n 0))
    (λ i l. h.at i 0 (omega (arith, h.long)) ∙ sym (get_or-replicate n i 0 0 (omega (arith, h.long))))

pub returns : goal.returns
returns c =
    let events : c.default.result.events ≡ replicate 31 0 = all_zeros _ 31 c.default.ensures.1.0 in
    let counters : c.default.result.counters ≡ replicate 31 0 = all_zeros _ 31 c.default.ensures.1.1.1.0 in
    search (rules, events, counters)
