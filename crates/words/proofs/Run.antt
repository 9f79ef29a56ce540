-- A run of words.
use Prim.Native.Nat.{ℕ, zero, suc, ◌+◌, ◌≤◌}
use mathlib.Core.List.{List, ◌∷◌}
use mathlib.Core.Path.{◌≡◌, refl, sym, ◌∙◌, ap}
use native.Mathlib.Numerals.{add-one}
use native.Mathlib.Omega.{arith}
use lib.ListN.{length, get_or, take, drop}
use lib.Seq.{drop-cons}
use Rattle.std.specs.List.{range_with_len}
use Rattle.words.specs.Untyped.{words_at}

-- words one after another are those with their numbers
pub run : (s : List ℕ) (a n : ℕ) → a + n ≤ length s → take n (drop a s) ≡ words_at (range_with_len a n) s
run s a zero h = refl
run s a (suc n) h =
    ap (take (suc n)) (drop-cons s a 0 (omega (arith, h)))
    ∙ (λ i. get_or s a 0 ∷ ((ap (λ k. take n (drop k s)) (sym (add-one a)) ∙ run s (a + 1) n (omega (arith, h))) i))
