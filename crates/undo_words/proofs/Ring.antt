-- The list that a ring of 64 places holds, whatever its entries are: with one entry more, and without the latest.
use Prim.Native.Nat.{ℕ, zero, suc, ◌+◌, ◌-◌, ◌%◌, ◌≤◌, ◌<◌, min}
use mathlib.Core.List.{◌∷◌}
use mathlib.Core.Logic.{◌≢◌}
use mathlib.Core.Path.{◌≡◌, refl, sym, ◌∙◌, ap}
use native.Mathlib.Nat.{zero-min, min-zero, suc-min-suc}
use native.Mathlib.Omega.{arith}
use lib.ListN.{take}
use Rattle.undo_words.specs.Journal.{before, backwards}

-- the place after another, round the 64
abbrev pub after : ℕ → ℕ
after at = (at + 1) % 64

before-after : (at : ℕ) → at < 64 → before (after at) ≡ at
before-after at h = omega arith

module _ {E : Type 0} where
  -- the first j of k entries
  take-backwards : (j k at : ℕ) (f : ℕ → E) → take j (backwards k at f) ≡ backwards (min j k) at f
  unfolding backwards
  take-backwards zero k at f = rw zero-min
  take-backwards (suc j) zero at f = rw min-zero
  take-backwards (suc j) (suc k) at f = rw (suc-min-suc, take-backwards j k (before at) f)

  -- entries that are others at one place only, which k entries do not reach: they begin j places before it
  apart :
      (k j at : ℕ) (f g : ℕ → E)
      → at < 64
      → j + k ≤ 63
      → ((i : ℕ) → i ≢ at → g i ≡ f i)
      → backwards k ((at + 64 - j) % 64) g ≡ backwards k ((at + 64 - j) % 64) f
  unfolding backwards
  apart zero j at f g h l others = refl
  apart (suc k) j at f g h l others =
      let here = (at + 64 - j) % 64 in
      let step : before here ≡ (at + 64 - suc j) % 64 = omega arith in
      let first = others (before here) (λ e. omega (arith, e)) in
      let behind = apart k (suc j) at f g h (omega arith) others in
      let more : backwards k (before here) g ≡ backwards k (before here) f = rw step behind in
      λ i. first i ∷ more i

  -- a new entry at the next place is the first of those listed
  stored :
      (k at : ℕ) (f g : ℕ → E) (e : E)
      → at < 64
      → k ≤ 63
      → g at ≡ e
      → ((i : ℕ) → i ≢ at → g i ≡ f i)
      → backwards (suc k) (after at) g ≡ e ∷ backwards k at f
  unfolding backwards
  stored k at f g e h l new others =
      let here : (at + 64 - 0) % 64 ≡ at = omega arith in
      let kept = rw here at (apart k 0 at f g h (omega arith) others) in
      ap (λ p. g p ∷ backwards k p g) (before-after at h) ∙ (λ i. new i ∷ kept i)

  -- MODEL H1, H3: one entry more, of which the first 64 stay
  pub pushed :
      (n at : ℕ) (f g : ℕ → E) (e : E)
      → at < 64
      → g at ≡ e
      → ((i : ℕ) → i ≢ at → g i ≡ f i)
      → backwards (min (n + 1) 64) (after at) g ≡ take 64 (e ∷ backwards (min n 64) at f)
  pushed n at f g e h new others =
      let count : min (n + 1) 64 ≡ suc (min 63 (min n 64)) = omega arith in
      ap (λ k. backwards k (after at) g) count
      ∙ stored (min 63 (min n 64)) at f g e h (omega arith) new others
      ∙ ap (λ l. e ∷ l) (sym (take-backwards 63 (min n 64) at f))

  -- MODEL H1: the latest, and what is left
  pub first-backwards :
      (k at : ℕ) (f : ℕ → E)
      → 0 < k
      → backwards k at f ≡ f (before at) ∷ backwards (k - 1) (before at) f
  unfolding backwards
  first-backwards zero at f h = let z : ⊥ = omega arith in absurd z
  first-backwards (suc k) at f h = let less : suc k - 1 ≡ k = omega arith in rw less
