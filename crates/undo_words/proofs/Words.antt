-- Reading the entries of an undo list after stores to its words.
use Prim.Native.Nat.{ℕ, ◌+◌, ◌*◌, ◌%◌, ◌≤◌, ◌<◌, min}
use mathlib.Core.List.{List}
use mathlib.Core.Logic.{◌≢◌}
use mathlib.Core.Path.{◌≡◌, ◌∙◌}
use native.Mathlib.Omega.{arith}
use lib.ListN.{get_or, set, length, length-set}
use lib.Seq.{get_or-set_same, get_or-set_other}
use Rattle.undo_words.specs.Journal.{entry_of, entry_at, backwards, entries, capacity}

-- an entry is the same where its three words are
same-words :
    (l m : List ℕ) (j : ℕ)
    → ((d : ℕ) → 2 ≤ d → d ≤ 4 → get_or m (3 * j + d) 0 ≡ get_or l (3 * j + d) 0)
    → entry_at m j ≡ entry_at l j
same-words l m j h =
    let first = h 2 (omega arith) (omega arith) in
    let old = h 3 (omega arith) (omega arith) in
    let ovs = h 4 (omega arith) (omega arith) in
    λ i. entry_of (first i) (old i) (ovs i)

-- stores to the three words of a place
module _ (l : List ℕ) (at x y z : ℕ) where
  abbrev l₁ : List ℕ
  l₁ = set l (3 * at + 2) x

  abbrev l₂ : List ℕ
  l₂ = set l₁ (3 * at + 3) y

  abbrev l₃ : List ℕ
  l₃ = set l₂ (3 * at + 4) z

  first_word : length l ≡ 194 → at < 64 → get_or l₃ (3 * at + 2) 0 ≡ x
  first_word n h =
      get_or-set_other l₂ (3 * at + 4) (3 * at + 2) z 0 (λ e. omega (arith, e))
      ∙ get_or-set_other l₁ (3 * at + 3) (3 * at + 2) y 0 (λ e. omega (arith, e))
      ∙ get_or-set_same l (3 * at + 2) x 0 (omega arith)

  second_word : length l ≡ 194 → at < 64 → get_or l₃ (3 * at + 3) 0 ≡ y
  second_word n h =
      get_or-set_other l₂ (3 * at + 4) (3 * at + 3) z 0 (λ e. omega (arith, e))
      ∙ get_or-set_same l₁ (3 * at + 3) y 0 (simp length-set (omega arith))

  third-word : length l ≡ 194 → at < 64 → get_or l₃ (3 * at + 4) 0 ≡ z
  third-word n h = get_or-set_same l₂ (3 * at + 4) z 0 (simp length-set (omega arith))

  -- the entry at the place
  pub there : length l ≡ 194 → at < 64 → entry_at l₃ at ≡ entry_of x y z
  there n h = λ i. entry_of (first_word n h i) (second_word n h i) (third-word n h i)

  other_word : (j : ℕ) → j ≢ at → (d : ℕ) → 2 ≤ d → d ≤ 4 → get_or l₃ (3 * j + d) 0 ≡ get_or l (3 * j + d) 0
  other_word j other d low high =
      get_or-set_other l₂ (3 * at + 4) (3 * j + d) z 0 (λ e. omega (arith, e))
      ∙ get_or-set_other l₁ (3 * at + 3) (3 * j + d) y 0 (λ e. omega (arith, e))
      ∙ get_or-set_other l (3 * at + 2) (3 * j + d) x 0 (λ e. omega (arith, e))

  -- the entry at another place
  pub elsewhere : (j : ℕ) → j ≢ at → entry_at l₃ j ≡ entry_at l j
  elsewhere j other = same-words l l₃ j (other_word j other)

-- stores to the first two words
module _ (l : List ℕ) (n at : ℕ) where
  abbrev m₁ : List ℕ
  m₁ = set l 0 n

  abbrev m₂ : List ℕ
  m₂ = set m₁ 1 at

  count_word : length l ≡ 194 → get_or m₂ 0 0 ≡ n
  count_word h = get_or-set_other m₁ 1 0 at 0 (λ e. omega (arith, e)) ∙ get_or-set_same l 0 n 0 (omega arith)

  place-word : length l ≡ 194 → get_or m₂ 1 0 ≡ at
  place-word h = get_or-set_same m₁ 1 at 0 (simp length-set (omega arith))

  later-word : (j d : ℕ) → 2 ≤ d → d ≤ 4 → get_or m₂ (3 * j + d) 0 ≡ get_or l (3 * j + d) 0
  later-word j d low high =
      get_or-set_other m₁ 1 (3 * j + d) at 0 (λ e. omega (arith, e))
      ∙ get_or-set_other l 0 (3 * j + d) n 0 (λ e. omega (arith, e))

  -- the list, whose entries stay
  pub marked : length l ≡ 194 → entries m₂ ≡ backwards (min n capacity) (at % 64) (entry_at l)
  unfolding entries
  marked h =
      λ i. backwards (min (count_word h i) capacity) (place-word h i % 64) (λ j. same-words l m₂ j (later-word j) i)
