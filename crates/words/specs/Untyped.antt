-- Words that no record by value can have: a field of one bit above 1, an event number above 0xFFFF, a level above 255.
use Rattle.std.specs.Prelude.{ℕ, zero, suc, ◌-◌, ◌^◌, Bool, false, cond, ◌||◌, List, [], ◌∷◌, map, ltb}
use Rattle.std.specs.Int.Bits.{bit_or}
use Rattle.std.specs.List.{fold}
use Rattle.store.specs.Store.{within}
use Rattle.fields.specs.Largest.{is_flag}
use Rattle.words.specs.Words.{word, level_word}

-- MODEL X13: so many numbers from i on, those of them that a test picks
abbrev pub numbers : (ℕ → Bool) → ℕ → ℕ → List ℕ
numbers p i zero = []
numbers p i (suc k) = let rest = numbers p (suc i) k in cond (p i) (i ∷ rest) rest

-- MODEL X13: the words with these numbers
abbrev pub words_at : List ℕ → List ℕ → List ℕ
words_at ks s = map (word s) ks

-- MODEL R10: some word is above the largest value
abbrev pub any_above : ℕ → List ℕ → Bool
any_above most [] = false
any_above most (x ∷ xs) = ltb most x || any_above most xs

-- MODEL X14: a number and words, united bit by bit
abbrev pub united : ℕ → List ℕ → ℕ
united = fold bit_or

-- MODEL R10 and X14: a word is above what the field's type has in a record by value
unfoldable pub untyped : List ℕ → Bool
untyped s =
    any_above 1 (words_at (numbers is_flag 0x00 0x8E) s)
    || any_above (2 ^ 16 - 1) (words_at (numbers (within 0x40 0x5E) 0x40 31) s)
    || ltb (2 ^ 8 - 1) (word s level_word)
