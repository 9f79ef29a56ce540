-- The undo list in words: what they stand for, whatever they hold.
use Rattle.std.specs.Prelude.{ℕ, zero, suc, ◌+◌, ◌*◌, ◌/◌, ◌%◌, ◌^◌, min, List, [], ◌∷◌, get_or, Option, Some, None}
use Rattle.undo_words.specs.declared.Entry.{Entry}

-- MODEL H3: how many commands are listed at most
abbrev pub capacity : ℕ
capacity = 64

-- MODEL H9: the entry that three words stand for: field, level and tag in the first, then what the field held, and the overflow
-- flags
abbrev pub entry_of : ℕ → ℕ → ℕ → Entry
entry_of first old ovs =
    record {
      undo =
          record {
            change = record { field = first % 2 ^ 8; old = old };
            level = first / 2 ^ 8 % 2 ^ 8;
            ovs = ovs;
          };
      tag = first / 2 ^ 16 % 2 ^ 32;
    }

-- MODEL H9: the entry at place i of the words
abbrev pub entry_at : List ℕ → ℕ → Entry
entry_at words i = entry_of (get_or words (3 * i + 2) 0) (get_or words (3 * i + 3) 0) (get_or words (3 * i + 4) 0)

-- MODEL H9: the place before another, round the 64
abbrev pub before : ℕ → ℕ
before at = (at + 63) % 64

-- MODEL H9: so many entries, from the place before this one backwards
unfoldable pub backwards : {E : Type 0} → ℕ → ℕ → (ℕ → E) → List E
backwards zero at f = []
backwards (suc k) at f = f (before at) ∷ backwards k (before at) f

-- MODEL H9: the entries that the words stand for, the latest first
unfoldable pub entries : List ℕ → List Entry
entries words = backwards (min (get_or words 0 0) capacity) (get_or words 1 0 % 64) (entry_at words)

-- MODEL H1: the latest of the entries
abbrev pub latest : List Entry → Option Entry
latest [] = None
latest (e ∷ es) = Some e

-- MODEL H1: the entries without the latest
abbrev pub rest : List Entry → List Entry
rest [] = []
rest (e ∷ es) = es
