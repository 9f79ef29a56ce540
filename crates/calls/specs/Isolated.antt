-- Demand 3 of accesses on words: runs of calls of which nothing is known but what `pmu_access` promises, and what is claimed of
-- two such runs. Nothing here depends on a proof.
use Rattle.std.specs.Prelude.{ℕ, Bool, true, false, List, [], ◌∷◌, ◌≡◌, length, set}
use Rattle.machine.specs.declared.Settings.{Settings}
use Rattle.reply.specs.declared.Reply.{Reply}
use Rattle.rules.specs.Isolation.{SameExcept, Kept, Named, Start, from_levels}
use Rattle.rules.specs.Isolation.{from_hpmn, without_p, instruction_counter, sampling_counter}
use Rattle.rules.specs.Isolation.{hpmn_hides, pmuacr_hides, f0_hides, always}
use Rattle.rules.specs.Step.{Access, step}
use Rattle.words.specs.Words.{record_of, level_word, word_count}
use Rattle.words.specs.Untyped.{untyped}
use Rattle.words.specs.Put.{put}
use Rattle.words.specs.Call.{call_of}
use Rattle.calls.specs.Replied.{Replied}

-- MODEL X17: one access after another on words, each on those that the one before it left, with the level's word put to the
-- access's own: the accesses, the words at the start, the replies in order, and the words at the end
pub data Accesses : List Access → List ℕ → List Reply → List ℕ → Type 0 where
  none : {s : List ℕ} → Accesses [] s [] s
  next :
      {a : Access} {rest : List Access} {s left after : List ℕ} {r : Reply} {replies : List Reply}
      → Replied (call_of (step a.word a.operand) (set s level_word a.level)) put (set s level_word a.level) r left
      → Accesses rest left replies after
      → Accesses (a ∷ rest) s (r ∷ replies) after

-- MODEL X17: words that a run may start from: as many as there are, none above what a record by value can have, and a record that
-- would be consistent at level 0
pub record StartWords (s : List ℕ) : Type 0 where
  pub long : length s ≡ word_count
  pub typed : untyped s ≡ false
  pub start : Start (record_of s)

-- MODEL X17: the replies of two runs are equal, so are the records after them but for the places named, and each has kept those
pub record RepliedAlike (x : Named) (s₁ s₂ after₁ after₂ : List ℕ) (replies₁ replies₂ : List Reply) : Type 0 where
  pub replies : replies₁ ≡ replies₂
  pub same : SameExcept x (record_of after₁) (record_of after₂)
  pub kept₁ : Kept x (record_of s₁) (record_of after₁)
  pub kept₂ : Kept x (record_of s₂) (record_of after₂)

-- MODEL X17: a claim of all such runs
abbrev pub WordsClaim : ℕ → (Settings → Named) → (Settings → Bool) → Type 0
WordsClaim top named when =
    (s₁ s₂ : List ℕ) (accesses : List Access)
    → StartWords s₁
    → StartWords s₂
    → when (record_of s₁).settings ≡ true
    → from_levels top accesses ≡ true
    → SameExcept (named (record_of s₁).settings) (record_of s₁) (record_of s₂)
    → (after₁ after₂ : List ℕ) (replies₁ replies₂ : List Reply)
    → Accesses accesses s₁ replies₁ after₁
    → Accesses accesses s₂ replies₂ after₂
    → RepliedAlike (named (record_of s₁).settings) s₁ s₂ after₁ after₂ replies₁ replies₂

-- MODEL X17: demand 3, whole, of accesses on words
pub record WordsNoninterference : Type 0 where
  pub hpmn : WordsClaim 1 from_hpmn hpmn_hides
  pub pmuacr : WordsClaim 0 without_p pmuacr_hides
  pub f0 : WordsClaim 0 instruction_counter f0_hides
  pub sampling : WordsClaim 0 sampling_counter always
