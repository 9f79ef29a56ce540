-- Noninterference of accesses on words: a run of calls replies and leaves what the list, run by the definition, does.
use Prim.Native.Nat.{ℕ, ◌≤◌}
use mathlib.Core.Bool.{Bool, true, false, cond}
use mathlib.Core.List.{List, [], ◌∷◌, map}
use mathlib.Core.Path.{◌≡◌, refl, sym, ◌∙◌, ap, subst}
use native.Mathlib.Omega.{arith}
use borrow.Author.Tests.{leb-true}
use lib.Dec.{leb}
use lib.ListN.{length, set, length-set, drop, length-take, length-drop}
use Rattle.answer.specs.Refused.{is_refused}
use Rattle.machine.proofs.Bools.{and_left, and_right}
use Rattle.machine.specs.declared.Machine.{Machine}
use Rattle.machine.specs.declared.Outcome.{Outcome}
use Rattle.machine.specs.declared.Settings.{Settings}
use Rattle.reply.specs.declared.Reply.{Reply}
use Rattle.reply.specs.Reply.{reply_of}
use Rattle.rules.specs.Isolation.{Named, Start, Claim, SameExcept, Kept, from_levels}
use Rattle.rules.specs.Step.{Access, decide, step, access, run}
use Rattle.rules.proofs.Applied.{length-stays}
use Rattle.rules.proofs.Isolation.{noninterference}
use Rattle.state.specs.State.{view_of}
use Rattle.words.specs.Words.{record_of, counters_of, level_word, word_count}
use Rattle.words.specs.Untyped.{untyped}
use Rattle.words.specs.Put.{put}
use Rattle.words.specs.Call.{call_of}
use Rattle.words.proofs.Puts.{levelled}
use Rattle.words.proofs.Typed.{put-size, put_typed, level-typed}
use Rattle.calls.proofs.Refused.{typed_call}
use Rattle.calls.specs.Replied.{Replied}
use Rattle.calls.specs.Isolated.{Accesses, none, next, WordsClaim, WordsNoninterference}

counters-long : (s : List ℕ) → length s ≡ word_count → length (counters_of s) ≡ 31
counters-long s h = length-take 31 (drop 0x60 s) ∙ omega (arith, h, length-drop 0x60 s)

-- one access, on words with its level
module _ (w x : ℕ) (s : List ℕ) (h : length s ≡ word_count) (t : untyped s ≡ false) (r : Reply) (left : List ℕ)
    (p : Replied (call_of (step w x) s) put s r left) where
  o : Outcome
  o = step w x (record_of s)

  same : call_of (step w x) s ≡ o
  unfolding o
  same = sym (typed_call (step w x) s t)

  pub replied : r ≡ reply_of (step w x (record_of s)).answer
  unfolding o
  replied = p.reply ∙ ap (λ (o : Outcome). reply_of o.answer) same

  pub holds : record_of left ≡ (step w x (record_of s)).machine
  unfolding o
  holds = p.holds ∙ ap (λ (o : Outcome). o.machine) same

  long : length o.machine.counters ≡ 31
  unfolding o step record_of
  long = length-stays (decide (view_of (record_of s)) w x) (record_of s) ∙ counters-long s h

  -- the words are those of before, or with what the access leaves put
  pub left_typed : (length left ≡ word_count) × (untyped left ≡ false)
  left_typed =
      subst (λ (l : List ℕ). (length l ≡ word_count) × (untyped l ≡ false))
      (sym (p.words ∙ ap (λ (o : Outcome). cond (is_refused o.answer) s (put o.machine s)) same))
      (go (is_refused o.answer))
    where
      go : (b : Bool) → (length (cond b s (put o.machine s)) ≡ word_count) × (untyped (cond b s (put o.machine s)) ≡ false)
      go true = (h, t)
      go false = (put-size s h o.machine long, put_typed s h o.machine long ∙ t)

-- a run of calls, from words that hold this record
runs :
    (top : ℕ) → top ≤ 1 → (accesses : List Access) (s after : List ℕ) (replies : List Reply) → length s ≡ word_count
    → untyped s ≡ false
    → from_levels top accesses ≡ true
    → Accesses accesses s replies after
    → (replies ≡ map reply_of (run accesses (record_of s)).answers) × (record_of after ≡ (run accesses (record_of s)).machine)
unfolding run access
runs top low [] s after replies h t e none = (refl, refl)
runs top low (a ∷ rest) s after replies h t e (next {left = left} {r = r} {replies = more} p q) =
    let level : a.level ≤ top = leb-true a.level top (and_left (leb a.level top) (from_levels top rest) e) in
    let s' = set s level_word a.level in
    let h' : length s' ≡ word_count = length-set s level_word a.level ∙ h in
    let t' : untyped s' ≡ false = level-typed s h a.level (omega (arith, level, low)) t in
    let record_of = levelled s h a.level (omega (arith, level, low)) in
    let kept = left_typed a.word a.operand s' h' t' r left p in
    let then = runs top low rest left after more kept.0 kept.1 (and_right (leb a.level top) (from_levels top rest) e) q in
    let there = holds a.word a.operand s' h' t' r left p
    ∙ ap (λ (m : Machine). (step a.word a.operand m).machine) record_of in
    let said = replied a.word a.operand s' h' t' r left p
    ∙ ap (λ (m : Machine). reply_of (step a.word a.operand m).answer) record_of in (
      (λ i. said i ∷ (then.0 ∙ ap (λ (m : Machine). map reply_of (run rest m).answers) there) i),
      then.1 ∙ ap (λ (m : Machine). (run rest m).machine) there,
    )

claim : (top : ℕ) → top ≤ 1 → (named : Settings → Named) (when : Settings → Bool) → Claim Start top named when → WordsClaim
    top named when
claim top low named when isolated s₁ s₂ accesses start₁ start₂ w e alike after₁ after₂ replies₁ replies₂ run₁ run₂ =
    let ran₁ = runs top low accesses s₁ after₁ replies₁ start₁.long start₁.typed e run₁ in
    let ran₂ = runs top low accesses s₂ after₂ replies₂ start₂.long start₂.typed e run₂ in
    let both = isolated (record_of s₁) (record_of s₂) accesses start₁.start start₂.start w e alike in
    let x = named (record_of s₁).settings in
    record {
      replies = ran₁.0 ∙ ap (map reply_of) both.answers ∙ sym ran₂.0;
      same =
          subst (λ (m : Machine). SameExcept x m (record_of after₂)) (sym ran₁.1)
          (subst (λ (m : Machine). SameExcept x (run accesses (record_of s₁)).machine m) (sym ran₂.1) both.same);
      kept₁ = subst (Kept x (record_of s₁)) (sym ran₁.1) both.kept₁;
      kept₂ = subst (Kept x (record_of s₂)) (sym ran₂.1) both.kept₂;
    }

-- demand 3 of accesses on words
pub words-noninterference : WordsNoninterference
words-noninterference =
    record {
      hpmn = claim 1 (omega arith) _ _ noninterference.hpmn;
      pmuacr = claim 0 (omega arith) _ _ noninterference.pmuacr;
      f0 = claim 0 (omega arith) _ _ noninterference.f0;
      sampling = claim 0 (omega arith) _ _ noninterference.sampling;
    }
