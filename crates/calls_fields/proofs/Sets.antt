-- The set and level commands made in words: one law for each way that their tests can go.
use Prim.Native.Nat.{ℕ, ◌<◌, ◌≤◌}
use mathlib.Core.Bool.{Bool, true, false, ◌||◌}
use mathlib.Core.List.{List}
use mathlib.Core.Path.{◌≡◌, refl, sym, ◌∙◌, ap}
use native.Mathlib.Omega.{arith}
use borrow.Author.Tests.{eqb-true, ltb-true}
use lib.Dec.{eqb, ltb}
use lib.ListN.{length, set, length-set}
use Rattle.answer.specs.declared.Answer.{Answer}
use Rattle.answer.specs.declared.Refusal.{Refusal}
use Rattle.fields.specs.Largest.{largest, exceeds, largest_level}
use Rattle.fields.specs.Set.{pmsicr_after, set_level}
use Rattle.fields.specs.Set as command
use Rattle.std.proofs.lemmas.Bool.{agree_below_at}
use Rattle.fields.proofs.SetLaws.{event-largest, within-largest, set-stored, level-put}
use Rattle.machine.specs.declared.Machine.{Machine}
use Rattle.machine.specs.declared.Outcome.{Outcome}
use Rattle.machine.specs.Machine.{with_pmsicr}
use Rattle.machine.specs.Outcome.{refused}
use Rattle.store.specs.Store.{store, store_settings, store_features, store_mdcr2, store_mdcr3, store_pmuacr, store_sampling}
use Rattle.words.specs.Words.{record_of, level_word, word_count}
use Rattle.words.proofs.Stored.{Fits, field-set}
use Rattle.words.proofs.Puts.{fits-number, levelled}
use Rattle.calls_fields.specs.Fields.{Made, words_set, words_levelled}

-- the number of a field is below that of the level's word
small_test : ℕ → Bool
small_test f = eqb (largest f) 0 || ltb f level_word

small-test : (f : ℕ) → f < 256 → small_test f ≡ true
unfolding small_test largest
small-test f = agree_below_at small_test (λ _. true) 256 f refl

pub field-small : (f : ℕ) → f < 256 → (largest f ≡ 0 → ⊥) → f < level_word
unfolding small_test
field-small f h n = go (eqb (largest f) 0) refl
  where
    go : (b : Bool) → eqb (largest f) 0 ≡ b → f < level_word
    go true e = absurd (n (eqb-true _ _ e))
    go false e = ltb-true f level_word (rw e at (small-test f h))

-- refused: the words stay
pub refused-made :
    (o : Outcome) (n : Refusal) (changed : Machine → List ℕ → List ℕ) (s : List ℕ) → refused n (record_of s) ≡ o
    → Made o changed s (Answer.Refused n) s
refused-made o n changed s e =
    record { answered = ap (λ (o : Outcome). o.answer) e; holds = ap (λ (o : Outcome). o.machine) e; words = refl }

same-pmsicr : (p : ℕ) (m : Machine) → store 0x8C p m ≡ with_pmsicr p m
unfolding store store_settings store_features store_mdcr2 store_mdcr3 store_pmuacr store_sampling
same-pmsicr p m = refl

module _ (s : List ℕ) (h : length s ≡ word_count) where
  -- a set that is not refused
  module _ (f v : ℕ) (small : f < 256) (field : largest f ≡ 0 → ⊥) (fit : exceeds v f ≡ false) where
    fits : Fits f v
    fits =
        record {
          flag = λ e. omega (arith, e, within-largest f v fit);
          event = λ p q. omega (arith, event-largest f p q, within-largest f v fit);
        }

    stored : (p : ℕ) → record_of (set (set s f v) 0x8C p) ≡ with_pmsicr p (store f v (record_of s))
    unfolding largest
    stored p =
        field-set (set s f v) (length-set s f v ∙ h) 0x8C p (omega arith)
        (fits-number 0x8C p (λ z. omega (arith, z)) (λ a b. omega (arith, a, b)))
        ∙ ap (store 0x8C p) (field-set s h f v (field-small f small field) fits)
        ∙ same-pmsicr p (store f v (record_of s))

    pub set-made :
        (p : ℕ) (after : List ℕ) → p ≡ pmsicr_after f v (record_of s) → after ≡ set (set s f v) 0x8C p
        → Made (command.set f v (record_of s)) (words_set f v) s Answer.Ok after
    set-made p after e at =
        let o = set-stored f v (record_of s) field fit in
        let there = at ∙ ap (set (set s f v) 0x8C) e in
        record {
          answered = sym (ap (λ (o : Outcome). o.answer) o);
          holds = ap record_of there ∙ stored (pmsicr_after f v (record_of s)) ∙ sym (ap (λ (o : Outcome). o.machine) o);
          words = there ∙ sym (ap (λ (o : Outcome). set (set s f v) 0x8C o.machine.values.pmsicr) o);
        }

  -- a level command that is not refused
  pub level-made : (l : ℕ) → l ≤ largest_level → Made (set_level l (record_of s)) words_levelled s Answer.Ok (set s level_word l)
  level-made l j =
      let o = level-put l (record_of s) j in
      record {
        answered = ap (λ (o : Outcome). o.answer) o;
        holds = levelled s h l (omega (arith, j)) ∙ ap (λ (o : Outcome). o.machine) o;
        words = ap (λ (o : Outcome). set s level_word o.machine.level) o;
      }
