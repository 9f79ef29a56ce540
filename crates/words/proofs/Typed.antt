-- No call makes a word such that a record by value could not have it: the words that calls change are of other fields.
use Prim.Native.Nat.{ℕ, ◌-◌, ◌^◌, ◌<◌}
use mathlib.Core.Bool.{Bool, true, false, not, ◌&&◌, ◌||◌, or-false}
use mathlib.Core.List.{List, [], ◌∷◌}
use mathlib.Core.Path.{◌≡◌, refl, ◌∙◌, ap}
use native.Mathlib.Omega.{arith}
use borrow.Author.Tests.{eqb-false, le-ltb, not-true}
use lib.Dec.{eqb, ltb}
use lib.ListN.{length, set, length-set}
use lib.Seq.{get_or-set_same, get_or-set_other}
use Rattle.fields.specs.Largest.{is_flag}
use Rattle.machine.proofs.Bools.{and_left, and_right, or_left, or_right}
use Rattle.machine.specs.declared.Machine.{Machine}
use Rattle.store.specs.Store.{within}
use Rattle.words.specs.Words.{word, level_word, word_count}
use Rattle.words.specs.Untyped.{numbers, words_at, any_above, untyped}
use Rattle.words.specs.Put.{put_counters, put}
use Rattle.words.proofs.Puts.{put-long, word-stays}

-- word k is one of those that calls change, but for the level's
abbrev changes : ℕ → Bool
changes k = within 0x60 0x7E k || eqb k 0x34 || eqb k 0x37 || eqb k 0x7F || eqb k 0x8C || eqb k 0x8D

module _ (s : List ℕ) (h : length s ≡ word_count) (m : Machine) (l : length m.counters ≡ 31) where
  pub put-size : length (put m s) ≡ word_count
  unfolding put
  put-size = simp length-set (put-long s h m.counters l)

  kept : (k : ℕ) → changes k ≡ false → word (put m s) k ≡ word s k
  unfolding put
  kept k e =
      let v = m.values in
      let t = put_counters m.counters s in
      let t1 = set t 0x34 m.settings.cnten in
      let t2 = set t1 0x37 v.ovs in
      let t3 = set t2 0x7F v.instructions in
      let t4 = set t3 0x8C v.pmsicr in
      let e1 = within 0x60 0x7E k || eqb k 0x34 in
      let e2 = e1 || eqb k 0x37 in
      let e3 = e2 || eqb k 0x7F in
      let e4 = e3 || eqb k 0x8C in
      let f4 = or_left e4 (eqb k 0x8D) e in
      let f3 = or_left e3 (eqb k 0x8C) f4 in
      let f2 = or_left e2 (eqb k 0x7F) f3 in
      let f1 = or_left e1 (eqb k 0x37) f2 in
      get_or-set_other t4 0x8D k v.nvmem 0 (eqb-false k 0x8D (or_right e4 (eqb k 0x8D) e))
      ∙ get_or-set_other t3 0x8C k v.pmsicr 0 (eqb-false k 0x8C (or_right e3 (eqb k 0x8C) f4))
      ∙ get_or-set_other t2 0x7F k v.instructions 0 (eqb-false k 0x7F (or_right e2 (eqb k 0x7F) f3))
      ∙ get_or-set_other t1 0x37 k v.ovs 0 (eqb-false k 0x37 (or_right e1 (eqb k 0x37) f2))
      ∙ get_or-set_other t 0x34 k m.settings.cnten 0 (eqb-false k 0x34 (or_right (within 0x60 0x7E k) (eqb k 0x34) f1))
      ∙ word-stays s h m.counters l k (or_left (within 0x60 0x7E k) (eqb k 0x34) f1)

  -- no call changes a word with one of these numbers
  abbrev none_of : List ℕ → Bool
  none_of [] = true
  none_of (k ∷ ks) = not (changes k) && none_of ks

  words-kept : (ks : List ℕ) → none_of ks ≡ true → words_at ks (put m s) ≡ words_at ks s
  words-kept [] e = refl
  words-kept (k ∷ ks) e =
      let first = kept k (not-true (changes k) (and_left (not (changes k)) (none_of ks) e)) in
      let rest = words-kept ks (and_right (not (changes k)) (none_of ks) e) in
      λ i. first i ∷ rest i

  pub put_typed : untyped (put m s) ≡ untyped s
  unfolding untyped
  put_typed =
      let flags = words-kept (numbers is_flag 0x00 0x8E) refl in
      let events = words-kept (numbers (within 0x40 0x5E) 0x40 31) refl in
      let level = kept level_word refl in
      λ i. any_above 1 (flags i) || any_above (2 ^ 16 - 1) (events i) || ltb (2 ^ 8 - 1) (level i)

-- the level's word is none of these
abbrev not_level : List ℕ → Bool
not_level [] = true
not_level (k ∷ ks) = not (eqb k level_word) && not_level ks

words-besides : (s : List ℕ) (l : ℕ) (ks : List ℕ) → not_level ks ≡ true → words_at ks (set s level_word l) ≡ words_at ks s
words-besides s l [] e = refl
words-besides s l (k ∷ ks) e =
    let other = eqb-false k level_word (not-true (eqb k level_word) (and_left (not (eqb k level_word)) (not_level ks) e)) in
    let first : word (set s level_word l) k ≡ word s k = get_or-set_other s level_word k l 0 other in
    let rest = words-besides s l ks (and_right (not (eqb k level_word)) (not_level ks) e) in
    λ i. first i ∷ rest i

-- nor does a level below 256
pub level-typed :
    (s : List ℕ) → length s ≡ word_count → (l : ℕ) → l < 2 ^ 8 → untyped s ≡ false → untyped (set s level_word l) ≡ false
unfolding untyped
level-typed s h l j e =
    let low = or_left
    (any_above 1 (words_at (numbers is_flag 0x00 0x8E) s) || any_above (2 ^ 16 - 1) (words_at (numbers (within 0x40 0x5E) 0x40 31)
    s))
    (ltb (2 ^ 8 - 1) (word s level_word)) e in
    let flags = words-besides s l (numbers is_flag 0x00 0x8E) refl in
    let events = words-besides s l (numbers (within 0x40 0x5E) 0x40 31) refl in
    let level = ap (ltb (2 ^ 8 - 1)) (get_or-set_same s level_word l 0 (omega (arith, h))) ∙ le-ltb (2 ^ 8 - 1) l
    (omega (arith, j)) in
    (λ i. any_above 1 (flags i) || any_above (2 ^ 16 - 1) (events i) || level i) ∙ or-false _ ∙ low
