-- Words united bit by bit are above 2^k - 1 exactly where one of them is; so one test serves all words of a kind.
use Prim.Native.Nat.{ℕ, ◌+◌, ◌-◌, ◌^◌, ◌<◌, ◌≤◌}
use mathlib.Core.Bool.{Bool, true, false, ◌||◌, or-false, or_assoc}
use mathlib.Core.List.{List, [], ◌∷◌}
use mathlib.Core.Path.{◌≡◌, refl, sym, ◌∙◌, ap}
use native.Mathlib.Omega.{arith}
use borrow.Author.Tests.{lt-ltb, le-ltb, ltb-true, ltb-false}
use lib.Bits.{bit_or, or_lt, or_add_and, and_le_l, and_le_r}
use lib.Dec.{ltb}
use lib.ListN.{length, get_or, take, drop}
use lib.Pow.{pow_pos}
use Rattle.std.specs.List.{range_with_len}
use Rattle.fields.specs.Largest.{is_flag}
use Rattle.store.specs.Store.{within}
use Rattle.words.specs.Words.{level_word, word_count}
use Rattle.words.proofs.Run.{run}
use Rattle.words.specs.Untyped.{numbers, words_at, any_above, united, untyped}

module _ (k a b : ℕ) where
  left : 2 ^ k - 1 < a → ltb (2 ^ k - 1) (bit_or a b) ≡ true
  left h = lt-ltb (2 ^ k - 1) (bit_or a b) (omega (arith, or_add_and a b, and_le_r a b, h))

  right : 2 ^ k - 1 < b → ltb (2 ^ k - 1) (bit_or a b) ≡ true
  right h = lt-ltb (2 ^ k - 1) (bit_or a b) (omega (arith, or_add_and a b, and_le_l a b, h))

  neither : a ≤ 2 ^ k - 1 → b ≤ 2 ^ k - 1 → ltb (2 ^ k - 1) (bit_or a b) ≡ false
  neither h j =
      let p = pow_pos k in
      let q = or_lt k a b (omega (arith, p, h)) (omega (arith, p, j)) in
      le-ltb (2 ^ k - 1) (bit_or a b) (omega (arith, q))

  or_above : ltb (2 ^ k - 1) (bit_or a b) ≡ ltb (2 ^ k - 1) a || ltb (2 ^ k - 1) b
  or_above = go (ltb (2 ^ k - 1) a) refl (ltb (2 ^ k - 1) b) refl
    where
      go :
          (x : Bool) → ltb (2 ^ k - 1) a ≡ x → (y : Bool) → ltb (2 ^ k - 1) b ≡ y
          → ltb (2 ^ k - 1) (bit_or a b) ≡ x || y
      go true e y f = left (ltb-true _ _ e)
      go false e true f = right (ltb-true _ _ f)
      go false e false f = neither (ltb-false _ _ e) (ltb-false _ _ f)

pub united-above :
    (k acc : ℕ) (l : List ℕ) → ltb (2 ^ k - 1) (united acc l) ≡ ltb (2 ^ k - 1) acc || any_above (2 ^ k - 1) l
united-above k acc [] = sym (or-false (ltb (2 ^ k - 1) acc))
united-above k acc (x ∷ xs) =
    united-above k (bit_or acc x) xs
    ∙ ap (λ b. b || any_above (2 ^ k - 1) xs) (or_above k acc x)
    ∙ or_assoc (ltb (2 ^ k - 1) acc) (ltb (2 ^ k - 1) x) (any_above (2 ^ k - 1) xs)

module _ (s : List ℕ) (long : length s ≡ word_count) where
  -- a run of them more
  more :
      (a n : ℕ) → a + n ≤ word_count → {x y z : ℕ} → y ≡ united x (take n (drop a s)) → x ≡ z
      → y ≡ united z (words_at (range_with_len a n) s)
  more a n h {x = x} {z = z} e p =
      e ∙ ap (united x) (run s a n (omega (arith, long, h))) ∙ ap (λ x. united x (words_at (range_with_len a n) s)) p

  pub flags-united :
      {a b c d e f g h : ℕ}
      → a ≡ united 0 (take 12 (drop 0x00 s))
      → b ≡ united a (take 3 (drop 0x10 s))
      → c ≡ united b (take 7 (drop 0x20 s))
      → d ≡ united c (take 10 (drop 0x28 s))
      → e ≡ united (bit_or d (get_or s 0x33 0)) (take 2 (drop 0x35 s))
      → f ≡ united e (take 7 (drop 0x38 s))
      → g ≡ united f (take 8 (drop 0x80 s))
      → h ≡ united g (take 2 (drop 0x89 s))
      → h ≡ united 0 (words_at (numbers is_flag 0x00 0x8E) s)
  flags-united p q r t u v w x =
      let to-31 =
      more 0x28 10 (omega arith) t
      (more 0x20 7 (omega arith) r (more 0x10 3 (omega arith) q (more 0x00 12 (omega arith) p refl))) in
      let to-36 = more 0x35 2 (omega arith) u (ap (λ d. bit_or d (get_or s 0x33 0)) to-31) in
      more 0x89 2 (omega arith) x (more 0x80 8 (omega arith) w (more 0x38 7 (omega arith) v to-36))

  pub events-united : {e : ℕ} → e ≡ united 0 (take 31 (drop 0x40 s)) → e
      ≡ united 0 (words_at (numbers (within 0x40 0x5E) 0x40 31) s)
  events-united p = more 0x40 31 (omega arith) p refl

-- the test of the words of a kind, by the largest value 2^k - 1
tested :
    (s : List ℕ) (k : ℕ) (ks : List ℕ) {u : ℕ} → u ≡ united 0 (words_at ks s)
    → ltb (2 ^ k - 1) u ≡ any_above (2 ^ k - 1) (words_at ks s)
tested s k ks e =
    ap (ltb (2 ^ k - 1)) e ∙ united-above k 0 (words_at ks s)
    ∙ ap (λ b. b || any_above (2 ^ k - 1) (words_at ks s)) (le-ltb (2 ^ k - 1) 0 (omega arith))

-- the three tests
pub all-tests :
    (s : List ℕ) {f e : ℕ}
    → f ≡ united 0 (words_at (numbers is_flag 0x00 0x8E) s)
    → e ≡ united 0 (words_at (numbers (within 0x40 0x5E) 0x40 31) s)
    → ltb 1 f || ltb 0xFFFF e || ltb 0xFF (get_or s level_word 0) ≡ untyped s
unfolding untyped
all-tests s {f = f} {e = e} p q =
    let above : ltb 1 f ≡ any_above 1 (words_at (numbers is_flag 0x00 0x8E) s) = tested s 1 (numbers is_flag 0x00 0x8E) p in
    let past : ltb 0xFFFF e ≡ any_above 0xFFFF (words_at (numbers (within 0x40 0x5E) 0x40 31) s) =
    tested s 16 (numbers (within 0x40 0x5E) 0x40 31) q in
    (λ i. above i || past i || ltb 0xFF (get_or s level_word 0))
