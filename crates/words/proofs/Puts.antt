-- The words after a call hold the record after it.
use Prim.Native.Nat.{ℕ, ◌+◌, ◌-◌, ◌%◌, ◌^◌, ◌<◌, ◌≤◌}
use mathlib.Core.Bool.{Bool, true, false, cond, ◌&&◌, ◌||◌}
use mathlib.Core.List.{List, ◌++◌, map}
use mathlib.Core.Path.{◌≡◌, refl, sym, ◌∙◌, ap}
use native.Mathlib.Omega.{arith}
use borrow.Author.Tests.{leb-false, eqb-false}
use lib.Dec.{leb, eqb, lit<}
use lib.ListN.{length, get_or, set, take, drop, length-append, length-take, length-drop, length-set, take-append-drop}
use lib.ListN.{get_or-append}
use native.Mathlib.Nat.{mod-eq_of_lt}
use lib.Seq.{get_or-set_same, get_or-set_other, drop-set-add, drop-set-lt, take-set-le, take-set-lt}
use lib.Seq.{get_or-take, get_or-drop, get_or-append-add, drop_at, drop-append-le, take-append-le, take_at, set-get_or}
use Rattle.fields.specs.Largest.{largest}
use Rattle.machine.proofs.Bools.{or_left, or_right}
use Rattle.machine.specs.declared.Machine.{Machine}
use Rattle.machine.specs.declared.Values.{Values}
use Rattle.machine.specs.Machine.{with_counters, with_values, with_level}
use Rattle.store.specs.Store.{within, store, store_settings, store_features, store_mdcr2, store_mdcr3, store_pmuacr}
use Rattle.store.specs.Store.{store_sampling}
use Rattle.words.specs.Words.{word, low, settings_of, values_of, counters_of, record_of, level_word, word_count}
use Rattle.words.specs.Put.{put_counters, put_values, put}
use Rattle.words.proofs.Stored.{Fits, field-set}

-- the number is an event counter's, or that of the level's word: no setting looks at these
abbrev apart : ℕ → Bool
apart k = within 0x60 0x7E k || eqb k level_word

-- the words without those
besides : (ℕ → ℕ) → ℕ → ℕ
besides w k = cond (apart k) 0 (w k)

settings-besides : (w : ℕ → ℕ) → settings_of (besides w) ≡ settings_of w
unfolding settings_of besides
settings-besides w = refl

settings-same :
    (t s : List ℕ) → ((k : ℕ) → apart k ≡ false → word t k ≡ word s k) → settings_of (word t) ≡ settings_of (word s)
unfolding besides
settings-same t s same =
    sym (settings-besides (word t)) ∙ ap settings_of (λ i k. go k (apart k) refl i) ∙ settings-besides (word s)
  where
    go : (k : ℕ) (b : Bool) → apart k ≡ b → cond b 0 (word t k) ≡ cond b 0 (word s k)
    go k true e = refl
    go k false e = same k e

-- the same event counters put
pub counters-stay : (s : List ℕ) → put_counters (counters_of s) s ≡ s
counters-stay s = ap (λ (l : List ℕ). take 0x60 s ++ l) (take-append-drop 31 (drop 0x60 s)) ∙ take-append-drop 0x60 s

-- one event counter put
pub counter-set : (s : List ℕ) (k v : ℕ) → k < 31 → set s (0x60 + k) v ≡ put_counters (set (counters_of s) k v) s
counter-set s k v j =
    let t = set s (0x60 + k) v in
    let from : drop 0x60 t ≡ set (drop 0x60 s) k v = drop-set-add 0x60 s k v in
    let below : take 0x60 t ≡ take 0x60 s = take-set-le 0x60 s (0x60 + k) v (omega arith) in
    let there : take 31 (drop 0x60 t) ≡ set (counters_of s) k v = ap (take 31) from ∙ take-set-lt 31 (drop 0x60 s) k v j in
    let above : drop 31 (drop 0x60 t) ≡ drop 31 (drop 0x60 s) = ap (drop 31) from ∙ drop-set-lt 31 (drop 0x60 s) k v j in
    sym (counters-stay t) ∙ (λ i. below i ++ (there i ++ above i))

module _ (s : List ℕ) (h : length s ≡ word_count) where
  front : length (take 0x60 s) ≡ 0x60
  front = length-take 0x60 s ∙ omega (arith, h)

  module _ (c : List ℕ) (e : length c ≡ 31) where
    pub put-long : length (put_counters c s) ≡ word_count
    put-long =
        length-append (take 0x60 s) (c ++ drop 31 (drop 0x60 s))
        ∙ omega (
          arith,
          h,
          front,
          e,
          length-append c (drop 31 (drop 0x60 s)),
          length-drop 31 (drop 0x60 s),
          length-drop 0x60 s,
        )

    below : (k : ℕ) → k < 0x60 → word (put_counters c s) k ≡ word s k
    below k j = get_or-append (take 0x60 s) (c ++ drop 31 (drop 0x60 s)) 0 k (omega (arith, front, j)) ∙ get_or-take 0x60 s k 0 j

    -- the word that is n places behind the counters
    behind : (n : ℕ) → word (put_counters c s) (0x60 + (31 + n)) ≡ word s (0x60 + (31 + n))
    behind n =
        ap (λ (k : ℕ). word (put_counters c s) (k + (31 + n))) (sym front)
        ∙ get_or-append-add (take 0x60 s) (c ++ drop 31 (drop 0x60 s)) (31 + n) 0
        ∙ ap (λ (k : ℕ). get_or (c ++ drop 31 (drop 0x60 s)) (k + n) 0) (sym e)
        ∙ get_or-append-add c (drop 31 (drop 0x60 s)) n 0
        ∙ get_or-drop 31 (drop 0x60 s) n 0
        ∙ get_or-drop 0x60 s (31 + n) 0

    pub word-stays : (k : ℕ) → within 0x60 0x7E k ≡ false → word (put_counters c s) k ≡ word s k
    word-stays k outside = go (leb 0x60 k) refl (leb k 0x7E) refl
      where
        go : (x : Bool) → leb 0x60 k ≡ x → (y : Bool) → leb k 0x7E ≡ y → word (put_counters c s) k ≡ word s k
        go false p y q = below k (leb-false 0x60 k p)
        go true p true q = let z : true ≡ false = sym (λ i. p i && q i) ∙ outside in cc
        go true p false q =
            let past : 0x7E < k = leb-false k 0x7E q in
            let at : k ≡ 0x60 + (31 + (k - 0x7F)) = omega (arith, past) in
            ap (word (put_counters c s)) at ∙ behind (k - 0x7F) ∙ ap (word s) (sym at)

    early : (r : List ℕ) → take 31 (drop 0x40 (take 0x60 s ++ r)) ≡ take 31 (drop 0x40 (take 0x60 s))
    early r =
        ap (take 31) (drop-append-le 0x40 (take 0x60 s) r (omega (arith, front)))
        ∙ take-append-le 31 (drop 0x40 (take 0x60 s)) r (omega (arith, front, length-drop 0x40 (take 0x60 s)))

    events-stay : take 31 (drop 0x40 (put_counters c s)) ≡ take 31 (drop 0x40 s)
    events-stay =
        early (c ++ drop 31 (drop 0x60 s)) ∙ sym (early (drop 0x60 s))
        ∙ ap (λ (l : List ℕ). take 31 (drop 0x40 l)) (take-append-drop 0x60 s)

    pub counted : record_of (put_counters c s) ≡ with_counters c (record_of s)
    unfolding record_of
    counted i =
        record {
          level = word-stays level_word refl i % 2 ^ 8;
          settings =
              settings-same (put_counters c s) s (λ k o. word-stays k (or_left (within 0x60 0x7E k) (eqb k level_word) o)) i;
          events = map low (events-stay i);
          counters =
              (ap (take 31) (drop_at (take 0x60 s) (c ++ drop 31 (drop 0x60 s)) 0x60 front)
              ∙ take_at c (drop 31 (drop 0x60 s)) 31 e) i;
          values =
              record {
                instructions = word-stays 0x7F refl i;
                ovs = word-stays 0x37 refl i;
                pmsicr = word-stays 0x8C refl i;
                nvmem = word-stays 0x8D refl i;
              };
        }

-- fields that hold a number, and no event number, hold any
pub fits-number : (f v : ℕ) → (largest f ≡ 1 → ⊥) → (0x40 ≤ f → f ≤ 0x5E → ⊥) → Fits f v
fits-number f v n o = record { flag = λ e. absurd (n e); event = λ p q. absurd (o p q) }

-- what calls change of a record: event counters, counter enables and the other values
abbrev pub changed : List ℕ → ℕ → Values → Machine → Machine
changed c e v r = store 0x34 e (with_values v (with_counters c r))

-- the fields that calls change, stored to one after another
module _ (t : List ℕ) (h : length t ≡ word_count) where
  one :
      (f v : ℕ) → f < level_word → (largest f ≡ 1 → ⊥) → (0x40 ≤ f → f ≤ 0x5E → ⊥)
      → record_of (set t f v) ≡ store f v (record_of t)
  one f v j n o = field-set t h f v j (fits-number f v n o)

-- stores to these fields, one after another, are those of all the values
at_once :
    (e : ℕ) (v : Values) (r : Machine)
    → store 0x8D v.nvmem
    (store 0x8C v.pmsicr (store 0x7F v.instructions (store 0x37 v.ovs (store 0x34 e r))))
    ≡ store 0x34 e (with_values v r)
unfolding store store_settings store_features store_mdcr2 store_mdcr3 store_pmuacr store_sampling
at_once e v r = refl

stored-all :
    (t : List ℕ) → length t ≡ word_count → (e : ℕ) (v : Values)
    → record_of (put_values v (set t 0x34 e)) ≡ store 0x34 e (with_values v (record_of t))
unfolding largest
stored-all t h e v =
    let t1 = set t 0x34 e in
    let h1 : length t1 ≡ word_count = length-set t 0x34 e ∙ h in
    let t2 = set t1 0x37 v.ovs in
    let h2 : length t2 ≡ word_count = length-set t1 0x37 v.ovs ∙ h1 in
    let t3 = set t2 0x7F v.instructions in
    let h3 : length t3 ≡ word_count = length-set t2 0x7F v.instructions ∙ h2 in
    let t4 = set t3 0x8C v.pmsicr in
    let h4 : length t4 ≡ word_count = length-set t3 0x8C v.pmsicr ∙ h3 in
    one t4 h4 0x8D v.nvmem (lit< tt) (λ z. omega (arith, z)) (λ p q. omega (arith, p, q))
    ∙ ap (store 0x8D v.nvmem)
    (one t3 h3 0x8C v.pmsicr (lit< tt) (λ z. omega (arith, z)) (λ p q. omega (arith, p, q))
    ∙ ap (store 0x8C v.pmsicr)
    (one t2 h2 0x7F v.instructions (lit< tt) (λ z. omega (arith, z)) (λ p q. omega (arith, p, q))
    ∙ ap (store 0x7F v.instructions)
    (one t1 h1 0x37 v.ovs (lit< tt) (λ z. omega (arith, z)) (λ p q. omega (arith, p, q))
    ∙ ap (store 0x37 v.ovs) (one t h 0x34 e (lit< tt) (λ z. omega (arith, z)) (λ p q. omega (arith, p, q))))))
    ∙ at_once e v (record_of t)

-- THE LAW: the words after a call hold the record after it
pub put_holds :
    (s : List ℕ) → length s ≡ word_count → (m : Machine) → length m.counters ≡ 31
    → changed m.counters m.settings.cnten m.values (record_of s) ≡ m
    → record_of (put m s) ≡ m
unfolding put
put_holds s h m l same =
    stored-all (put_counters m.counters s) (put-long s h m.counters l) m.settings.cnten m.values
    ∙ ap (λ (r : Machine). store 0x34 m.settings.cnten (with_values m.values r)) (counted s h m.counters l)
    ∙ same

-- words that hold these values already
values-stay : (s : List ℕ) → put_values (values_of (word s)) s ≡ s
values-stay s =
    ap (λ (l : List ℕ). set (set (set l 0x7F (word s 0x7F)) 0x8C (word s 0x8C)) 0x8D (word s 0x8D)) (set-get_or s 0x37 0)
    ∙ ap (λ (l : List ℕ). set (set l 0x8C (word s 0x8C)) 0x8D (word s 0x8D)) (set-get_or s 0x7F 0)
    ∙ ap (λ (l : List ℕ). set l 0x8D (word s 0x8D)) (set-get_or s 0x8C 0)
    ∙ set-get_or s 0x8D 0

module _ (s : List ℕ) (h : length s ≡ word_count) where
  -- a record that stays leaves the words as they were
  pub put-stays : put (record_of s) s ≡ s
  unfolding put record_of settings_of
  put-stays =
      ap (λ (t : List ℕ). put_values (values_of (word s)) (set t 0x34 (word s 0x34))) (counters-stay s)
      ∙ ap (put_values (values_of (word s))) (set-get_or s 0x34 0)
      ∙ values-stay s

  module _ (m : Machine) where
    -- where the counter enables stay, the call need not store them
    pub put-inside :
        length m.counters ≡ 31 → m.settings.cnten ≡ word s 0x34
        → put_values m.values (put_counters m.counters s) ≡ put m s
    unfolding put
    put-inside l e =
        let t = put_counters m.counters s in
        let same : set t 0x34 m.settings.cnten ≡ t =
        ap (set t 0x34) (e ∙ sym (word-stays s h m.counters l 0x34 refl)) ∙ set-get_or t 0x34 0 in
        ap (put_values m.values) (sym same)

    -- nor the event counters, where they stay
    pub put-outside :
        m.counters ≡ counters_of s → put_values m.values (set s 0x34 m.settings.cnten) ≡ put m s
    unfolding put
    put-outside e =
        ap (λ (t : List ℕ). put_values m.values (set t 0x34 m.settings.cnten))
        (sym (ap (λ (c : List ℕ). put_counters c s) e ∙ counters-stay s))

-- the level's word, which no field has
module _ (s : List ℕ) (h : length s ≡ word_count) (l : ℕ) (j : l < 2 ^ 8) where
  others : (k : ℕ) → (k ≡ level_word → ⊥) → word (set s level_word l) k ≡ word s k
  others k n = get_or-set_other s level_word k l 0 n

  pub levelled : record_of (set s level_word l) ≡ with_level l (record_of s)
  unfolding record_of
  levelled i =
      record {
        level =
            (ap (λ (n : ℕ). n % 2 ^ 8) (get_or-set_same s level_word l 0 (omega (arith, h)))
            ∙ mod-eq_of_lt {n = l} {m = 2 ^ 8} j) i;
        settings =
            settings-same (set s level_word l) s
            (λ k o. others k (eqb-false k level_word (or_right (within 0x60 0x7E k) (eqb k level_word) o))) i;
        events =
            map low ((ap (take 31) (drop-set-add 0x40 s 0x4E l) ∙ take-set-le 31 (drop 0x40 s) 0x4E l (omega arith)) i);
        counters = (ap (take 31) (drop-set-add 0x60 s 0x2E l) ∙ take-set-le 31 (drop 0x60 s) 0x2E l (omega arith)) i;
        values =
            record {
              instructions = others 0x7F (λ z. omega (arith, z)) i;
              ovs = others 0x37 (λ z. omega (arith, z)) i;
              pmsicr = others 0x8C (λ z. omega (arith, z)) i;
              nvmem = others 0x8D (λ z. omega (arith, z)) i;
            };
      }
