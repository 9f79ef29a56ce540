-- What was kept of a command, put back into the words: they then hold the record with it put back.
use Prim.Native.Nat.{ℕ, ◌+◌, ◌-◌, ◌^◌, ◌<◌, ◌≤◌}
use mathlib.Core.Bool.{Bool, true, false, cond}
use mathlib.Core.List.{List}
use Rattle.std.proofs.Common.{◌⊎◌, inl, inr}
use mathlib.Core.Path.{◌≡◌, refl, sym, ◌∙◌, ap}
use native.Mathlib.Omega.{arith}
use borrow.Author.Tests.{ne_eqb, le-leb, lt-leb}
use lib.Dec.{eqb}
use lib.ListN.{length, set, length-set, length-take, length-drop, drop}
use Rattle.counters.specs.Decremented.{decremented}
use Rattle.machine.specs.declared.Settings.{Settings}
use Rattle.machine.specs.declared.Values.{Values}
use Rattle.machine.specs.Machine.{with_level}
use Rattle.rules.specs.Apply.{map_from}
use Rattle.rules.proofs.Places.{length-map_from}
use Rattle.store.specs.Store.{within}
use Rattle.store.specs.Store.{store, store_settings, store_features, store_mdcr2, store_mdcr3, store_pmuacr, store_sampling}
use Rattle.undo.specs.declared.Change.{Change}
use Rattle.undo.specs.declared.Undo.{Undo}
use Rattle.undo.specs.Undo.{increments, settings_before, counters_before, values_before, undone}
use Rattle.words.specs.Words.{word, settings_of, counters_of, events_of, values_of, record_of, level_word, word_count}
use Rattle.words.specs.Put.{put_counters, put_values, put}
use Rattle.words.proofs.Puts.{changed, put_holds, put-long, counters-stay, counter-set, levelled}
use Rattle.calls_fields.specs.Fields.{words_back}

-- as many event counters as before
before-long : (c : Change) (p5 : Bool) (e l : List ℕ) → length (counters_before c p5 e l) ≡ length l
before-long c p5 e l = go (eqb c.field increments) (within 0x60 0x7E c.field)
  where
    go :
        (x y : Bool)
        → length
        (cond x (map_from (decremented p5 e c.old) 0 l) (cond y (set l (c.field - 0x60) c.old) l))
        ≡ length l
    go true y = length-map_from (decremented p5 e c.old) 0 l
    go false true = length-set l (c.field - 0x60) c.old
    go false false = refl

-- the counter enables put back, as a setting
enables-before :
    (c : Change) (s : Settings) → settings_before c s ≡ store_settings 0x34 (cond (eqb c.field 0x34) c.old s.cnten) s
unfolding store_settings store_features store_mdcr2 store_mdcr3 store_pmuacr store_sampling
enables-before c s = go (eqb c.field 0x34)
  where
    go : (b : Bool) → cond b (store_settings 0x34 c.old s) s ≡ store_settings 0x34 (cond b c.old s.cnten) s
    go true = refl
    go false = refl

-- the event counters with what was kept put back, where it is one counter, and where it is none
module _ (s e : List ℕ) (c : Change) (p5 : Bool) where
  pub one-back :
      0x60 ≤ c.field → c.field ≤ 0x7E → set s c.field c.old ≡ put_counters (counters_before c p5 e (counters_of s)) s
  one-back low high =
      let at : 0x60 + (c.field - 0x60) ≡ c.field = omega arith in
      let here = counter-set s (c.field - 0x60) c.old (omega arith) in
      rw (ne_eqb c.field increments (λ z. omega (arith, z)), le-leb 0x60 c.field low, le-leb c.field 0x7E high) (rw at at here)

  pub none-back :
      (c.field ≡ increments → ⊥) → (c.field < 0x60) ⊎ (0x7E < c.field)
      → s ≡ put_counters (counters_before c p5 e (counters_of s)) s
  none-back other (inl low) =
      rw (ne_eqb c.field increments other, lt-leb 0x60 c.field low) (sym (counters-stay s))
  none-back other (inr high) =
      rw (ne_eqb c.field increments other, le-leb 0x60 c.field (omega arith), lt-leb c.field 0x7E high) (sym (counters-stay s))

module _ (s : List ℕ) (h : length s ≡ word_count) (u : Undo) (small : u.level < 2 ^ 8) where
  c : Change
  c = u.change

  e : ℕ
  e = cond (eqb c.field 0x34) c.old (word s 0x34)

  l : List ℕ
  l = counters_before c (record_of s).settings.features.p5 (events_of s) (counters_of s)

  v : Values
  v = values_before c u.ovs (values_of (word s))

  l-long : length l ≡ 31
  unfolding l
  l-long =
      before-long c (record_of s).settings.features.p5 (events_of s) (counters_of s)
      ∙ length-take 31 (drop 0x60 s) ∙ omega (arith, h, length-drop 0x60 s)

  -- the record, with the level that it had
  same : with_level u.level (changed l e v (record_of s)) ≡ undone u (record_of s)
  unfolding undone record_of settings_of store c e l v
  same i =
      record {
        level = u.level;
        settings = sym (enables-before u.change (settings_of (word s))) i;
        events = events_of s;
        counters = l;
        values = v;
      }

  stored : List ℕ
  stored = put_values v (set (put_counters l s) 0x34 e)

  there : record_of stored ≡ changed l e v (record_of s)
  unfolding stored put store store_settings
  there = put_holds s h (changed l e v (record_of s)) l-long refl

  stored-long : length stored ≡ word_count
  unfolding stored
  stored-long = simp length-set (put-long s h l l-long)

  pub put_back :
      (after : List ℕ)
      → after
      ≡ set
      (put_values (values_before u.change u.ovs (values_of (word s)))
      (set
      (put_counters
      (counters_before u.change (record_of s).settings.features.p5 (events_of s) (counters_of s)) s)
      0x34 (cond (eqb u.change.field 0x34) u.change.old (word s 0x34))))
      level_word u.level
      → (record_of after ≡ undone u (record_of s)) × (after ≡ words_back (undone u (record_of s)) s)
  unfolding stored c e l v put undone record_of settings_of store store_settings
  put_back after at = (
    ap record_of at ∙ levelled stored stored-long u.level small ∙ ap (with_level u.level) there ∙ same,
    at ∙ (λ i. set (put_values v (set (put_counters l s) 0x34 (same i).settings.cnten)) level_word u.level),
  )
