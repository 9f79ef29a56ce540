-- What a decision leaves, put into the words: they then hold the record that it leaves.
use Prim.Native.Nat.{ℕ}
use mathlib.Core.Bool.{Bool, false, cond}
use mathlib.Core.List.{List}
use mathlib.Core.Path.{◌≡◌, refl, sym, ◌∙◌, ap}
use native.Mathlib.Omega.{arith}
use lib.ListN.{length, length-take, length-drop, drop}
use Rattle.answer.specs.declared.Answer.{Answer}
use Rattle.answer.specs.Refused.{is_refused}
use Rattle.machine.proofs.Bools.{chosen}
use Rattle.machine.specs.declared.Machine.{Machine}
use Rattle.machine.specs.declared.Outcome.{Outcome}
use Rattle.machine.specs.declared.Values.{Values}
use Rattle.machine.specs.Machine.{with_counters, with_values}
use Rattle.rules.specs.declared.Decision.{Decision}
use Rattle.rules.specs.Apply.{apply}
use Rattle.rules.proofs.Applied.{rest-stays, length-stays}
use Rattle.store.specs.Store.{store, store_settings, store_features, store_mdcr2, store_mdcr3, store_pmuacr, store_sampling}
use Rattle.words.specs.Words.{word, settings_of, counters_of, record_of, word_count}
use Rattle.words.specs.Put.{put_counters, put_values, put}
use Rattle.words.specs.Call.{Called}
use Rattle.words.proofs.Puts.{changed, put_holds, put-stays, put-inside}

-- the counter enables that the record has already
same-enables : (c : List ℕ) (v : Values) (r : Machine) → changed c r.settings.cnten v r ≡ with_values v (with_counters c r)
unfolding store store_settings store_features store_mdcr2 store_mdcr3 store_pmuacr store_sampling
same-enables c v r = refl

module _ (s : List ℕ) (h : length s ≡ word_count) where
  long : length (counters_of s) ≡ 31
  long = length-take 31 (drop 0x60 s) ∙ omega (arith, h, length-drop 0x60 s)

  -- a record that stays leaves the words as they were
  pub stays : (o : Outcome) (a : Answer) → a ≡ o.answer → record_of s ≡ o.machine → Called o s a s
  stays o a e same =
      record {
        answered = e;
        holds = same;
        words =
            chosen (λ (l : List ℕ). s ≡ l) (is_refused o.answer) s (put o.machine s) refl
            (sym (put-stays s h) ∙ ap (λ (m : Machine). put m s) same);
      }

  module _ (d : Decision) where
    m : Machine
    m = (apply d (record_of s)).machine

    m-long : length m.counters ≡ 31
    unfolding m record_of
    m-long = length-stays d (record_of s) ∙ long

    m-enables : m.settings.cnten ≡ word s 0x34
    unfolding m record_of settings_of
    m-enables = ap (λ (r : Machine). r.settings.cnten) (rest-stays d (record_of s))

    m-changed : changed m.counters m.settings.cnten m.values (record_of s) ≡ m
    unfolding m record_of settings_of
    m-changed =
        ap (λ (e : ℕ). changed m.counters e m.values (record_of s)) m-enables
        ∙ same-enables m.counters m.values (record_of s)
        ∙ sym (rest-stays d (record_of s))

    -- what a decision leaves, stored
    pub made :
        (a : Answer) (c : List ℕ) (v : Values) (after : List ℕ)
        → is_refused (apply d (record_of s)).answer ≡ false
        → a ≡ (apply d (record_of s)).answer
        → c ≡ (apply d (record_of s)).machine.counters
        → v ≡ (apply d (record_of s)).machine.values
        → after ≡ put_values v (put_counters c s)
        → Called (apply d (record_of s)) s a after
    unfolding m
    made a c v after not-refused ea ec ev put-at =
        let there : after ≡ put (apply d (record_of s)).machine s =
        put-at ∙ (λ i. put_values (ev i) (put_counters (ec i) s)) ∙ put-inside s h m m-long m-enables in
        record {
          answered = ea;
          holds = ap record_of there ∙ put_holds s h m m-long m-changed;
          words = there ∙ sym (ap (λ (b : Bool). cond b s (put m s)) not-refused);
        }
