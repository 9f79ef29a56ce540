-- What an effect leaves, put into the words: they then hold the record that it leaves.
use Prim.Native.Nat.{ℕ}
use mathlib.Core.Bool.{Bool, true, false, cond}
use mathlib.Core.List.{List}
use mathlib.Core.Path.{◌≡◌, refl, sym, ◌∙◌, ap}
use native.Mathlib.Omega.{arith}
use lib.ListN.{length, set, length-take, length-drop, drop}
use Rattle.answer.specs.Refused.{is_refused}
use Rattle.external_apply.specs.declared.Told.{Told}
use Rattle.external_apply.specs.InParts.{InParts}
use Rattle.external_apply.proofs.Whole.{with_cnten, rest-stays, refused-stays}
use Rattle.machine.specs.declared.Machine.{Machine}
use Rattle.machine.specs.declared.Values.{Values}
use Rattle.machine.specs.Machine.{machine_of}
use Rattle.rules.specs.declared.external.Effect.{Effect}
use Rattle.rules.specs.External.{enact}
use Rattle.store.specs.Store.{store, store_settings, store_features, store_mdcr2, store_mdcr3, store_pmuacr, store_sampling}
use Rattle.words.specs.Words.{counters_of, record_of, word_count}
use Rattle.words.specs.Put.{put_values, put}
use Rattle.words.specs.Call.{Called}
use Rattle.words.proofs.Puts.{changed, put_holds, put-stays, put-outside}

-- the counters that the record has already
same-counters :
    (e : ℕ) (v : Values) (r : Machine)
    → changed r.counters e v r ≡ machine_of r.level (with_cnten e r.settings) r.events r.counters v
unfolding store store_settings store_features store_mdcr2 store_mdcr3 store_pmuacr store_sampling
same-counters e v r = refl

module _ (s : List ℕ) (h : length s ≡ word_count) (e : Effect) where
  m : Machine
  m = (enact e (record_of s)).machine

  m-counters : m.counters ≡ counters_of s
  unfolding m record_of
  m-counters = sym (ap (λ (r : Machine). r.counters) (rest-stays e (record_of s)))

  m-long : length m.counters ≡ 31
  m-long = ap length m-counters ∙ length-take 31 (drop 0x60 s) ∙ omega (arith, h, length-drop 0x60 s)

  m-changed : changed m.counters m.settings.cnten m.values (record_of s) ≡ m
  unfolding m record_of
  m-changed =
      ap (λ (c : List ℕ). changed c m.settings.cnten m.values (record_of s)) m-counters
      ∙ same-counters m.settings.cnten m.values (record_of s)
      ∙ rest-stays e (record_of s)

  -- a refusal leaves the words
  refused-words : (b : Bool) → (b ≡ true → m ≡ record_of s) → put m s ≡ cond b s (put m s)
  refused-words true stays = ap (λ (m : Machine). put m s) (stays refl) ∙ put-stays s h
  refused-words false stays = refl

  -- what an effect leaves, stored
  pub made :
      (t : Told) (after : List ℕ) → InParts (enact e (record_of s)) t → after ≡ put_values t.values (set s 0x34 t.cnten)
      → Called (enact e (record_of s)) s t.answer after
  unfolding m
  made t after p put-at =
      let there : after ≡ put (enact e (record_of s)).machine s =
      put-at ∙ (λ i. put_values (p.values i) (set s 0x34 (p.cnten i))) ∙ put-outside s h m m-counters in
      record {
        answered = p.answer;
        holds = ap record_of there ∙ put_holds s h m m-long m-changed;
        words = there ∙ refused-words (is_refused (enact e (record_of s)).answer) (refused-stays e (record_of s));
      }
