-- What a request leaves, put together with what stayed with the caller: the outcome on the whole record.
use Rattle.std.proofs.Common.{◌≡◌, ℕ, true, false, sym, refl, ap, ◌∙◌, true≢false}
use Rattle.answer.specs.declared.Answer.{Answer}
use Rattle.answer.specs.Refused.{is_refused}
use Rattle.machine.proofs.Bools.{chosen}
use Rattle.machine.specs.declared.Machine.{Machine}
use Rattle.machine.specs.declared.Settings.{Settings}
use Rattle.machine.specs.Machine.{machine_of}
use Rattle.machine.specs.Outcome.{says}
use Rattle.pmsicr.specs.Pmsicr.{counted}
use Rattle.rules.specs.declared.external.Effect.{Effect}
use Rattle.rules.specs.declared.external.Effect.TheVariants.{Says, Enables, ReadOvs, ClearOvs, SetOvs, Count, Sample}
use Rattle.rules.specs.External.{enact}
use Rattle.store.specs.Store.{store, store_settings, store_features, store_mdcr2, store_mdcr3, store_pmuacr, store_sampling}
use Rattle.external_apply.specs.declared.Told.{Told}
use Rattle.external_apply.specs.InParts.{InParts}

-- the settings with these counter enables
abbrev pub with_cnten : ℕ → Settings → Settings
with_cnten e s =
    record {
      features = s.features;
      execution = s.execution;
      pmcr = s.pmcr;
      pmuserenr = s.pmuserenr;
      hcr = s.hcr;
      scr = s.scr;
      hdfgrtr = s.hdfgrtr;
      hdfgwtr = s.hdfgwtr;
      external = s.external;
      mdcr2 = s.mdcr2;
      mdcr3 = s.mdcr3;
      pmuacr = s.pmuacr;
      sampling = s.sampling;
      cnten = e;
    }

-- an effect changes the counter enables, and the values beside the event counters
pub rest-stays :
    (e : Effect) (r : Machine)
    → machine_of r.level (with_cnten (enact e r).machine.settings.cnten r.settings) r.events r.counters
    (enact e r).machine.values
    ≡ (enact e r).machine
unfolding store store_settings store_features store_mdcr2 store_mdcr3 store_pmuacr store_sampling
rest-stays (Says a) r = refl
rest-stays (Enables e) r = refl
rest-stays ReadOvs r = refl
rest-stays (ClearOvs mask) r = refl
rest-stays (SetOvs mask) r = refl
rest-stays Count r = refl
rest-stays (Sample draw) r = refl

-- where an effect is answered by a refusal, the record stays
pub refused-stays : (e : Effect) (r : Machine) → is_refused (enact e r).answer ≡ true → (enact e r).machine ≡ r
refused-stays (Says a) r t = refl
refused-stays (Enables e) r t = absurd (true≢false (sym t))
refused-stays ReadOvs r t = refl
refused-stays (ClearOvs mask) r t = absurd (true≢false (sym t))
refused-stays (SetOvs mask) r t = absurd (true≢false (sym t))
refused-stays Count r t = absurd (true≢false (sym t))
refused-stays (Sample draw) r t =
    let s = r.settings in
    let m = counted s.features.ernd s.sampling.rnd s.sampling.reload draw r.values.pmsicr in
    absurd
    (true≢false (sym t ∙ chosen (λ (a : Answer). is_refused a ≡ false) m.selected Answer.Sampled Answer.Ok refl refl))

pub whole :
    (e : Effect) (r : Machine) (t : Told) → InParts (enact e r) t
    → says t.answer (machine_of r.level (with_cnten t.cnten r.settings) r.events r.counters t.values)
    ≡ enact e r
whole e r t p =
    (λ i. says (p.answer i) (machine_of r.level (with_cnten (p.cnten i) r.settings) r.events r.counters
    (p.values i)))
    ∙ ap (says (enact e r).answer) (rest-stays e r)
