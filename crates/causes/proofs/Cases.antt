-- Each cause for each register: what opening its control changes, from the tables of Tables.antt and, for HPMN, from Hpmn.antt.
use Prim.Native.Nat.{ℕ}
use mathlib.Core.Bool.{Bool, true, false}
use mathlib.Core.Path.{◌≡◌, refl}
use Rattle.answer.specs.declared.Cause.{Cause}
use Rattle.answer.specs.declared.Cause.TheVariants.{Pmuserenr, FineGrained, Mdcr2Tpm, Hpmn, Mdcr3Tpm, EnPm2, FgtEn2, Tpms, Nspb}
use Rattle.fields.specs.Largest.{largest}
use Rattle.fields.specs.Set.{set, set_all}
use Rattle.machine.specs.declared.Machine.{Machine}
use Rattle.rules.specs.declared.Register.{Register}
use Rattle.rules.specs.declared.Register.TheVariants.{Pmevcntr, Pmswinc, Pmicntr, Pmsicr, Other}
use Rattle.rules.specs.Step.{undefined_at_once}
use Rattle.rules.specs.Traps.{disabled_target, stop_at_el3, counter_rules, icntr_rules, pmsicr_rules, pmicntr_bit, pmsicr_bit}
use Rattle.rules.specs.Traps.{rules_of}
use Rattle.std.specs.Prelude.{Ok}
use Rattle.state.specs.declared.View.{View}
use Rattle.state.specs.State.{view_of, verdict_of}
use Rattle.store.specs.Store.{store, store_settings, store_features, store_mdcr2, store_mdcr3, store_pmuacr, store_sampling}
use Rattle.causes.specs.Responsible.{opening, allows, lowest}
use Rattle.causes.proofs.Rows.{end}
use Rattle.causes.proofs.Opened.{Opened, by_rows}
use Rattle.causes.proofs.Tables.{disabled-off, bit-off, tpm2-off, hpmn-off, tpm3-off, counter-none}
use Rattle.causes.proofs.Tables.{fgten2-on, icntr-bit-on, icntr-tpm2-off, enpm2-on, icntr-tpm3-off, icntr-none}
use Rattle.causes.proofs.Tables.{pmsicr-bit-off, tpms-off, pmsicr-none}
use Rattle.causes.proofs.Hpmn.{next-allowed, hpmn-opened}
use Rattle.causes.proofs.Nspb.{nspb-opened}

-- N allows the lowest number above m
pub lowest-allowed :
    (v : View) (g : Register) (read : Bool) → undefined_at_once v g read ≡ false → allows v g (lowest g) ≡ true
lowest-allowed v (Pmevcntr m) read n = next-allowed v m read n
lowest-allowed v Pmswinc read n = refl
lowest-allowed v Pmicntr read n = refl
lowest-allowed v Pmsicr read n = refl
lowest-allowed v Other read n = refl

-- of a consistent record, with HPMN put to a number that is allowed
pub opens :
    (r : Machine) (h : ℕ) (c : Cause) (g : Register) (read : Bool) → verdict_of (view_of r) ≡ Ok tt
    → allows (view_of r) g h ≡ true
    → Opened c g read (view_of r) (view_of (set_all (opening r.settings h c g read) r))
unfolding
    rules_of counter_rules icntr_rules pmsicr_rules disabled_target stop_at_el3
    view_of set set_all store store_settings store_features store_mdcr2 store_mdcr3 store_pmuacr store_sampling largest
opens r h Pmuserenr (Pmevcntr m) true e n = by_rows _ _ _ _ _ refl (disabled-off r _ _ _)
opens r h Pmuserenr (Pmevcntr m) false e n = by_rows _ _ _ _ _ refl (disabled-off r _ _ _)
opens r h Pmuserenr Pmswinc read e n = by_rows _ _ _ _ _ refl (disabled-off r _ _ _)
opens r h Pmuserenr Pmicntr read e n = by_rows _ _ _ _ _ refl (icntr-none r (pmicntr_bit (view_of r) read) Pmuserenr refl)
opens r h Pmuserenr Pmsicr read e n = by_rows _ _ _ _ _ refl (pmsicr-none r (pmsicr_bit (view_of r) read) Pmuserenr refl)
opens r h Pmuserenr Other read e n = by_rows _ _ _ _ _ refl end
opens r h FineGrained (Pmevcntr m) true e n = by_rows _ _ _ _ _ refl (bit-off r _ _ _)
opens r h FineGrained (Pmevcntr m) false e n = by_rows _ _ _ _ _ refl (bit-off r _ _ _)
opens r h FineGrained Pmswinc read e n = by_rows _ _ _ _ _ refl (bit-off r _ _ _)
opens r h FineGrained Pmicntr true e n = by_rows _ _ _ _ _ refl (icntr-bit-on r (pmicntr_bit (view_of r) true))
opens r h FineGrained Pmicntr false e n = by_rows _ _ _ _ _ refl (icntr-bit-on r (pmicntr_bit (view_of r) false))
opens r h FineGrained Pmsicr true e n = by_rows _ _ _ _ _ refl (pmsicr-bit-off r (pmsicr_bit (view_of r) true))
opens r h FineGrained Pmsicr false e n = by_rows _ _ _ _ _ refl (pmsicr-bit-off r (pmsicr_bit (view_of r) false))
opens r h FineGrained Other read e n = by_rows _ _ _ _ _ refl end
opens r h Mdcr2Tpm (Pmevcntr m) read e n = by_rows _ _ _ _ _ refl (tpm2-off r _ _ _)
opens r h Mdcr2Tpm Pmswinc read e n = by_rows _ _ _ _ _ refl (tpm2-off r _ _ _)
opens r h Mdcr2Tpm Pmicntr read e n = by_rows _ _ _ _ _ refl (icntr-tpm2-off r (pmicntr_bit (view_of r) read))
opens r h Mdcr2Tpm Pmsicr read e n = by_rows _ _ _ _ _ refl (pmsicr-none r (pmsicr_bit (view_of r) read) Mdcr2Tpm refl)
opens r h Mdcr2Tpm Other read e n = by_rows _ _ _ _ _ refl end
opens r h Hpmn (Pmevcntr m) read e n = hpmn-opened r m h read e n
opens r h Hpmn Pmswinc read e n = by_rows _ _ _ _ _ refl (hpmn-off r _ _ _)
opens r h Hpmn Pmicntr read e n = by_rows _ _ _ _ _ refl (icntr-none r (pmicntr_bit (view_of r) read) Hpmn refl)
opens r h Hpmn Pmsicr read e n = by_rows _ _ _ _ _ refl (pmsicr-none r (pmsicr_bit (view_of r) read) Hpmn refl)
opens r h Hpmn Other read e n = by_rows _ _ _ _ _ refl end
opens r h Mdcr3Tpm (Pmevcntr m) read e n = by_rows _ _ _ _ _ refl (tpm3-off r _ _ _)
opens r h Mdcr3Tpm Pmswinc read e n = by_rows _ _ _ _ _ refl (tpm3-off r _ _ _)
opens r h Mdcr3Tpm Pmicntr read e n = by_rows _ _ _ _ _ refl (icntr-tpm3-off r (pmicntr_bit (view_of r) read))
opens r h Mdcr3Tpm Pmsicr read e n = by_rows _ _ _ _ _ refl (pmsicr-none r (pmsicr_bit (view_of r) read) Mdcr3Tpm refl)
opens r h Mdcr3Tpm Other read e n = by_rows _ _ _ _ _ refl end
opens r h EnPm2 (Pmevcntr m) read e n = by_rows _ _ _ _ _ refl (counter-none r _ _ _ EnPm2 refl)
opens r h EnPm2 Pmswinc read e n = by_rows _ _ _ _ _ refl (counter-none r _ _ _ EnPm2 refl)
opens r h EnPm2 Pmicntr read e n = by_rows _ _ _ _ _ refl (enpm2-on r (pmicntr_bit (view_of r) read))
opens r h EnPm2 Pmsicr read e n = by_rows _ _ _ _ _ refl (pmsicr-none r (pmsicr_bit (view_of r) read) EnPm2 refl)
opens r h EnPm2 Other read e n = by_rows _ _ _ _ _ refl end
opens r h FgtEn2 (Pmevcntr m) read e n = by_rows _ _ _ _ _ refl (counter-none r _ _ _ FgtEn2 refl)
opens r h FgtEn2 Pmswinc read e n = by_rows _ _ _ _ _ refl (counter-none r _ _ _ FgtEn2 refl)
opens r h FgtEn2 Pmicntr read e n = by_rows _ _ _ _ _ refl (fgten2-on r (pmicntr_bit (view_of r) read))
opens r h FgtEn2 Pmsicr read e n = by_rows _ _ _ _ _ refl (pmsicr-none r (pmsicr_bit (view_of r) read) FgtEn2 refl)
opens r h FgtEn2 Other read e n = by_rows _ _ _ _ _ refl end
opens r h Tpms (Pmevcntr m) read e n = by_rows _ _ _ _ _ refl (counter-none r _ _ _ Tpms refl)
opens r h Tpms Pmswinc read e n = by_rows _ _ _ _ _ refl (counter-none r _ _ _ Tpms refl)
opens r h Tpms Pmicntr read e n = by_rows _ _ _ _ _ refl (icntr-none r (pmicntr_bit (view_of r) read) Tpms refl)
opens r h Tpms Pmsicr read e n = by_rows _ _ _ _ _ refl (tpms-off r (pmsicr_bit (view_of r) read))
opens r h Tpms Other read e n = by_rows _ _ _ _ _ refl end
opens r h Nspb (Pmevcntr m) read e n = by_rows _ _ _ _ _ refl (counter-none r _ _ _ Nspb refl)
opens r h Nspb Pmswinc read e n = by_rows _ _ _ _ _ refl (counter-none r _ _ _ Nspb refl)
opens r h Nspb Pmicntr read e n = by_rows _ _ _ _ _ refl (icntr-none r (pmicntr_bit (view_of r) read) Nspb refl)
opens r h Nspb Pmsicr read e n = nspb-opened r read e
opens r h Nspb Other read e n = by_rows _ _ _ _ _ refl end
