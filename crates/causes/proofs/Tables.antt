-- The three orders of traps with one control opened, row by row: which row is that of the control, and that no row behind it has
-- the same cause. `refl ⇊` is a row of another cause, with the same test.
use Prim.Native.Nat.{ℕ}
use mathlib.Core.Bool.{Bool, true, false, not, ◌&&◌, ◌||◌, and-false, true≢false}
use mathlib.Core.List.{List, [], ◌∷◌}
use mathlib.Core.Path.{◌≡◌, refl, ◌∙◌, ap}
use lib.Dec.{eqb}
use Rattle.answer.specs.declared.Cause.{Cause}
use Rattle.answer.specs.declared.Cause.TheVariants.{Pmuserenr, FineGrained, Mdcr2Tpm, Hpmn, Mdcr3Tpm, EnPm2, FgtEn2, Tpms, Nspb}
use Rattle.answer.specs.declared.Level.TheVariants.{El3}
use Rattle.answer.specs.Numbers.{cause_number}
use Rattle.fields.specs.Largest.{largest}
use Rattle.fields.specs.Set.{set, set_all}
use Rattle.machine.specs.declared.Machine.{Machine}
use Rattle.rules.specs.declared.Stop.{Stop}
use Rattle.rules.specs.Traps.{up_to, have_el3, halted_sdd, stop_at_el3, counter_rules, icntr_rules, pmsicr_rules, nspb_bars}
use Rattle.state.specs.declared.View.{View}
use Rattle.state.specs.State.{view_of}
use Rattle.store.specs.Store.{store, store_settings, store_features, store_mdcr2, store_mdcr3, store_pmuacr, store_sampling}
use Rattle.machine.proofs.Bools.{chosen, or_left, or_right}
use Rattle.causes.specs.Responsible.{is_by}
use Rattle.causes.proofs.Rows.{nil, ◌⨾◌, Opens, end, ◌⇣◌, here, ◌⇊◌}

-- a stop at EL3 is no trap by a control other than its own
el3 : (c d : Cause) (v : View) → eqb (cause_number c) (cause_number d) ≡ false → is_by c (stop_at_el3 v d) ≡ false
unfolding stop_at_el3
el3 c d v n = chosen (λ s. is_by c s ≡ false) (halted_sdd v) Stop.Undef (Stop.Trap El3 d) refl n

-- I1 applies no more than before, with EnPM2 1, and with TPM of EL3 0
enpm2-open : (x e t : Bool) → x && (not e || t) ≡ false → x && (false || t) ≡ false
enpm2-open false e t n = refl
enpm2-open true true t n = n
enpm2-open true false t n = absurd (true≢false n)

tpm-open : (x e t : Bool) → x && (not e || t) ≡ false → x && (not e || false) ≡ false
tpm-open false e t n = refl
tpm-open true true t n = refl
tpm-open true false t n = n

-- the cause is none of these: as a test, and what it says of each
abbrev pub among : Cause → List Cause → Bool
among c [] = false
among c (d ∷ rest) = eqb (cause_number c) (cause_number d) || among c rest

abbrev Others : Cause → List Cause → Type 0
Others c [] = Unit {0}
Others c (d ∷ rest) = (eqb (cause_number c) (cause_number d) ≡ false) × Others c rest

others : (c : Cause) (l : List Cause) → among c l ≡ false → Others c l
others c [] e = tt
others c (d ∷ rest) e =
    let own = eqb (cause_number c) (cause_number d) in
    (or_left own (among c rest) e, others c rest (or_right own (among c rest) e))

-- the record, and its view after a set command
module _ (r : Machine) where
  abbrev v : View
  v = view_of r

  -- what the rules of EL3 ask for beside their controls, and T1, I1 and N1
  abbrev at_el3 : Bool
  at_el3 = have_el3 v && up_to 2 v

  abbrev at_once : Bool
  at_once = at_el3 && halted_sdd v && v.settings.features.el3prio

  -- MODEL T1 to T6
  module _ (d t h : Bool) where
    pub disabled-off : Opens Pmuserenr (counter_rules v d t h) (counter_rules v false t h)
    unfolding counter_rules
    disabled-off = refl ⇊ here (simp and-false) (refl ⨾ refl ⨾ refl ⨾ el3 Pmuserenr Mdcr3Tpm v refl ⨾ nil)

    pub bit-off : Opens FineGrained (counter_rules v d t h) (counter_rules v d false h)
    unfolding counter_rules
    bit-off = refl ⇊ refl ⇊ here (simp and-false) (refl ⨾ refl ⨾ el3 FineGrained Mdcr3Tpm v refl ⨾ nil)

    pub tpm2-off : Opens Mdcr2Tpm (counter_rules v d t h) (counter_rules (view_of (set_all ((0x26, 0) ∷ []) r)) d t h)
    unfolding counter_rules stop_at_el3 view_of set set_all store store_settings store_features store_mdcr2 store_mdcr3
        store_pmuacr
        store_sampling largest
    tpm2-off = refl ⇊ refl ⇊ refl ⇊ here (simp and-false) (refl ⨾ el3 Mdcr2Tpm Mdcr3Tpm v refl ⨾ nil)

    pub hpmn-off : Opens Hpmn (counter_rules v d t h) (counter_rules v d t false)
    unfolding counter_rules
    hpmn-off = refl ⇊ refl ⇊ refl ⇊ refl ⇊ here refl (el3 Hpmn Mdcr3Tpm v refl ⨾ nil)

    pub tpm3-off : Opens Mdcr3Tpm (counter_rules v d t h) (counter_rules (view_of (set_all ((0x28, 0) ∷ []) r)) d t h)
    unfolding counter_rules view_of set set_all store store_settings store_features store_mdcr2 store_mdcr3 store_pmuacr
        store_sampling largest
    tpm3-off = (refl, λ n. and-false at_once) ⇣ refl ⇊ refl ⇊ refl ⇊ refl ⇊ here (and-false at_el3) nil

    -- no rule has another cause
    pub counter-none :
        (c : Cause) → among c (Pmuserenr ∷ FineGrained ∷ Mdcr2Tpm ∷ Hpmn ∷ Mdcr3Tpm ∷ []) ≡ false
        → Opens c (counter_rules v d t h) (counter_rules v d t h)
    unfolding counter_rules
    counter-none c n =
        let e = others c (Pmuserenr ∷ FineGrained ∷ Mdcr2Tpm ∷ Hpmn ∷ Mdcr3Tpm ∷ []) n in
        refl ⇊ e.0 ⇊ e.1.0 ⇊ e.1.1.0 ⇊ e.1.1.1.0 ⇊ el3 c Mdcr3Tpm v e.1.1.1.1.0 ⇊ end

  -- MODEL I1 to I6
  module _ (n : Bool) where
    pub fgten2-on : Opens FgtEn2 (icntr_rules v n) (icntr_rules (view_of (set_all ((0x2B, 1) ∷ []) r)) n)
    unfolding icntr_rules stop_at_el3 view_of set set_all store store_settings store_features store_mdcr2 store_mdcr3 store_pmuacr
        store_sampling largest
    fgten2-on =
        refl ⇊ here (simp and-false) (refl ⨾ refl ⨾ el3 FgtEn2 EnPm2 v refl ⨾ el3 FgtEn2 Mdcr3Tpm v refl ⨾ nil)

    pub icntr-bit-on : Opens FineGrained (icntr_rules v n) (icntr_rules v true)
    unfolding icntr_rules
    icntr-bit-on =
        refl ⇊ refl ⇊ here (simp and-false)
        (refl ⨾ el3 FineGrained EnPm2 v refl ⨾ el3 FineGrained Mdcr3Tpm v refl ⨾ nil)

    pub icntr-tpm2-off : Opens Mdcr2Tpm (icntr_rules v n) (icntr_rules (view_of (set_all ((0x26, 0) ∷ []) r)) n)
    unfolding icntr_rules stop_at_el3 view_of set set_all store store_settings store_features store_mdcr2 store_mdcr3 store_pmuacr
        store_sampling largest
    icntr-tpm2-off =
        refl ⇊ refl ⇊ refl ⇊ here (simp and-false) (el3 Mdcr2Tpm EnPm2 v refl ⨾ el3 Mdcr2Tpm Mdcr3Tpm v refl ⨾ nil)

    pub enpm2-on : Opens EnPm2 (icntr_rules v n) (icntr_rules (view_of (set_all ((0x29, 1) ∷ []) r)) n)
    unfolding icntr_rules stop_at_el3 view_of set set_all store store_settings store_features store_mdcr2 store_mdcr3 store_pmuacr
        store_sampling largest
    enpm2-on =
        (refl, enpm2-open at_once v.settings.mdcr3.enpm2 v.settings.mdcr3.tpm) ⇣ refl ⇊ refl ⇊ refl ⇊
        here (and-false at_el3) (el3 EnPm2 Mdcr3Tpm v refl ⨾ nil)

    pub icntr-tpm3-off : Opens Mdcr3Tpm (icntr_rules v n) (icntr_rules (view_of (set_all ((0x28, 0) ∷ []) r)) n)
    unfolding icntr_rules view_of set set_all store store_settings store_features store_mdcr2 store_mdcr3 store_pmuacr
        store_sampling
        largest
    icntr-tpm3-off =
        (refl, tpm-open at_once v.settings.mdcr3.enpm2 v.settings.mdcr3.tpm) ⇣ refl ⇊ refl ⇊ refl ⇊
        el3 Mdcr3Tpm EnPm2 v refl ⇊ here (and-false at_el3) nil

    pub icntr-none :
        (c : Cause) → among c (FgtEn2 ∷ FineGrained ∷ Mdcr2Tpm ∷ EnPm2 ∷ Mdcr3Tpm ∷ []) ≡ false
        → Opens c (icntr_rules v n) (icntr_rules v n)
    unfolding icntr_rules
    icntr-none c m =
        let e = others c (FgtEn2 ∷ FineGrained ∷ Mdcr2Tpm ∷ EnPm2 ∷ Mdcr3Tpm ∷ []) m in
        refl ⇊ e.0 ⇊ e.1.0 ⇊ e.1.1.0 ⇊ el3 c EnPm2 v e.1.1.1.0 ⇊ el3 c Mdcr3Tpm v e.1.1.1.1.0 ⇊ end

  -- MODEL N1 to N4
  module _ (t : Bool) where
    pub pmsicr-bit-off : Opens FineGrained (pmsicr_rules v t) (pmsicr_rules v false)
    unfolding pmsicr_rules
    pmsicr-bit-off = refl ⇊ here (simp and-false) (refl ⨾ el3 FineGrained Nspb v refl ⨾ nil)

    pub tpms-off : Opens Tpms (pmsicr_rules v t) (pmsicr_rules (view_of (set_all ((0x86, 0) ∷ []) r)) t)
    unfolding pmsicr_rules stop_at_el3 view_of set set_all store store_settings store_features store_mdcr2 store_mdcr3
        store_pmuacr
        store_sampling largest
    tpms-off = refl ⇊ refl ⇊ here (simp and-false) (el3 Tpms Nspb v refl ⨾ nil)

    -- with NSPB at a number that bars nothing
    pub nspb-open :
        (x : ℕ) → nspb_bars (view_of (store 0x88 x r)) ≡ false
        → Opens Nspb (pmsicr_rules v t) (pmsicr_rules (view_of (store 0x88 x r)) t)
    unfolding pmsicr_rules view_of store store_settings store_features store_mdcr2 store_mdcr3 store_pmuacr store_sampling
    nspb-open x e =
        (refl, λ n. ap (λ b. at_once && b) e ∙ and-false at_once) ⇣ refl ⇊ refl ⇊
        here (ap (λ b. at_el3 && b) e ∙ and-false at_el3) nil

    pub pmsicr-none :
        (c : Cause) → among c (FineGrained ∷ Tpms ∷ Nspb ∷ []) ≡ false
        → Opens c (pmsicr_rules v t) (pmsicr_rules v t)
    unfolding pmsicr_rules
    pmsicr-none c n =
        let e = others c (FineGrained ∷ Tpms ∷ Nspb ∷ []) n in
        refl ⇊ e.0 ⇊ e.1.0 ⇊ el3 c Nspb v e.1.1.0 ⇊ end
