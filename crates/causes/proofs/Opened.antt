-- What opening a control leaves as it was: the record stays consistent, the access is as defined as before, and what is permitted
-- does the same. What is left to show of each control is what becomes of the order of traps.
use Prim.Native.Nat.{ℕ}
use mathlib.Core.Bool.{Bool, false, ◌||◌}
use mathlib.Core.Path.{◌≡◌, refl, ◌∙◌, ap}
use Rattle.answer.specs.declared.Cause.{Cause}
use Rattle.machine.proofs.Bools.{or-fails}
use Rattle.rules.specs.declared.Instruction.{Instruction}
use Rattle.rules.specs.declared.Register.{Register}
use Rattle.rules.specs.declared.Register.TheVariants.{Pmevcntr, Pmswinc, Pmicntr, Pmsicr, Other}
use Rattle.rules.specs.Permitted.{add_mask}
use Rattle.rules.specs.Step.{undefined_at_once, permitted}
use Rattle.rules.specs.Traps.{rules_of}
use Rattle.std.specs.Prelude.{Ok}
use Rattle.state.specs.declared.View.{View}
use Rattle.state.specs.State.{too_large, refusals, verdict_of}
use Rattle.causes.proofs.Rows.{Opens}

-- view v with EN, TPM and TPMS of MDCR_EL2, TPM and EnPM2 of MDCR_EL3, SCR_EL3 and the fine-grained bits of view w
abbrev pub with_controls_of : View → View → View
with_controls_of w v =
    let s = v.settings in
    let u = w.settings in
    record {
      level = v.level;
      settings =
          record {
            features = s.features;
            execution = s.execution;
            pmcr = s.pmcr;
            pmuserenr =
                record {
                  en = u.pmuserenr.en;
                  sw = s.pmuserenr.sw;
                  er = s.pmuserenr.er;
                  uen = s.pmuserenr.uen;
                  ir = s.pmuserenr.ir;
                };
            hcr = s.hcr;
            mdcr2 =
                record {
                  tpm = u.mdcr2.tpm;
                  hpme = s.mdcr2.hpme;
                  hlp = s.mdcr2.hlp;
                  tpms = u.mdcr2.tpms;
                  hpmn = s.mdcr2.hpmn;
                };
            mdcr3 = record { tpm = u.mdcr3.tpm; enpm2 = u.mdcr3.enpm2; nspb = s.mdcr3.nspb };
            scr = u.scr;
            hdfgrtr = u.hdfgrtr;
            hdfgwtr = u.hdfgwtr;
            pmuacr = s.pmuacr;
            sampling = s.sampling;
            cnten = s.cnten;
            external = s.external;
          };
      wide = v.wide;
      ovslarge = v.ovslarge;
    }

-- what is shown of opening the control of a cause for a register and a direction
pub record Opened (c : Cause) (g : Register) (read : Bool) (v w : View) : Type 0 where
  pub consistent : verdict_of v ≡ Ok tt → verdict_of w ≡ Ok tt
  pub defined : undefined_at_once w g read ≡ undefined_at_once v g read
  pub permits : (i : Instruction) (x : ℕ) → permitted w g i x ≡ permitted v g i x
  pub rows : Opens c (rules_of v g read) (rules_of w g read)

module _ (v w : View) where
  same-verdict : verdict_of (with_controls_of w v) ≡ verdict_of v
  unfolding verdict_of refusals too_large
  same-verdict = refl

  same-defined : (g : Register) (read : Bool) → undefined_at_once (with_controls_of w v) g read ≡ undefined_at_once v g read
  same-defined (Pmevcntr m) read = refl
  same-defined Pmswinc read = refl
  same-defined Pmicntr read = refl
  same-defined Pmsicr read = refl
  same-defined Other read = refl

  same-permitted : (g : Register) (i : Instruction) (x : ℕ) → permitted (with_controls_of w v) g i x ≡ permitted v g i x
  unfolding add_mask
  same-permitted (Pmevcntr m) i x = refl
  same-permitted Pmswinc i x = refl
  same-permitted Pmicntr i x = refl
  same-permitted Pmsicr i x = refl
  same-permitted Other i x = refl

-- where none but these has changed, the rows are what is left to show
pub by_rows :
    (c : Cause) (g : Register) (read : Bool) (v w : View) → w ≡ with_controls_of w v
    → Opens c (rules_of v g read) (rules_of w g read)
    → Opened c g read v w
by_rows c g read v w e o =
    record {
      consistent = λ n. ap verdict_of e ∙ same-verdict v w ∙ n;
      defined = ap (λ u. undefined_at_once u g read) e ∙ same-defined v w g read;
      permits = λ i x. ap (λ u. permitted u g i x) e ∙ same-permitted v w g i x;
      rows = o;
    }

-- HPMN and NSPB by other numbers that fit: refusal 10 does not apply, as it did not before
pub replaced :
    (n h p c b l o e h' b' : Bool) → n || h || p || c || b || l || o || e ≡ false → (h ≡ false → h' ≡ false)
    → (b ≡ false → b' ≡ false)
    → n || h' || p || c || b' || l || o || e ≡ false
replaced n h p c b l o e h' b' x y z =
    let same : (a : Bool) → a ≡ false → a ≡ false = λ a k. k in
    or-fails _ _ e e
    (or-fails _ _ o o
    (or-fails _ _ l l
    (or-fails _ _ b b'
    (or-fails _ _ c c (or-fails _ _ p p (or-fails n n h h' (same n) y) (same p)) (same c))
    z)
    (same l))
    (same o))
    (same e)
    x
