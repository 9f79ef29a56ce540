-- The theorem: every trap that an access answers has a cause that is responsible for it.
use Prim.Native.Nat.{ℕ}
use mathlib.Core.Path.{◌≡◌, sym, ◌∙◌, ap}
use Rattle.machine.specs.First.{first}
use Rattle.rules.specs.declared.Stop.{Stop}
use Rattle.rules.specs.Apply.{apply}
use Rattle.rules.specs.Step.{decide_register, decide, step}
use Rattle.rules.specs.Traps.{rules_of, stop_of}
use Rattle.rules.specs.Word.{decode}
use Rattle.std.specs.Prelude.{Ok}
use Rattle.state.specs.declared.View.{View}
use Rattle.state.specs.State.{view_of, verdict_of}
use Rattle.rules.proofs.Decided.{in_order}
use Rattle.causes.specs.Responsible.{opened, shown_stop, is_by, CausesAreResponsible}
use Rattle.causes.proofs.Rows.{the_row, locate, after}
use Rattle.causes.proofs.Stopped.{trapped, spared-said}
use Rattle.causes.proofs.Cases.{lowest-allowed, opens}

-- on a consistent record the decision is that about the register
of-register :
    (v : View) (w x : ℕ) → verdict_of v ≡ Ok tt → decide v w x ≡ decide_register v (decode w).register (decode w) x
unfolding decide
of-register v w x e = rw e

-- MODEL D10 to D13
pub responsible : CausesAreResponsible
unfolding step stop_of
responsible w x r t e =
    let i = decode w in
    let c = t.cause in
    let known = trapped r w x t e in
    let found = locate c t.target (rules_of (view_of r) i.register i.read) known.stops in
    let left = first found.0 Stop.Pass in
    record {
      row = the_row found.1;
      allowed = lowest-allowed (view_of r) i.register i.read known.defined;
      goes_on =
          λ h allowed.
          let o = opens r h c i.register i.read known.consistent allowed in
          let next = after c t.target o.rows found.1 in
          let still = o.consistent known.consistent in
          let v = view_of (opened h c w r) in
          let decided =
          of-register v w x still
          ∙ sym (in_order v i.register i x (o.defined ∙ known.defined) (sym next.0) (sym (o.permits i x))) in
          record {
            consistent = still;
            decided = decided;
            gone =
                ap (λ d. is_by c (shown_stop (apply d (opened h c w r)).answer)) decided
                ∙ spared-said (opened h c w r) c i.syndrome left (view_of r) i.register i x next.1;
          };
    }
