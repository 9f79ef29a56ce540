-- What putting HPMN above a counter changes: with a number up to N the record stays consistent, and the rest is as before. And N
-- allows m + 1.
use Prim.Native.Nat.{ℕ, ◌+◌, ◌<◌, ◌≤◌}
use mathlib.Core.Bool.{Bool, true, false, not, cond, ◌&&◌, and-false}
use mathlib.Core.Path.{◌≡◌, refl, sym, ◌∙◌, ap, subst}
use native.Mathlib.Omega.{arith}
use borrow.Author.Tests.{ltb-true, leb-true, leb-false, lt-ltb, le-ltb, le-leb, lt-leb, ne_eqb}
use lib.Dec.{leb, ltb, eqb}
use Rattle.answer.specs.declared.Cause.TheVariants.{Hpmn}
use Rattle.answer.specs.declared.Refusal.TheVariants.{ValueTooLarge}
use Rattle.fields.specs.Largest.{largest, exceeds}
use Rattle.fields.specs.Set.{set, set_all}
use Rattle.machine.proofs.Bools.{and_left, and_right, or_right}
use Rattle.machine.specs.declared.Machine.{Machine}
use Rattle.machine.specs.Outcome.{refused, done}
use Rattle.rules.specs.declared.Register.TheVariants.{Pmevcntr}
use Rattle.rules.specs.Step.{undefined_at_once}
use Rattle.rules.specs.Traps.{up_to, el2_enabled, inaccessible, disabled_target, stop_at_el3}
use Rattle.rules.specs.Traps.{counter_rules, pmevcntr_disabled, pmevcntr_bit, rules_of}
use Rattle.state.proofs.Consistent.{n-fits, passed}
use Rattle.std.specs.Prelude.{Ok}
use Rattle.state.specs.declared.View.{View}
use Rattle.state.specs.State.{view_of, too_large, refusals, verdict_of}
use Rattle.store.specs.Store.{store, store_settings, store_features, store_mdcr2, store_mdcr3, store_pmuacr, store_sampling}
use Rattle.causes.specs.Responsible.{opening, allows}
use Rattle.causes.proofs.Rows.{Opens}
use Rattle.causes.proofs.Opened.{Opened, replaced}
use Rattle.causes.proofs.Tables.{hpmn-off}

-- a counter that is not undefined at once is below N, and N allows m + 1
pub next-allowed :
    (v : View) (m : ℕ) (read : Bool) → undefined_at_once v (Pmevcntr m) read ≡ false → allows v (Pmevcntr m) (m + 1) ≡ true
next-allowed v m read defined =
    let n = v.settings.features.n in
    let below = leb-false n m (or_right (not v.settings.features.pmuv3) (leb n m) defined) in
    rw (lt-ltb m (m + 1) (omega arith)) (le-leb (m + 1) n (omega (arith, below)))

module _ (r : Machine) (m h : ℕ) (read : Bool)
    (consistent : verdict_of (view_of r) ≡ Ok tt) (allowed : allows (view_of r) (Pmevcntr m) h ≡ true) where
  abbrev v : View
  v = view_of r

  abbrev n : ℕ
  n = v.settings.features.n

  above : m < h
  above = ltb-true m h (and_left (ltb m h) (leb h n) allowed)

  within : h ≤ n
  within = leb-true h n (and_right (ltb m h) (leb h n) allowed)

  -- so the set command is not refused
  abbrev u : Machine
  u = store 0x27 h r

  fits : exceeds h 0x27 ≡ false
  unfolding largest
  fits = le-ltb 31 h (omega (arith, within, n-fits v consistent))

  is_set : set_all (opening r.settings h Hpmn (Pmevcntr m) read) r ≡ u
  unfolding set set_all largest
  is_set = ap (λ b. (cond b (refused ValueTooLarge r) (done u)).machine) fits

  -- and the record stays consistent: rows 0, 3 and 4 look at HPMN
  still : verdict_of (view_of u) ≡ Ok tt
  unfolding verdict_of refusals too_large view_of store store_settings store_features store_mdcr2 store_mdcr3 store_pmuacr
      store_sampling
  still =
      let p = passed v consistent in
      let large =
      replaced (exceeds n 0x0C) (exceeds v.settings.mdcr2.hpmn 0x27) _ _ (exceeds v.settings.mdcr3.nspb 0x88) _ _ _
      (exceeds h 0x27) (exceeds v.settings.mdcr3.nspb 0x88) (p 0) (λ e. fits) (λ e. e) in
      let at-most-n : ltb n h ≡ false = le-ltb n h within in
      let not-0 : eqb h 0 ≡ false = ne_eqb h 0 (λ e. omega (arith, e, above)) in
      rw (large, p 1, p 2, at-most-n, not-0, and-false v.settings.features.el2, p 5, p 6, p 7)

  -- and T5 does not apply
  reached : inaccessible (view_of u) m ≡ false
  unfolding view_of store store_settings store_features store_mdcr2
  reached =
      let limits = el2_enabled v && up_to 1 v in ap (λ b. limits && b) (lt-leb h m above) ∙ and-false limits

  -- the rows, by whether it does
  abbrev Order : Bool → Type 0
  Order b = Opens Hpmn (rules_of v (Pmevcntr m) read) (counter_rules v (pmevcntr_disabled v read) (pmevcntr_bit v read) b)

  opens : Opened Hpmn (Pmevcntr m) read v (view_of u)
  unfolding view_of store store_settings store_features store_mdcr2 store_mdcr3 store_pmuacr store_sampling rules_of counter_rules
      disabled_target stop_at_el3
  opens =
      record {
        consistent = λ e. still;
        defined = refl;
        permits = λ i x. refl;
        rows = subst Order (sym reached) (hpmn-off r _ _ _);
      }

  -- MODEL D4
  pub hpmn-opened : Opened Hpmn (Pmevcntr m) read v (view_of (set_all (opening r.settings h Hpmn (Pmevcntr m) read) r))
  hpmn-opened = subst (λ o. Opened Hpmn (Pmevcntr m) read v (view_of o)) (sym is_set) opens
