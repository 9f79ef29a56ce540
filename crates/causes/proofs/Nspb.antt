-- What opening NSPB changes: with bit 0 1, and bit 1 as NS, it bars no access, and the rest is as before.
use Prim.Native.Nat.{ℕ}
use mathlib.Core.Bool.{Bool, true, false}
use mathlib.Core.List.{[], ◌∷◌}
use mathlib.Core.Path.{◌≡◌, refl}
use Rattle.answer.specs.declared.Cause.TheVariants.{Nspb}
use lib.Dec.{ltb}
use Rattle.fields.specs.Largest.{largest, exceeds, largest_level}
use Rattle.fields.specs.Set.{set, set_all}
use Rattle.machine.specs.declared.Machine.{Machine}
use Rattle.rules.specs.declared.Register.TheVariants.{Pmsicr}
use Rattle.rules.specs.Traps.{stop_at_el3, nspb_bars, pmsicr_rules, rules_of}
use Rattle.state.proofs.Consistent.{passed}
use Rattle.std.specs.Prelude.{Ok}
use Rattle.state.specs.State.{view_of, too_large, refusals, verdict_of}
use Rattle.store.specs.Store.{store, store_settings, store_features, store_mdcr2, store_mdcr3, store_pmuacr, store_sampling}
use Rattle.causes.specs.Responsible.{nspb_open, opening}
use Rattle.causes.proofs.Opened.{Opened, replaced}
use Rattle.causes.proofs.Tables.{nspb-open}

module _ (r : Machine) (read : Bool) (consistent : verdict_of (view_of r) ≡ Ok tt) where
  -- with a number that fits
  still : (x : ℕ) → exceeds x 0x88 ≡ false → verdict_of (view_of (store 0x88 x r)) ≡ Ok tt
  unfolding verdict_of refusals too_large view_of store store_settings store_features store_mdcr2 store_mdcr3 store_pmuacr
      store_sampling
  still x fits =
      let v = view_of r in
      let p = passed v consistent in
      let hpmn = exceeds v.settings.mdcr2.hpmn 0x27 in
      let large =
      replaced (exceeds v.settings.features.n 0x0C) hpmn (exceeds v.settings.pmuacr.p 0x32)
      (exceeds v.settings.cnten 0x34) (exceeds v.settings.mdcr3.nspb 0x88)
      (exceeds v.settings.sampling.reload 0x8B) v.ovslarge (ltb largest_level v.level) hpmn (exceeds x 0x88) (p 0)
      (λ e. e) (λ e. fits) in
      rw (large, p 1, p 2, p 3, p 4, p 5, p 6, p 7)

  opened :
      (x : ℕ) → exceeds x 0x88 ≡ false → nspb_bars (view_of (store 0x88 x r)) ≡ false
      → Opened Nspb Pmsicr read (view_of r) (view_of (store 0x88 x r))
  unfolding view_of store store_settings store_features store_mdcr2 store_mdcr3 store_pmuacr store_sampling rules_of pmsicr_rules
      stop_at_el3
  opened x fits e =
      record {
        consistent = λ c. still x fits;
        defined = refl;
        permits = λ i y. refl;
        rows = nspb-open r _ x e;
      }

  -- by NS
  by-ns :
      (ns : Bool) → r.settings.scr.ns ≡ ns
      → Opened Nspb Pmsicr read (view_of r) (view_of (set_all ((0x88, nspb_open ns) ∷ []) r))
  unfolding set set_all largest view_of store store_settings store_features store_mdcr2 store_mdcr3 store_pmuacr store_sampling
  by-ns true e = opened 3 refl (rw e)
  by-ns false e = opened 1 refl (rw e)

  -- MODEL D9
  pub nspb-opened : Opened Nspb Pmsicr read (view_of r) (view_of (set_all (opening r.settings 0 Nspb Pmsicr read) r))
  nspb-opened = by-ns r.settings.scr.ns refl
