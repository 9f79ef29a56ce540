-- Records in which no number exceeds its largest: every command leaves such a record as one, and answers anything but refusal 10.
use Prim.Native.Nat.{ℕ}
use mathlib.Core.Bool.{Bool, true, false, cond, ◌||◌, ◌&&◌}
use mathlib.Core.Path.{◌≡◌, refl, sym}
use native.Mathlib.Omega.{arith}
use borrow.Author.Tests.{le-ltb, eqb-true}
use lib.Dec.{ltb, eqb}
use Rattle.answer.specs.declared.Answer.{Answer}
use Rattle.bits.specs.Bits.{bit}
use Rattle.bits.proofs.Choice.{either}
use Rattle.execute.specs.Execute.{tick_command}
use Rattle.fields.specs.Largest.{largest, exceeds, largest_level}
use Rattle.fields.specs.Set.{set, set_level}
use Rattle.store.specs.Store.{number, store, store_settings, store_features, store_mdcr2, store_mdcr3, store_pmuacr}
use Rattle.store.specs.Store.{store_sampling}
use Rattle.machine.proofs.Bools.{chosen, or-fails}
use Rattle.machine.specs.declared.Machine.{Machine}
use Rattle.machine.specs.declared.Outcome.{Outcome}
use Rattle.machine.specs.Machine.{with_level, with_ovs, with_pmsicr}
use Rattle.machine.specs.Outcome.{says}
use Rattle.pmsicr.specs.Pmsicr.{counted}
use Rattle.rules.proofs.Applied.{settings-stay, level-stays, ovs-stay-within}
use Rattle.rules.proofs.Flags.{raised_lt, raised-fits, lowered-fits}
use Rattle.rules.proofs.Shown.{shown-bit-31}
use Rattle.rules.specs.declared.external.Effect.{Effect}
use Rattle.rules.specs.declared.external.Effect.TheVariants.{Count}
use Rattle.rules.specs.declared.external.Reach.{Reach}
use Rattle.rules.specs.declared.external.Reach.TheVariants.{Other, Ignored, Error, Pmcntenset, Pmovsclr, Pmovsset}
use Rattle.rules.specs.Overflow.{carries}
use Rattle.rules.specs.External.{enables_shown, enables_written, ovs_counted, unless_refused_by, read_of, write_of, effect_of}
use Rattle.rules.specs.External.{enact}
use Rattle.rules.specs.External.{sample, external_read, external_write, tick, member}
use Rattle.rules.specs.Apply.{apply}
use Rattle.rules.specs.Step.{decide, step}
use Rattle.std.specs.Prelude.{Result, ⊤, Ok, Err}
use Rattle.answer.specs.declared.Refusal.{Refusal}
use Rattle.state.proofs.Consistent.{numbers_large}
use Rattle.state.specs.State.{view_of, too_large}
use Rattle.undo_claims.proofs.Refusal10.{is_refusal10, Passes, verdict-passes, step-spares}

-- an outcome that is not refusal 10, and whose record does not meet it
pub record Bounded (o : Outcome) : Type 0 where
  pub answer : is_refusal10 o.answer ≡ false
  pub machine : too_large (view_of o.machine) ≡ false

pub says-bounded : (a : Answer) (r : Machine) → is_refusal10 a ≡ false → too_large (view_of r) ≡ false → Bounded (says a r)
says-bounded a r p q = record { answer = p; machine = q }

-- a number after a store: the value, at most the largest of its field, or what was there
number-bounded :
    (k f v old : ℕ) → exceeds v f ≡ false → exceeds old k ≡ false → exceeds (number k f v old) k ≡ false
number-bounded k f v old h o = go (eqb f k) refl
  where
    go : (b : Bool) → eqb f k ≡ b → exceeds (cond b v old) k ≡ false
    go true e = rw (sym (eqb-true f k e)) h
    go false e = o

module _ (r : Machine) (b : too_large (view_of r) ≡ false) where
  numbers-bounded :
      (f v : ℕ) → exceeds v f ≡ false → numbers_large (view_of r) ≡ false → numbers_large (view_of (store f v r)) ≡ false
  unfolding view_of largest store store_settings store_features store_mdcr2 store_mdcr3 store_pmuacr store_sampling
  numbers-bounded f v h e =
      or-fails _ _ _ _
      (or-fails _ _ _ _
      (or-fails _ _ _ _
      (or-fails _ _ _ _
      (or-fails _ _ _ _ (number-bounded 0x0C f v _ h) (number-bounded 0x27 f v _ h))
      (number-bounded 0x32 f v _ h))
      (number-bounded 0x34 f v _ h))
      (number-bounded 0x88 f v _ h))
      (number-bounded 0x8B f v _ h)
      e

  store-bounded : (f v : ℕ) → exceeds v f ≡ false → too_large (view_of (store f v r)) ≡ false
  unfolding too_large view_of largest store store_settings store_features store_mdcr2 store_mdcr3 store_pmuacr store_sampling
  store-bounded f v h =
      let level = ltb largest_level r.level in
      let numbers = numbers_large (view_of r) in
      let numbers' = numbers_large (view_of (store f v r)) in
      let ovs = exceeds r.values.ovs 0x37 in
      let ovs' = exceeds (number 0x37 f v r.values.ovs) 0x37 in
      or-fails (numbers || ovs) (numbers' || ovs') level level
      (or-fails numbers numbers' ovs ovs' (numbers-bounded f v h) (number-bounded 0x37 f v r.values.ovs h))
      (λ e. e)
      b

  with-level : (l : ℕ) → ltb largest_level l ≡ false → too_large (view_of (with_level l r)) ≡ false
  unfolding too_large view_of
  with-level l h = search or-fails

  -- the counter enables after an external write
  enables-bounded : (x : ℕ) → too_large (view_of (store 0x34 (enables_written r.settings x) r)) ≡ false
  unfolding largest
  enables-bounded x =
      let e = enables_written r.settings x in
      let below = raised_lt (λ m. bit m (enables_shown r.settings x)) r.settings.cnten in
      store-bounded 0x34 e (le-ltb (largest 0x34) e (omega (arith, below)))

  -- overflow flags that stay within their field
  with-ovs : (o : ℕ) → (exceeds r.values.ovs 0x37 ≡ false → exceeds o 0x37 ≡ false) → too_large (view_of (with_ovs o r)) ≡ false
  unfolding too_large view_of
  with-ovs o h = search or-fails

  -- a stored field, and PMSICR, whatever it then holds
  stored-bounded : (f v x : ℕ) → exceeds v f ≡ false → too_large (view_of (with_pmsicr x (store f v r))) ≡ false
  unfolding too_large view_of store
  stored-bounded f v x h = store-bounded f v h

  pub set-bounded : (f v : ℕ) → Bounded (set f v r)
  unfolding set
  set-bounded f v = search (either Bounded, says-bounded, stored-bounded)

  pub level-bounded : (l : ℕ) → Bounded (set_level l r)
  unfolding set_level
  level-bounded l = search (either Bounded, says-bounded, with-level)

  pub step-bounded : (w x : ℕ) → Bounded (step w x r)
  unfolding step too_large view_of
  step-bounded w x =
      let d = decide (view_of r) w x in
      record {
        answer = step-spares r w x b;
        machine =
            rw (level-stays d r, settings-stay d r)
            (with-ovs (apply d r).machine.values.ovs (ovs-stay-within d r));
      }

  refused-bounded :
      (v : Result ⊤ Refusal) (e : Effect) → Passes v → Bounded (enact e r) → Bounded (enact (unless_refused_by v e) r)
  unfolding Passes
  refused-bounded (Ok _) e p q = q
  refused-bounded (Err n) e p q = says-bounded (Answer.Refused n) r p b

  read-of-bounded : (t : Reach) → Bounded (enact (read_of t r.settings) r)
  read-of-bounded Other = says-bounded _ r refl b
  read-of-bounded Ignored = says-bounded _ r refl b
  read-of-bounded Error = says-bounded _ r refl b
  read-of-bounded Pmcntenset = says-bounded _ r refl b
  read-of-bounded Pmovsclr = says-bounded _ r refl b
  read-of-bounded Pmovsset = says-bounded _ r refl b

  pub read-bounded : (offset : ℕ) → Bounded (external_read offset r)
  unfolding external_read effect_of view_of
  read-bounded offset = search (refused-bounded, verdict-passes, read-of-bounded)

  write-of-bounded : (t : Reach) (x : ℕ) → Bounded (enact (write_of t x r.settings) r)
  write-of-bounded Other x = says-bounded _ r refl b
  write-of-bounded Ignored x = says-bounded _ r refl b
  write-of-bounded Error x = says-bounded _ r refl b
  write-of-bounded Pmcntenset x = says-bounded _ _ refl (enables-bounded x)
  write-of-bounded Pmovsclr x = says-bounded _ _ refl (with-ovs _ (lowered-fits _ r.values.ovs))
  write-of-bounded Pmovsset x =
      says-bounded _ _ refl (with-ovs _ (λ e. raised-fits _ r.values.ovs e (shown-bit-31 false r.settings x)))

  count-bounded : Bounded (enact Count r)
  unfolding too_large view_of
  count-bounded =
      says-bounded _ _ refl
      (with-ovs (ovs_counted r.values.instructions r.values.ovs)
      (λ e. raised-fits (λ m. eqb m 32 && carries 64 r.values.instructions) r.values.ovs e refl))

  pub write-bounded : (offset x : ℕ) → Bounded (external_write offset x r)
  unfolding external_write effect_of view_of
  write-bounded offset x = search (refused-bounded, verdict-passes, write-of-bounded)

  tick-bounded : (prohibited : Bool) → Bounded (tick prohibited r)
  unfolding tick effect_of too_large view_of
  tick-bounded prohibited =
      search (refused-bounded, verdict-passes, either (λ e. Bounded (enact e r)), says-bounded, count-bounded)

  pub tick-command-bounded : (p : ℕ) → Bounded (tick_command p r)
  unfolding tick_command
  tick-command-bounded p = search (either Bounded, says-bounded, tick-bounded)

  sample-bounded : (draw : ℕ) → Bounded (sample draw r)
  unfolding too_large view_of
  sample-bounded draw =
      let s = r.settings in
      let m = counted s.features.ernd s.sampling.rnd s.sampling.reload draw r.values.pmsicr in
      says-bounded _ _ (chosen (λ a. is_refusal10 a ≡ false) m.selected Answer.Sampled Answer.Ok refl refl) b

  pub member-bounded : (draw : ℕ) → Bounded (member draw r)
  unfolding member effect_of view_of
  member-bounded draw =
      search (refused-bounded, verdict-passes, either (λ e. Bounded (enact e r)), says-bounded, sample-bounded)
