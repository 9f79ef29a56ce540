-- What is kept of a level command, an external write, a tick or a member takes it back; and a command that is refused leaves the
-- record as it was.
use Prim.Native.Nat.{ℕ}
use mathlib.Core.Bool.{Bool, true, false, cond, not, ◌&&◌, true≢false}
use mathlib.Core.Path.{◌≡◌, refl, sym, ◌∙◌}
use lib.Dec.{ltb, eqb}
use Rattle.answer.specs.declared.Answer.{Answer}
use Rattle.answer.specs.declared.Refusal.TheVariants.{UnknownField, ValueTooLarge, LevelTooLarge}
use Rattle.answer.specs.Refused.{is_refused}
use Rattle.bits.specs.Bits.{bit}
use Rattle.fields.specs.Largest.{is_field, exceeds}
use Rattle.fields.specs.Set.{pmsicr_after, set, set_level}
use Rattle.undo_list.proofs.Noted.{Stays}
use Rattle.machine.proofs.Bools.{chosen}
use Rattle.machine.specs.declared.Machine.{Machine}
use Rattle.machine.specs.declared.Outcome.{Outcome}
use Rattle.machine.specs.Machine.{with_level, with_pmsicr}
use Rattle.machine.specs.Outcome.{refused, done}
use Rattle.pmsicr.specs.Pmsicr.{counted}
use Rattle.rules.specs.declared.Decision.{Decision}
use Rattle.rules.specs.declared.Decision.TheVariants.{Says, Read, Write, Add}
use Rattle.rules.specs.declared.Instruction.{Instruction}
use Rattle.rules.specs.declared.external.Effect.{Effect}
use Rattle.rules.specs.declared.external.Effect.TheVariants as E'
use Rattle.rules.specs.declared.external.Request.TheVariants as Q'
use Rattle.rules.specs.declared.external.Reach.{Reach}
use Rattle.rules.specs.declared.external.Reach.TheVariants as R'
use Rattle.rules.specs.Apply.{apply}
use Rattle.rules.specs.External.{effect_of, reach, write_of, tick_of, member_of, unless_refused_by, judge, enact}
use Rattle.rules.specs.External.{read_of, external_read, external_write, tick, member}
use Rattle.rules.specs.Step.{decide_decoded, step_decoded}
use Rattle.std.specs.Prelude.{Result, ⊤, Ok, Err}
use Rattle.answer.specs.declared.Refusal.{Refusal}
use Rattle.state.specs.State.{view_of, verdict_of}
use Rattle.store.specs.Store.{store, store_settings, store_features, store_mdcr2, store_mdcr3, store_pmuacr, store_sampling}
use Rattle.undo.specs.Undo.{held, undo_of, undone}
use Rattle.execute.specs.Execute.{tick_command}

module _ (r : Machine) where
  -- the outcome is taken back by a field and what it holds, with the level and the overflow flags
  abbrev pub Back : ℕ → ℕ → Outcome → Type 0
  Back f x o = undone (undo_of (held f x) r) o.machine ≡ r

  pub level-back : (l : ℕ) → Back 0xFF 0 (set_level l r)
  unfolding undone set_level
  level-back l = chosen (Back 0xFF 0) (ltb 3 l) _ _ refl refl

  -- an effect, unless the record is refused
  verdict-back :
      (f x : ℕ) (v : Result ⊤ Refusal) (e : Effect) → Back f x (enact (E'.Says Answer.Ok) r) → Back f x (enact e r)
      → Back f x (enact (unless_refused_by v e) r)
  verdict-back f x (Ok _) e s b = b
  verdict-back f x (Err n) e s b = s

  same_back : Back 0x34 r.settings.cnten (enact (E'.Says Answer.Ok) r)
  unfolding undone store_settings store_features store_mdcr2 store_mdcr3 store_pmuacr store_sampling
  same_back = refl

  write-of-back : (t : Reach) (x : ℕ) → Back 0x34 r.settings.cnten (enact (write_of t x r.settings) r)
  unfolding undone store store_settings store_features store_mdcr2 store_mdcr3 store_pmuacr store_sampling
  write-of-back R'.Other x = refl
  write-of-back R'.Ignored x = refl
  write-of-back R'.Error x = refl
  write-of-back R'.Pmcntenset x = refl
  write-of-back R'.Pmovsclr x = refl
  write-of-back R'.Pmovsset x = refl

  pub write-back : (offset x : ℕ) → Back 0x34 r.settings.cnten (external_write offset x r)
  unfolding external_write effect_of view_of
  write-back offset x =
      verdict-back 0x34 r.settings.cnten (verdict_of (view_of r)) _ same_back
      (write-of-back (reach true offset r.settings) x)

  counts-back : (b : Bool) → Back 0x7F r.values.instructions (enact (cond b E'.Count (E'.Says Answer.Ok)) r)
  unfolding undone
  counts-back true = refl
  counts-back false = refl

  -- a tick command, whose flag may be refused
  pub tick-back :
      (p : ℕ) → Back 0x7F r.values.instructions (tick_command p r)
  unfolding undone tick effect_of view_of tick_command
  tick-back p =
      chosen (Back 0x7F r.values.instructions) (ltb 1 p) _ _ refl
      (verdict-back 0x7F r.values.instructions (verdict_of (view_of r)) (tick_of (eqb p 1) r.settings) refl
      (counts-back (r.settings.features.icntr && bit 32 r.settings.cnten && not (eqb p 1))))

  samples-back : (b : Bool) (d : ℕ) → Back 0x8C r.values.pmsicr (enact (cond b (E'.Sample d) (E'.Says Answer.Ok)) r)
  unfolding undone
  samples-back true d = refl
  samples-back false d = refl

  pub member_back : (d : ℕ) → Back 0x8C r.values.pmsicr (member d r)
  unfolding undone member effect_of view_of
  member_back d =
      verdict-back 0x8C r.values.pmsicr (verdict_of (view_of r)) (member_of d r.settings) refl
      (samples-back (r.settings.features.spe && r.settings.sampling.profiling) d)

  -- an answer that is no refusal
  no-refusal : {A : Type 0} → false ≡ true → A
  no-refusal e = absurd (true≢false (sym e))

  pub set-stays : (f v : ℕ) → Stays r (set f v r)
  unfolding set
  set-stays f v =
      let stored = done (with_pmsicr (pmsicr_after f v r) (store f v r)) in
      let unlessLarge = cond (exceeds v f) (refused ValueTooLarge r) stored in
      chosen (Stays r) (not (is_field f)) (refused UnknownField r) unlessLarge (λ e. refl)
      (chosen (Stays r) (exceeds v f) (refused ValueTooLarge r) stored (λ e. refl) no-refusal)

  pub level-stays : (l : ℕ) → Stays r (set_level l r)
  unfolding set_level
  level-stays l = chosen (Stays r) (ltb 3 l) (refused LevelTooLarge r) (done (with_level l r)) (λ e. refl) no-refusal

  decision-stays : (d : Decision) → Stays r (apply d r)
  unfolding apply
  decision-stays (Says a) = λ e. refl
  decision-stays (Read p rt) = λ e. refl
  decision-stays (Write p x) = no-refusal
  decision-stays (Add mask) = no-refusal

  pub step_stays : (i : Instruction) (x : ℕ) → Stays r (step_decoded i x r)
  step_stays i x = decision-stays (decide_decoded (view_of r) i x)

  effect-stays : (e : Effect) → Stays r (enact e r)
  effect-stays (E'.Says a) = λ e. refl
  effect-stays (E'.Enables x) = no-refusal
  effect-stays E'.ReadOvs = λ e. refl
  effect-stays (E'.ClearOvs mask) = no-refusal
  effect-stays (E'.SetOvs mask) = no-refusal
  effect-stays E'.Count = no-refusal
  effect-stays (E'.Sample d) =
      let s = r.settings in
      let m = counted s.features.ernd s.sampling.rnd s.sampling.reload d r.values.pmsicr in
      λ e. no-refusal (sym (chosen (λ a. is_refused a ≡ false) m.selected Answer.Sampled Answer.Ok refl refl) ∙ e)

  -- an external read changes nothing
  verdict-same :
      (v : Result ⊤ Refusal) (e : Effect) → (enact e r).machine ≡ r → (enact (unless_refused_by v e) r).machine ≡ r
  verdict-same (Ok _) e s = s
  verdict-same (Err n) e s = refl

  read-of-same : (t : Reach) → (enact (read_of t r.settings) r).machine ≡ r
  read-of-same R'.Other = refl
  read-of-same R'.Ignored = refl
  read-of-same R'.Error = refl
  read-of-same R'.Pmcntenset = refl
  read-of-same R'.Pmovsclr = refl
  read-of-same R'.Pmovsset = refl

  pub read_same : (offset : ℕ) → (external_read offset r).machine ≡ r
  unfolding external_read effect_of view_of
  read_same offset =
      verdict-same (verdict_of (view_of r)) (read_of (reach false offset r.settings) r.settings)
      (read-of-same (reach false offset r.settings))

  pub write-stays : (offset x : ℕ) → Stays r (external_write offset x r)
  unfolding external_write
  write-stays offset x = effect-stays (judge (view_of r) (Q'.Write offset x))

  pub tick-stays : (p : ℕ) → Stays r (tick_command p r)
  unfolding tick tick_command
  tick-stays p =
      chosen (Stays r) (ltb 1 p) (refused ValueTooLarge r) (tick (eqb p 1) r) (λ e. refl)
      (effect-stays (judge (view_of r) (Q'.Tick (eqb p 1))))

  pub member-stays : (d : ℕ) → Stays r (member d r)
  unfolding member
  member-stays d = effect-stays (judge (view_of r) (Q'.Member d))
