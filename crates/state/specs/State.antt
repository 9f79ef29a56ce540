-- The state refusals 10 to 17, as tests on what a decision may look at.
use Rattle.std.specs.Prelude.{ℕ, ◌^◌, Bool, false, not, ◌&&◌, ◌||◌, List, [], ◌∷◌, leb, ltb, eqb, Result, Ok, Err, ⊤}
use Rattle.answer.specs.declared.Refusal.{Refusal}
use Rattle.answer.specs.declared.Refusal.TheVariants.{
  FieldTooLarge,
  LevelUnavailable,
  El2Unimplemented,
  HpmnAboveN,
  HpmnZero,
  CounterTooWide,
  TgeAtEl1,
  FeatureMissing,
}
use Rattle.machine.specs.declared.Machine.{Machine}
use Rattle.machine.specs.declared.Settings.{Settings}
use Rattle.machine.specs.First.{first}
use Rattle.state.specs.declared.View.{View}
use Rattle.fields.specs.Largest.{largest, exceeds, largest_level}

-- MODEL R15: some counter is 2^32 or more
abbrev pub any_wide : List ℕ → Bool
any_wide [] = false
any_wide (x ∷ xs) = leb (2 ^ 32) x || any_wide xs

-- MODEL V5: what a decision may look at: the level, the settings and, of the counters, refusal 15's test alone, and of the
-- overflow flags refusal 10's alone
abbrev pub view_at : ℕ → Settings → List ℕ → ℕ → View
view_at l s counters ovs =
    record {
      level = l;
      settings = s;
      wide = not s.features.p5 && any_wide counters;
      ovslarge = exceeds ovs 0x37;
    }

-- MODEL V5: of a record
unfoldable pub view_of : Machine → View
view_of m = view_at m.level m.settings m.counters m.values.ovs

-- MODEL R10: some field, or the level, is above its largest. A field of one bit, an event number, a counter, PMSICR and the
-- word at 0x838 cannot be in a record by value: their types end there
unfoldable pub too_large : View → Bool
unfolding largest
too_large v =
    exceeds v.settings.features.n 0x0C
    || exceeds v.settings.mdcr2.hpmn 0x27
    || exceeds v.settings.pmuacr.p 0x32
    || exceeds v.settings.cnten 0x34
    || exceeds v.settings.mdcr3.nspb 0x88
    || exceeds v.settings.sampling.reload 0x8B
    || v.ovslarge
    || ltb largest_level v.level

-- MODEL R11: level 3 without EL3, or level 2 while EL2 is not enabled
abbrev pub level_unavailable : View → Bool
level_unavailable v =
    (eqb v.level 3 && not v.settings.features.el3) || (eqb v.level 2 && not v.settings.execution.el2enabled)

-- MODEL R12: EL2 is enabled and not implemented
abbrev pub el2_unimplemented : View → Bool
el2_unimplemented v = v.settings.execution.el2enabled && not v.settings.features.el2

-- MODEL R13: with EL2 implemented, HPMN is above N
abbrev pub hpmn_above_n : View → Bool
hpmn_above_n v = v.settings.features.el2 && ltb v.settings.features.n v.settings.mdcr2.hpmn

-- MODEL R14: with EL2 implemented, HPMN is 0 without HPMN0
abbrev pub hpmn_zero : View → Bool
hpmn_zero v =
    v.settings.features.el2 && eqb v.settings.mdcr2.hpmn 0 && not v.settings.features.hpmn0

-- MODEL R15: a counter has more than 32 bits, without p5. Both are in `wide`, as `view_of` makes it
abbrev pub counter_too_wide : View → Bool
counter_too_wide v = v.wide

-- MODEL R16: level 1 while EL2 is enabled and TGE is 1
abbrev pub tge_at_el1 : View → Bool
tge_at_el1 v = eqb v.level 1 && v.settings.execution.el2enabled && v.settings.hcr.tge

-- MODEL R17: p5, p9 or ICNTR is there without PMUv3, or p9 without p5
abbrev pub feature_missing : View → Bool
feature_missing v =
    let has = v.settings.features in
    ((has.p5 || has.p9 || has.icntr) && not has.pmuv3) || (has.p9 && not has.p5)

-- MODEL V3: the state test, a row for each refusal, lowest number first
unfoldable pub refusals : View → List (Bool × Result ⊤ Refusal)
refusals v =
    (too_large v, Err FieldTooLarge)
    ∷ (level_unavailable v, Err LevelUnavailable)
    ∷ (el2_unimplemented v, Err El2Unimplemented)
    ∷ (hpmn_above_n v, Err HpmnAboveN)
    ∷ (hpmn_zero v, Err HpmnZero)
    ∷ (counter_too_wide v, Err CounterTooWide)
    ∷ (tge_at_el1 v, Err TgeAtEl1)
    ∷ (feature_missing v, Err FeatureMissing)
    ∷ []

-- MODEL V3 and V4: the first row that applies; a record is consistent where none does
unfoldable pub verdict_of : View → Result ⊤ Refusal
verdict_of v = first (refusals v) (Ok tt)
