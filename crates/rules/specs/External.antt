-- External accesses, ticks and members. What each offset's register shows, sets and clears; how far an access at an offset gets,
-- where each test stands once; what a read, a write, a tick or a member is then to do, in one place; and the doing.
use Rattle.std.specs.Prelude.{ℕ, Bool, true, false, cond, not, ◌&&◌, ◌||◌, List, [], ◌∷◌, ltb, eqb, Result, Ok, Err, ⊤}
use Rattle.answer.specs.declared.Answer.{Answer}
use Rattle.machine.specs.declared.Machine.{Machine}
use Rattle.machine.specs.declared.Outcome.{Outcome}
use Rattle.machine.specs.declared.Settings.{Settings}
use Rattle.state.specs.declared.View.{View}
use Rattle.answer.specs.declared.Refusal.{Refusal}
use Rattle.machine.specs.First.{first}
use Rattle.machine.specs.Machine.{with_instructions, with_ovs, with_pmsicr}
use Rattle.machine.specs.Outcome.{says, done}
use Rattle.pmsicr.specs.Pmsicr.{counted}
use Rattle.store.specs.Store.{store}
use Rattle.state.specs.State.{view_of, verdict_of}
use Rattle.rules.specs.declared.external.Request.{Request}
use Rattle.rules.specs.declared.external.Request.TheVariants.{Read, Write, Tick, Member}
use Rattle.rules.specs.declared.external.Effect.{Effect}
use Rattle.rules.specs.declared.external.Effect.TheVariants.{Says, Enables, ReadOvs, ClearOvs, SetOvs, Count, Sample}
use Rattle.rules.specs.declared.external.Reach.{Reach}
use Rattle.rules.specs.declared.external.Reach.TheVariants.{Other, Ignored, Error, Pmcntenset, Pmovsclr, Pmovsset}
use Rattle.bits.specs.Bits.{bit, from_bits}
use Rattle.rules.specs.Overflow.{plus_one, carries, flag_bits, raised, lowered}

-- MODEL E2: the external interface is there
abbrev pub present : Settings → Bool
present s = s.features.ext32 || s.features.ext64

-- MODEL E3: the access gets an error
abbrev pub unreachable : Settings → Bool
unreachable s =
    s.external.doublelock || not s.external.powered || s.external.oslock || not s.external.allowed

-- MODEL E5: the width of the registers
abbrev pub external_width : Settings → ℕ
external_width s = cond (s.features.ext64 || s.features.p9 || s.features.icntr) 64 32

-- MODEL E6: bit m is in reach, of a register that has or has not the cycle counter's bit, 31
abbrev pub shown : Bool → Settings → ℕ → Bool
shown cycles s m =
    ((ltb m 31 && ltb m s.features.n) || (eqb m 31 && cycles) || (eqb m 32 && s.features.icntr)) && ltb m (external_width s)

-- MODEL E6: the bits of x that are in reach
unfoldable pub shown_of : Bool → Settings → ℕ → ℕ
shown_of cycles s x = from_bits flag_bits (λ m. shown cycles s m && bit m x)

-- MODEL E6: those of PMCNTENSET_EL0, which has bit 31
abbrev pub enables_shown : Settings → ℕ → ℕ
enables_shown s x = shown_of true s x

-- MODEL E6: those of PMOVSCLR_EL0 and PMOVSSET_EL0, which have not
abbrev pub ovs_shown : Settings → ℕ → ℕ
ovs_shown s x = shown_of false s x

-- MODEL E8: the counter enables after a write of x
abbrev pub enables_written : Settings → ℕ → ℕ
enables_written s x = raised (λ m. bit m (enables_shown s x)) s.cnten

-- MODEL E2, E3 and E4: what keeps an access from the register at its offset, the same for every register
abbrev pub obstacles : Bool → Settings → List (Bool × Reach)
obstacles writes s =
    (not (present s), Ignored)
    ∷ (unreachable s, Error)
    ∷ (writes && s.external.softwarelock, Ignored)
    ∷ []

-- MODEL E1: the offsets that have a register, and how far an access gets there
abbrev pub offsets : Bool → ℕ → Settings → List (Bool × Reach)
offsets writes offset s =
    (eqb offset 0xC00, first (obstacles writes s) Pmcntenset)
    ∷ (eqb offset 0xC80, first (obstacles writes s) Pmovsclr)
    ∷ (eqb offset 0xCC0, first (obstacles writes s) Pmovsset)
    ∷ []

-- MODEL E1: how far an access at an offset gets
unfoldable pub reach : Bool → ℕ → Settings → Reach
reach writes offset s = first (offsets writes offset s) Other

-- MODEL E1, E2, E3, E7 and E10: what a read does that gets so far
abbrev pub read_of : Reach → Settings → Effect
read_of Other s = Says Answer.Other
read_of Ignored s = Says (Answer.Value 0)
read_of Error s = Says Answer.Error
read_of Pmcntenset s = Says (Answer.Value (enables_shown s s.cnten))
read_of Pmovsclr s = ReadOvs
read_of Pmovsset s = ReadOvs

-- MODEL E1 to E4, E8, E11 and E12: what a write of x does that gets so far
abbrev pub write_of : Reach → ℕ → Settings → Effect
write_of Other x s = Says Answer.Other
write_of Ignored x s = Says Answer.Ok
write_of Error x s = Says Answer.Error
write_of Pmcntenset x s = Enables (enables_written s x)
write_of Pmovsclr x s = ClearOvs (ovs_shown s x)
write_of Pmovsset x s = SetOvs (ovs_shown s x)

-- MODEL K1: what a tick does
abbrev pub tick_of : Bool → Settings → Effect
tick_of prohibited s = cond (s.features.icntr && bit 32 s.cnten && not prohibited) Count (Says Answer.Ok)

-- MODEL J5: what a member of the sample population does: it counts with SPE while profiling is enabled
abbrev pub member_of : ℕ → Settings → Effect
member_of draw s = cond (s.features.spe && s.sampling.profiling) (Sample draw) (Says Answer.Ok)

-- MODEL E9: the effect of a request on a consistent record; no counter, no overflow flag and no PMSICR is looked at
unfoldable pub effect_of : Request → Settings → Effect
effect_of (Read offset) s = read_of (reach false offset s) s
effect_of (Write offset x) s = write_of (reach true offset s) x s
effect_of (Tick prohibited) s = tick_of prohibited s
effect_of (Member draw) s = member_of draw s

-- MODEL V3: a refused record comes before all else
abbrev pub unless_refused_by : Result ⊤ Refusal → Effect → Effect
unless_refused_by (Ok _) e = e
unless_refused_by (Err n) e = Says (Answer.Refused n)

-- MODEL E9 and V3: the effect of a request on any record
abbrev pub judge : View → Request → Effect
judge v q = unless_refused_by (verdict_of v) (effect_of q v.settings)

-- MODEL K3: the overflow flags after the instruction counter, which held y, went up
abbrev pub ovs_counted : ℕ → ℕ → ℕ
ovs_counted y ovs = raised (λ m. eqb m 32 && carries 64 y) ovs

-- MODEL J6 to J9: a member that counts, and what it answers
abbrev pub sample : ℕ → Machine → Outcome
sample draw r =
    let s = r.settings in
    let m = counted s.features.ernd s.sampling.rnd s.sampling.reload draw r.values.pmsicr in
    says (cond m.selected Answer.Sampled Answer.Ok) (with_pmsicr m.pmsicr r)

-- MODEL E8, E10, E11, E12, K1 to K3 and J6 to J9: what an effect answers and does to the record; the counter enables are field 34
abbrev pub enact : Effect → Machine → Outcome
enact (Says a) r = says a r
enact (Enables e) r = done (store 0x34 e r)
enact ReadOvs r = says (Answer.Value (ovs_shown r.settings r.values.ovs)) r
enact (ClearOvs mask) r = done (with_ovs (lowered (λ m. bit m mask) r.values.ovs) r)
enact (SetOvs mask) r = done (with_ovs (raised (λ m. bit m mask) r.values.ovs) r)
enact Count r =
    let v = r.values in
    done (with_ovs (ovs_counted v.instructions v.ovs) (with_instructions (plus_one 64 v.instructions) r))
enact (Sample draw) r = sample draw r

-- MODEL E7 and E10: the external read at an offset
unfoldable pub external_read : ℕ → Machine → Outcome
external_read offset r = enact (judge (view_of r) (Read offset)) r

-- MODEL E8, E11 and E12: the external write of x at an offset
unfoldable pub external_write : ℕ → ℕ → Machine → Outcome
external_write offset x r = enact (judge (view_of r) (Write offset x)) r

-- MODEL K1 to K3: the tick, while counting is prohibited or not
unfoldable pub tick : Bool → Machine → Outcome
tick prohibited r = enact (judge (view_of r) (Tick prohibited)) r

-- MODEL J5 to J9: a member of the sample population, with a draw
unfoldable pub member : ℕ → Machine → Outcome
member draw r = enact (judge (view_of r) (Member draw)) r
