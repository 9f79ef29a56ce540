-- Permitted accesses, as far as they can be decided without a counter: what reads 0, what ignores a write, where an access of
-- PMSICR goes, and which bits of PMSWINC count.
use Rattle.std.specs.Prelude.{ℕ, Bool, false, cond, not, ◌&&◌, ◌||◌, leb, eqb}
use Rattle.answer.specs.declared.Answer.{Answer}
use Rattle.bits.specs.Bits.{bit, from_bits}
use Rattle.state.specs.declared.View.{View}
use Rattle.rules.specs.declared.Decision.{Decision}
use Rattle.rules.specs.declared.Decision.TheVariants.{Says, Read, Write, Add}
use Rattle.rules.specs.declared.Instruction.{Instruction}
use Rattle.rules.specs.declared.Place.{Place}
use Rattle.rules.specs.declared.Place.TheVariants.{Counter, Instructions, Interval, Nvmem}
use Rattle.rules.specs.Word.{written}
use Rattle.rules.specs.Ranges.{counter_enabled}
use Rattle.rules.specs.Traps.{at_el0, el2_enabled, inaccessible}

-- MODEL G2 and G4 to G7: a permitted access of a place. Where it is denied, it reads 0 and ignores writes; where it is
-- read-only, it ignores writes
unfoldable pub place_access : Bool → Bool → Place → Instruction → ℕ → Decision
place_access isDenied isReadOnly place i x =
    cond i.read
    (cond isDenied (Says (Answer.Mrs 0 i.rt)) (Read place i.rt))
    (cond (isDenied || isReadOnly) (Says Answer.Ok) (Write place (written i x)))

-- MODEL G3: PMUACR binds the event counters at EL0 with p9 and UEN 1
abbrev pub pmuacr_binds : View → Bool
pmuacr_binds v = at_el0 v && v.settings.features.p9 && v.settings.pmuserenr.uen

-- MODEL G4: event counter m is denied by its P bit
abbrev pub denied : View → ℕ → Bool
denied v m = pmuacr_binds v && not (bit m v.settings.pmuacr.p)

-- MODEL G5: event counters are read-only by ER
abbrev pub read_only : View → Bool
read_only v = pmuacr_binds v && v.settings.pmuserenr.er

-- MODEL G2, G4 and G5: a permitted access of PMEVCNTR<m>
abbrev pub pmevcntr_access : View → ℕ → Instruction → ℕ → Decision
pmevcntr_access v m i x = place_access (denied v m) (read_only v) (Counter m) i x

-- MODEL G6: the instruction counter is denied by F0
abbrev pub denied_f0 : View → Bool
denied_f0 v = at_el0 v && not v.settings.pmuacr.f0

-- MODEL G6: the instruction counter is read-only by IR
abbrev pub read_only_ir : View → Bool
read_only_ir v = at_el0 v && v.settings.pmuserenr.ir

-- MODEL G2 and G6: a permitted access of PMICNTR
abbrev pub pmicntr_access : View → Instruction → ℕ → Decision
pmicntr_access v i x = place_access (denied_f0 v) (read_only_ir v) Instructions i x

-- MODEL G15: at EL1, with EL2 enabled and NV and NV2 both 1, an access of PMSICR goes to the word at 0x838
abbrev pub redirected : View → Bool
redirected v = el2_enabled v && eqb v.level 1 && v.settings.hcr.nv && v.settings.hcr.nv2

-- MODEL G15: where an access of PMSICR goes
abbrev pub pmsicr_place : View → Place
pmsicr_place v = cond (redirected v) Nvmem Interval

-- MODEL G2 and G15: a permitted access of PMSICR; none is denied or read-only
abbrev pub pmsicr_access : View → Instruction → ℕ → Decision
pmsicr_access v i x = place_access false false (pmsicr_place v) i x

-- MODEL G9: PMUACR holds increments back, only while SW is 0
abbrev pub holds_back : View → Bool
holds_back v = pmuacr_binds v && not v.settings.pmuserenr.sw

-- MODEL G9: bit m of PMSWINC is ignored: there is no such counter, it is inaccessible, or PMUACR holds it back
abbrev pub ignored : View → ℕ → Bool
ignored v m =
    leb v.settings.features.n m
    || inaccessible v m
    || (holds_back v && not (bit m v.settings.pmuacr.p))

-- MODEL G8, G9 and G14: the operand's bits that are not ignored and whose counters are enabled, of the 31 event counters
unfoldable pub add_mask : View → ℕ → ℕ
add_mask v x = from_bits 31 (λ m. bit m x && not (ignored v m) && counter_enabled v.settings m)

-- MODEL G8: a permitted write of PMSWINC
abbrev pub pmswinc_access : View → Instruction → ℕ → Decision
pmswinc_access v i x = Add (add_mask v (written i x))
