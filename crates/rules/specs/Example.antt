-- What a worked example is: a record, what is done to it, the answers, and the record afterwards.
use Rattle.std.specs.Prelude.{ℕ, Bool, true, not, ◌&&◌, List, [], ◌∷◌, ◌++◌, map}
use Rattle.answer.specs.declared.Answer.{Answer}
use Rattle.answer.specs.declared.Cause.{Cause}
use Rattle.answer.specs.declared.Level.{Level}
use Rattle.machine.specs.declared.Machine.{Machine}
use Rattle.machine.specs.declared.Outcome.{Outcome}
use Rattle.machine.specs.Machine.{fresh, with_level}
use Rattle.fields.specs.Largest.{is_field, exceeds}
use Rattle.fields.specs.Set.{set}
unfoldable pub use Rattle.fields.specs.Set.{set_all}
use Rattle.rules.specs.Step.{step, Run}
use Rattle.rules.specs.External.{external_read, external_write, tick, member}

-- MODEL P0: one thing done to a record
pub data Action : Type 0 where
  access : ℕ → ℕ → Action
  read : ℕ → Action
  write : ℕ → ℕ → Action
  ticks : Bool → Action
  members : ℕ → Action
  sets : ℕ → ℕ → Action

-- MODEL P0: what is set before, field and value; the level; what is done; what it answers; and what is then set
pub record Example : Type 0 where
  pub given : List (ℕ × ℕ)
  pub level : ℕ
  pub actions : List Action
  pub answers : List Answer
  pub after : List (ℕ × ℕ)

-- MODEL P0: what one thing done answers, and the record after it
unfoldable pub perform : Action → Machine → Outcome
perform (access w x) r = step w x r
perform (read o) r = external_read o r
perform (write o x) r = external_write o x r
perform (ticks p) r = tick p r
perform (members d) r = member d r
perform (sets f v) r = set f v r

-- MODEL P0: what they answer, in order, and the record after them
unfoldable pub perform_all : List Action → Machine → Run
perform_all [] r = record { answers = []; machine = r }
perform_all (m ∷ rest) r =
    let o = perform m r in
    let then = perform_all rest o.machine in
    record { answers = o.answer ∷ then.answers; machine = then.machine }

-- MODEL P0: none of these set commands is refused
unfoldable pub valid : List (ℕ × ℕ) → Bool
valid [] = true
valid (s ∷ rest) = is_field s.0 && not (exceeds s.1 s.0) && valid rest

-- MODEL P0: none of the examples' set commands is refused
unfoldable pub all_valid : List Example → Bool
all_valid [] = true
all_valid (e ∷ rest) = valid (e.given ++ e.after) && all_valid rest

-- MODEL P0: what is set before an example's own settings
abbrev pub usual_settings : List (ℕ × ℕ)
usual_settings =
    (0x00, 1)
    ∷ (0x01, 1)
    ∷ (0x02, 1)
    ∷ (0x04, 1)
    ∷ (0x08, 1)
    ∷ (0x09, 1)
    ∷ (0x10, 1)
    ∷ (0x38, 1)
    ∷ (0x3B, 1)
    ∷ (0x0C, 6)
    ∷ (0x27, 4)
    ∷ (0x20, 1)
    ∷ []

-- MODEL P0: the record with these settings
unfoldable pub usual : Machine
usual = set_all usual_settings fresh

-- MODEL P0: the record that an example's actions are done to
unfoldable pub start : Example → Machine
start e = with_level e.level (set_all e.given usual)

-- MODEL P0: what the definitions give: every answer, and the whole record afterwards
unfoldable pub actual : Example → Run
actual e = perform_all e.actions (start e)

-- MODEL P0: what the example says
unfoldable pub expected : Example → Run
expected e = record { answers = e.answers; machine = set_all e.after (start e) }

-- MODEL P0: each of these fields set to 1
abbrev pub on : List ℕ → List (ℕ × ℕ)
on fields = map (λ f. (f, 1)) fields

-- MODEL P0 and G14: these settings, and every event counter enabled
abbrev pub counters_on : List (ℕ × ℕ) → List (ℕ × ℕ)
counters_on given = (0x34, 0x7FFFFFFF) ∷ (0x3D, 1) ∷ (0x3E, 1) ∷ given

-- MODEL P0: an example by its parts
abbrev pub shows : List (ℕ × ℕ) → ℕ → List Action → List Answer → List (ℕ × ℕ) → Example
shows g l d r s = record { given = g; level = l; actions = d; answers = r; after = s }

-- MODEL P0: one thing is done, it answers this, and nothing has changed
abbrev pub answers : List (ℕ × ℕ) → ℕ → Action → Answer → Example
answers g l d r = shows g l (d ∷ []) (r ∷ []) []

-- MODEL P0: one thing is done, it answers `ok`, and this has changed
abbrev pub changes : List (ℕ × ℕ) → ℕ → Action → List (ℕ × ℕ) → Example
changes g l d s = shows g l (d ∷ []) (Answer.Ok ∷ []) s

-- MODEL T11: a trap to this level with this syndrome, by this control
abbrev pub trap : Level → ℕ → Cause → Answer
trap l s c = Answer.Trap (record { target = l; cause = c; syndrome = s })

-- MODEL G2: X2 gets this value
abbrev pub gives : ℕ → Answer
gives x = Answer.Mrs x 2

-- MODEL W5: MSR PMSWINC_EL0, X1
abbrev pub swinc : ℕ → Action
swinc x = access 0xD51B9C81 x

-- MODEL W4: MRS X2, PMEVCNTR3_EL0, of a counter below HPMN
abbrev pub mrs3 : Action
mrs3 = access 0xD53BE862 0

-- MODEL W4: MSR PMEVCNTR3_EL0, X2
abbrev pub msr3 : ℕ → Action
msr3 x = access 0xD51BE862 x

-- MODEL W4: MRS X2, PMEVCNTR4_EL0, of a counter at HPMN
abbrev pub mrs4 : Action
mrs4 = access 0xD53BE882 0

-- MODEL W6: MRS X2, PMICNTR_EL0
abbrev pub mrs_icntr : Action
mrs_icntr = access 0xD53B9402 0

-- MODEL W6: MSR PMICNTR_EL0, X2
abbrev pub msr_icntr : ℕ → Action
msr_icntr x = access 0xD51B9402 x

-- MODEL W12: MRS X2, PMSICR_EL1
abbrev pub mrs_sicr : Action
mrs_sicr = access 0xD5389942 0

-- MODEL W12: MSR PMSICR_EL1, X2
abbrev pub msr_sicr : ℕ → Action
msr_sicr x = access 0xD5189942 x

-- MODEL J4: profiling set to 1 without SPE, which reloads nothing, then SPE to 1, then these settings
abbrev pub profiling_on : List (ℕ × ℕ) → List (ℕ × ℕ)
profiling_on rest = (0x80, 0) ∷ (0x83, 1) ∷ (0x80, 1) ∷ rest
