-- Examples of the state refusals, of the overflow flags at their largest, and of numbers above their largest, as data.
use Rattle.std.specs.Prelude.{ℕ, false, List, [], ◌∷◌}
use Rattle.answer.specs.declared.Answer.{Answer}
use Rattle.answer.specs.declared.Cause.TheVariants.{Hpmn}
use Rattle.answer.specs.declared.Level.TheVariants.{El2}
use Rattle.answer.specs.declared.Refusal.TheVariants.{FieldTooLarge, LevelUnavailable, El2Unimplemented, HpmnAboveN, HpmnZero}
use Rattle.answer.specs.declared.Refusal.TheVariants.{CounterTooWide, TgeAtEl1, FeatureMissing, ValueTooLarge}
use Rattle.machine.specs.declared.Machine.{Machine}
use Rattle.machine.specs.declared.Outcome.{Outcome}
use Rattle.machine.specs.Machine.{with_level, with_ovs}
use Rattle.machine.specs.Outcome.{says, refused}
use Rattle.fields.specs.Set.{set}
use Rattle.store.specs.Store.{store}
use Rattle.rules.specs.Example.{Example, counters_on, perform, usual, answers, trap, gives, swinc, mrs3, msr3}
use Rattle.rules.specs.Example.Action.{access, read, write, ticks, members}

-- MODEL P12 and V3: for R10 to R17
unfoldable pub state_examples : List Example
state_examples =
    -- MODEL R10, R11: level 4; level 3 without EL3; level 2 while EL2 is not enabled
    answers [] 4 mrs3 (Answer.Refused FieldTooLarge)
    ∷ answers [] 3 (access 0xD503201F 0) (Answer.Refused LevelUnavailable)
    ∷ answers ((0x10, 0) ∷ []) 2 (ticks false) (Answer.Refused LevelUnavailable)
    -- MODEL R12: also before an unknown offset
    ∷ answers ((0x09, 0) ∷ []) 1 (read 0xC04) (Answer.Refused El2Unimplemented)
    -- MODEL R13, R14: EL2 need not be enabled, but implemented; HPMN0 allows 0
    ∷ answers ((0x27, 7) ∷ (0x10, 0) ∷ []) 1 mrs3 (Answer.Refused HpmnAboveN)
    ∷ answers ((0x27, 7) ∷ (0x10, 0) ∷ (0x09, 0) ∷ (0x63, 9) ∷ []) 1 mrs3 (gives 9)
    ∷ answers ((0x27, 0) ∷ []) 1 (write 0xC00 1) (Answer.Refused HpmnZero)
    ∷ answers ((0x27, 0) ∷ (0x10, 0) ∷ (0x09, 0) ∷ (0x63, 9) ∷ []) 1 mrs3 (gives 9)
    ∷ answers ((0x27, 0) ∷ (0x06, 1) ∷ []) 1 mrs3 (trap El2 0x6236F851 Hpmn)
    -- MODEL R15: a counter from N on; not with p5, and not for the instruction counter
    ∷ answers (counters_on ((0x01, 0) ∷ (0x02, 0) ∷ (0x7E, 0x100000000) ∷ [])) 1 (swinc 1) (Answer.Refused CounterTooWide)
    ∷ answers ((0x7E, 0x100000000) ∷ (0x63, 9) ∷ []) 1 mrs3 (gives 9)
    ∷ answers ((0x01, 0) ∷ (0x02, 0) ∷ (0x7E, 0xFFFFFFFF) ∷ (0x7F, 0x100000000) ∷ (0x63, 9) ∷ []) 1 mrs3 (gives 9)
    -- MODEL R16: not while EL2 is not enabled, and not at level 2
    ∷ answers ((0x25, 1) ∷ []) 1 (msr3 5) (Answer.Refused TgeAtEl1)
    ∷ answers ((0x25, 1) ∷ (0x10, 0) ∷ (0x63, 9) ∷ []) 1 mrs3 (gives 9)
    ∷ answers ((0x25, 1) ∷ (0x63, 9) ∷ []) 2 mrs3 (gives 9)
    -- MODEL R17: p9 without p5; p5, p9 and ICNTR without PMUv3
    ∷ answers ((0x01, 0) ∷ []) 1 (msr3 5) (Answer.Refused FeatureMissing)
    ∷ answers ((0x00, 0) ∷ (0x02, 0) ∷ []) 1 mrs3 (Answer.Refused FeatureMissing)
    ∷ answers ((0x00, 0) ∷ []) 1 mrs3 (Answer.Refused FeatureMissing)
    ∷ answers ((0x00, 0) ∷ (0x01, 0) ∷ (0x02, 0) ∷ (0x03, 1) ∷ []) 1 mrs3 (Answer.Refused FeatureMissing)
    -- MODEL V3: the lowest number: 11 before 13, 13 before 16
    ∷ answers ((0x27, 7) ∷ []) 3 mrs3 (Answer.Refused LevelUnavailable)
    ∷ answers ((0x27, 7) ∷ (0x25, 1) ∷ []) 1 mrs3 (Answer.Refused HpmnAboveN)
    ∷ []

-- MODEL R4, R10 and F22: overflow flags at and beyond their largest: what a set command of them answers, and what MRS of
-- counter 3, which holds 9, answers on a record that has them all the same, as only a direct caller's can
unfoldable pub ovs_limits : List (ℕ × Answer × Answer)
ovs_limits =
    (0x17FFFFFFF, Answer.Ok, gives 9)
    ∷ (0x80000000, Answer.Refused ValueTooLarge, Answer.Refused FieldTooLarge)
    ∷ (0x180000000, Answer.Refused ValueTooLarge, Answer.Refused FieldTooLarge)
    ∷ (0x200000000, Answer.Refused ValueTooLarge, Answer.Refused FieldTooLarge)
    ∷ []

-- MODEL P0: the record of these examples, with those overflow flags
unfoldable pub with_limits : ℕ → Machine
with_limits ovs = with_ovs ovs (with_level 1 (set 0x63 9 usual).machine)

-- MODEL R4 and R10: what the definitions give: the set command's answer, and the access's with the record afterwards
unfoldable pub limits_actual : ℕ × Answer × Answer → Answer × Outcome
limits_actual row = ((set 0x37 row.0 usual).answer, perform mrs3 (with_limits row.0))

-- MODEL R0: what the table says, the record as it was
unfoldable pub limits_expected : ℕ × Answer × Answer → Answer × Outcome
limits_expected row = (row.1, says row.2 (with_limits row.0))

-- MODEL R10: a number just above the largest of its field, in a record that only a direct caller can make
unfoldable pub above_largest : List (ℕ × ℕ)
above_largest =
    (0x0C, 32)
    ∷ (0x27, 32)
    ∷ (0x32, 0x80000000)
    ∷ (0x34, 0x200000000)
    ∷ (0x88, 4)
    ∷ (0x8B, 0x100000000)
    ∷ []

-- MODEL R10 and R0: what an access and a member answer to such a record, which stays as it was
unfoldable pub above_actual : ℕ × ℕ → Outcome × Outcome
above_actual s = let r = with_level 1 (store s.0 s.1 usual) in (perform mrs3 r, perform (members 0) r)

-- MODEL R10 and R0: refusal 10
unfoldable pub above_expected : ℕ × ℕ → Outcome × Outcome
above_expected s =
    let r = with_level 1 (store s.0 s.1 usual) in (refused FieldTooLarge r, refused FieldTooLarge r)
