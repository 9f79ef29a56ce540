-- Examples of steps back, as data: commands, their answers, and the whole record and the length of the list after them.
use Rattle.std.specs.Prelude.{ℕ, Bool, true, false, List, [], ◌∷◌, ◌++◌, length, replicate, Ok, Err, Result as Reading}
use Rattle.answer.specs.declared.Answer.{Answer}
use Rattle.answer.specs.declared.Cause.TheVariants.{Hpmn}
use Rattle.answer.specs.declared.Level.TheVariants.{El2}
use Rattle.answer.specs.declared.Refusal.{Refusal}
use Rattle.answer.specs.declared.Refusal.TheVariants.{
  Truncated,
  UnknownField,
  ValueTooLarge,
  LevelTooLarge,
  LevelUnavailable,
  NothingToUndo,
}
use Rattle.command.specs.declared.Command.{Command}
use Rattle.command.specs.declared.Command.TheVariants.{End, Set, Level, Access, Read, Write, Tick, Back, Member}
use Rattle.execute.specs.Execute.{perform}
use Rattle.fields.specs.Set.{set_all}
use Rattle.undo_list.specs.History.{History}
use Rattle.machine.specs.declared.Machine.{Machine}
use Rattle.machine.specs.Machine.{with_level}
use Rattle.rules.specs.Example.{usual, counters_on, trap, gives}
use Rattle.undo_claims.specs.Back.{steps, forward}

-- MODEL H11: what is set before, field and value, and the level; the commands and their answers; and what is then set, the level
-- that the record then has, and how many commands are listed
pub record Example : Type 0 where
  pub given : List (ℕ × ℕ)
  pub level : ℕ
  pub commands : List (Reading Command Refusal)
  pub answers : List Answer
  pub after : List (ℕ × ℕ)
  pub left : ℕ
  pub listed : ℕ

-- MODEL H11: what commands answer, the record after them, and how many are listed
pub record Result : Type 0 where
  pub answers : List Answer
  pub machine : Machine
  pub listed : ℕ

-- MODEL H11: what the definitions give
unfoldable pub actual : Example → Result
actual e =
    let start = with_level e.level (set_all e.given usual) in
    let then = perform e.commands (record { machine = start; earlier = [] }) in
    record { answers = then.answers; machine = then.left.machine; listed = length then.left.earlier }

-- MODEL H11: what the example says
unfoldable pub expected : Example → Result
expected e =
    record {
      answers = e.answers;
      machine = with_level e.left (set_all e.after (set_all e.given usual));
      listed = e.listed;
    }

-- MODEL H11: an example after which the record is as it was, and nothing is listed
abbrev pub undoes : List (ℕ × ℕ) → ℕ → List (Reading Command Refusal) → List Answer → Example
undoes g l cs a = record { given = g; level = l; commands = cs; answers = a; after = []; left = l; listed = 0 }

-- MODEL R0: an answer that is a refusal
abbrev pub no : Refusal → Answer
no n = Answer.Refused n

-- MODEL H1 to H6 and H11: steps back over each kind of command and each place; N is 6 and HPMN 4 (MODEL P0)
unfoldable pub back_examples : List Example
back_examples =
    -- MODEL H2: a trap is listed, and taken back leaves nothing
    undoes [] 1 (Ok (Access 0xD53BE882 0) ∷ Ok Back ∷ Ok Back ∷ []) (trap El2 0x6238F851 Hpmn ∷ Answer.Ok ∷ no NothingToUndo ∷ [])
    -- MODEL H2: so are an ignored write, an undefined word, a word of no register and a read
    ∷ undoes ((0x23, 1) ∷ []) 0
    (Ok (Access 0xD51BE861 9) ∷ Ok (Access 0xD53B9C81 0) ∷ Ok (Access 0 0) ∷ Ok (Access 0xD53BE862 0) ∷ Ok Back ∷ Ok Back
    ∷ Ok Back ∷ Ok Back ∷ Ok Back ∷ [])
    (Answer.Ok
    ∷ Answer.Undef
    ∷ Answer.Other
    ∷ gives 0
    ∷ Answer.Ok
    ∷ Answer.Ok
    ∷ Answer.Ok
    ∷ Answer.Ok
    ∷ no NothingToUndo
    ∷ [])
    -- MODEL H1: a level comes back
    ∷ undoes [] 1 (Ok (Level 0) ∷ Ok Back ∷ []) (Answer.Ok ∷ Answer.Ok ∷ [])
    -- MODEL H1: a counter that was written, with p5 and without it
    ∷ undoes ((0x63, 0x123456789) ∷ []) 1 (Ok (Access 0xD51BE861 9) ∷ Ok (Access 0xD53BE862 0) ∷ Ok Back ∷ Ok Back ∷ [])
    (Answer.Ok ∷ gives 9 ∷ Answer.Ok ∷ Answer.Ok ∷ [])
    ∷ undoes ((0x01, 0) ∷ (0x02, 0) ∷ (0x63, 7) ∷ []) 1 (Ok (Access 0xD51BE861 9) ∷ Ok Back ∷ []) (Answer.Ok ∷ Answer.Ok ∷ [])
    -- MODEL H1: PMSWINC of several counters, of which one wraps, two set flags and one has another event number
    ∷ undoes
    (counters_on ((0x60, 0xFFFFFFFF) ∷ (0x61, 0xFFFFFFFFFFFFFFFF) ∷ (0x62, 7) ∷ (0x43, 1) ∷ (0x63, 5) ∷ (0x37, 0x100000004) ∷ []))
    1
    (Ok (Access 0xD51B9C81 0xF) ∷ Ok (Read 0xCC0) ∷ Ok (Access 0xD53BE822 0) ∷ Ok Back ∷ Ok Back ∷ Ok (Read 0xCC0) ∷ [])
    (Answer.Ok ∷ Answer.Value 7 ∷ gives 0 ∷ Answer.Ok ∷ Answer.Ok ∷ Answer.Value 4 ∷ [])
    ∷ undoes (counters_on ((0x01, 0) ∷ (0x02, 0) ∷ (0x60, 0xFFFFFFFF) ∷ (0x61, 0) ∷ [])) 1
    (Ok (Access 0xD51B9C81 3) ∷ Ok (Access 0xD51B9C81 3) ∷ Ok Back ∷ Ok Back ∷ [])
    (Answer.Ok ∷ Answer.Ok ∷ Answer.Ok ∷ Answer.Ok ∷ [])
    -- MODEL H1: the instruction counter, PMSICR with its reserved bits, and the word at 0x838
    ∷ undoes ((0x03, 1) ∷ (0x7F, 0xFFFFFFFFFFFFFFFF) ∷ (0x34, 0x100000000) ∷ []) 2
    (Ok (Access 0xD51B9401 9) ∷ Ok (Tick 0) ∷ Ok (Access 0xD53B9402 0) ∷ Ok Back ∷ Ok Back ∷ Ok Back ∷ Ok (Tick 0)
    ∷ Ok (Access 0xD53B9402 0) ∷ Ok Back ∷ Ok Back ∷ [])
    (Answer.Ok
    ∷ Answer.Ok
    ∷ gives 10
    ∷ Answer.Ok
    ∷ Answer.Ok
    ∷ Answer.Ok
    ∷ Answer.Ok
    ∷ gives 0
    ∷ Answer.Ok
    ∷ Answer.Ok
    ∷ [])
    ∷ undoes ((0x80, 1) ∷ (0x8C, 0xFFFFFF0000000005) ∷ []) 2 (Ok (Access 0xD5189941 9) ∷ Ok (Access 0xD5389942 0) ∷ Ok Back
    ∷ Ok Back ∷ [])
    (Answer.Ok ∷ gives 9 ∷ Answer.Ok ∷ Answer.Ok ∷ [])
    ∷ undoes ((0x80, 1) ∷ (0x84, 1) ∷ (0x85, 1) ∷ (0x8D, 6) ∷ []) 1
    (Ok (Access 0xD5189941 9) ∷ Ok (Access 0xD5389942 0) ∷ Ok Back ∷ Ok Back ∷ [])
    (Answer.Ok ∷ gives 9 ∷ Answer.Ok ∷ Answer.Ok ∷ [])
    -- MODEL H1: a member that is selected, and one that counts
    ∷ undoes ((0x80, 1) ∷ (0x8B, 2) ∷ (0x83, 1) ∷ []) 1 (Ok (Member 0) ∷ Ok (Member 0) ∷ Ok Back ∷ Ok Back ∷ [])
    (Answer.Ok ∷ Answer.Sampled ∷ Answer.Ok ∷ Answer.Ok ∷ [])
    -- MODEL H1 and H4: external writes; a read between them is not listed
    ∷ undoes ((0x34, 1) ∷ (0x37, 3) ∷ []) 1
    (Ok (Write 0xC00 0x3F) ∷ Ok (Write 0xC80 1) ∷ Ok (Write 0xCC0 4) ∷ Ok (Read 0xCC0) ∷ Ok Back ∷ Ok (Read 0xCC0) ∷ Ok Back
    ∷ Ok Back ∷ Ok (Read 0xC00) ∷ [])
    (Answer.Ok
    ∷ Answer.Ok
    ∷ Answer.Ok
    ∷ Answer.Value 6
    ∷ Answer.Ok
    ∷ Answer.Value 2
    ∷ Answer.Ok
    ∷ Answer.Ok
    ∷ Answer.Value 1
    ∷ [])
    -- MODEL H2: external writes that get `other` and `error` are listed
    ∷ undoes ((0x3A, 1) ∷ []) 1 (Ok (Write 0xC04 1) ∷ Ok (Write 0xC00 1) ∷ Ok Back ∷ Ok Back ∷ Ok Back ∷ [])
    (Answer.Other ∷ Answer.Error ∷ Answer.Ok ∷ Answer.Ok ∷ no NothingToUndo ∷ [])
    -- MODEL H2 and H4: what is refused is not listed
    ∷ undoes [] 1 (Ok (Level 4) ∷ Ok (Tick 2) ∷ Ok Back ∷ []) (no LevelTooLarge ∷ no ValueTooLarge ∷ no NothingToUndo ∷ [])
    -- MODEL H6: a record that is not consistent is stepped back from too, and its refused access is not listed
    ∷ undoes [] 1 (Ok (Level 3) ∷ Ok (Access 0xD53BE862 0) ∷ Ok Back ∷ Ok (Access 0xD53BE862 0) ∷ Ok Back ∷ [])
    (Answer.Ok ∷ no LevelUnavailable ∷ Answer.Ok ∷ gives 0 ∷ Answer.Ok ∷ [])
    -- MODEL H6: nor is the record tested that comes back
    ∷ record {
      given = [];
      level = 1;
      commands = Ok (Level 3) ∷ Ok (Level 1) ∷ Ok Back ∷ Ok (Access 0xD53BE862 0) ∷ [];
      answers = Answer.Ok ∷ Answer.Ok ∷ Answer.Ok ∷ no LevelUnavailable ∷ [];
      after = [];
      left = 3;
      listed = 1;
    }
    -- MODEL H5: a set empties the list, and refused ones do not
    ∷ record {
      given = [];
      level = 1;
      commands = Ok (Level 0) ∷ Ok (Set 0x20 0) ∷ Ok Back ∷ [];
      answers = Answer.Ok ∷ Answer.Ok ∷ no NothingToUndo ∷ [];
      after = (0x20, 0) ∷ [];
      left = 0;
      listed = 0;
    }
    ∷ undoes [] 1 (Ok (Level 0) ∷ Ok (Set 0x0D 0) ∷ Ok (Set 0x0C 32) ∷ Ok Back ∷ [])
    (Answer.Ok ∷ no UnknownField ∷ no ValueTooLarge ∷ Answer.Ok ∷ [])
    -- MODEL H3: of 65 the first drops off
    ∷ record {
      given = [];
      level = 1;
      commands = (Ok (Level 0) ∷ replicate 64 (Ok (Level 2))) ++ replicate 65 (Ok Back);
      answers = replicate 129 Answer.Ok ++ (no NothingToUndo ∷ []);
      after = [];
      left = 0;
      listed = 0;
    }
    -- MODEL H4: a step back is not listed: of three ticks, with a step back among them, two are left
    ∷ record {
      given = [];
      level = 1;
      commands = Ok (Tick 0) ∷ Ok (Tick 0) ∷ Ok Back ∷ Ok (Tick 0) ∷ [];
      answers = Answer.Ok ∷ Answer.Ok ∷ Answer.Ok ∷ Answer.Ok ∷ [];
      after = [];
      left = 1;
      listed = 2;
    }
    ∷ []

-- MODEL H7 and H11: commands, whether none of them is a step back or empties the list, and how many are listed
pub record Premise : Type 0 where
  pub commands : List (Reading Command Refusal)
  pub forward : Bool
  pub steps : ℕ

-- MODEL H7 and H11: what the definitions give, from the record of MODEL P0 at level 1 on, with nothing listed
unfoldable pub premise : Premise → Premise
premise e =
    let k : History = record { machine = with_level 1 usual; earlier = [] } in
    record { commands = e.commands; forward = forward e.commands k; steps = steps e.commands k }

-- MODEL H7 and H11: what the claim on steps back is of, and what it is not of
unfoldable pub premises : List Premise
premises =
    -- MODEL H7: no commands, and 64 that are listed
    record { commands = []; forward = true; steps = 0 }
    ∷ record { commands = replicate 64 (Ok (Level 2)); forward = true; steps = 64 }
    -- MODEL H2: a trap, an external write, a tick and a member are listed
    ∷ record {
      commands = Ok (Access 0xD53BE882 0) ∷ Ok (Write 0xC00 1) ∷ Ok (Tick 0) ∷ Ok (Member 0) ∷ [];
      forward = true;
      steps = 4;
    }
    -- MODEL H4: external reads, the end command and what is refused may stand between, a refused set among it
    ∷ record {
      commands = Ok (Level 0) ∷ Ok (Read 0xC00) ∷ Ok (Set 0x0C 32) ∷ Ok (Level 4) ∷ Ok (Tick 2) ∷ Ok End ∷ Err Truncated
          ∷ Ok (Tick 1) ∷ [];
      forward = true;
      steps = 2;
    }
    -- MODEL H5 and H7: a set that is obeyed may not, nor may a step back, obeyed or not
    ∷ record { commands = Ok (Level 0) ∷ Ok (Set 0x20 0) ∷ []; forward = false; steps = 1 }
    ∷ record { commands = Ok (Level 0) ∷ Ok Back ∷ []; forward = false; steps = 1 }
    ∷ record { commands = Ok Back ∷ Ok (Level 0) ∷ []; forward = false; steps = 1 }
    ∷ []
