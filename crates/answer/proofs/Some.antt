-- No refusal has the number 0, so that 0 can stand for none.
use Prim.Native.Nat.{◌≤◌}
use native.Mathlib.Omega.{arith}
use Rattle.answer.specs.declared.Refusal.{Refusal}
use Rattle.answer.specs.declared.Refusal.TheVariants.{
  UnknownCommand,
  Truncated,
  UnknownField,
  ValueTooLarge,
  LevelTooLarge,
  SessionTooLong,
  FieldTooLarge,
  LevelUnavailable,
  El2Unimplemented,
  HpmnAboveN,
  HpmnZero,
  CounterTooWide,
  TgeAtEl1,
  FeatureMissing,
  NothingToUndo,
  SetTooWide,
  LongFormTooLong,
}
use Rattle.answer.specs.Numbers.{refusal_number}

pub some_number : (r : Refusal) → 1 ≤ refusal_number r
some_number UnknownCommand = omega arith
some_number Truncated = omega arith
some_number UnknownField = omega arith
some_number ValueTooLarge = omega arith
some_number LevelTooLarge = omega arith
some_number SessionTooLong = omega arith
some_number FieldTooLarge = omega arith
some_number LevelUnavailable = omega arith
some_number El2Unimplemented = omega arith
some_number HpmnAboveN = omega arith
some_number HpmnZero = omega arith
some_number CounterTooWide = omega arith
some_number TgeAtEl1 = omega arith
some_number FeatureMissing = omega arith
some_number NothingToUndo = omega arith
some_number SetTooWide = omega arith
some_number LongFormTooLong = omega arith
