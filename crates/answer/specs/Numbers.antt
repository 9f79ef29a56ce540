-- The one table of refusal numbers, the one of the causes of traps, and the numbers of the levels.
use Rattle.std.specs.Prelude.{ℕ}
use Rattle.answer.specs.declared.Cause.{Cause}
use Rattle.answer.specs.declared.Cause.TheVariants.{Pmuserenr, FineGrained, Mdcr2Tpm, Hpmn}
use Rattle.answer.specs.declared.Cause.TheVariants.{Mdcr3Tpm, EnPm2, FgtEn2, Tpms, Nspb}
use Rattle.answer.specs.declared.Level.{Level}
use Rattle.answer.specs.declared.Level.TheVariants.{El1, El2, El3}
use Rattle.answer.specs.declared.Refusal.{Refusal}
use Rattle.answer.specs.declared.Refusal.TheVariants.{
  UnknownCommand,
  Truncated,
  UnknownField,
  ValueTooLarge,
  LevelTooLarge,
  SessionTooLong,
  FieldTooLarge,
  LevelUnavailable,
  El2Unimplemented,
  HpmnAboveN,
  HpmnZero,
  CounterTooWide,
  TgeAtEl1,
  FeatureMissing,
  NothingToUndo,
  SetTooWide,
  LongFormTooLong,
}

-- MODEL R0: a refusal's number. Below, each with the clause of its number
abbrev pub refusal_number : Refusal → ℕ
-- MODEL R1: no such command
refusal_number UnknownCommand = 1
-- MODEL R2: the bytes end too early
refusal_number Truncated = 2
-- MODEL R3: no such field
refusal_number UnknownField = 3
-- MODEL R4: above the field's largest value, or a flag above 1
refusal_number ValueTooLarge = 4
-- MODEL R5: no such level
refusal_number LevelTooLarge = 5
-- MODEL R6: too long a session
refusal_number SessionTooLong = 6
-- MODEL R10: the record holds a value above its largest
refusal_number FieldTooLarge = 10
-- MODEL R11: a level that is not available
refusal_number LevelUnavailable = 11
-- MODEL R12: EL2 enabled without being there
refusal_number El2Unimplemented = 12
-- MODEL R13: HPMN above N
refusal_number HpmnAboveN = 13
-- MODEL R14: HPMN 0 without HPMN0
refusal_number HpmnZero = 14
-- MODEL R15: more than 32 bits without p5
refusal_number CounterTooWide = 15
-- MODEL R16: level 1 under TGE
refusal_number TgeAtEl1 = 16
-- MODEL R17: a feature without the one that it builds on
refusal_number FeatureMissing = 17
-- MODEL R18: nothing is listed that could be taken back
refusal_number NothingToUndo = 18
-- MODEL R19: a set of the short form with more bytes than its value needs
refusal_number SetTooWide = 19
-- MODEL R20: the long form of a short session has too many bytes
refusal_number LongFormTooLong = 20

-- MODEL L4: the level that takes a trap, as a number
abbrev pub level_number : Level → ℕ
level_number El1 = 1
level_number El2 = 2
level_number El3 = 3

-- MODEL D0: a cause's number. Below, each with the clause of its number
abbrev pub cause_number : Cause → ℕ
-- MODEL D1: PMUSERENR_EL0
cause_number Pmuserenr = 1
-- MODEL D2: a fine-grained bit
cause_number FineGrained = 2
-- MODEL D3: MDCR_EL2.TPM
cause_number Mdcr2Tpm = 3
-- MODEL D4: MDCR_EL2.HPMN
cause_number Hpmn = 4
-- MODEL D5: MDCR_EL3.TPM
cause_number Mdcr3Tpm = 5
-- MODEL D6: MDCR_EL3.EnPM2
cause_number EnPm2 = 6
-- MODEL D7: SCR_EL3.FGTEn2
cause_number FgtEn2 = 7
-- MODEL D8: MDCR_EL2.TPMS
cause_number Tpms = 8
-- MODEL D9: MDCR_EL3.NSPB
cause_number Nspb = 9
