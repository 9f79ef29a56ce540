-- Texts of answers, as data: each kind of answer, and traps by each cause, among them those of MODEL P1, P2 and P8.
use Rattle.std.specs.Prelude.{ℕ, List, [], ◌∷◌}
use Prim.Native.String.{String}
use Rattle.answer.specs.declared.Answer.{Answer}
use Rattle.answer.specs.declared.Cause.{Cause}
use Rattle.answer.specs.declared.Cause.TheVariants.{Pmuserenr, FineGrained, Mdcr2Tpm, Hpmn, Mdcr3Tpm, EnPm2, FgtEn2, Tpms, Nspb}
use Rattle.answer.specs.declared.Level.{Level}
use Rattle.answer.specs.declared.Level.TheVariants.{El1, El2, El3}
use Rattle.answer.specs.declared.Refusal.TheVariants.{UnknownField, FeatureMissing, NothingToUndo}

-- MODEL L1: a trap by its parts
abbrev pub trap : Level → ℕ → Cause → Answer
trap l s c = Answer.Trap (record { target = l; cause = c; syndrome = s })

-- MODEL L1: answers and their texts
unfoldable pub texts : List (Answer × String)
texts =
    (Answer.Ok, "ok")
    ∷ (Answer.Sampled, "sampled")
    ∷ (Answer.End, "end")
    ∷ (Answer.Undef, "undef")
    ∷ (Answer.Other, "other")
    ∷ (Answer.Error, "error")
    ∷ (Answer.Value 0x8000003F, "value 000000008000003F")
    ∷ (Answer.Mrs 0x2A 2, "value 000000000000002A 2")
    ∷ (Answer.Refused UnknownField, "refused 3")
    ∷ (Answer.Refused FeatureMissing, "refused 17")
    ∷ (Answer.Refused NothingToUndo, "refused 18")
    -- MODEL P1, P2 and P8, and the other causes
    ∷ (trap El2 0x6238F851 Hpmn, "trap 2 6238F851 4")
    ∷ (trap El2 0x623AF851 Hpmn, "trap 2 623AF851 4")
    ∷ (trap El1 0x6238E438 Pmuserenr, "trap 1 6238E438 1")
    ∷ (trap El2 0x6238E438 Pmuserenr, "trap 2 6238E438 1")
    ∷ (trap El2 0x6230E449 FineGrained, "trap 2 6230E449 2")
    ∷ (trap El2 0x6230E449 Mdcr2Tpm, "trap 2 6230E449 3")
    ∷ (trap El3 0x6230E449 Mdcr3Tpm, "trap 3 6230E449 5")
    ∷ (trap El3 0x6230E449 EnPm2, "trap 3 6230E449 6")
    ∷ (trap El2 0x6230E449 FgtEn2, "trap 2 6230E449 7")
    ∷ (trap El2 0x62342453 Tpms, "trap 2 62342453 8")
    ∷ (trap El3 0x62342452 Nspb, "trap 3 62342452 9")
    ∷ []
