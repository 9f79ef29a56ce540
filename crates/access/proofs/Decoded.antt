-- The access by an instruction is the access by each word that, taken apart, is that instruction.
use Prim.Native.Nat.{ℕ}
use mathlib.Core.List.{List}
use mathlib.Core.Path.{◌≡◌, subst, subst⁻¹, ap}
use Rattle.machine.specs.declared.Machine.{Machine}
use Rattle.machine.specs.declared.Outcome.{Outcome}
use Rattle.machine.specs.Machine.{machine_of}
use Rattle.machine.specs.Outcome.{says}
use Rattle.rules.specs.declared.Instruction.{Instruction}
use Rattle.rules.specs.Word.{decode}
use Rattle.rules.specs.Step.{decide, step, step_decoded}
use Rattle.undo.specs.declared.Change.{Change}
use Rattle.undo.specs.Undo.{change_by, change_decoded}
use Rattle.access.specs.declared.Said.{Said}
use Rattle.access.specs.InParts.{InParts}
use Rattle.access.proofs.Whole.{whole}

module _ (i : Instruction) (w x : ℕ) (r : Machine) (e : i ≡ decode w) where
  pub by_word : Path (Outcome × Change) (step_decoded i x r, change_decoded i x r) (step w x r, change_by w x r)
  unfolding step decide
  by_word = ap (λ (j : Instruction). (step_decoded j x r, change_decoded j x r)) e

  module _ (said : Said) (after : List ℕ) where
    pub parts-by-word :
        InParts (step_decoded i x r) (change_decoded i x r) said after → InParts (step w x r) (change_by w x r) said after
    parts-by-word = subst (λ (o : Outcome × Change). InParts o.0 o.1 said after) by_word

    pub parts-decoded :
        InParts (step w x r) (change_by w x r) said after → InParts (step_decoded i x r) (change_decoded i x r) said after
    parts-decoded = subst⁻¹ (λ (o : Outcome × Change). InParts o.0 o.1 said after) by_word

    -- the parts put together again
    pub whole-by-word :
        InParts (step_decoded i x r) (change_decoded i x r) said after
        → says said.answer (machine_of r.level r.settings r.events after said.values)
        ≡ step w x r
    whole-by-word l = whole w x r _ said after (parts-by-word l)
