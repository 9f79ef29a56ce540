-- Laws of the decision about a register: undefined at once, or else as the order of traps and the permitted access say.
use Prim.Native.Nat.{ℕ}
use mathlib.Core.Bool.{true, false}
use mathlib.Core.Path.{◌≡◌, sym}
use Rattle.answer.specs.declared.Answer.{Answer}
use Rattle.rules.specs.declared.Decision.{Decision}
use Rattle.rules.specs.declared.Decision.TheVariants.{Says}
use Rattle.rules.specs.declared.Instruction.{Instruction}
use Rattle.rules.specs.declared.Register.{Register}
use Rattle.rules.specs.declared.Stop.{Stop}
use Rattle.rules.specs.Traps.{stop_of}
use Rattle.rules.specs.Step.{unless_stopped, undefined_at_once, permitted, decide_register}
use Rattle.state.specs.declared.View.{View}

module _ (v : View) (r : Register) (i : Instruction) (x : ℕ) where
  pub at_once : undefined_at_once v r i.read ≡ true → Says Answer.Undef ≡ decide_register v r i x
  unfolding decide_register
  at_once e = sym (rw e)

  pub in_order :
      undefined_at_once v r i.read ≡ false → {s : Stop} → s ≡ stop_of v r i.read → {d : Decision} → d ≡ permitted v r i x
      → unless_stopped i.syndrome s d ≡ decide_register v r i x
  unfolding decide_register
  in_order e p q = rw (e, p, q)
