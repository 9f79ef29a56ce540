-- The operands of a command that was read are numbers that its bytes can hold.
use Prim.Native.Nat.{ℕ, ◌+◌, ◌^◌, ◌≤◌}
use mathlib.Core.Bool.{Bool, true, false, cond}
use mathlib.Core.List.{List, [], ◌∷◌}
use mathlib.Core.Path.{◌≡◌}
use native.Mathlib.Omega.{arith}
use lib.Dec.{eqb}
use lib.ListN.{length}
use Rattle.std.specs.Prelude.{Result, Ok, Err}
use Rattle.answer.specs.declared.Refusal.{Refusal}
use Rattle.answer.specs.declared.Refusal.TheVariants.{SetTooWide}
use Rattle.command.specs.declared.Command.{Command}
use Rattle.form.specs.declared.Form.{Form}
use Rattle.command.specs.Command.{operand_bytes, set_of, command_with, command_of}
use Rattle.form.specs.Sets.{is_too_wide}
use Rattle.command.specs.Operand.{operand}
use Rattle.command.proofs.Front.{front-cases}
use Rattle.conversion.specs.Conversion.{bad_of}
use Rattle.conversion.proofs.Given.{never}
use Rattle.form_claims.specs.Claims.{AreBytes}
use Rattle.form_claims.proofs.Numbers.{operand-bound}
use Rattle.form_claims.proofs.ReadBack.{choose}
use Rattle.form_claims.proofs.Written.{Fits}

module _ (s : List ℕ) (bytes : AreBytes s) where
  -- a command with n bytes of operands, where there are so many
  Bounded : Result Command Refusal → ℕ → Type 0
  Bounded d n = n ≤ length s → bad_of d ≡ [] → Fits d

  set-bounded :
      (f : Form) (k n : ℕ) → 1 + k ≤ n → 256 ^ k ≤ 256 ^ 8
      → Bounded (set_of f k (operand s 0 1) (operand s 1 k)) n
  unfolding Bounded
  set-bounded f k n size small there = go (is_too_wide f k (operand s 1 k))
    where
      go :
          (b : Bool) → bad_of (cond b (Err SetTooWide) (Ok (Command.Set (operand s 0 1) (operand s 1 k)))) ≡ []
          → Fits (cond b (Err SetTooWide) (Ok (Command.Set (operand s 0 1) (operand s 1 k))))
      go true h = never h
      go false h = (
        operand-bound s bytes 0 1 (omega arith),
        omega (arith, operand-bound s bytes 1 k (omega arith), small),
      )

  with-bounded : (f : Form) (c : ℕ) → Bounded (command_with f c s) (operand_bytes c)
  unfolding Bounded
  with-bounded f c =
      choose Bounded (eqb c 0x01) _ _ _ _ (λ e. set-bounded f 8 9 (omega arith) (omega arith))
      (λ n.
      choose Bounded (eqb c 0x02) _ _ _ _ (λ e l h. operand-bound s bytes 0 1 (omega arith))
      (λ n.
      choose Bounded (eqb c 0x03) _ _ _ _
      (λ e l h. (operand-bound s bytes 0 4 (omega arith), operand-bound s bytes 4 8 (omega arith)))
      (λ n.
      choose Bounded (eqb c 0x04) _ _ _ _ (λ e l h. operand-bound s bytes 0 2 (omega arith))
      (λ n.
      choose Bounded (eqb c 0x05) _ _ _ _
      (λ e l h. (operand-bound s bytes 0 2 (omega arith), operand-bound s bytes 2 8 (omega arith)))
      (λ n.
      choose Bounded (eqb c 0x06) _ _ _ _ (λ e l h. operand-bound s bytes 0 1 (omega arith))
      (λ n.
      choose Bounded (eqb c 0x07) _ _ _ _ (λ e l h. tt)
      (λ n.
      choose Bounded (eqb c 0x08) _ _ _ _ (λ e l h. operand-bound s bytes 0 1 (omega arith))
      (λ n.
      choose Bounded (eqb c 0x11) _ _ _ _ (λ e. set-bounded f 1 2 (omega arith) (omega arith))
      (λ n.
      choose Bounded (eqb c 0x12) _ _ _ _ (λ e. set-bounded f 4 5 (omega arith) (omega arith)) (λ n l h. tt))))))))))

-- the command that bytes begin with
pub front_fits : (f : Form) (s : List ℕ) → AreBytes s → bad_of (command_of f s) ≡ [] → Fits (command_of f s)
unfolding command_of Bounded
front_fits f [] bytes h = never h
front_fits f (c ∷ s) bytes h =
    front-cases (λ d. bad_of d ≡ [] → Fits d) f c s never never (λ known whole. with-bounded s bytes.1 f c whole) h
