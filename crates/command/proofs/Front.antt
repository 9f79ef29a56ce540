-- The command at the front of the bytes: a law for each way that its front-tests can go.
use Prim.Native.Nat.{ℕ, suc, ◌-◌, ◌<◌, ◌≤◌}
use mathlib.Core.Bool.{Bool, true, false, cond}
use mathlib.Core.List.{List, [], ◌∷◌}
use mathlib.Core.Path.{◌≡◌, refl, ◌∙◌}
use native.Mathlib.Omega.{arith}
use borrow.Author.Tests.{lt-ltb, le-ltb, ltb-false}
use lib.Dec.{ltb}
use lib.ListN.{length, get_or, drop}
use Rattle.std.specs.Prelude.{Result, Err}
use Rattle.answer.specs.declared.Refusal.{Refusal}
use Rattle.answer.specs.declared.Refusal.TheVariants.{UnknownCommand, Truncated}
use Rattle.command.specs.declared.Command.{Command}
use Rattle.form.specs.declared.Form.{Form}
use Rattle.command.specs.Command.{operand_bytes, command_with, command_of}
use Rattle.form.specs.Sets.{is_unknown}

pub front-none : (f : Form) (s : List ℕ) → length s ≡ 0 → command_of f s ≡ Err Truncated
unfolding command_of
front-none f [] h = refl
front-none f (c ∷ s) h = let z : ⊥ = omega arith in absurd z

-- the front-tests on bytes that are not empty
front-tests :
    (f : Form) (s : List ℕ) → 0 < length s
    → command_of f s
    ≡ cond (is_unknown f (get_or s 0 0)) (Err UnknownCommand)
    (cond (ltb (length s - 1) (operand_bytes (get_or s 0 0))) (Err Truncated) (command_with f (get_or s 0 0) (drop 1 s)))
unfolding command_of
front-tests f [] h = let z : ⊥ = omega arith in absurd z
front-tests f (c ∷ s) h = let e : suc (length s) - 1 ≡ length s = omega arith in rw e

module _ (f : Form) (s : List ℕ) (filled : 0 < length s) where
  pub front-unknown : is_unknown f (get_or s 0 0) ≡ true → command_of f s ≡ Err UnknownCommand
  front-unknown h = front-tests f s filled ∙ rw h

  pub front_cut :
      is_unknown f (get_or s 0 0) ≡ false → length s - 1 < operand_bytes (get_or s 0 0) → command_of f s ≡ Err Truncated
  front_cut k h = front-tests f s filled ∙ rw (k, lt-ltb (length s - 1) (operand_bytes (get_or s 0 0)) h)

  pub front-whole :
      is_unknown f (get_or s 0 0) ≡ false → operand_bytes (get_or s 0 0) ≤ length s - 1
      → command_of f s ≡ command_with f (get_or s 0 0) (drop 1 s)
  front-whole k h = front-tests f s filled ∙ rw (k, le-ltb (length s - 1) (operand_bytes (get_or s 0 0)) h)

-- what holds of both refusals, and of a command with a known byte and all its operands, holds of the command at the front
pub front-cases :
    (P : Result Command Refusal → Type 0) (f : Form) (c : ℕ) (s : List ℕ)
    → P (Err UnknownCommand)
    → P (Err Truncated)
    → (is_unknown f c ≡ false → operand_bytes c ≤ length s → P (command_with f c s))
    → P (command_of f (c ∷ s))
unfolding command_of
front-cases P f c s unknown cut whole = go (is_unknown f c) (ltb (length s) (operand_bytes c)) refl refl
  where
    go :
        (a b : Bool) → is_unknown f c ≡ a → ltb (length s) (operand_bytes c) ≡ b
        → P (cond a (Err UnknownCommand) (cond b (Err Truncated) (command_with f c s)))
    go true b p q = unknown
    go false true p q = cut
    go false false p q = whole p (ltb-false (length s) (operand_bytes c) q)
