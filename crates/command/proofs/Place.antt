-- What is found at a place of the bytes, read as a part of them that reaches to their end.
use Prim.Native.Nat.{ℕ, ◌-◌, ◌≤◌}
use mathlib.Core.Bool.{false}
use mathlib.Core.List.{List}
use mathlib.Core.Path.{◌≡◌, sym, ◌∙◌, ap}
use native.Mathlib.Omega.{arith}
use lib.ListN.{length, take, drop}
use Rattle.std.specs.Prelude.{Result}
use Rattle.answer.specs.declared.Refusal.{Refusal}
use Rattle.command.specs.declared.Command.{Command}
use Rattle.form.specs.declared.Form.{Form}
use Rattle.command.specs.Command.{command_of, size_at, is_last}
use Rattle.form.proofs.Body.{part-all}
use Rattle.command.proofs.Sizes.{size-bounds}

pub size-here : (s : List ℕ) (at : ℕ) {n : ℕ} → n ≡ size_at (take (length s - at) (drop at s)) → n ≡ size_at (drop at s)
size-here s at e = e ∙ ap size_at (part-all s at)

module _ (f : Form) (s : List ℕ) (at : ℕ) where
  pub command-here : {c : Result Command Refusal} → c ≡ command_of f (take (length s - at) (drop at s)) → c
      ≡ command_of f (drop at s)
  command-here e = e ∙ ap (command_of f) (part-all s at)

  -- a command that is not the last takes a byte or more
  pub size-some-here :
      {c : Result Command Refusal} → c ≡ command_of f (take (length s - at) (drop at s))
      → {n : ℕ} → n ≡ size_at (take (length s - at) (drop at s))
      → is_last c ≡ false
      → 1 ≤ n
  size-some-here found there e =
      omega (arith, size-here s at there, (size-bounds f (drop at s) (ap is_last (sym (command-here found)) ∙ e)).0)
