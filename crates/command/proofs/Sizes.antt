-- How many bytes commands take: a command that is not the last takes two or more, but for the step back, and they are all there.
use Prim.Native.Nat.{ℕ, suc, ◌+◌, ◌<◌, ◌≤◌}
use mathlib.Core.Bool.{Bool, true, false, cond, true≢false}
use mathlib.Core.List.{List, [], ◌∷◌}
use mathlib.Core.Path.{◌≡◌, refl}
use native.Mathlib.Omega.{arith}
use borrow.Author.Tests.{leb-true}
use lib.Dec.{leb}
use lib.ListN.{length, get_or}
use Rattle.std.specs.Prelude.{Result, Ok}
use Rattle.answer.specs.declared.Refusal.{Refusal}
use Rattle.command.specs.declared.Command.{Command}
use Rattle.form.specs.declared.Form.{Form}
use Rattle.bits.proofs.Choice.{either}
use Rattle.command.proofs.Front.{front-cases}
use Rattle.command.specs.Command.{operand_bytes, command_with, command_of, size_at, is_last, is_back}

pub size_none : (s : List ℕ) → length s ≡ 0 → size_at s ≡ 0
size_none [] h = refl
size_none (c ∷ s) h = let z : ⊥ = omega arith in absurd z

pub size-some : (s : List ℕ) → 0 < length s → size_at s ≡ 1 + operand_bytes (get_or s 0 0)
size-some [] h = let z : ⊥ = omega arith in absurd z
size-some (c ∷ s) h = refl

pub few-operands : (c : ℕ) → operand_bytes c ≤ 12
few-operands c = search (either (λ n. n ≤ 12), leb-true) depth 12

-- a command with n bytes of operands: if it is neither the last nor a step back, it has some
HasOperands : Result Command Refusal → ℕ → Type 0
HasOperands c n = is_last c ≡ false → is_back c ≡ false → 1 ≤ n

-- the tables of commands and of their sizes go by the same tests
either-operands :
    (b : Bool) (x y : Result Command Refusal) (n m : ℕ) → HasOperands x n → HasOperands y m
    → HasOperands (cond b x y) (cond b n m)
either-operands true x y n m p q = p
either-operands false x y n m p q = q

operands : (c : Result Command Refusal) (n : ℕ) → leb 1 n ≡ true → HasOperands c n
unfolding HasOperands
operands c n h e k = leb-true 1 n h

end-operands : HasOperands (Ok Command.End) 0
unfolding HasOperands
end-operands e k = absurd (true≢false e)

back-operands : HasOperands (Ok Command.Back) 0
unfolding HasOperands
back-operands e k = absurd (true≢false k)

with_operands : (f : Form) (c : ℕ) (s : List ℕ) → HasOperands (command_with f c s) (operand_bytes c)
with_operands f c s = search (either-operands, operands, end-operands, back-operands) depth 12

-- past a command that is not the last
pub size-bounds : (f : Form) (s : List ℕ) → is_last (command_of f s) ≡ false → (1 ≤ size_at s) × (size_at s ≤ length s)
unfolding command_of
size-bounds f [] e = absurd (true≢false e)
size-bounds f (c ∷ s) e =
    front-cases (λ d. is_last d ≡ false → (1 ≤ 1 + operand_bytes c) × (1 + operand_bytes c ≤ suc (length s))) f c s
    (λ e. absurd (true≢false e)) (λ e. absurd (true≢false e)) (λ k whole e. (omega arith, omega (arith, whole))) e

-- and no step back
pub two-or-more :
    (f : Form) (s : List ℕ) → is_last (command_of f s) ≡ false → is_back (command_of f s) ≡ false → 2 ≤ size_at s
unfolding command_of HasOperands
two-or-more f [] e k = absurd (true≢false e)
two-or-more f (c ∷ s) e k =
    front-cases (λ d. is_last d ≡ false → is_back d ≡ false → 2 ≤ 1 + operand_bytes c) f c s
    (λ e k. absurd (true≢false e)) (λ e k. absurd (true≢false e))
    (λ known whole e k. omega (arith, with_operands f c s e k)) e k
