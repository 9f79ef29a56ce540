-- The short form of commands is not longer than the bytes of the long form that they were read from.
use Prim.Native.Nat.{ℕ, zero, suc, ◌+◌, ◌≤◌}
use mathlib.Core.Bool.{Bool, true, false, cond}
use mathlib.Core.List.{List, [], ◌∷◌, ◌++◌}
use mathlib.Core.Path.{◌≡◌, refl}
use native.Mathlib.Omega.{arith}
use borrow.Author.Tests.{leb-true, ltb-false, ne_eqb}
use lib.Dec.{leb}
use lib.ListN.{length, drop, length-drop, length-append}
use Rattle.std.specs.Prelude.{Result, Ok}
use Rattle.answer.specs.declared.Refusal.{Refusal}
use Rattle.command.specs.declared.Command.{Command}
use Rattle.form.specs.declared.Form.{Form}
use Rattle.command.specs.Command.{operand_bytes, command_with, command_of, size_at, is_last, commands_from, commands_in}
use Rattle.form.specs.Sets.{is_unknown}
use Rattle.command.proofs.Front.{front-cases}
use Rattle.command.proofs.Sizes.{size-bounds}
use Rattle.encode.specs.Encode.{bytes_of, read_bytes, value_bytes}
use Rattle.encode.proofs.Bytes.{length-little-bytes, few-value-bytes}
use Rattle.conversion.specs.Conversion.{bytes_in}

-- a command has no more bytes in the short form than its own and n of operands
Within : Result Command Refusal → ℕ → Type 0
Within c n = length (read_bytes Form.Short c) ≤ 1 + n

either-within : (b : Bool) (x y : Result Command Refusal) (n m : ℕ) → Within x n → Within y m → Within (cond b x y) (cond b n m)
either-within true x y n m p q = p
either-within false x y n m p q = q

set-within : (a v : ℕ) → Within (Ok (Command.Set a v)) 9
unfolding Within bytes_of
set-within a v =
    omega (arith, few-value-bytes Form.Short v, length-little-bytes (value_bytes Form.Short v) v)

within : (c : Result Command Refusal) (n : ℕ) → leb (length (read_bytes Form.Short c)) (1 + n) ≡ true → Within c n
unfolding Within
within c n h = leb-true (length (read_bytes Form.Short c)) (1 + n) h

with-within : (c : ℕ) (s : List ℕ) → is_unknown Form.Long c ≡ false → Within (command_with Form.Long c s) (operand_bytes c)
unfolding bytes_of
with-within c s h =
    let low = ltb-false 0x08 c h in
    rw (ne_eqb c 0x11 (λ e. omega (arith, low, e)), ne_eqb c 0x12 (λ e. omega (arith, low, e)))
    (search (either-within, set-within, within) depth 10)

-- the command at the front: no more than it takes, and than there are
front-within :
    (s : List ℕ)
    → (length (read_bytes Form.Short (command_of Form.Long s)) ≤ size_at s)
    × (length (read_bytes Form.Short (command_of Form.Long s)) ≤ length s)
unfolding command_of bytes_of Within
front-within [] = (omega arith, omega arith)
front-within (c ∷ s) =
    front-cases
    (λ d. (length (read_bytes Form.Short d) ≤ 1 + operand_bytes c) × (length (read_bytes Form.Short d) ≤ suc (length s)))
    Form.Long c s (omega arith, omega arith) (omega arith, omega arith)
    (λ known whole. let here = with-within c s known in (here, omega (arith, here, whole)))

from-within : (n : ℕ) (s : List ℕ) → length (bytes_in Form.Short (commands_from Form.Long n s)) ≤ length s
unfolding commands_from bytes_in
from-within zero s = omega arith
from-within (suc n) s = go (is_last (command_of Form.Long s)) refl (from-within n (drop (size_at s) s))
  where
    go :
        (b : Bool) → is_last (command_of Form.Long s) ≡ b
        → length (bytes_in Form.Short (commands_from Form.Long n (drop (size_at s) s))) ≤ length (drop (size_at s) s)
        → length
        (read_bytes Form.Short (command_of Form.Long s)
        ++ bytes_in Form.Short (cond b [] (commands_from Form.Long n (drop (size_at s) s))))
        ≤ length s
    go true e rest =
        omega (arith, (front-within s).1, length-append (read_bytes Form.Short (command_of Form.Long s)) [])
    go false e rest =
        let next = bytes_in Form.Short (commands_from Form.Long n (drop (size_at s) s)) in
        omega (
          arith,
          (front-within s).0,
          rest,
          length-append (read_bytes Form.Short (command_of Form.Long s)) next,
          length-drop (size_at s) s,
          (size-bounds Form.Long s e).1,
        )

pub not-longer : (s : List ℕ) → length (bytes_in Form.Short (commands_in Form.Long s)) ≤ length s
unfolding commands_in
not-longer s = from-within (suc (length s)) s
