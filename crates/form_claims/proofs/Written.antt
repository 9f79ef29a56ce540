-- Reading what was written: a command of a form, written in the form, is the command that the bytes begin with.
use Prim.Native.Nat.{ℕ, ◌+◌, ◌^◌, ◌<◌, ◌≤◌}
use mathlib.Core.Bool.{Bool, true, false, cond}
use mathlib.Core.List.{List, [], ◌∷◌, ◌++◌}
use mathlib.Core.Path.{◌≡◌, refl, ◌∙◌, ap, ap₂}
use native.Mathlib.Omega.{arith}
use borrow.Author.Tests.{le-ltb, ltb-true, ltb-false}
use lib.Dec.{ltb}
use lib.ListN.{length, length-append}
use Rattle.std.specs.Prelude.{Result, Ok, Err}
use Rattle.answer.specs.declared.Refusal.{Refusal}
use Rattle.command.specs.declared.Command.{Command}
use Rattle.form.specs.declared.Form.{Form}
use Rattle.command.specs.Command.{operand_bytes, set_of, command_with, command_of, size_at}
use Rattle.form.specs.Sets.{is_unknown, narrowest}
use Rattle.command.specs.Operand.{little_bytes}
use Rattle.form.proofs.Width.{narrowest-1, narrowest-4, narrowest-8}
use Rattle.encode.specs.Encode.{value_bytes, set_byte, bytes_of, read_bytes}
use Rattle.encode.proofs.Bytes.{length-little-bytes}
use Rattle.form_claims.proofs.Numbers.{first_read, second-read}

-- the operands of a command are numbers that its bytes can hold
abbrev pub Fits : Result Command Refusal → Type 0
Fits (Ok Command.End) = Unit {0}
Fits (Ok (Command.Set a v)) = (a < 256 ^ 1) × (v < 256 ^ 8)
Fits (Ok (Command.Level l)) = l < 256 ^ 1
Fits (Ok (Command.Access w x)) = (w < 256 ^ 4) × (x < 256 ^ 8)
Fits (Ok (Command.Read o)) = o < 256 ^ 2
Fits (Ok (Command.Write o x)) = (o < 256 ^ 2) × (x < 256 ^ 8)
Fits (Ok (Command.Tick p)) = p < 256 ^ 1
Fits (Ok Command.Back) = Unit {0}
Fits (Ok (Command.Member d)) = d < 256 ^ 1
Fits (Err r) = ⊥

-- a byte that both forms know
known : (f : Form) (b : ℕ) → is_unknown Form.Long b ≡ false → is_unknown Form.Short b ≡ false → is_unknown f b ≡ false
known Form.Long b p q = p
known Form.Short b p q = q

-- a known byte with its operands
whole :
    (f : Form) (b : ℕ) (operands rest : List ℕ) → is_unknown f b ≡ false → operand_bytes b ≡ length operands
    → command_of f (b ∷ (operands ++ rest)) ≡ command_with f b (operands ++ rest)
unfolding command_of
whole f b operands rest k e =
    rw (k, le-ltb (length (operands ++ rest)) (operand_bytes b) (omega (arith, e, length-append operands rest)))

-- a set that is as narrow as it can be
narrow-set : (a v : ℕ) {k : ℕ} → narrowest v ≡ k → set_of Form.Short k a v ≡ Ok (Command.Set a v)
narrow-set a v {k} e = rw (e, le-ltb k k (omega arith))

-- sets of each width
module _ (a v : ℕ) (rest : List ℕ) (h : a < 256 ^ 1) where
  short-1 : v < 256 → command_of Form.Short (read_bytes Form.Short (Ok (Command.Set a v)) ++ rest) ≡ Ok (Command.Set a v)
  unfolding bytes_of
  short-1 l =
      let e = narrowest-1 v l in
      rw e
      (whole Form.Short 0x11 (little_bytes 1 a ++ little_bytes 1 v) rest refl refl
      ∙ ap₂ (set_of Form.Short 1) (first_read 1 a (little_bytes 1 v ++ rest) h) (second-read 1 a 1 v rest (omega arith))
      ∙ narrow-set a v e)

  short-4 :
      256 ≤ v → v < 0x100000000 → command_of Form.Short (read_bytes Form.Short (Ok (Command.Set a v)) ++ rest)
      ≡ Ok (Command.Set a v)
  unfolding bytes_of
  short-4 m l =
      let e = narrowest-4 v m l in
      rw e
      (whole Form.Short 0x12 (little_bytes 1 a ++ little_bytes 4 v) rest refl refl
      ∙ ap₂ (set_of Form.Short 4) (first_read 1 a (little_bytes 4 v ++ rest) h) (second-read 1 a 4 v rest (omega arith))
      ∙ narrow-set a v e)

  short-8 :
      0x100000000 ≤ v → v < 256 ^ 8 → command_of Form.Short (read_bytes Form.Short (Ok (Command.Set a v)) ++ rest)
      ≡ Ok (Command.Set a v)
  unfolding bytes_of
  short-8 m l =
      let e = narrowest-8 v m in
      rw e
      (whole Form.Short 0x01 (little_bytes 1 a ++ little_bytes 8 v) rest refl refl
      ∙ ap₂ (set_of Form.Short 8) (first_read 1 a (little_bytes 8 v ++ rest) h) (second-read 1 a 8 v rest l)
      ∙ narrow-set a v e)

  long-8 : v < 256 ^ 8 → command_of Form.Long (read_bytes Form.Long (Ok (Command.Set a v)) ++ rest) ≡ Ok (Command.Set a v)
  unfolding bytes_of
  long-8 l =
      whole Form.Long 0x01 (little_bytes 1 a ++ little_bytes 8 v) rest refl refl
      ∙ ap₂ (λ x y. Ok (Command.Set x y)) (first_read 1 a (little_bytes 8 v ++ rest) h) (second-read 1 a 8 v rest l)

  written-set : (f : Form) → v < 256 ^ 8 → command_of f (read_bytes f (Ok (Command.Set a v)) ++ rest) ≡ Ok (Command.Set a v)
  written-set Form.Long l = long-8 l
  written-set Form.Short l = go (ltb v 256) (ltb v 0x100000000) refl refl
    where
      go :
          (p q : Bool) → ltb v 256 ≡ p → ltb v 0x100000000 ≡ q
          → command_of Form.Short (read_bytes Form.Short (Ok (Command.Set a v)) ++ rest) ≡ Ok (Command.Set a v)
      go true q e d = short-1 (ltb-true v 256 e)
      go false true e d = short-4 (ltb-false v 256 e) (ltb-true v 0x100000000 d)
      go false false e d = short-8 (ltb-false v 0x100000000 d) l

-- every command
pub written-front : (f : Form) (c : Result Command Refusal) (rest : List ℕ) → Fits c → command_of f (read_bytes f c ++ rest) ≡ c
unfolding bytes_of
written-front f (Ok Command.End) rest h = whole f 0x00 [] rest (known f 0x00 refl refl) refl
written-front f (Ok (Command.Set a v)) rest h = written-set a v rest h.0 f h.1
written-front f (Ok (Command.Level l)) rest h =
    whole f 0x02 (little_bytes 1 l) rest (known f 0x02 refl refl) refl ∙ ap (λ x. Ok (Command.Level x)) (first_read 1 l rest h)
written-front f (Ok (Command.Access w x)) rest h =
    whole f 0x03 (little_bytes 4 w ++ little_bytes 8 x) rest (known f 0x03 refl refl) refl
    ∙ ap₂ (λ x y. Ok (Command.Access x y)) (first_read 4 w (little_bytes 8 x ++ rest) h.0) (second-read 4 w 8 x rest h.1)
written-front f (Ok (Command.Read o)) rest h =
    whole f 0x04 (little_bytes 2 o) rest (known f 0x04 refl refl) refl ∙ ap (λ x. Ok (Command.Read x)) (first_read 2 o rest h)
written-front f (Ok (Command.Write o x)) rest h =
    whole f 0x05 (little_bytes 2 o ++ little_bytes 8 x) rest (known f 0x05 refl refl) refl
    ∙ ap₂ (λ x y. Ok (Command.Write x y)) (first_read 2 o (little_bytes 8 x ++ rest) h.0) (second-read 2 o 8 x rest h.1)
written-front f (Ok (Command.Tick p)) rest h =
    whole f 0x06 (little_bytes 1 p) rest (known f 0x06 refl refl) refl ∙ ap (λ x. Ok (Command.Tick x)) (first_read 1 p rest h)
written-front f (Ok Command.Back) rest h = whole f 0x07 [] rest (known f 0x07 refl refl) refl
written-front f (Ok (Command.Member d)) rest h =
    whole f 0x08 (little_bytes 1 d) rest (known f 0x08 refl refl) refl ∙ ap (λ x. Ok (Command.Member x)) (first_read 1 d rest h)
written-front f (Err r) rest h = absurd h

-- the bytes of a set, by its value's width
either-size :
    (b : Bool) (x y : ℕ) → operand_bytes (set_byte x) ≡ 1 + x → operand_bytes (set_byte y) ≡ 1 + y
    → operand_bytes (set_byte (cond b x y)) ≡ 1 + cond b x y
either-size true x y p q = p
either-size false x y p q = q

value-operands : (f : Form) (v : ℕ) → operand_bytes (set_byte (value_bytes f v)) ≡ 1 + value_bytes f v
value-operands Form.Long v = refl
value-operands Form.Short v =
    either-size (ltb v (256 ^ 1)) 1 (cond (ltb v (256 ^ 4)) 4 8) refl (either-size (ltb v (256 ^ 4)) 4 8 refl refl)

set-size :
    (k a v : ℕ) (rest : List ℕ) → operand_bytes (set_byte k) ≡ 1 + k
    → size_at (set_byte k ∷ ((little_bytes 1 a ++ little_bytes k v) ++ rest))
    ≡ length (set_byte k ∷ (little_bytes 1 a ++ little_bytes k v))
set-size k a v rest e = omega (arith, e, length-little-bytes k v)

-- and it takes the bytes that were written
pub written-size : (f : Form) (c : Result Command Refusal) (rest : List ℕ) → Fits c → size_at (read_bytes f c ++ rest)
    ≡ length (read_bytes f c)
unfolding bytes_of
written-size f (Ok Command.End) rest h = refl
written-size f (Ok (Command.Set a v)) rest h = set-size (value_bytes f v) a v rest (value-operands f v)
written-size f (Ok (Command.Level l)) rest h = refl
written-size f (Ok (Command.Access w x)) rest h = refl
written-size f (Ok (Command.Read o)) rest h = refl
written-size f (Ok (Command.Write o x)) rest h = refl
written-size f (Ok (Command.Tick p)) rest h = refl
written-size f (Ok Command.Back) rest h = refl
written-size f (Ok (Command.Member d)) rest h = refl
written-size f (Err r) rest h = absurd h
