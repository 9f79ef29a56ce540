-- Whole sessions that were written: their form and commands, how long they are, and that they are bytes.
use Prim.Native.Nat.{ℕ, ◌<◌, ◌≤◌}
use mathlib.Core.Bool.{Bool, true, false, cond}
use mathlib.Core.List.{List, [], ◌∷◌, ◌++◌, append-nil}
use mathlib.Core.Path.{◌≡◌, refl, sym, ◌∙◌, ap}
use native.Mathlib.Omega.{arith}
use borrow.Author.Tests.{ltb-false, eqb-true}
use lib.Dec.{eqb}
use lib.ListN.{length, drop, length-append}
use Rattle.std.specs.Prelude.{Result, Ok, Err}
use Rattle.answer.specs.declared.Refusal.{Refusal}
use Rattle.command.specs.declared.Command.{Command}
use Rattle.form.specs.declared.Form.{Form}
use Rattle.command.specs.Command.{commands_in, commands_of}
use Rattle.form.specs.Form.{head_of, form_of, body_of, longest}
use Rattle.command.specs.Operand.{little_bytes}
use Rattle.encode.specs.Encode.{value_bytes, bytes_of, read_bytes}
use Rattle.encode.proofs.Bytes.{length-little-bytes, few-value-bytes}
use Rattle.conversion.specs.Conversion.{
  other_form,
  bytes_in,
  session_in,
  is_too_long,
}
use Rattle.conversion.proofs.Shorter.{not-longer}
use Rattle.form_claims.specs.Claims.{AreBytes}
use Rattle.form_claims.proofs.Lists.{Proper, ends, goes, written-commands}
use Rattle.form_claims.proofs.Numbers.{append-bytes, little-are-bytes, drop-front}
use Rattle.form_claims.proofs.Written.{Fits}

-- a session is what stands before its commands, and their bytes
pub head-body : (s : List ℕ) → head_of (form_of s) ++ body_of s ≡ s
head-body [] = refl
head-body (b ∷ s) = go (eqb b 0x10) refl
  where
    go :
        (t : Bool) → eqb b 0x10 ≡ t
        → head_of (cond t Form.Short Form.Long) ++ drop (length (head_of (cond t Form.Short Form.Long))) (b ∷ s) ≡ b ∷ s
    go true e = ap (λ c. c ∷ s) (sym (eqb-true b 0x10 e))
    go false e = refl

-- the form of a session that was written
long-form : (cs : List (Result Command Refusal)) → Proper cs → form_of (bytes_in Form.Long cs) ≡ Form.Long
unfolding bytes_in bytes_of
long-form cs ends = refl
long-form cs (goes {c} {cs = ds} h e p) = go c h
  where
    go : (c : Result Command Refusal) → Fits c → form_of (read_bytes Form.Long c ++ bytes_in Form.Long ds) ≡ Form.Long
    go (Ok Command.End) h = refl
    go (Ok (Command.Set a v)) h = refl
    go (Ok (Command.Level l)) h = refl
    go (Ok (Command.Access w x)) h = refl
    go (Ok (Command.Read o)) h = refl
    go (Ok (Command.Write o x)) h = refl
    go (Ok (Command.Tick p)) h = refl
    go (Ok Command.Back) h = refl
    go (Ok (Command.Member d)) h = refl
    go (Err r) h = absurd h

module _ (g : Form) (cs : List (Result Command Refusal)) (p : Proper cs) where
  pub written-form : form_of (session_in g cs) ≡ g
  written-form = go g
    where
      go : (g : Form) → form_of (session_in g cs) ≡ g
      go Form.Long = long-form cs p
      go Form.Short = refl

  pub written-body : body_of (session_in g cs) ≡ bytes_in g cs
  written-body =
      ap (λ (f : Form). drop (length (head_of f)) (session_in g cs)) written-form ∙ drop-front (head_of g) (bytes_in g cs)

  pub written-session : commands_of (session_in g cs) ≡ cs
  written-session =
      (λ i. commands_in (written-form i) (written-body i))
      ∙ ap (commands_in g) (sym (append-nil (bytes_in g cs)))
      ∙ written-commands g cs [] p

-- its length, where it is the other form of bytes that are not too long
pub other_length :
    (f : Form) (s : List ℕ) → length s ≤ longest
    → is_too_long (other_form f) (length (bytes_in (other_form f) (commands_in f s))) ≡ false
    → length (bytes_in (other_form f) (commands_in f s)) ≤ longest
other_length Form.Long s l h = omega (arith, not-longer s)
other_length Form.Short s l h = ltb-false longest (length (bytes_in Form.Long (commands_in Form.Short s))) h

-- the bytes of commands are bytes
either-byte : (b : Bool) (x y : ℕ) → x < 256 → y < 256 → cond b x y < 256
either-byte true x y p q = p
either-byte false x y p q = q

command-bytes : (f : Form) (c : Result Command Refusal) → AreBytes (read_bytes f c)
unfolding bytes_of
command-bytes f (Ok Command.End) = (omega arith, tt)
command-bytes f (Ok (Command.Set a v)) =
    let k = value_bytes f v in (
      either-byte (eqb k 1) 0x11 (cond (eqb k 4) 0x12 0x01) (omega arith)
          (either-byte (eqb k 4) 0x12 0x01 (omega arith) (omega arith)),
      append-bytes (little_bytes 1 a) (little_bytes k v) (little-are-bytes 1 a) (little-are-bytes k v),
    )
command-bytes f (Ok (Command.Level l)) = (omega arith, little-are-bytes 1 l)
command-bytes f (Ok (Command.Access w x)) = (
  omega arith,
  append-bytes (little_bytes 4 w) (little_bytes 8 x) (little-are-bytes 4 w) (little-are-bytes 8 x),
)
command-bytes f (Ok (Command.Read o)) = (omega arith, little-are-bytes 2 o)
command-bytes f (Ok (Command.Write o x)) = (
  omega arith,
  append-bytes (little_bytes 2 o) (little_bytes 8 x) (little-are-bytes 2 o) (little-are-bytes 8 x),
)
command-bytes f (Ok (Command.Tick p)) = (omega arith, little-are-bytes 1 p)
command-bytes f (Ok Command.Back) = (omega arith, tt)
command-bytes f (Ok (Command.Member d)) = (omega arith, little-are-bytes 1 d)
command-bytes f (Err r) = tt

commands-bytes : (f : Form) (cs : List (Result Command Refusal)) → AreBytes (bytes_in f cs)
unfolding bytes_in
commands-bytes f [] = tt
commands-bytes f (c ∷ cs) = append-bytes (read_bytes f c) (bytes_in f cs) (command-bytes f c) (commands-bytes f cs)

pub session-bytes : (f : Form) (cs : List (Result Command Refusal)) → AreBytes (session_in f cs)
session-bytes Form.Long cs = commands-bytes Form.Long cs
session-bytes Form.Short cs = (omega arith, commands-bytes Form.Short cs)

-- a command is not longer in the short form
shorter : (c : Result Command Refusal) → length (read_bytes Form.Short c) ≤ length (read_bytes Form.Long c)
unfolding bytes_of
shorter (Ok Command.End) = omega arith
shorter (Ok (Command.Set a v)) =
    omega (arith, few-value-bytes Form.Short v, length-little-bytes (value_bytes Form.Short v) v)
shorter (Ok (Command.Level l)) = omega arith
shorter (Ok (Command.Access w x)) = omega arith
shorter (Ok (Command.Read o)) = omega arith
shorter (Ok (Command.Write o x)) = omega arith
shorter (Ok (Command.Tick p)) = omega arith
shorter (Ok Command.Back) = omega arith
shorter (Ok (Command.Member d)) = omega arith
shorter (Err r) = omega arith

pub all-shorter : (cs : List (Result Command Refusal)) → length (bytes_in Form.Short cs) ≤ length (bytes_in Form.Long cs)
unfolding bytes_in
all-shorter [] = omega arith
all-shorter (c ∷ cs) =
    omega (
      arith,
      shorter c,
      all-shorter cs,
      length-append (read_bytes Form.Short c) (bytes_in Form.Short cs),
      length-append (read_bytes Form.Long c) (bytes_in Form.Long cs),
    )
