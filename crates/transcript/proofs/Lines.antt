-- The output of a session has one line for each command that was read, and ends with a line's end.
use Prim.Native.Nat.{ℕ, zero, suc, ◌+◌, ◌*◌, ◌/◌, ◌%◌, ◌^◌, ◌<◌}
use mathlib.Core.Bool.{Bool, true, false, cond}
use mathlib.Core.List.{List, [], ◌∷◌, ◌++◌, append_assoc, append-nil}
use mathlib.Core.Path.{◌≡◌, refl, sym, ◌∙◌, ap}
use native.Mathlib.Nat.{zero-add}
use native.Mathlib.Omega.{arith}
use borrow.Author.Tests.{ne_eqb}
use lib.Dec.{eqb, ltb}
use lib.ListN.{length}
use Rattle.answer.specs.declared.Answer.{Answer}
use Rattle.answer.specs.declared.Refusal.TheVariants.{SessionTooLong}
use Rattle.answer.specs.Numbers.{refusal_number, level_number, cause_number}
use Rattle.command.specs.Command.{commands_from, commands_in}
use Rattle.form.specs.Form.{body_of, longest}
use Rattle.execute.specs.Execute.{perform}
use Rattle.line.specs.Line.{text_of, line_of}
use Rattle.text.specs.Text.{bytes, decimal_digits, decimal, hex}
use Rattle.transcript.specs.Session.{lines_from, answers_in, answers_of, output_of}

-- how many line ends a text has
abbrev pub line_end : ℕ → ℕ
line_end b = cond (eqb b 10) 1 0

abbrev pub line_ends : List ℕ → ℕ
line_ends [] = 0
line_ends (b ∷ rest) = line_end b + line_ends rest

ends-append : (a b : List ℕ) → line_ends (a ++ b) ≡ line_ends a + line_ends b
ends-append [] b = sym (zero-add (line_ends b))
ends-append (x ∷ a) b = omega (arith, ends-append a b)

-- none of two texts, one behind the other
none-append : (a b : List ℕ) → line_ends a ≡ 0 → line_ends b ≡ 0 → line_ends (a ++ b) ≡ 0
none-append a b p q = omega (arith, ends-append a b)

-- a digit is no line end
no-line-end : (c d : ℕ) → 10 < c → line_end (c + d) ≡ 0
no-line-end c d h = rw (ne_eqb (c + d) 10 (omega arith))

none-decimal-digits : (k n : ℕ) → line_ends (decimal_digits k n) ≡ 0
none-decimal-digits zero n = refl
none-decimal-digits (suc k) n = go (ltb n 10) (none-decimal-digits k (n / 10))
  where
    go :
        (b : Bool) → line_ends (decimal_digits k (n / 10)) ≡ 0
        → line_ends (cond b ((48 + n) ∷ []) (decimal_digits k (n / 10) ++ ((48 + n % 10) ∷ []))) ≡ 0
    go true p = omega (arith, no-line-end 48 n (omega arith))
    go false p =
        none-append (decimal_digits k (n / 10)) ((48 + n % 10) ∷ []) p (omega (arith, no-line-end 48 (n % 10) (omega arith)))

none-decimal : (n : ℕ) → line_ends (decimal n) ≡ 0
unfolding decimal
none-decimal n = none-decimal-digits 20 n

none-hex : (k x : ℕ) → line_ends (hex k x) ≡ 0
unfolding hex
none-hex zero x = refl
none-hex (suc k) x = go (ltb (x / 2 ^ (4 * k) % 16) 10) (none-hex k x)
  where
    go :
        (b : Bool) → line_ends (hex k x) ≡ 0
        → line_end (cond b (48 + x / 2 ^ (4 * k) % 16) (55 + x / 2 ^ (4 * k) % 16)) + line_ends (hex k x) ≡ 0
    go true p = omega (arith, no-line-end 48 (x / 2 ^ (4 * k) % 16) (omega arith))
    go false p = omega (arith, no-line-end 55 (x / 2 ^ (4 * k) % 16) (omega arith))

-- the text of an answer has none
none-text : (a : Answer) → line_ends (text_of a) ≡ 0
unfolding text_of
none-text Answer.Ok = refl
none-text Answer.Sampled = refl
none-text Answer.End = refl
none-text Answer.Undef = refl
none-text Answer.Other = refl
none-text Answer.Error = refl
none-text (Answer.Trap t) =
    let level = bytes "trap " ++ decimal (level_number t.target) in
    let syndrome = level ++ bytes " " ++ hex 8 t.syndrome in
    none-append (syndrome ++ bytes " ") (decimal (cause_number t.cause))
    (none-append syndrome (bytes " ")
    (none-append (level ++ bytes " ") (hex 8 t.syndrome)
    (none-append level (bytes " ")
    (none-append (bytes "trap ") (decimal (level_number t.target)) refl (none-decimal (level_number t.target)))
    refl)
    (none-hex 8 t.syndrome))
    refl)
    (none-decimal (cause_number t.cause))
none-text (Answer.Value x) = none-append (bytes "value ") (hex 16 x) refl (none-hex 16 x)
none-text (Answer.Mrs x t) =
    none-append (bytes "value " ++ hex 16 x ++ bytes " ") (decimal t)
    (none-append (bytes "value " ++ hex 16 x) (bytes " ") (none-append (bytes "value ") (hex 16 x) refl (none-hex 16 x)) refl)
    (none-decimal t)
none-text (Answer.Refused r) =
    none-append (bytes "refused ") (decimal (refusal_number r)) refl (none-decimal (refusal_number r))

-- a line has one
one_line : (p : ℕ) (a : Answer) → line_ends (line_of p a) ≡ 1
unfolding line_of
one_line p a =
    ends-append (decimal p ++ bytes " " ++ text_of a) (bytes "\n")
    ∙ ap (λ n. n + 1)
    (none-append (decimal p ++ bytes " ") (text_of a) (none-append (decimal p) (bytes " ") (none-decimal p) refl) (none-text a))

-- one line for each answer
lines-count : (p : ℕ) (l : List Answer) → line_ends (lines_from p l) ≡ length l
unfolding lines_from
lines-count p [] = refl
lines-count p (a ∷ l) =
    let e = ends-append (line_of p a) (lines_from (suc p) l) in
    omega (arith, e, one_line p a, lines-count (suc p) l)

-- the lines of the commands that were read
pub one-line-each : (s : List ℕ) → line_ends (lines_from 1 (answers_of s)) ≡ length (answers_of s)
one-line-each s = lines-count 1 (answers_of s)

-- lines end with a line's end
last_end : (p : ℕ) (a : Answer) (l : List Answer) → (q : List ℕ) × (lines_from p (a ∷ l) ≡ q ++ (10 ∷ []))
unfolding lines_from line_of
last_end p a [] = (decimal p ++ bytes " " ++ text_of a, append-nil (line_of p a))
last_end p a (b ∷ l) =
    let r = last_end (suc p) b l in
    (line_of p a ++ r.0, ap (λ t. line_of p a ++ t) r.1 ∙ sym (append_assoc (line_of p a) r.0 (10 ∷ [])))

-- the whole output does, whatever the bytes
pub output-ends : (s : List ℕ) → (q : List ℕ) × (output_of s ≡ q ++ (10 ∷ []))
unfolding output_of answers_in commands_in commands_from perform line_of
output-ends s = go (ltb longest (length (body_of s)))
  where
    go :
        (b : Bool)
        → (q : List ℕ) × (cond b (line_of 0 (Answer.Refused SessionTooLong)) (lines_from 1 (answers_of s)) ≡ q ++ (10 ∷ []))
    go true = (decimal 0 ++ bytes " " ++ text_of (Answer.Refused SessionTooLong), refl)
    go false = last_end 1 _ _
