-- The room that a session's lines take: a line has 32 bytes or fewer, and a command that is not the last takes two bytes or more;
-- but for the step back, which takes one, and whose line has 16 or fewer.
use Rattle.std.proofs.Common.{◌≡◌, ℕ, zero, suc, ◌+◌, ◌*◌, ◌<◌, ◌≤◌, Bool, true, false, cond, List, [], ◌∷◌, ◌++◌, length, drop}
use Rattle.std.proofs.Common.{Result, Ok, Err, refl, sym, ap, ◌∙◌, subst, arith, length-append, length-drop}
use Rattle.answer.specs.declared.Answer.{Answer}
use Rattle.answer.specs.declared.Refusal.{Refusal}
use Rattle.answer.specs.declared.Refusal.TheVariants.{NothingToUndo}
use Rattle.command.specs.declared.Command.{Command}
use Rattle.form.specs.declared.Form.{Form}
use Rattle.command.specs.Command.{command_of, size_at, is_last, is_back, commands_from, commands_in}
use Rattle.command.proofs.Sizes.{size-bounds, two-or-more}
use Rattle.execute.specs.Execute.{obey}
use Rattle.undo_list.specs.History.{History, Response, back_from}
use Rattle.machine.specs.declared.Machine.{Machine}
use Rattle.line.specs.Line.{text_of, line_of}
use Rattle.text.specs.Text.{bytes, decimal}
use Rattle.text.specs.declared.Writer.{Writer}
use Rattle.text.specs.Wrote.{Wrote}
use Rattle.text.proofs.Digits.{decimal-length}

-- a line with a text of ten bytes or fewer, at a position of four digits or fewer
short-line : (p : ℕ) (a : Answer) → p < 10000 → length (text_of a) ≤ 10 → length (line_of p a) ≤ 16
unfolding line_of
short-line p a h t =
    let front = decimal p ++ bytes " " in
    let number = decimal-length 3 p h in
    omega (
      arith,
      number,
      length-append (decimal p) (bytes " "),
      length-append front (text_of a),
      length-append (front ++ text_of a) (bytes "\n"),
    )

-- the line of a step back
back-line : (p : ℕ) (k : History) → p < 10000 → length (line_of p (obey (Ok Command.Back) k).answer) ≤ 16
unfolding obey text_of decimal
back-line p k h = go k.earlier
  where
    go : (l : List Machine) → length (line_of p (back_from k.machine l).answer) ≤ 16
    go [] = short-line p (Answer.Refused NothingToUndo) h (omega arith)
    go (m ∷ l) = short-line p Answer.Ok h (omega arith)

is-back : (c : Result Command Refusal) → is_back c ≡ true → c ≡ (Ok Command.Back)
is-back (Ok Command.End) e = cc
is-back (Ok (Command.Set f v)) e = cc
is-back (Ok (Command.Level l)) e = cc
is-back (Ok (Command.Access w x)) e = cc
is-back (Ok (Command.Read o)) e = cc
is-back (Ok (Command.Write o x)) e = cc
is-back (Ok (Command.Tick p)) e = cc
is-back (Ok Command.Back) e = refl
is-back (Ok (Command.Member d)) e = cc
is-back (Err n) e = cc

-- the room that the line of a command takes, and that of commands
abbrev pub line_room : Result Command Refusal → ℕ
line_room c = cond (is_back c) 16 32

abbrev pub lines_room : List (Result Command Refusal) → ℕ
lines_room [] = 0
lines_room (c ∷ cs) = line_room c + lines_room cs

line-some : (b : Bool) → (16 ≤ cond b 16 32) × (cond b 16 32 ≤ 32)
line-some true = (omega arith, omega arith)
line-some false = (omega arith, omega arith)

pub some-room : (c : Result Command Refusal) → (16 ≤ line_room c) × (line_room c ≤ 32)
some-room c = line-some (is_back c)

-- it is that of 16 bytes for each byte of the commands, and of one line more
fits : (f : Form) (n : ℕ) (s : List ℕ) → lines_room (commands_from f n s) ≤ 16 * length s + 32
unfolding commands_from
fits f zero s = omega arith
fits f (suc n) s = go (is_last c) (is_back c) refl refl (fits f n (drop (size_at s) s))
  where
    c : Result Command Refusal
    c = command_of f s

    go :
        (a b : Bool) → is_last (command_of f s) ≡ a → is_back (command_of f s) ≡ b
        → lines_room (commands_from f n (drop (size_at s) s)) ≤ 16 * length (drop (size_at s) s) + 32
        → cond (is_back (command_of f s)) 16 32 + lines_room (cond a [] (commands_from f n (drop (size_at s) s)))
        ≤ 16 * length s + 32
    go true b e k h = omega (arith, (some-room (command_of f s)).1)
    go false true e k h = rw k (omega (arith, h, (size-bounds f s e).0, (size-bounds f s e).1, length-drop (size_at s) s))
    go false false e k h =
        rw k (omega (arith, h, two-or-more f s e k, (size-bounds f s e).1, length-drop (size_at s) s))

pub room-fits : (f : Form) (s : List ℕ) → lines_room (commands_in f s) ≤ 16 * length s + 32
unfolding commands_in
room-fits f s = fits f (suc (length s)) s

-- the line of a command takes no more
pub line-fits :
    (c : Result Command Refusal) (k : History) (p : ℕ) {o : Response} → o ≡ obey c k
    → {now after : Writer} → Wrote now (line_of p o.answer) after → after.at ≤ now.at + 32 → p < 10000
    → after.at ≤ now.at + line_room c
line-fits c k p {o} ran {now} {after} w short h = go (is_back c) refl
  where
    go : (b : Bool) → is_back c ≡ b → after.at ≤ now.at + cond b 16 32
    go false e = short
    go true e =
        let line : length (line_of p o.answer) ≤ 16 =
        subst (λ (a : Response). length (line_of p a.answer) ≤ 16) (sym (ran
        ∙ ap (λ d. obey d k) (is-back c e))) (back-line p k h) in
        omega (arith, w.written.behind, line)
