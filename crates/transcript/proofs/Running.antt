-- The loop over a session's commands: what is written and what is left is the whole output, and there is room for it.
use Rattle.std.proofs.Common.{◌≡◌, ℕ, ◌+◌, ◌≤◌, List, [], ◌∷◌, ◌++◌, length, Result, sym, ap, ◌∙◌, arith, add-one}
use Rattle.answer.specs.declared.Refusal.{Refusal}
use Rattle.command.specs.declared.Command.{Command}
use Rattle.command.proofs.Fuel.{commands-few}
use Rattle.form.specs.declared.Form.{Form}
use Rattle.command.specs.Command.{commands_in}
use Rattle.form.specs.Form.{longest}
use Rattle.line.specs.Line.{line_of}
use Rattle.execute.specs.Execute.{obey, perform}
use Rattle.undo_list.specs.History.{History, Response, begun}
use Rattle.text.specs.declared.Writer.{Writer}
use Rattle.text.specs.Wrote.{HasRoom, Wrote}
use Rattle.text.proofs.Writes.{Writing, writing-start, writing_on, writing-done}
use Rattle.transcript.specs.Session.{lines_from, answers_in, room}
use Rattle.transcript.proofs.Room.{lines_room, some-room, room-fits, line-fits}

-- the lines of commands, from a record and list and a position on
abbrev pub lines_of : List (Result Command Refusal) → History → ℕ → List ℕ
lines_of cs k p = lines_from p (perform cs k).answers

-- what the loop keeps, with the commands `left` of all of them
pub record Running (before now : Writer) (whole : List ℕ) (left : List (Result Command Refusal)) (k : History) (p : ℕ) : Type 0
  where
    -- positions are counted from 1
    pub counted : p + length left ≤ longest + 2
    -- there is room for what the commands that are left can print
    pub spare : HasRoom now (lines_room left + 32)
    -- what is written and what is left is the whole output
    pub lines : Writing before whole now (lines_of left k p)

pub running-start :
    (f : Form) (s : List ℕ) {w : Writer} {left : List (Result Command Refusal)} {k : History} → left ≡ commands_in f s → k ≡ begun
    → length s ≤ longest → HasRoom w room → Running w w (lines_from 1 (answers_in f s)) left k 1
unfolding answers_in
running-start f s {w} e g h r =
    record {
      counted = omega (arith, ap length e, commands-few f s);
      spare = omega (arith, ap lines_room e, room-fits f s);
      lines = rw (e, g) (writing-start {w = w});
    }

module _
    {before now : Writer} {whole : List ℕ} {left : List (Result Command Refusal)} {k : History} {p : ℕ}
    (r : Running before now whole left k p) where
  pub running-end : left ≡ [] → Wrote before whole now
  unfolding perform lines_from
  running-end e = writing-done r.lines (ap (λ l. lines_of l k p) e)

  module _ {c : Result Command Refusal} {next : List (Result Command Refusal)} (e : left ≡ c ∷ next) where
    -- the line of the command has its room
    pub position-fits : p ≤ longest + 1
    position-fits = omega (arith, r.counted, ap length e)

    pub line-room : HasRoom now 45
    line-room = omega (arith, r.spare, ap lines_room e, (some-room c).0)

    -- and on behind it
    pub running-on :
        {after : Writer} {o : Response} → o ≡ obey c k → Wrote now (line_of p o.answer) after → after.at ≤ now.at + 32
        → Running before after whole next o.left (p + 1)
    unfolding perform lines_from
    running-on {after} {o} ran w short =
        let on : lines_of left k p ≡ line_of p o.answer ++ lines_of next o.left (p + 1) =
        ap (λ l. lines_of l k p) e
        ∙ (λ i. line_of p (sym ran i).answer ++ lines_of next (sym ran i).left (sym (add-one p) i)) in
        record {
          counted = omega (arith, r.counted, ap length e);
          spare = omega (
            arith,
            r.spare,
            ap lines_room e,
            line-fits c k p ran w short (omega (arith, position-fits)),
            w.same_length,
          );
          lines = writing_on r.lines on w;
        }
