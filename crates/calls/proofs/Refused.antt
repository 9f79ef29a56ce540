-- A call that tests the record, by how its first test goes; and replies of what was made.
use Prim.Native.Nat.{ℕ}
use mathlib.Core.Bool.{Bool, false, cond}
use mathlib.Core.List.{List}
use mathlib.Core.Path.{◌≡◌, sym, ◌∙◌, ap, subst}
use Rattle.answer.specs.declared.Answer.{Answer}
use Rattle.answer.specs.declared.Refusal.TheVariants.{FieldTooLarge}
use Rattle.answer.specs.Refused.{is_refused}
use Rattle.calls_fields.specs.Fields.{Made}
use Rattle.machine.specs.declared.Machine.{Machine}
use Rattle.machine.specs.declared.Outcome.{Outcome}
use Rattle.machine.specs.Outcome.{refused}
use Rattle.reply.specs.declared.Reply.{Reply}
use Rattle.reply.specs.Reply.{reply_of}
use Rattle.words.specs.Words.{record_of}
use Rattle.words.specs.Untyped.{untyped}
use Rattle.words.specs.Put.{put}
use Rattle.words.specs.Call.{call_of, Called}
use Rattle.calls.specs.Replied.{Replied}

-- words that a record by value can have: as by value
pub typed_call : (f : Machine → Outcome) (s : List ℕ) → untyped s ≡ false → f (record_of s) ≡ call_of f s
typed_call f s e = sym (ap (λ (b : Bool). cond b (refused FieldTooLarge (record_of s)) (f (record_of s))) e)

-- what was made in the words, replied
pub called-reply :
    (o p : Outcome) (s : List ℕ) (a : Answer) (after : List ℕ) → Called o s a after → o ≡ p → (r : Reply) → r ≡ reply_of a
    → Replied p put s r after
called-reply o p s a after c e r q =
    subst (λ (o : Outcome). Replied o put s r after) e
    (record { reply = q ∙ ap reply_of c.answered; holds = c.holds; words = c.words })

pub made-reply :
    (o : Outcome) (changed : Machine → List ℕ → List ℕ) (s : List ℕ) (a : Answer) (after : List ℕ) → Made o changed s a after
    → (r : Reply) → r ≡ reply_of a
    → Replied o changed s r after
made-reply o changed s a after m r q =
    record {
      reply = q ∙ ap reply_of m.answered;
      holds = m.holds;
      words = m.words ∙ ap (λ (a : Answer). cond (is_refused a) s (changed o.machine s)) m.answered;
    }

-- what was made in the words, by another name of its outcome
pub called-as : (o p : Outcome) (s : List ℕ) (a : Answer) (after : List ℕ) → o ≡ p → Called o s a after → Called p s a after
called-as o p s a after e = subst (λ (o : Outcome). Called o s a after) e
