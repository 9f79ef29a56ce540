-- A call on a caller's words: its reply, the record that the words then hold, and each word.
use Rattle.std.specs.Prelude.{ℕ, cond, List, ◌≡◌, ltb, eqb}
use Rattle.answer.specs.declared.Refusal.TheVariants.{ValueTooLarge}
use Rattle.answer.specs.Refused.{is_refused}
use Rattle.machine.specs.declared.Machine.{Machine}
use Rattle.machine.specs.declared.Outcome.{Outcome}
use Rattle.machine.specs.Outcome.{refused}
use Rattle.reply.specs.declared.Reply.{Reply}
use Rattle.reply.specs.Reply.{reply_of}
use Rattle.rules.specs.External.{tick}
use Rattle.words.specs.Words.{record_of}
use Rattle.words.specs.Call.{call_of}

-- MODEL X14 and X15: the reply is the answer in numbers, the words hold the record afterwards, and each of them is as it was, but
-- for those that such a call changes; where it is refused, all of them stay
pub record Replied (o : Outcome) (changed : Machine → List ℕ → List ℕ) (before : List ℕ) (r : Reply) (after : List ℕ)
    : Type 0 where
  pub reply : r ≡ reply_of o.answer
  pub holds : record_of after ≡ o.machine
  pub words : after ≡ cond (is_refused o.answer) before (changed o.machine before)

-- MODEL R4, K1 and X14: a tick is refused with 4 where its flag exceeds 1, before a word is looked at
abbrev pub tick_call : ℕ → List ℕ → Outcome
tick_call p s = cond (ltb 1 p) (refused ValueTooLarge (record_of s)) (call_of (tick (eqb p 1)) s)
