-- What is known of a call of `pmu_access`, by its contract as the check takes it from the source, is what the runs of calls in
-- `calls/specs/Isolated.antt` ask of each: were the contract weaker, `call-replies` would be refused.
use Prim.Native.Nat.{ℕ}
use mathlib.Core.List.{List}
use borrow.Fn.World.{World}
use Rattle.access.specs.Calls.{Obeyed, Reference, to}
use Rattle.access.proofs.Calls.{asked, said}
use Rattle.calls.specs.Replied.{Replied}
use Rattle.reply.specs.declared.Reply.{Reply}
use Rattle.rules.specs.Step.{step}
use Rattle.words.specs.Put.{put}
use Rattle.words.specs.Call.{call_of}
use Rattle.pmu_access.specs.contracts.pmu_access as pmu-access'

-- a call of `pmu_access`, with any reference to the words: a reply, and words behind the reference at its return, of which the
-- contract holds, as the source states it
abbrev pub Call : World → ℕ → ℕ → List ℕ → Reply → List ℕ → Type 1
Call m w x s r left =
    (p : Reference)
    × Obeyed
    m
    pmu-access'.ended
    (pmu-access'.clauses m.𝓛 m.𝓜.mem m.𝓡.run)
    (p.lifetime, tt)
    (to p s, (w, (x, tt)))
    (left, (tt, (tt, tt)))
    r

pub call-replies :
    (m : World) (w x : ℕ) (s : List ℕ) (r : Reply) (left : List ℕ) → Call m w x s r left
    → ∥ Replied (call_of (step w x) s) put s r left ∥₁
call-replies m w x s r left c = said m (Replied (call_of (step w x) s) put s r left) (c.1 tt (asked m))
