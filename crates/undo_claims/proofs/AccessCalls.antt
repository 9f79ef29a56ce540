-- Noninterference of `execute::access_decoded`, by which a session makes an access, as `access/specs/Calls.antt` states it, by
-- the induction in `access/proofs/Calls.antt`. All that is known of a call is its contract, as the check takes it from the
-- source; the words of the undo list may be any, and others for each call.
use Prim.Native.Nat.{ℕ}
use mathlib.Core.List.{List}
use mathlib.Core.Logic.{∥∥₁_map}
use mathlib.Core.Path.{refl}
use borrow.Fn.World.{World}
use Rattle.access.specs.Calls.{MayGive, CallsRun, CallsNoninterference}
use Rattle.access.specs.InParts.{saying_so}
use Rattle.access.proofs.Calls.{asked, said, Only, only-calls-run, only-noninterference}
use Rattle.access.proofs.PartsCalls.{only_step}
use Rattle.access.proofs.Decoded.{parts-by-word}
use Rattle.execute.specs.Words.{Accessed}
use Rattle.rules.specs.Word.{decode}
use Rattle.undo_claims.proofs.Calls.{Access}

-- a call of `execute::access_decoded` with the instruction that the word is, and the words of an undo list before and after it
abbrev pub Call : World → MayGive
Call m w x r answer after = (words : List ℕ) × (words' : List ℕ) × Access m w x r words answer after words'

call-only : (m : World) → Only (Call m)
call-only m w x r answer after c =
    let call = c.2 in
    only_step w x r answer after call.4 call.3
    (∥∥₁_map
    (said m (Accessed (decode w) x r (saying_so answer after call.3) after.counters c.0 c.1) (call.5 tt (asked m)))
    (λ a. parts-by-word (decode w) w x r refl _ _ a.parts))

-- the calls of `execute::access_decoded` answer and leave what `run` says
pub calls-are-run : (m : World) → CallsRun (Call m)
calls-are-run m = only-calls-run (Call m) (call-only m)

-- demand 3 of the calls of `execute::access_decoded`
pub calls-noninterference : (m : World) → CallsNoninterference (Call m)
calls-noninterference m = only-noninterference (Call m) (call-only m)
