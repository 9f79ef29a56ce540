-- `undo_words::recall` meets its contract: with none listed the list stays, and else the latest stands before the next place.
use Prim.Native.Nat.{◌+◌, ◌-◌, ◌%◌, ◌<◌, min}
use mathlib.Core.Path.{◌≡◌, sym, ◌∙◌, ap, ap₂}
use native.Mathlib.Omega.{arith}
use lib.ListN.{get_or}
use Rattle.std.specs.Prelude.{Some}
use Rattle.undo_words.specs.Journal.{entry_at, before, backwards, entries, latest, rest, capacity}
use Rattle.undo_words.proofs.Ring.{first-backwards}
use Rattle.undo_words.proofs.recall.Goals as goal

pub returns-in_err-left : goal.returns-in_err-left
unfolding entries backwards
returns-in_err-left c =
    let none : min (get_or c.args.list.now 0 0) capacity ≡ 0 = omega (arith, c.used.ensures, c.in_err-left.ensures) in
    (c.from_residual.ensures ∙ rw none, rw none)

pub returns : goal.returns
unfolding entries
returns c =
    let l = c.args.list.now in
    let n = min (get_or l 0 0) capacity in
    let at = get_or l 1 0 % 64 in
    let some : 0 < n = omega (arith, c.used.ensures, c.in_ok-left.ensures) in
    let count : min c.in_ok-left.left capacity ≡ n - 1 = omega (arith, c.used.ensures, c.in_ok-left.ensures) in
    let place : (c.next.result + 63) % 64 ≡ before at = omega (arith, c.next.ensures) in
    let around : (c.next.result + 63) % 64 % 64 ≡ before at = omega (arith, c.next.ensures) in
    let parts = first-backwards n at (entry_at l) some in (
      ap Some (c.entry_at-e.ensures ∙ ap (entry_at l) place) ∙ sym (ap latest parts),
      c.mark.ensures ∙ ap₂ (λ k p. backwards k p (entry_at l)) count around ∙ sym (ap rest parts),
    )
