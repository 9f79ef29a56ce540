-- `undo_words::remember` meets its contract: the entry is put where the next is to stand, and listed from the place after it.
use Prim.Native.Nat.{◌+◌, ◌%◌, ◌<◌, min}
use mathlib.Core.List.{◌∷◌}
use mathlib.Core.Path.{◌≡◌, ◌∙◌, ap, ap₂}
use native.Mathlib.Omega.{arith}
use lib.ListN.{get_or, take}
use Rattle.undo_words.specs.Journal.{entry_at, backwards, entries, capacity}
use Rattle.undo_words.proofs.Ring.{after, pushed}
use Rattle.undo_words.proofs.remember.Goals as goal

pub returns : goal.returns
unfolding entries
returns c =
    let args = c.args in
    let l = args.list.now in
    let m = c.put.new.list in
    let n = get_or l 0 0 in
    let at = c.next-at.result in
    let count : min c.min-n.result capacity ≡ min (n + 1) capacity = omega (arith, c.min-n.ensures, c.used.ensures) in
    let place : (at + 1) % 64 % 64 ≡ after at = omega arith in
    let inside : at < 64 = omega (arith, c.next-at.ensures) in
    c.mark.ensures
    ∙ ap₂ (λ k p. backwards k p (entry_at m)) count place
    ∙ pushed n at (entry_at l) (entry_at m) args.e inside c.put.ensures.0 c.put.ensures.1
    ∙ ap (λ p. take capacity (args.e ∷ backwards (min n capacity) p (entry_at l))) c.next-at.ensures
