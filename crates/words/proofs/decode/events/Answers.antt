-- `events` meets its contract: each event number is the lowest 16 bits of its word.
use Prim.Native.Nat.{◌+◌}
use mathlib.Core.List.{map}
use mathlib.Core.Path.{sym, ◌∙◌, ap}
use native.Mathlib.Omega.{arith}
use lib.ListN.{get_or}
use Rattle.std.proofs.Common.{rules}
use Rattle.std.proofs.lemmas.List.FromFn.{fill_by_all}
use Rattle.words.specs.Words.{low}
use Rattle.words.proofs.Run.{run}
use Rattle.words.proofs.decode.events.Goals as goal

pub returns : goal.returns
returns c =
    let s = c.args.m.now in
    fill_by_all (λ k. low (get_or s (0x40 + k) 0)) c.loop-i.events 31 0 c.loop-i.invariant.0 (search rules)
    ∙ sym (ap (map low) (run s 0x40 31 (omega arith)))
