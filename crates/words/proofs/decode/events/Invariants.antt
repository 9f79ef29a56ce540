use Prim.Native.Nat.{ℕ, ◌+◌, ◌<◌}
use mathlib.Core.Path.{◌≡◌}
use lib.ListN.{length, get_or}
use Rattle.words.specs.Words.{low}
use Rattle.words.proofs.decode.events.Given as goal

abbrev pub invariant-loop-i : goal.invariant-loop-i
invariant-loop-i l = (length l.events ≡ 31) × ((k : ℕ) → k < l.i → get_or l.events k 0 ≡ low (get_or l.m (0x40 + k) 0))
