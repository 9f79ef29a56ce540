-- An increment taken back.
use Rattle.std.specs.Prelude.{ℕ, ◌+◌, ◌-◌, ◌%◌, ◌^◌, Bool, cond, List}
use Rattle.rules.specs.Apply.{added}
use Rattle.rules.specs.Overflow.{width}

-- MODEL H8: one less, in a width of k bits
abbrev pub minus_one : ℕ → ℕ → ℕ
minus_one k y = (y + (2 ^ k - 1)) % 2 ^ k

-- MODEL H8: what counter m held before an increment by a mask, where it holds y after it
unfoldable pub decremented : Bool → List ℕ → ℕ → ℕ → ℕ → ℕ
decremented p5 events mask m y = cond (added events mask m) (minus_one (width p5) y) y
