-- What came of reading an input into a buffer.
use Rattle.std.specs.Prelude.{◌≡◌, ℕ, ◌≤◌, List, length, take, Result, Ok, Err}

-- MODEL X6, in part: no more bytes are said to be read than the buffer has
abbrev pub Fits : {E : Type 0} → Result ℕ E → List ℕ → Type 0
Fits (Ok n) buffer = (n ≤ length buffer) × (n ≡ length (take n buffer))
Fits (Err e) buffer = Unit {0}
