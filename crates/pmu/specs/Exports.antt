-- The results of a session and of a conversion as numbers, for callers in C.
use Rattle.std.specs.Prelude.{ℕ, Result, Ok, Err}
use Rattle.answer.specs.Numbers.{refusal_number}
use Rattle.conversion.specs.declared.NotConverted.{NotConverted}
use Rattle.pmu.specs.declared.other.Conversion.{Conversion}
use Rattle.transcript.specs.declared.TooShort.{TooShort}

-- MODEL X2: how many bytes the output has, and 0 for a buffer that is too short: no output is empty
unfoldable pub size_of : Result ℕ TooShort → ℕ
size_of (Err e) = 0
size_of (Ok n) = n

-- MODEL X11: how many bytes the other form has, and the number of the refusal. One is 0, and both are for a buffer that is too
-- short
unfoldable pub numbers_of : Result ℕ NotConverted → Conversion
numbers_of (Err NotConverted.NoRoom) = record { bytes = 0; refusal = 0 }
numbers_of (Err (NotConverted.Refused r)) = record { bytes = 0; refusal = refusal_number r }
numbers_of (Ok n) = record { bytes = n; refusal = 0 }
