-- The result 0 says that the buffer was too short, and nothing else: every session prints something, no converted session is
-- empty, and no refusal has the number 0.
use Prim.Native.Nat.{ℕ}
use mathlib.Core.Bool.{Bool, true, false, cond}
use mathlib.Core.List.{List, [], ◌∷◌}
use mathlib.Core.Path.{◌≡◌, refl, ap}
use native.Mathlib.Omega.{arith}
use lib.Dec.{ltb}
use lib.ListN.{length, length-append}
use Rattle.std.specs.Prelude.{Result, Ok, Err}
use Rattle.transcript.specs.declared.TooShort.{TooShort}
use Rattle.transcript.specs.Session.{output_of, room, too_short, result_of}
use Rattle.transcript.proofs.Lines.{output-ends}
use Rattle.answer.proofs.Some.{some_number}
use Rattle.conversion.specs.declared.NotConverted.{NotConverted}
use Rattle.conversion.specs.Conversion.{Conversion, conversion_of}
use Rattle.conversion.specs.Call as Call
use Rattle.conversion.proofs.Given.{some-given}
use Rattle.pmu.specs.Exports.{size_of, numbers_of}

pub zero-is-short : (s out : List ℕ) → size_of (result_of s out) ≡ 0 → result_of s out ≡ Err too_short
unfolding result_of size_of
zero-is-short s out = go (ltb (length out) room)
  where
    go :
        (b : Bool)
        → size_of (cond b (Err too_short) (Ok (length (output_of s)))) ≡ 0
        → cond b (Err too_short) (Ok (length (output_of s))) ≡ Err too_short
    go true p = refl
    go false p =
        let e = output-ends s in
        let z : ⊥ = omega (arith, p, ap length e.1, length-append e.0 (10 ∷ [])) in
        absurd z

-- two numbers that are 0 say that there was no room for a conversion
pub zeros-are-no-room :
    (s out : List ℕ) → (numbers_of (Call.result_of s out)).bytes ≡ 0 → (numbers_of (Call.result_of s out)).refusal ≡ 0
    → Call.result_of s out ≡ Err NotConverted.NoRoom
unfolding Call.result_of numbers_of
zeros-are-no-room s out = go (ltb (length out) Call.room) (conversion_of s) refl
  where
    go :
        (b : Bool) (c : Conversion) → conversion_of s ≡ c
        → (numbers_of (cond b (Err NotConverted.NoRoom) (Call.answer_of c))).bytes ≡ 0
        → (numbers_of (cond b (Err NotConverted.NoRoom) (Call.answer_of c))).refusal ≡ 0
        → cond b (Err NotConverted.NoRoom) (Call.answer_of c) ≡ Err NotConverted.NoRoom
    go true c e p q = refl
    go false (Conversion.Refused r) e p q = let z : ⊥ = omega (arith, q, some_number r) in absurd z
    go false (Conversion.Session t) e p q = let z : ⊥ = omega (arith, p, some-given s t e) in absurd z
