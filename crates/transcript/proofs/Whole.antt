-- What the library function answers and leaves in the buffer, for each way through its tests.
use Prim.Native.Nat.{ℕ, ◌-◌, ◌<◌, ◌≤◌}
use mathlib.Core.Bool.{Bool, true, false, cond}
use mathlib.Core.List.{List, ◌++◌}
use mathlib.Core.Path.{◌≡◌, sym, ◌∙◌, ap}
use native.Mathlib.Nat.{zero-add}
use native.Mathlib.Omega.{arith}
use borrow.Author.Tests.{lt-ltb, le-ltb}
use lib.Dec.{ltb}
use lib.ListN.{length, take, drop, length-append}
use lib.Seq.{sets, sets-eq}
use Rattle.std.specs.Prelude.{Ok, Err}
use Rattle.answer.specs.declared.Answer.{Answer}
use Rattle.answer.specs.declared.Refusal.TheVariants.{SessionTooLong}
use Rattle.form.specs.declared.Form.{Form}
use Rattle.form.specs.Form.{head_of, form_of, body_of, longest}
use Rattle.line.specs.Line.{line_of}
use Rattle.text.specs.declared.Writer.{Writer}
use Rattle.text.specs.Wrote.{Wrote}
use Rattle.form.proofs.Body.{body-length, body-here}
use Rattle.transcript.specs.Session.{room, too_short, answers_in, lines_from, output_of, result_of, buffer_of}

module _ (s : List ℕ) where
  pub output-long :
      {at : ℕ} → at ≡ length (head_of (form_of s)) → longest < length s - at
      → line_of 0 (Answer.Refused SessionTooLong) ≡ output_of s
  unfolding output_of
  output-long e h = sym (rw (lt-ltb longest (length (body_of s)) (omega (arith, body-length s e))))

  pub output-run :
      {f : Form} {at : ℕ} → f ≡ form_of s → at ≡ length (head_of (form_of s)) → length s - at ≤ longest
      → lines_from 1 (answers_in f (take (length s - at) (drop at s))) ≡ output_of s
  unfolding output_of
  output-run g e h =
      (λ i. lines_from 1 (answers_in (g i) (body-here s e i)))
      ∙ sym (rw (le-ltb longest (length (body_of s)) (omega (arith, body-length s e))))

module _ (s out : List ℕ) where
  pub no-room : length out < room → (Err too_short ≡ result_of s out) × (out ≡ buffer_of s out)
  unfolding result_of buffer_of
  no-room h = (sym (rw (lt-ltb (length out) room h)), sym (rw (lt-ltb (length out) room h)))

  -- the output, written to the front of a buffer with room for it
  pub enough :
      room ≤ length out → {before after : Writer} → before.out.now ≡ out → before.at ≡ 0
      → {bytes : List ℕ} → Wrote before bytes after → bytes ≡ output_of s → after.at ≤ length out
      → {end : ℕ} → end ≡ after.at
      → (Ok end ≡ result_of s out) × (after.out.now ≡ buffer_of s out)
  unfolding result_of buffer_of
  enough h {after = after} same front {bytes} w e fits place =
      let behind : after.at ≡ length bytes = omega (arith, w.written.behind, front) in (
        ap Ok (place ∙ behind ∙ ap length e) ∙ sym (rw (le-ltb (length out) room h)),
        w.written.stored
            ∙ (λ i. sets (same i) (front i) bytes)
            ∙ sets-eq bytes out 0 (omega (arith, behind))
            ∙ (λ i. e i ++ drop (zero-add (length (e i)) i) out)
            ∙ sym (rw (le-ltb (length out) room h)),
      )

  -- the bytes that are said to hold the output are bytes of the buffer
  pub bytes_fit : {out' : List ℕ} {k : ℕ} → Ok k ≡ result_of s out → out' ≡ buffer_of s out → k ≤ length out'
  unfolding result_of buffer_of
  bytes_fit {out'} {k} r b = go (ltb (length out) room) r b
    where
      go :
          (c : Bool)
          → Ok k ≡ cond c (Err too_short) (Ok (length (output_of s)))
          → out' ≡ cond c out (output_of s ++ drop (length (output_of s)) out)
          → k ≤ length out'
      go true r b = let z : ◌≡◌ {A = ℕ} 0 1 = cc in let n : ⊥ = omega arith in absurd n
      go false r b =
          let e : k ≡ length (output_of s) = cc in
          omega (arith, ap length b, length-append (output_of s) (drop (length (output_of s)) out))
