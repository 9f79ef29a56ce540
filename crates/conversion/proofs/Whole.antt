-- What the calls answer and leave in the buffer, for each way through their tests.
use Prim.Native.Nat.{ℕ, ◌+◌, ◌-◌, ◌<◌, ◌≤◌}
use mathlib.Core.Bool.{Bool, true, false, cond}
use mathlib.Core.List.{List, [], ◌∷◌, ◌++◌}
use mathlib.Core.Path.{◌≡◌, refl, sym, ◌∙◌, ap, subst}
use native.Mathlib.Nat.{zero-add}
use native.Mathlib.Omega.{arith}
use borrow.Author.Tests.{lt-ltb, le-ltb, ltb-false}
use lib.Dec.{ltb}
use lib.ListN.{length, take, drop, length-append}
use lib.Seq.{sets, sets-eq}
use Rattle.std.specs.Prelude.{Result, Ok, Err}
use Rattle.answer.specs.declared.Refusal.{Refusal}
use Rattle.answer.specs.declared.Refusal.TheVariants.{SessionTooLong, LongFormTooLong}
use Rattle.command.specs.declared.Command.{Command}
use Rattle.form.specs.declared.Form.{Form}
use Rattle.command.specs.Command.{commands_in}
use Rattle.form.specs.Form.{head_of, form_of, body_of, longest}
use Rattle.form.proofs.Body.{body-length, body-here}
use Rattle.text.specs.declared.Writer.{Writer}
use Rattle.text.specs.Wrote.{Wrote}
use Rattle.conversion.specs.declared.NotConverted.{NotConverted}
use Rattle.conversion.specs.Conversion.{
  other_form,
  bytes_in,
  session_in,
  bad_in,
  is_too_long,
  Conversion,
  first_or,
  converted,
  conversion_of,
}
use Rattle.conversion.specs.Call.{room, first_or_bytes, measure_of, answer_of, held_of, result_of, buffer_of}
use Rattle.conversion.proofs.Shorter.{not-longer}

-- an answer and a buffer as a conversion has them
abbrev pub Gives : Conversion → Result ℕ NotConverted → List ℕ → List ℕ → Type 0
Gives c answer out out' = (answer ≡ answer_of c) × (out' ≡ held_of c out)

-- commands in a form, by what was measured
module _ (g : Form) (cs : List (Result Command Refusal)) where
  pub measured-refused : {r : Refusal} → Err r ≡ measure_of g cs → Conversion.Refused r ≡ converted g cs
  unfolding converted
  measured-refused {r} e = go (bad_in cs) e
    where
      go :
          (l : List Refusal) → Err r ≡ first_or_bytes l (length (bytes_in g cs))
          → Conversion.Refused r
          ≡ first_or l
          (cond (is_too_long g (length (bytes_in g cs))) (Conversion.Refused LongFormTooLong)
          (Conversion.Session (session_in g cs)))
      go [] e = cc
      go (x ∷ l) e = cc

  module _ {n : ℕ} (e : Ok n ≡ measure_of g cs) where
    none-bad : bad_in cs ≡ []
    none-bad = go (bad_in cs) e
      where
        go : (l : List Refusal) → Ok n ≡ first_or_bytes l (length (bytes_in g cs)) → l ≡ []
        go [] e = refl
        go (x ∷ l) e = cc

    pub measured-length : n ≡ length (bytes_in g cs)
    measured-length = go (bad_in cs) e
      where
        go : (l : List Refusal) → Ok n ≡ first_or_bytes l (length (bytes_in g cs)) → n ≡ length (bytes_in g cs)
        go [] e = cc
        go (x ∷ l) e = cc

    pub measured-long : is_too_long g n ≡ true → Conversion.Refused LongFormTooLong ≡ converted g cs
    unfolding converted
    measured-long h = sym (rw (none-bad, sym measured-length, h))

    pub measured-session : is_too_long g n ≡ false → Conversion.Session (session_in g cs) ≡ converted g cs
    unfolding converted
    measured-session h =
        let short : is_too_long g (length (bytes_in g cs)) ≡ false = ap (is_too_long g) (sym measured-length) ∙ h in
        sym (rw (none-bad, short))

-- the room that the other form takes
other_fits :
    (f : Form) (s : List ℕ) {n : ℕ}
    → n ≡ length (bytes_in (other_form f) (commands_in f s)) → is_too_long (other_form f) n ≡ false → length s ≤ longest
    → length (head_of (other_form f)) + length (bytes_in (other_form f) (commands_in f s)) ≤ room
other_fits Form.Long s e h l = omega (arith, not-longer s)
other_fits Form.Short s {n} e h l = omega (arith, e, ltb-false longest n h)

pub body-fits :
    (f : Form) (s : List ℕ) {g : Form} → g ≡ other_form f → {n : ℕ}
    → n ≡ length (bytes_in g (commands_in f s)) → is_too_long g n ≡ false → length s ≤ longest
    → length (head_of g) + length (bytes_in g (commands_in f s)) ≤ room
body-fits f s {g} o {n} =
    subst
    (λ h.
    n ≡ length (bytes_in h (commands_in f s)) → is_too_long h n ≡ false → length s ≤ longest
    → length (head_of h) + length (bytes_in h (commands_in f s)) ≤ room)
    (sym o) (other_fits f s)

-- the session with these commands, written to the front of a buffer
pub gives-session :
    (g : Form) (cs : List (Result Command Refusal)) {c : Conversion} {out : List ℕ} {before after : Writer} {end : ℕ}
    → Conversion.Session (session_in g cs) ≡ c
    → length (head_of g) + length (bytes_in g cs) ≤ length out
    → before.out.now ≡ out
    → before.at ≡ 0
    → end ≡ after.at
    → Wrote before (session_in g cs) after
    → Gives c (Ok end) out after.out.now
gives-session g cs {out = out} {before} {after} e fits same front place w =
    let t = session_in g cs in
    let size : length t ≡ length (head_of g) + length (bytes_in g cs) = length-append (head_of g) (bytes_in g cs) in
    let behind : after.at ≡ length t = omega (arith, w.written.behind, front) in (
      ap Ok (place ∙ behind) ∙ ap answer_of e,
      w.written.stored
          ∙ (λ i. sets (same i) (front i) t)
          ∙ sets-eq t out 0 (omega (arith, size, fits))
          ∙ ap (λ n. t ++ drop n out) (zero-add (length t))
          ∙ ap (λ (d : Conversion). held_of d out) e,
    )

-- refused, and the buffer left alone
pub gives-refusal :
    {c : Conversion} {r : Refusal} (out : List ℕ) → Conversion.Refused r ≡ c → Gives c (Err (NotConverted.Refused r)) out out
gives-refusal out e = (ap answer_of e, ap (λ (d : Conversion). held_of d out) e)

-- what the same conversion gives, said otherwise
pub gives-on :
    {c d : Conversion} {answer : Result ℕ NotConverted} (out : List ℕ) {out' : List ℕ} → c ≡ d → answer ≡ answer_of c → out'
    ≡ held_of c out
    → Gives d answer out out'
gives-on out e p q = (p ∙ ap answer_of e, q ∙ ap (λ (x : Conversion). held_of x out) e)

-- the whole session
module _ (s : List ℕ) where
  pub session-long :
      {at : ℕ} → at ≡ length (head_of (form_of s)) → longest < length s - at → Conversion.Refused SessionTooLong ≡ conversion_of s
  unfolding conversion_of
  session-long e h = sym (rw (lt-ltb longest (length (body_of s)) (omega (arith, body-length s e))))

  pub session-run :
      {f : Form} {at : ℕ} → f ≡ form_of s → at ≡ length (head_of (form_of s)) → length s - at ≤ longest
      → converted (other_form f) (commands_in f (take (length s - at) (drop at s))) ≡ conversion_of s
  unfolding conversion_of
  session-run g e h =
      (λ i. converted (other_form (g i)) (commands_in (g i) (body-here s e i)))
      ∙ sym (rw (le-ltb longest (length (body_of s)) (omega (arith, body-length s e))))

  module _ (out : List ℕ) where
    pub too_short : length out < room → (Err NotConverted.NoRoom ≡ result_of s out) × (out ≡ buffer_of s out)
    unfolding result_of buffer_of
    too_short h = (sym (rw (lt-ltb (length out) room h)), sym (rw (lt-ltb (length out) room h)))

    -- the bytes that are said to hold a session are bytes of the buffer
    pub bytes_fit :
        {out' : List ℕ} {k : ℕ} → Ok k ≡ result_of s out → out' ≡ buffer_of s out → k ≤ length out'
    unfolding result_of buffer_of
    bytes_fit {out'} {k} r b = go (ltb (length out) room) (conversion_of s) r b
      where
        go :
            (c : Bool) (d : Conversion)
            → Ok k ≡ cond c (Err NotConverted.NoRoom) (answer_of d)
            → out' ≡ cond c out (held_of d out)
            → k ≤ length out'
        go true d r b = let z : ◌≡◌ {A = ℕ} 0 1 = cc in let n : ⊥ = omega arith in absurd n
        go false (Conversion.Refused x) r b = let z : ◌≡◌ {A = ℕ} 0 1 = cc in let n : ⊥ = omega arith in absurd n
        go false (Conversion.Session t) r b =
            let e : k ≡ length t = cc in
            omega (arith, ap length b, length-append t (drop (length t) out))

    pub enough :
        {answer : Result ℕ NotConverted} {out' : List ℕ} → room ≤ length out → Gives (conversion_of s) answer out out'
        → (answer ≡ result_of s out) × (out' ≡ buffer_of s out)
    unfolding result_of buffer_of
    enough h w =
        (w.0 ∙ sym (rw (le-ltb (length out) room h)), w.1 ∙ sym (rw (le-ltb (length out) room h)))
