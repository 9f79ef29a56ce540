-- What it says of a session that its conversion gives one, and that what is given is not empty.
use Prim.Native.Nat.{ℕ, suc, ◌≤◌}
use mathlib.Core.Bool.{Bool, true, false, cond, true≢false}
use mathlib.Core.List.{List, [], ◌∷◌, ◌++◌}
use mathlib.Core.Path.{◌≡◌, refl, sym, ◌∙◌, ap}
use native.Mathlib.Omega.{arith}
use borrow.Author.Tests.{ltb-false}
use lib.Dec.{ltb}
use lib.ListN.{length, length-append}
use Rattle.std.specs.Prelude.{Result, Ok, Err}
use Rattle.answer.specs.declared.Refusal.{Refusal}
use Rattle.answer.specs.declared.Refusal.TheVariants.{SessionTooLong, LongFormTooLong}
use Rattle.command.specs.declared.Command.{Command}
use Rattle.form.specs.declared.Form.{Form}
use Rattle.command.specs.Command.{command_of, commands_in, commands_of}
use Rattle.form.specs.Form.{head_of, form_of, body_of, longest}
use Rattle.encode.specs.Encode.{bytes_of, read_bytes}
use Rattle.conversion.specs.Conversion.{
  other_form,
  bytes_in,
  session_in,
  bad_of,
  bad_in,
  is_too_long,
  Conversion,
  first_or,
  converted,
  conversion_of,
}
use Rattle.conversion.proofs.Measuring.{first}

-- a refusal is no session
is_session : Conversion → Bool
is_session (Conversion.Refused r) = false
is_session (Conversion.Session t) = true

no-session : {A : Type 0} {r : Refusal} {t : List ℕ} → Conversion.Refused r ≡ Conversion.Session t → A
unfolding is_session
no-session e = absurd (true≢false (sym (ap is_session e)))

-- what there was to convert
pub record Converts (s t : List ℕ) : Type 0 where
  pub short-enough : length (body_of s) ≤ longest
  pub good : bad_in (commands_of s) ≡ []
  pub fits : is_too_long (other_form (form_of s)) (length (bytes_in (other_form (form_of s)) (commands_of s))) ≡ false
  pub session : t ≡ session_in (other_form (form_of s)) (commands_of s)

pub converts : (s t : List ℕ) → conversion_of s ≡ Conversion.Session t → Converts s t
unfolding conversion_of converted
converts s t e =
    go (ltb longest (length (body_of s))) (bad_in (commands_of s)) (is_too_long g (length (bytes_in g cs))) refl refl refl e
  where
    g : Form
    g = other_form (form_of s)

    cs : List (Result Command Refusal)
    cs = commands_of s

    go :
        (a : Bool) (l : List Refusal) (b : Bool)
        → ltb longest (length (body_of s)) ≡ a
        → bad_in (commands_of s) ≡ l
        → is_too_long (other_form (form_of s)) (length (bytes_in (other_form (form_of s)) (commands_of s))) ≡ b
        → cond a (Conversion.Refused SessionTooLong)
        (first_or l
        (cond b (Conversion.Refused LongFormTooLong)
        (Conversion.Session (session_in (other_form (form_of s)) (commands_of s)))))
        ≡ Conversion.Session t
        → Converts s t
    go true l b p q r e = no-session e
    go false (x ∷ l) b p q r e = no-session e
    go false [] true p q r e = no-session e
    go false [] false p q r e =
        record { short-enough = ltb-false longest (length (body_of s)) p; good = q; fits = r; session = cc }

-- none among two lists
pub none_both : (a b : List Refusal) → a ++ b ≡ [] → (a ≡ []) × (b ≡ [])
none_both [] b h = (refl, h)
none_both (r ∷ a) b h = let z : ◌≡◌ {A = ℕ} (suc (length (a ++ b))) 0 = ap length h in let n : ⊥ = omega arith in absurd n

-- a refusal that was met is not none
pub never : {A : Type 0} {r : Refusal} → r ∷ [] ≡ [] → A
never e = let z : ◌≡◌ {A = ℕ} 1 0 = ap length e in let n : ⊥ = omega arith in absurd n

-- a command has a byte, unless reading it met a refusal
command-some : (g : Form) (c : Result Command Refusal) → bad_of c ≡ [] → 1 ≤ length (read_bytes g c)
unfolding bytes_of
command-some g (Ok Command.End) h = omega arith
command-some g (Ok (Command.Set f v)) h = omega arith
command-some g (Ok (Command.Level l)) h = omega arith
command-some g (Ok (Command.Access w x)) h = omega arith
command-some g (Ok (Command.Read o)) h = omega arith
command-some g (Ok (Command.Write o x)) h = omega arith
command-some g (Ok (Command.Tick p)) h = omega arith
command-some g (Ok Command.Back) h = omega arith
command-some g (Ok (Command.Member d)) h = omega arith
command-some g (Err r) h = never h

commands-some : (g f : Form) (s : List ℕ) → bad_in (commands_in f s) ≡ [] → 1 ≤ length (bytes_in g (commands_in f s))
unfolding bad_in bytes_in
commands-some g f s h =
    let c = command_of f s in
    let found = first f s in
    let good = (none_both (bad_of c) (bad_in found.0) (sym (ap bad_in found.1) ∙ h)).0 in
    omega (
      arith,
      ap (λ (cs : List (Result Command Refusal)). length (bytes_in g cs)) found.1,
      length-append (read_bytes g c) (bytes_in g found.0),
      command-some g c good,
    )

-- no session that is given is empty
pub some-given : (s t : List ℕ) → conversion_of s ≡ Conversion.Session t → 1 ≤ length t
some-given s t e =
    let how = converts s t e in
    let g = other_form (form_of s) in
    omega (
      arith,
      ap length how.session,
      length-append (head_of g) (bytes_in g (commands_of s)),
      commands-some g (form_of s) (body_of s) how.good,
    )
