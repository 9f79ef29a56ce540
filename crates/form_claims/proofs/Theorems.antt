-- The claims of specs/Claims hold.
use Prim.Native.Nat.{ℕ, suc, ◌≤◌}
use mathlib.Core.Bool.{false}
use mathlib.Core.List.{List, [], ◌∷◌, ◌++◌, append_assoc}
use mathlib.Core.Path.{◌≡◌, refl, sym, ◌∙◌, ap, subst}
use native.Mathlib.Omega.{arith}
use borrow.Author.Tests.{le-ltb}
use lib.ListN.{length, length-append}
use Rattle.std.specs.Prelude.{Result, Ok}
use Rattle.answer.specs.declared.Refusal.{Refusal}
use Rattle.command.specs.declared.Command.{Command}
use Rattle.form.specs.declared.Form.{Form}
use Rattle.command.specs.Command.{commands_in, commands_of}
use Rattle.form.specs.Form.{head_of, form_of, body_of, longest}
use Rattle.conversion.specs.Conversion.{
  other_form,
  bytes_in,
  session_in,
  bad_of,
  bad_in,
  is_too_long,
  Conversion,
  converted,
  conversion_of,
}
use Rattle.conversion.proofs.Given.{Converts, converts, none_both, some-given}
use Rattle.execute.specs.Execute.{perform}
use Rattle.undo_list.specs.History.{begun}
use Rattle.transcript.specs.Session.{lines_from, answers_in, answers_of, output_of}
use Rattle.form_claims.specs.Claims.{
  AreBytes,
  read_from,
  read_of,
  OtherForm,
  HasOther,
  SameCommands,
  SameLines,
  ReadsThrough,
  ThereAndBack,
  OneMore,
  NotLongerIn,
  NotLonger,
  NotEmpty,
}
use Rattle.form_claims.proofs.Lists.{Proper, proper, read_back, read-front, proper-end}
use Rattle.form_claims.proofs.Numbers.{drop-bytes}
use Rattle.form_claims.proofs.Sessions.{
  head-body,
  written-form,
  written-body,
  written-session,
  other_length,
  session-bytes,
  all-shorter,
}

-- there and back is the same form
twice : (f : Form) → other_form (other_form f) ≡ f
twice Form.Long = refl
twice Form.Short = refl

-- commands that are not too long
not-too-long : (f : Form) {n : ℕ} → n ≤ longest → is_too_long f n ≡ false
not-too-long Form.Long {n} h = le-ltb longest n h
not-too-long Form.Short h = refl

-- the answers are those of the commands
same-answers : (s t : List ℕ) → commands_of t ≡ commands_of s → answers_of t ≡ answers_of s
unfolding answers_in
same-answers s t e = ap (λ (cs : List (Result Command Refusal)). (perform cs begun).answers) e

module _ (s t : List ℕ) (o : OtherForm s t) where
  how : Converts s t
  how = converts s t o.converts

  are-bytes : AreBytes (body_of s)
  are-bytes = drop-bytes (length (head_of (form_of s))) s o.bytes

  all-proper : Proper (commands_of s)
  unfolding commands_in
  all-proper = proper (form_of s) (suc (length (body_of s))) (body_of s) (omega arith) are-bytes how.good

  -- the other form has the same commands, and is not too long
  same-commands : commands_of t ≡ commands_of s
  same-commands =
      ap commands_of how.session ∙ written-session (other_form (form_of s)) (commands_of s) all-proper

  other-short : length (body_of t) ≤ longest
  other-short =
      let body = ap body_of how.session ∙ written-body (other_form (form_of s)) (commands_of s) all-proper in
      omega (arith, ap length body, other_length (form_of s) (body_of s) how.short-enough how.fits)

  -- the commands in the session's own form are what was read of it
  read-bytes : bytes_in (form_of s) (commands_of s) ≡ read_from (form_of s) (suc (length (body_of s))) (body_of s)
  unfolding commands_in
  read-bytes = read_back (form_of s) (suc (length (body_of s))) (body_of s) are-bytes how.good

  read-session : session_in (form_of s) (commands_of s) ≡ read_of s
  unfolding read_of
  read-session = ap (λ (l : List ℕ). head_of (form_of s) ++ l) read-bytes

  own-short : length (bytes_in (form_of s) (commands_of s)) ≤ longest
  own-short =
      let front = read-front (form_of s) (suc (length (body_of s))) (body_of s) in
      let read = read_from (form_of s) (suc (length (body_of s))) (body_of s) in
      omega (arith, how.short-enough, ap length read-bytes, ap length front.1, length-append read front.0)

  back : conversion_of t ≡ Conversion.Session (read_of s)
  unfolding conversion_of converted
  back =
      let form : other_form (form_of t) ≡ form_of s =
      ap (λ (l : List ℕ). other_form (form_of l)) how.session
      ∙ ap other_form (written-form (other_form (form_of s)) (commands_of s) all-proper)
      ∙ twice (form_of s) in
      rw (le-ltb longest (length (body_of t)) other-short, form, same-commands, how.good, not-too-long (form_of s) own-short)
      (ap Conversion.Session read-session)

pub same-form-and-commands : SameCommands
same-form-and-commands s t o = (
  ap form_of (how s t o).session ∙ written-form (other_form (form_of s)) (commands_of s) (all-proper s t o),
  same-commands s t o,
)

-- no refusal was met, the end command included
none-and-end : (cs : List (Result Command Refusal)) → bad_in cs ≡ [] → bad_in (cs ++ (Ok Command.End ∷ [])) ≡ []
unfolding bad_in
none-and-end [] h = refl
none-and-end (c ∷ cs) h =
    let none = none_both (bad_of c) (bad_in cs) h in
    (λ i. none.0 i ++ none-and-end cs none.1 i)

pub has_other : HasOther
unfolding conversion_of converted
has_other s cs c =
    let good : bad_in (commands_of s) ≡ [] = ap bad_in c.reads ∙ none-and-end cs c.good in (
      session_in (other_form (form_of s)) (commands_of s),
      record {
        bytes = c.bytes;
        converts = rw (le-ltb longest (length (body_of s)) c.short-enough, good, c.fits);
      },
    )

pub same_lines : SameLines
unfolding output_of
same_lines s t o =
    let fits = le-ltb longest (length (body_of s)) (how s t o).short-enough in
    let other = le-ltb longest (length (body_of t)) (other-short s t o) in
    rw (fits, other) (ap (lines_from 1) (same-answers s t (same-commands s t o)))

pub there_and_back : ThereAndBack
there_and_back s t o =
    record {
      bytes =
          subst AreBytes (sym (how s t o).session) (session-bytes (other_form (form_of s)) (commands_of s));
      converts = back s t o;
    }

pub reads-through : ReadsThrough
unfolding read_of
reads-through s t o =
    let front = read-front (form_of s) (suc (length (body_of s))) (body_of s) in
    let read = read_from (form_of s) (suc (length (body_of s))) (body_of s) in (
      (
        front.0,
        append_assoc (head_of (form_of s)) read front.0
            ∙ ap (λ (l : List ℕ). head_of (form_of s) ++ l) front.1
            ∙ head-body s,
      ),
      proper-end (commands_of s) (all-proper s t o),
    )

pub one_more : OneMore
one_more cs = omega (arith, all-shorter cs)

either-form : (f : Form) (cs : List (Result Command Refusal)) → NotLongerIn f (session_in f cs) (session_in (other_form f) cs)
either-form Form.Long cs = one_more cs
either-form Form.Short cs = one_more cs

pub not-longer-by-more : NotLonger
not-longer-by-more s t o =
    subst (λ (r : List ℕ). NotLongerIn (form_of s) r t) (read-session s t o)
    (subst (λ (u : List ℕ). NotLongerIn (form_of s) (session_in (form_of s) (commands_of s)) u) (sym (how s t o).session)
    (either-form (form_of s) (commands_of s)))

pub not-empty : NotEmpty
not-empty s t o = some-given s t o.converts
