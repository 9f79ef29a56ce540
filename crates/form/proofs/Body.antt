-- The bytes from a place on, as a part of all of them that reaches to their end; so those of a session's commands.
use Prim.Native.Nat.{ℕ, ◌-◌}
use mathlib.Core.List.{List}
use mathlib.Core.Path.{◌≡◌, sym, ◌∙◌, ap}
use native.Mathlib.Omega.{arith}
use lib.ListN.{length, take, drop, length-drop}
use lib.Seq.{take_all}
use Rattle.form.specs.Form.{head_of, form_of, body_of}

pub part-all : (s : List ℕ) (at : ℕ) → take (length s - at) (drop at s) ≡ drop at s
part-all s at = take_all (length s - at) (drop at s) (simp length-drop (omega arith))

-- the commands begin at a place of the session, and are the rest of it
module _ (s : List ℕ) where
  pub body-length : {at : ℕ} → at ≡ length (head_of (form_of s)) → length (body_of s) ≡ length s - at
  body-length e = length-drop _ s ∙ ap (λ n. length s - n) (sym e)

  pub body-here : {at : ℕ} → at ≡ length (head_of (form_of s)) → take (length s - at) (drop at s) ≡ body_of s
  body-here {at} e = part-all s at ∙ ap (λ n. drop n s) e
