-- The bound in the definition of a session's commands never shows: with any larger bound they are the same.
use Prim.Native.Nat.{ℕ, zero, suc, ◌+◌, ◌-◌, ◌<◌, ◌≤◌}
use mathlib.Core.Bool.{Bool, true, false, cond}
use mathlib.Core.List.{List, [], ◌∷◌}
use mathlib.Core.Path.{◌≡◌, refl, sym, ◌∙◌, ap}
use native.Mathlib.Nat.{add-zero, add-suc}
use native.Mathlib.Omega.{arith}
use lib.ListN.{length, take, drop, length-drop}
use Rattle.std.specs.Prelude.{Result}
use Rattle.answer.specs.declared.Refusal.{Refusal}
use Rattle.command.specs.declared.Command.{Command}
use Rattle.form.specs.declared.Form.{Form}
use Rattle.command.specs.Command.{command_of, size_at, is_last, commands_from, commands_in}
use Rattle.form.proofs.Body.{part-all}
use Rattle.command.proofs.Sizes.{size-bounds}

one_more : (f : Form) (k : ℕ) (s : List ℕ) → length s < k → commands_from f k s ≡ commands_from f (suc k) s
unfolding commands_from
one_more f zero s h = let z : ⊥ = omega arith in absurd z
one_more f (suc k) s h =
    ap (λ (l : List (Result Command Refusal)). command_of f s
    ∷ l) (go (is_last (command_of f s)) refl (one_more f k (drop (size_at s) s)))
  where
    go :
        (b : Bool) → is_last (command_of f s) ≡ b
        → (length (drop (size_at s) s) < k → commands_from f k (drop (size_at s) s)
        ≡ commands_from f (suc k) (drop (size_at s) s))
        → cond b [] (commands_from f k (drop (size_at s) s)) ≡ cond b [] (commands_from f (suc k) (drop (size_at s) s))
    go true e rest = refl
    go false e rest = rest (omega (arith, (size-bounds f s e).0, (size-bounds f s e).1, length-drop (size_at s) s))

-- a session of n bytes has the same commands with every bound above n
pub fuel-enough : (f : Form) (j : ℕ) (s : List ℕ) → commands_from f (suc (length s) + j) s ≡ commands_in f s
unfolding commands_in
fuel-enough f zero s = ap (λ k. commands_from f k s) (add-zero (suc (length s)))
fuel-enough f (suc j) s =
    ap (λ k. commands_from f k s) (add-suc (suc (length s)) j)
    ∙ sym (one_more f (suc (length s) + j) s (omega arith))
    ∙ fuel-enough f j s

-- there are no more than the bound, and so one more than bytes at most
few : (f : Form) (k : ℕ) (s : List ℕ) → length (commands_from f k s) ≤ k
unfolding commands_from
few f zero s = omega arith
few f (suc k) s = go (is_last (command_of f s)) (few f k (drop (size_at s) s))
  where
    go :
        (b : Bool) → length (commands_from f k (drop (size_at s) s)) ≤ k
        → suc (length (cond b [] (commands_from f k (drop (size_at s) s)))) ≤ suc k
    go true h = omega arith
    go false h = omega arith

pub commands-few : (f : Form) (s : List ℕ) → length (commands_in f s) ≤ suc (length s)
unfolding commands_in
commands-few f s = few f (suc (length s)) s

-- the commands of bytes, one by one: the last alone, any other with those of the bytes behind it
module _ (f : Form) (s : List ℕ) where
  pub commands-last : is_last (command_of f s) ≡ true → commands_in f s ≡ command_of f s ∷ []
  unfolding commands_in commands_from
  commands-last e = rw e

  pub commands-on :
      is_last (command_of f s) ≡ false → commands_in f s ≡ command_of f s ∷ commands_in f (drop (size_at s) s)
  unfolding commands_in commands_from
  commands-on e =
      let next = drop (size_at s) s in
      let size = size-bounds f s e in
      let spare : length s ≡ suc (length next) + (size_at s - 1) =
      omega (arith, size.0, size.1, length-drop (size_at s) s) in
      rw (e, spare) (ap (λ (l : List (Result Command Refusal)). command_of f s ∷ l) (fuel-enough f (size_at s - 1) next))

-- what is read at the front of the bytes: the last command alone, any other with those behind it, which are there
module _ (f : Form) (s : List ℕ) {c : Result Command Refusal} (here : c ≡ command_of f s) where
  pub read-last : is_last c ≡ true → commands_in f s ≡ c ∷ []
  read-last e = commands-last f s (ap is_last (sym here) ∙ e) ∙ ap (λ (d : Result Command Refusal). d ∷ []) (sym here)

  module _ (e : is_last c ≡ false) {n : ℕ} (size : n ≡ size_at s) where
    pub read-fits : n ≤ length s
    read-fits = omega (arith, size, (size-bounds f s (ap is_last (sym here) ∙ e)).1)

    pub read-on : commands_in f s ≡ c ∷ commands_in f (take (length s - n) (drop n s))
    read-on =
        commands-on f s (ap is_last (sym here) ∙ e)
        ∙ (λ i. sym here i ∷ commands_in f (drop (sym size i) s))
        ∙ ap (λ t. c ∷ commands_in f t) (sym (part-all s n))
