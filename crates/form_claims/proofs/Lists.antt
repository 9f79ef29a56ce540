-- Lists of commands: those that were read are written as they were, and those that were written are read as they were.
use Prim.Native.Nat.{ℕ, zero, suc, ◌<◌}
use mathlib.Core.Bool.{Bool, true, false, cond}
use mathlib.Core.List.{List, [], ◌∷◌, ◌++◌, append-nil, append_assoc}
use mathlib.Core.Path.{◌≡◌, refl, sym, ◌∙◌, ap, subst}
use native.Mathlib.Omega.{arith}
use lib.ListN.{length, take, drop, length-drop, take-append-drop}
use Rattle.std.specs.Prelude.{Result, Ok, Err}
use Rattle.answer.specs.declared.Refusal.{Refusal}
use Rattle.command.specs.declared.Command.{Command}
use Rattle.form.specs.declared.Form.{Form}
use Rattle.command.specs.Command.{command_of, size_at, is_last, commands_from, commands_in}
use Rattle.command.proofs.Fuel.{commands-last, commands-on}
use Rattle.command.proofs.Sizes.{size-bounds}
use Rattle.encode.specs.Encode.{read_bytes}
use Rattle.conversion.specs.Conversion.{bytes_in, bad_of, bad_in}
use Rattle.conversion.proofs.Given.{never, none_both}
use Rattle.form_claims.specs.Claims.{AreBytes, read_from}
use Rattle.form_claims.proofs.Bounded.{front_fits}
use Rattle.form_claims.proofs.Numbers.{drop-bytes, drop-front}
use Rattle.form_claims.proofs.ReadBack.{front-back}
use Rattle.form_claims.proofs.Written.{Fits, written-front, written-size}

-- commands up to the end command, which is the last, and none that is none
pub data Proper : List (Result Command Refusal) → Type 0 where
  ends : Proper (Ok Command.End ∷ [])
  goes : {c : Result Command Refusal} {cs : List (Result Command Refusal)} → Fits c → is_last c ≡ false → Proper cs → Proper (c
      ∷ cs)

-- the last command that is read, where it is one
last-is-end : (c : Result Command Refusal) → bad_of c ≡ [] → is_last c ≡ true → c ≡ (Ok Command.End)
last-is-end (Ok Command.End) h e = refl
last-is-end (Ok (Command.Set f v)) h e = cc
last-is-end (Ok (Command.Level l)) h e = cc
last-is-end (Ok (Command.Access w x)) h e = cc
last-is-end (Ok (Command.Read o)) h e = cc
last-is-end (Ok (Command.Write o x)) h e = cc
last-is-end (Ok (Command.Tick p)) h e = cc
last-is-end (Ok Command.Back) h e = cc
last-is-end (Ok (Command.Member d)) h e = cc
last-is-end (Err r) h e = never h

-- the first of them is none that is none
module _ (f : Form) (n : ℕ) (s : List ℕ) (h : bad_in (commands_from f (suc n) s) ≡ []) where
  pub first_good : bad_of (command_of f s) ≡ []
  unfolding commands_from bad_in
  first_good = (none_both (bad_of (command_of f s)) _ h).0

  pub rest-good : is_last (command_of f s) ≡ false → bad_in (commands_from f n (drop (size_at s) s)) ≡ []
  unfolding commands_from bad_in
  rest-good e = simp e at (none_both (bad_of (command_of f s)) _ h).1

-- commands that were read, with a bound that is not met
pub proper :
    (f : Form) (n : ℕ) (s : List ℕ) → length s < n → AreBytes s → bad_in (commands_from f n s) ≡ []
    → Proper (commands_from f n s)
unfolding commands_from
proper f zero s l b h = let z : ⊥ = omega arith in absurd z
proper f (suc n) s l b h = go (is_last (command_of f s)) refl (proper f n (drop (size_at s) s))
  where
    rest : List ℕ
    rest = drop (size_at s) s

    go :
        (t : Bool) → is_last (command_of f s) ≡ t
        → (length rest < n → AreBytes rest → bad_in (commands_from f n rest) ≡ [] → Proper (commands_from f n rest))
        → Proper (command_of f s ∷ cond t [] (commands_from f n rest))
    go true e on =
        subst (λ (c : Result Command Refusal). Proper (c ∷ [])) (sym (last-is-end (command_of f s) (first_good f n s h) e)) ends
    go false e on =
        let size = size-bounds f s e in
        let fewer = length-drop (size_at s) s in
        goes (front_fits f s b (first_good f n s h)) e
        (on (omega (arith, size.0, size.1, fewer)) (drop-bytes (size_at s) s b) (rest-good f n s h e))

-- what was read is written as it was read
pub read_back :
    (f : Form) (n : ℕ) (s : List ℕ) → AreBytes s → bad_in (commands_from f n s) ≡ []
    → bytes_in f (commands_from f n s) ≡ read_from f n s
unfolding commands_from bytes_in read_from
read_back f zero s b h = refl
read_back f (suc n) s b h = go (is_last (command_of f s)) refl (read_back f n (drop (size_at s) s))
  where
    rest : List ℕ
    rest = drop (size_at s) s

    go :
        (t : Bool) → is_last (command_of f s) ≡ t
        → (AreBytes rest → bad_in (commands_from f n rest) ≡ [] → bytes_in f (commands_from f n rest) ≡ read_from f n rest)
        → read_bytes f (command_of f s) ++ bytes_in f (cond t [] (commands_from f n rest))
        ≡ take (size_at s) s ++ cond t [] (read_from f n rest)
    go true e on = ap (λ (l : List ℕ). l ++ []) (front-back f s b (first_good f n s h))
    go false e on =
        let later = on (drop-bytes (size_at s) s b) (rest-good f n s h e) in
        (λ i. front-back f s b (first_good f n s h) i ++ later i)

-- and stands at the front
pub read-front : (f : Form) (n : ℕ) (s : List ℕ) → (rest : List ℕ) × (read_from f n s ++ rest ≡ s)
unfolding read_from
read-front f zero s = (s, refl)
read-front f (suc n) s = go (is_last (command_of f s)) (read-front f n (drop (size_at s) s))
  where
    next : List ℕ
    next = read_from f n (drop (size_at s) s)

    go :
        (t : Bool) → (rest : List ℕ) × (next ++ rest ≡ drop (size_at s) s)
        → (rest : List ℕ) × ((take (size_at s) s ++ cond t [] next) ++ rest ≡ s)
    go true on = (
      drop (size_at s) s,
      ap (λ (l : List ℕ). l ++ drop (size_at s) s) (append-nil (take (size_at s) s)) ∙ take-append-drop (size_at s) s,
    )
    go false on = (
      on.0,
      append_assoc (take (size_at s) s) next on.0
          ∙ ap (λ (l : List ℕ). take (size_at s) s ++ l) on.1
          ∙ take-append-drop (size_at s) s,
    )

-- what was written is read as it was written
pub written-commands :
    (f : Form) (cs : List (Result Command Refusal)) (rest : List ℕ) → Proper cs → commands_in f (bytes_in f cs ++ rest) ≡ cs
unfolding bytes_in
written-commands f cs rest ends =
    let front = written-front f (Ok Command.End) rest tt in
    subst (λ (s : List ℕ). commands_in f s ≡ Ok Command.End ∷ [])
    (ap (λ (l : List ℕ). l ++ rest) (sym (append-nil (read_bytes f (Ok Command.End)))))
    (commands-last f (read_bytes f (Ok Command.End) ++ rest) (ap is_last front) ∙ ap (λ (c : Result Command Refusal). c
    ∷ []) front)
written-commands f cs rest (goes {c} {cs = ds} h e p) =
    let later = bytes_in f ds ++ rest in
    let front = written-front f c later h in
    let behind : drop (size_at (read_bytes f c ++ later)) (read_bytes f c ++ later) ≡ later =
    ap (λ n. drop n (read_bytes f c ++ later)) (written-size f c later h) ∙ drop-front (read_bytes f c) later in
    ap (commands_in f) (append_assoc (read_bytes f c) (bytes_in f ds) rest)
    ∙ commands-on f (read_bytes f c ++ later) (ap is_last front ∙ e)
    ∙ (λ i. front i ∷ commands_in f (behind i))
    ∙ ap (λ (l : List (Result Command Refusal)). c ∷ l) (written-commands f ds rest p)

-- the end command is the last
pub proper-end : (cs : List (Result Command Refusal)) → Proper cs → (ds : List (Result Command Refusal)) × (cs ≡ ds
    ++ (Ok Command.End ∷ []))
proper-end cs ends = ([], refl)
proper-end cs (goes {c} {cs = ds} h e p) =
    let rest = proper-end ds p in
    (c ∷ rest.0, ap (λ (l : List (Result Command Refusal)). c ∷ l) rest.1)
