-- The loop that measures commands: what is measured and what is left is the whole, and none so far was refused.
use Rattle.std.proofs.Common.{◌≡◌, ℕ, ◌+◌, ◌*◌, ◌≤◌, List, [], ◌∷◌, length, Result, Ok, Err, refl, sym, ap, ◌∙◌, arith}
use Rattle.std.proofs.Common.{length-append}
use Rattle.answer.specs.declared.Refusal.{Refusal}
use Rattle.command.specs.declared.Command.{Command}
use Rattle.form.specs.declared.Form.{Form}
use Rattle.form.specs.Form.{longest}
use Rattle.command.specs.Command.{command_of, commands_from, commands_in}
use Rattle.command.proofs.Fuel.{commands-few}
use Rattle.encode.specs.Encode.{value_bytes, bytes_of, read_bytes}
use Rattle.encode.proofs.Bytes.{length-little-bytes, few-value-bytes}
use Rattle.conversion.specs.Conversion.{bytes_in, bad_of, bad_in}
use Rattle.conversion.specs.Call.{first_or_bytes, measure_of}

-- what was read has 13 bytes or fewer
pub few_bytes : (f : Form) (c : Result Command Refusal) → length (read_bytes f c) ≤ 13
unfolding bytes_of
few_bytes f (Ok Command.End) = omega arith
few_bytes f (Ok (Command.Set a v)) = omega (arith, few-value-bytes f v, length-little-bytes (value_bytes f v) v)
few_bytes f (Ok (Command.Level l)) = omega arith
few_bytes f (Ok (Command.Access w x)) = omega arith
few_bytes f (Ok (Command.Read o)) = omega arith
few_bytes f (Ok (Command.Write o x)) = omega arith
few_bytes f (Ok (Command.Tick p)) = omega arith
few_bytes f (Ok Command.Back) = omega arith
few_bytes f (Ok (Command.Member d)) = omega arith
few_bytes f (Err r) = omega arith

-- what is a command met no refusal
pub not-bad : (c : Result Command Refusal) → ((r : Refusal) → c ≡ Err r → ⊥) → bad_of c ≡ []
not-bad (Ok c) t = refl
not-bad (Err r) t = absurd (t r refl)

-- the first command comes first
pub first : (f : Form) (s : List ℕ) → (cs : List (Result Command Refusal)) × (commands_in f s ≡ command_of f s ∷ cs)
unfolding commands_in commands_from
first f s = (_, refl)

-- what the loop keeps, with the commands `left` of all of them, `cs`
pub record Measuring (g : Form) (cs left : List (Result Command Refusal)) (total : ℕ) : Type 0 where
  -- a command has 13 bytes or fewer, and takes one or more
  pub few : total + 13 * length left ≤ 13 * (longest + 1)
  pub bad : bad_in cs ≡ bad_in left
  pub bytes : length (bytes_in g cs) ≡ total + length (bytes_in g left)

pub measuring-start :
    (f g : Form) (s : List ℕ) {left : List (Result Command Refusal)} → length s ≤ longest → left ≡ commands_in f s
    → Measuring g (commands_in f s) left 0
measuring-start f g s h e =
    record {
      few = omega (arith, ap length e, commands-few f s);
      bad = ap bad_in (sym e);
      bytes = ap (λ (l : List (Result Command Refusal)). length (bytes_in g l)) (sym e) ∙ omega arith;
    }

module _ {g : Form} {cs left : List (Result Command Refusal)} {total : ℕ} (m : Measuring g cs left total) where
  -- measured whole
  pub measured-end : left ≡ [] → Ok total ≡ measure_of g cs
  unfolding bad_in bytes_in
  measured-end e =
      let bad : bad_in cs ≡ [] = m.bad ∙ ap bad_in e in
      let bytes : total ≡ length (bytes_in g cs) =
      omega (arith, m.bytes, ap (λ (l : List (Result Command Refusal)). length (bytes_in g l)) e) in
      sym (λ i. first_or_bytes (bad i) (sym bytes i))

  module _ {next : List (Result Command Refusal)} where
    -- refused: the first that is none
    pub measured-bad : {r : Refusal} → left ≡ Err r ∷ next → Err r ≡ measure_of g cs
    unfolding bad_in
    measured-bad e = sym (ap (λ (l : List Refusal). first_or_bytes l (length (bytes_in g cs))) (m.bad ∙ ap bad_in e))

    -- and on behind a command
    pub measuring-on :
        {c : Command} {n : ℕ} → left ≡ Ok c ∷ next → n ≡ length (bytes_of g c) → n ≤ 13 → Measuring g cs next (total + n)
    unfolding bad_in bytes_in
    measuring-on {c} e size small =
        record {
          few = omega (arith, m.few, ap length e, small);
          bad = m.bad ∙ ap bad_in e;
          bytes =
              omega (
                arith,
                m.bytes,
                size,
                ap (λ (l : List (Result Command Refusal)). length (bytes_in g l)) e,
                length-append (bytes_of g c) (bytes_in g next),
              );
        }
