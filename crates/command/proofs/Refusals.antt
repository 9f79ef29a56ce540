-- Which refusals are met in reading a session: 1, 2 and 19 alone.
use Prim.Native.Nat.{ℕ, zero, suc}
use mathlib.Core.List.{List, [], ◌∷◌}
use lib.ListN.{length, drop}
use Rattle.std.specs.Prelude.{Result, Ok, Err}
use Rattle.answer.specs.declared.Refusal.{Refusal}
use Rattle.answer.specs.declared.Refusal.TheVariants.{UnknownCommand, Truncated, SetTooWide}
use Rattle.bits.proofs.Choice.{either}
use Rattle.form.specs.declared.Form.{Form}
use Rattle.form.specs.Form.{form_of, body_of}
use Rattle.command.specs.declared.Command.{Command}
use Rattle.command.specs.Command.{command_of, size_at, is_last, commands_from, commands_in, commands_of}

module _ (P : Refusal → Type 0) where
  -- what holds of the refusal that is met in reading a command, if one is
  abbrev pub Met : Result Command Refusal → Type 0
  Met (Ok c) = Unit {0}
  Met (Err r) = P r

  abbrev pub AllMet : List (Result Command Refusal) → Type 0
  AllMet [] = Unit {0}
  AllMet (c ∷ cs) = Met c × AllMet cs

  module _ (p1 : P UnknownCommand) (p2 : P Truncated) (p19 : P SetTooWide) where
    front-met : (f : Form) (s : List ℕ) → Met (command_of f s)
    unfolding command_of
    front-met f [] = p2
    front-met f (c ∷ s) = search (either Met, p1, p2, p19) depth 16

    from-met : (f : Form) (n : ℕ) (s : List ℕ) → AllMet (commands_from f n s)
    unfolding commands_from
    from-met f zero s = tt
    from-met f (suc n) s =
        let next = drop (size_at s) s in (
          front-met f s,
          either AllMet (is_last (command_of f s)) [] (commands_from f n next) tt (λ e. from-met f n next),
        )

    -- what holds of these three holds of every refusal met in reading a session
    pub all-met : (s : List ℕ) → AllMet (commands_of s)
    unfolding commands_in
    all-met s = from-met (form_of s) (suc (length (body_of s))) (body_of s)
