-- What a writer does.
use Rattle.std.specs.Prelude.{ℕ, List, ◌≡◌, ◌+◌, ◌≤◌, length}
use Rattle.text.specs.declared.Writer.{Writer}
use Rattle.text.specs.Written.{Written}

-- MODEL X3: a writer has room for n bytes from its place on
abbrev pub HasRoom : Writer → ℕ → Type 0
HasRoom w n = w.at + n ≤ length w.out.now

-- MODEL X3: the bytes stand in the buffer from the writer's place on, and its place is now the one behind them. The buffer is the
-- one that it was, and as long
pub record Wrote (before : Writer) (bytes : List ℕ) (after : Writer) : Type 0 where
  pub same_buffer : after.out.ghost_name ≡ before.out.ghost_name
  pub same_length : length after.out.now ≡ length before.out.now
  pub written : Written before.out.now before.at bytes after.out.now after.at
