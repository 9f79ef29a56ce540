-- What stands before the commands, and the bytes of commands that are left to be written: those of the first, and those of the
-- others.
use Rattle.std.proofs.Common.{◌≡◌, ℕ, List, ◌∷◌, ◌++◌, Result, ap}
use lib.ListN.{set}
use Rattle.answer.specs.declared.Refusal.{Refusal}
use Rattle.command.specs.declared.Command.{Command}
use Rattle.form.specs.declared.Form.{Form}
use Rattle.form.specs.Form.{head_of}
use Rattle.encode.specs.Encode.{read_bytes}
use Rattle.text.specs.Written.{Written}
use Rattle.conversion.specs.Conversion.{bytes_in}

-- what stands before the commands of each form
module _ (l : List ℕ) {g : Form} where
  pub head-long : g ≡ Form.Long → Written l 0 (head_of g) l 0
  head-long e = record { stored = rw e; behind = rw e }

  pub head-short : g ≡ Form.Short → Written l 0 (head_of g) (set l 0 0x10) 1
  head-short e = record { stored = rw e; behind = rw e }

module _ (g : Form) {left next : List (Result Command Refusal)} where
  pub bytes-on :
      {c : Result Command Refusal} → left ≡ c ∷ next → bytes_in g left ≡ read_bytes g c ++ bytes_in g next
  unfolding bytes_in
  bytes-on e = ap (bytes_in g) e
