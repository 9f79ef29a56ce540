-- The texts of answers are those of the examples. Computed.
use mathlib.Core.List.{map}
use mathlib.Core.Path.{◌≡◌, refl}
use Rattle.text.specs.Text.{bytes, decimal, hex}
use Rattle.line.specs.Line.{text_of}
use Rattle.line.specs.Example.{texts}

-- MODEL L1 and D1 to D9
pub texts-hold : map (λ t. text_of t.0) texts ≡ map (λ t. bytes t.1) texts
unfolding decimal hex text_of texts
texts-hold = refl
