-- Laws of a writer: what it writes one behind the other, and what it has still to write.
use Prim.Native.Nat.{ℕ, ◌+◌}
use mathlib.Core.List.{List, [], ◌++◌}
use mathlib.Core.Path.{◌≡◌, refl, sym, ◌∙◌, ap}
use native.Mathlib.Omega.{arith}
use lib.ListN.{length, length-append}
use lib.Seq.{sets}
use Rattle.text.specs.declared.Writer.{Writer}
use Rattle.text.specs.Wrote.{Wrote}
use Rattle.text.proofs.Sets.{written_on, sets-rest}

pub wrote-none : {w : Writer} → Wrote w [] w
wrote-none = record { same_buffer = refl; same_length = refl; written = record { stored = refl; behind = omega arith } }

pub wrote_on : {u v w : Writer} {a b : List ℕ} → Wrote u a v → Wrote v b w → Wrote u (a ++ b) w
wrote_on p q =
    record {
      same_buffer = q.same_buffer ∙ p.same_buffer;
      same_length = q.same_length ∙ p.same_length;
      written = written_on p.written q.written;
    }

-- on the way: what stands and what is left to write are the whole
pub record Writing (before : Writer) (whole : List ℕ) (now : Writer) (left : List ℕ) : Type 0 where
  pub same_buffer : now.out.ghost_name ≡ before.out.ghost_name
  pub same_length : length now.out.now ≡ length before.out.now
  pub stored : sets before.out.now before.at whole ≡ sets now.out.now now.at left
  pub behind : before.at + length whole ≡ now.at + length left

pub writing-start : {w : Writer} {whole : List ℕ} → Writing w whole w whole
writing-start = record { same_buffer = refl; same_length = refl; stored = refl; behind = refl }

pub writing_on :
    {u v w : Writer} {whole left a b : List ℕ} → Writing u whole v left → left ≡ a ++ b → Wrote v a w → Writing u whole w b
writing_on {u} {v} {w} {whole} {left} {a} {b} p e q =
    record {
      same_buffer = q.same_buffer ∙ p.same_buffer;
      same_length = q.same_length ∙ p.same_length;
      stored = p.stored ∙ ap (sets v.out.now v.at) e ∙ sets-rest q.written b;
      behind = omega (arith, p.behind, ap length e, length-append a b, q.written.behind);
    }

pub writing-done : {u w : Writer} {whole left : List ℕ} → Writing u whole w left → left ≡ [] → Wrote u whole w
writing-done {u} {w} {whole} {left} p e =
    record {
      same_buffer = p.same_buffer;
      same_length = p.same_length;
      written =
          record {
            stored = sym (p.stored ∙ ap (sets w.out.now w.at) e);
            behind = omega (arith, p.behind, ap length e);
          };
    }
