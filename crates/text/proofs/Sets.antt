-- Laws of a run of stores: two runs one behind the other, and a run stored at once.
use Prim.Native.Nat.{ℕ, suc, ◌+◌, ◌-◌, ◌≤◌}
use mathlib.Core.List.{List, [], ◌∷◌, ◌++◌, append_assoc, append-nil}
use mathlib.Core.Path.{◌≡◌, sym, ◌∙◌, ap}
use native.Mathlib.Nat.{add-zero}
use native.Mathlib.Omega.{arith}
use borrow.Rule.Slice.PartMut.{put_mid}
use lib.ListN.{length, set, take, drop, length-append, drop_of_length-le}
use lib.Seq.{sets, sets-eq, drop-drop}
use Rattle.text.specs.Written.{Written}

-- one run behind another
sets-append : (l a b : List ℕ) (i : ℕ) → sets (sets l i a) (i + length a) b ≡ sets l i (a ++ b)
sets-append l [] b i = ap (λ n. sets l n b) (add-zero i)
sets-append l (x ∷ a) b i =
    ap (λ n. sets (sets (set l i x) (suc i) a) n b) (omega arith) ∙ sets-append (set l i x) a b (suc i)

pub written_on :
    {before middle after a b : List ℕ} {at j k : ℕ}
    → Written before at a middle j
    → Written middle j b after k
    → Written before at (a ++ b) after k
written_on {before} {middle} {after} {a} {b} {at} {j} {k} p q =
    record {
      stored =
          q.stored
          ∙ ap (λ l. sets l j b) p.stored
          ∙ ap (λ n. sets (sets before at a) n b) p.behind
          ∙ sets-append before a b at;
      behind = omega (arith, p.behind, q.behind, length-append a b);
    }

-- what is left to store, behind a run that is stored
pub sets-rest :
    {before after a : List ℕ} {at k : ℕ} → Written before at a after k → (b : List ℕ)
    → sets before at (a ++ b) ≡ sets after k b
sets-rest {before} {after} {a} {at} {k} p b =
    sym (sets-append before a b at)
    ∙ (λ i. sets (sym p.stored i) (sym p.behind i) b)

-- a run stored at once
pub sets-copied :
    (l : List ℕ) (at : ℕ) {s copy : List ℕ} → copy ≡ s → at + length s ≤ length l
    → put_mid at (at + length s - at) l copy ≡ sets l at s
sets-copied l at {s} e fits =
    let size : at + length s - at ≡ length s = omega arith in
    ap (λ (t : List ℕ). take at l ++ t)
    ((λ i. e i ++ drop (size i) (drop at l)) ∙ ap (λ (t : List ℕ). s ++ t) (drop-drop (length s) at l))
    ∙ sym (sets-eq s l at fits ∙ append_assoc (take at l) s (drop (at + length s) l))

-- a part as long as the run is the run, once nothing is left to store
pub sets-whole :
    (l s part : List ℕ) (i : ℕ) → length s ≤ i → length l ≡ length s → sets l 0 s ≡ sets part i (drop i s) → part ≡ s
sets-whole l s part i done size e =
    ap (sets part i) (sym (drop_of_length-le s done))
    ∙ sym e
    ∙ sets-eq s l 0 (omega arith)
    ∙ ap (λ (t : List ℕ). s ++ t) (drop_of_length-le l (omega arith))
    ∙ append-nil s
