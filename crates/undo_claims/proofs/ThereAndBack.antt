-- MODEL H7: as many steps back as commands were listed, up to 64, answer `ok` and bring back the record before them, and of the
-- list what did not drop off.
use Prim.Native.Nat.{ℕ, zero, suc, ◌+◌, ◌-◌, ◌≤◌}
use mathlib.Core.Bool.{Bool, true, false, cond, not, true≢false}
use mathlib.Core.List.{List, [], ◌∷◌, ◌++◌, append_assoc, append-nil}
use mathlib.Core.Path.{◌≡◌, refl, sym, ◌∙◌, ap, ap₂}
use native.Mathlib.Nat.{zero-add, add-zero}
use native.Mathlib.Omega.{arith}
use lib.ListN.{take, replicate, replicate-append-replicate}
use Rattle.std.specs.Prelude.{Result, Ok, Err}
use Rattle.answer.specs.declared.Refusal.{Refusal}
use Rattle.answer.specs.declared.Answer.{Answer}
use Rattle.answer.specs.Refused.{is_refused}
use Rattle.command.specs.declared.Command.{Command}
use Rattle.execute.specs.Execute.{tick_command, obey, perform}
use Rattle.undo_list.specs.History.{History, remember, listing, emptying}
use Rattle.undo_list.proofs.Noted.{Stays}
use Rattle.execute.proofs.Taken.{set-stays, level-stays, step_stays, read_same, write-stays, tick-stays, member-stays}
use Rattle.fields.specs.Set.{set, set_level}
use Rattle.undo_words.specs.Journal.{capacity}
use Rattle.machine.proofs.Bools.{and_left, and_right}
use Rattle.machine.specs.declared.Machine.{Machine}
use Rattle.machine.specs.declared.Outcome.{Outcome}
use Rattle.rules.specs.External.{external_read, external_write, member}
use Rattle.rules.specs.Step.{decide, step}
use Rattle.rules.specs.Word.{decode}
use Rattle.undo_claims.specs.Back.{lists, goes_on, steps, forward, steps_back, ThereAndBack}

-- what is seen of steps back: their answers, the record, and so many of the earlier ones
record Seen : Type 0 where
  answers : List Answer
  machine : Machine
  earlier : List Machine

-- n steps back from the record m with the list h, after which i earlier records are looked at; and from k
abbrev from : ℕ → ℕ → Machine → List Machine → Seen
from i n m h =
    let p = perform (steps_back n) (record { machine = m; earlier = h }) in
    record { answers = p.answers; machine = p.left.machine; earlier = take i p.left.earlier }

abbrev back : ℕ → ℕ → History → Seen
back i n k = from i n k.machine k.earlier

-- the same, with j steps back before it that answered `ok`
abbrev behind : ℕ → Seen → Seen
behind j s = record { answers = replicate j Answer.Ok ++ s.answers; machine = s.machine; earlier = s.earlier }

behind-both : (j n : ℕ) (s : Seen) → behind n (behind j s) ≡ behind (j + n) s
behind-both j n s =
    let e : n + j ≡ j + n = omega arith in
    ap (λ a. record { answers = a; machine = s.machine; earlier = s.earlier })
    (sym (append_assoc (replicate n Answer.Ok) (replicate j Answer.Ok) s.answers)
    ∙ ap (λ a. a ++ s.answers) (replicate-append-replicate n j Answer.Ok ∙ ap (λ i. replicate i Answer.Ok) e))

take_twice : (i j : ℕ) (h : List Machine) → i ≤ j → take i (take j h) ≡ take i h
take_twice zero j h l = refl
take_twice (suc i) zero h l = let z : ⊥ = omega arith in absurd z
take_twice (suc i) (suc j) [] l = refl
take_twice (suc i) (suc j) (e ∷ h) l = ap (λ t. e ∷ t) (take_twice i j h (omega arith))

-- what was cut off is not reached
uncut : (i n j : ℕ) (m : Machine) (h : List Machine) → n + i ≤ j → from i n m (take j h) ≡ from i n m h
unfolding perform obey
uncut i zero j m h l = ap (λ t. record { answers = []; machine = m; earlier = t }) (take_twice i j h (omega arith))
uncut i (suc n) zero m h l = let z : ⊥ = omega arith in absurd z
uncut i (suc n) (suc j) m [] l = refl
uncut i (suc n) (suc j) m (e ∷ h) l = ap (behind 1) (uncut i n j e h (omega arith))

-- a command that leaves record and list as they were
same : (i n : ℕ) (m : Machine) (k : History) → m ≡ k.machine → from i (0 + n) m k.earlier ≡ behind 0 (back i n k)
same i n m k e = ap₂ (λ j r. from i j r k.earlier) (zero-add n) e

-- a command that is listed, unless it was refused, and the step back over it
listing-on :
    (i n : ℕ) (o : Outcome) (k : History) → Stays k.machine o → cond (not (is_refused o.answer)) 1 0 + n + i ≤ capacity
    → back i (cond (not (is_refused o.answer)) 1 0 + n) (listing o k).left
    ≡ behind (cond (not (is_refused o.answer)) 1 0) (back i n k)
unfolding perform obey remember
listing-on i n o k stays = go (is_refused o.answer) stays
  where
    go :
        (b : Bool) → (b ≡ true → o.machine ≡ k.machine) → cond (not b) 1 0 + n + i ≤ capacity
        → from i (cond (not b) 1 0 + n) o.machine (cond b k.earlier (remember k.machine k.earlier))
        ≡ behind (cond (not b) 1 0) (back i n k)
    go true s l = same i n o.machine k (s refl)
    go false s l =
        let e : 1 + n ≡ suc n = omega arith in
        ap (λ j. from i j o.machine (remember k.machine k.earlier)) e
        ∙ ap (behind 1) (uncut i n 63 k.machine k.earlier (omega (arith, l)))

-- a set command that was refused
emptying-on :
    (i n : ℕ) (o : Outcome) (k : History) → Stays k.machine o → not (not (is_refused o.answer)) ≡ true
    → back i (0 + n) (emptying o k).left ≡ behind 0 (back i n k)
emptying-on i n o k stays e = go (is_refused o.answer) stays e
  where
    go :
        (b : Bool) → (b ≡ true → o.machine ≡ k.machine) → not (not b) ≡ true
        → from i (0 + n) o.machine (cond b k.earlier []) ≡ behind 0 (back i n k)
    go true s e = same i n o.machine k (s refl)
    go false s e = absurd (true≢false (sym e))

-- an access, by its word
word-stays : (w x : ℕ) (r : Machine) → Stays r (step w x r)
unfolding step decide
word-stays w x r = step_stays r (decode w) x

-- the steps back that a command adds take it back
one :
    (i n : ℕ) (c : Result Command Refusal) (k : History) → goes_on c (obey c k).answer ≡ true
    → cond (lists c (obey c k).answer) 1 0 + n + i ≤ capacity
    → back i (cond (lists c (obey c k).answer) 1 0 + n) (obey c k).left
    ≡ behind (cond (lists c (obey c k).answer) 1 0) (back i n k)
unfolding obey
one i n (Ok Command.End) k g l = same i n k.machine k refl
one i n (Ok (Command.Set f v)) k g l = emptying-on i n (set f v k.machine) k (set-stays k.machine f v) g
one i n (Ok (Command.Level m)) k g l = listing-on i n (set_level m k.machine) k (level-stays k.machine m) l
one i n (Ok (Command.Access w x)) k g l = listing-on i n (step w x k.machine) k (word-stays w x k.machine) l
one i n (Ok (Command.Read o)) k g l = same i n (external_read o k.machine).machine k (read_same k.machine o)
one i n (Ok (Command.Write o x)) k g l = listing-on i n (external_write o x k.machine) k (write-stays k.machine o x) l
one i n (Ok (Command.Tick p)) k g l = listing-on i n (tick_command p k.machine) k (tick-stays k.machine p) l
one i n (Ok Command.Back) k g l = absurd (true≢false (sym g))
one i n (Ok (Command.Member d)) k g l = listing-on i n (member d k.machine) k (member-stays k.machine d) l
one i n (Err r) k g l = same i n k.machine k refl

-- and those that commands add take them back, one after another
all :
    (i n : ℕ) (cs : List (Result Command Refusal)) (k : History) → forward cs k ≡ true → steps cs k + n + i ≤ capacity
    → back i (steps cs k + n) (perform cs k).left ≡ behind (steps cs k) (back i n k)
unfolding perform steps forward
all i n [] k f l = same i n k.machine k refl
all i n (c ∷ cs) k f l =
    let o = obey c k in
    let j : ℕ = cond (lists c o.answer) 1 0 in
    let s = steps cs o.left in
    let here = and_left (goes_on c o.answer) (forward cs o.left) f in
    let rest = and_right (goes_on c o.answer) (forward cs o.left) f in
    let e : (j + s) + n ≡ s + (j + n) = omega arith in
    ap (λ t. back i t (perform cs o.left).left) e
    ∙ all i (j + n) cs o.left rest (omega (arith, l))
    ∙ ap (behind s) (one i n c k here (omega (arith, l)))
    ∙ behind-both j s (back i n k)

pub there_and_back : ThereAndBack
unfolding perform
there_and_back cs k f l =
    let n = steps cs k in
    let i = capacity - n in
    let e = ap (λ j. back i j (perform cs k).left) (sym (add-zero n)) ∙ all i 0 cs k f (omega (arith, l)) in
    record {
      answers = ap (λ (s : Seen). s.answers) e ∙ append-nil (replicate n Answer.Ok);
      machine = ap (λ (s : Seen). s.machine) e;
      earlier = ap (λ (s : Seen). s.earlier) e;
    }
