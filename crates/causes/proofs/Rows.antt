-- Two orders of traps, one before and one after the control of a cause is opened: what stops an access by that cause in the one
-- is a row, and in the other the rows behind it decide.
use mathlib.Core.Bool.{Bool, true, false, cond, true≢false}
use mathlib.Core.List.{List, [], ◌∷◌, ◌++◌}
use mathlib.Core.Path.{◌≡◌, refl, sym, ◌∙◌, ap}
use borrow.Author.Tests.{eq-eqb}
use Rattle.answer.specs.declared.Cause.{Cause}
use Rattle.answer.specs.declared.Level.{Level}
use Rattle.answer.specs.Numbers.{cause_number}
use Rattle.machine.specs.First.{first}
use Rattle.rules.specs.declared.Stop.{Stop}
use Rattle.machine.proofs.Bools.{chosen}
use Rattle.causes.specs.Responsible.{any_holds, StoppedBy, is_by}

-- no row's stop is a trap by cause c
infixr 20 ◌⨾◌
pub data Spared (c : Cause) : List (Bool × Stop) → Type 0 where
  nil : Spared c []
  ◌⨾◌ : {b : Bool} {s : Stop} {rest : List (Bool × Stop)} → is_by c s ≡ false → Spared c rest → Spared c ((b, s) ∷ rest)

-- from the first order to the second the rows of other causes apply no more than before, down to the row of cause c; that one
-- does not apply, and what is behind it is the same
infixr 20 ◌⇣◌
pub data Opens (c : Cause) : List (Bool × Stop) → List (Bool × Stop) → Type 0 where
  end : Opens c [] []
  ◌⇣◌ :
      {a b : Bool} {s u : Stop} {rest rest' : List (Bool × Stop)} → (is_by c s ≡ false) × (a ≡ false → b ≡ false)
      → Opens c rest rest'
      → Opens c ((a, s) ∷ rest) ((b, u) ∷ rest')
  here :
      {a b : Bool} {s u : Stop} {rest : List (Bool × Stop)} → b ≡ false → Spared c rest
      → Opens c ((a, s) ∷ rest) ((b, u) ∷ rest)

-- a row whose test is the same in both
infixr 20 ◌⇊◌
pub ◌⇊◌ :
    {c : Cause} {a : Bool} {s u : Stop} {rest rest' : List (Bool × Stop)} → is_by c s ≡ false → Opens c rest rest'
    → Opens c ((a, s) ∷ rest) ((a, u) ∷ rest')
p ⇊ o = (p, λ n. n) ⇣ o

-- the first row that applies says s, and these are the rows behind it
pub data FirstAt (s : Stop) (later : List (Bool × Stop)) : List (Bool × Stop) → Type 0 where
  this : {b : Bool} {a : Stop} → b ≡ true → a ≡ s → FirstAt s later ((b, a) ∷ later)
  skip : {b : Bool} {a : Stop} {rest : List (Bool × Stop)} → b ≡ false → FirstAt s later rest → FirstAt s later ((b, a) ∷ rest)

module _ {s : Stop} {later : List (Bool × Stop)} where
  pub before : {rows : List (Bool × Stop)} → FirstAt s later rows → List (Bool × Stop)
  before (this t e) = []
  before (skip {b} {a} n f) = (b, a) ∷ before f

  pub parts : {rows : List (Bool × Stop)} (f : FirstAt s later rows) → rows ≡ before f ++ ((true, s) ∷ later)
  unfolding before
  parts (this t e) = λ i. (t i, e i) ∷ later
  parts (skip {b} {a} n f) = ap (λ rows. (b, a) ∷ rows) (parts f)

  pub all-fell : {rows : List (Bool × Stop)} (f : FirstAt s later rows) → any_holds (before f) ≡ false
  unfolding before
  all-fell (this t e) = refl
  all-fell (skip n f) = rw n (all-fell f)

  -- which is what the statement says of the row
  abbrev pub the_row : {rows : List (Bool × Stop)} → FirstAt s later rows → StoppedBy rows s
  the_row f = record { earlier = before f; later = later; order = parts f; fell = all-fell f }

-- a trap by cause c
module _ (c : Cause) (l : Level) where
  is-by : {s : Stop} → s ≡ Stop.Trap l c → is_by c s ≡ true
  is-by e = ap (is_by c) e ∙ eq-eqb (cause_number c) (cause_number c) refl

  -- where the order says it, some row does first
  pub locate :
      (rows : List (Bool × Stop)) → first rows Stop.Pass ≡ Stop.Trap l c
      → (later : List (Bool × Stop)) × FirstAt (Stop.Trap l c) later rows
  locate [] e = absurd (true≢false (sym (is-by e)))
  locate (row ∷ rest) e = go row.0 refl e (locate rest)
    where
      go :
          (b : Bool) → row.0 ≡ b → cond b row.1 (first rest Stop.Pass) ≡ Stop.Trap l c
          → (first rest Stop.Pass ≡ Stop.Trap l c → (later : List (Bool × Stop)) × FirstAt (Stop.Trap l c) later rest)
          → (later : List (Bool × Stop)) × FirstAt (Stop.Trap l c) later (row ∷ rest)
      go true t h f = (rest, this t h)
      go false n h f = let g = f h in (g.0, skip n g.1)

  -- not where no row is one
  first-spared : (rows : List (Bool × Stop)) → Spared c rows → is_by c (first rows Stop.Pass) ≡ false
  first-spared [] nil = refl
  first-spared (row ∷ rest) (p ⨾ q) = chosen (λ s. is_by c s ≡ false) row.0 _ _ p (first-spared rest q)

  not_spared : {later rows : List (Bool × Stop)} → Spared c rows → FirstAt (Stop.Trap l c) later rows → ⊥
  not_spared (p ⨾ q) (this t e) = true≢false (sym (is-by e) ∙ p)
  not_spared (p ⨾ q) (skip n f) = not_spared q f
  not_spared {later = later} nil f = elim f [ ]

  -- once the control is opened, the rows behind decide, and none of them is one
  pub after :
      {later rows rows' : List (Bool × Stop)} → Opens c rows rows' → FirstAt (Stop.Trap l c) later rows
      → (first rows' Stop.Pass ≡ first later Stop.Pass) × (is_by c (first later Stop.Pass) ≡ false)
  after (p ⇣ o) (this t e) = absurd (true≢false (sym (is-by e) ∙ p.0))
  after (p ⇣ o) (skip n f) = let q = after o f in (rw (p.1 n) q.0, q.1)
  after (here {rest = rest} n p) (this t e) = (rw n refl, first-spared rest p)
  after (here n p) (skip m f) = absurd (not_spared p f)
  after {later = later} end f = elim f [ ]
