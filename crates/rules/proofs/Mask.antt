-- The mask of PMSWINC by operations on whole numbers. First the event counters that are enabled: of the enable bits those of
-- the first range where E is 1, and those of the second where HPME is. Of these the ones in the operand, below N, below HPMN
-- where the others are inaccessible, and those of PMUACR where it holds back.
use Prim.Native.Nat.{ℕ, ◌+◌, ◌-◌, ◌%◌, ◌^◌, ◌≤◌}
use mathlib.Core.Bool.{Bool, true, false, cond, not, ◌&&◌, ◌||◌, and-true, and-false, not-not}
use mathlib.Core.Path.{◌≡◌, refl, sym, ◌∙◌, ap}
use native.Mathlib.Nat.{mod-le, zero-add, add-zero}
use native.Mathlib.Omega.{arith}
use lib.Bits.{bit_and}
use lib.Dec.{leb}
use Rattle.bits.specs.Bits.{bit, from_bits}
use Rattle.bits.proofs.FromBits.{from_bits-ext, from_bits-mod, from_bits-parts}
use Rattle.bits.proofs.Kept.{below-bits, among-bits}
use Rattle.machine.specs.declared.Settings.{Settings}
use Rattle.state.specs.declared.View.{View}
use Rattle.rules.specs.Traps.{up_to, el2_enabled, inaccessible}
use Rattle.rules.specs.Ranges.{in_second_range, counter_enabled}
use Rattle.rules.specs.Permitted.{holds_back, add_mask}

-- a choice between two constants
both : (y : Bool) → cond y true true ≡ true
both true = refl
both false = refl

second : (y : Bool) → cond y true false ≡ y
second true = refl
second false = refl

first : (y : Bool) → cond y false true ≡ not y
first true = refl
first false = refl

neither : (y : Bool) → cond y false false ≡ false
neither true = refl
neither false = refl

none : 0 ≡ from_bits 31 (λ m. false)
unfolding from_bits
none = refl

module _ (f : ℕ → Bool) where
  -- a reason to leave out bits, where a test says that it counts
  below-where :
      (a : Bool) (n : ℕ)
      → cond a (from_bits 31 f % 2 ^ n) (from_bits 31 f) ≡ from_bits 31 (λ m. f m && not (a && leb n m))
  below-where true n = below-bits 31 f n
  below-where false n = from_bits-ext 31 _ _ (λ m h. sym (and-true (f m)))

  among-where :
      (a : Bool) (p : ℕ)
      → cond a (bit_and (from_bits 31 f) p) (from_bits 31 f) ≡ from_bits 31 (λ m. f m && not (a && not (bit m p)))
  among-where true p =
      among-bits 31 f p ∙ from_bits-ext 31 _ _ (λ m h. ap (λ b. f m && b) (sym (not-not (bit m p))))
  among-where false p = from_bits-ext 31 _ _ (λ m h. sym (and-true (f m)))

  -- two parts, each where a test says that it counts
  parts-where :
      (g : ℕ → Bool) (a b : Bool)
      → cond b (from_bits 31 (λ m. f m && not (g m))) 0 + cond a (from_bits 31 (λ m. f m && g m)) 0
      ≡ from_bits 31 (λ m. f m && cond (g m) a b)
  parts-where g true true =
      from_bits-parts 31 f g ∙ from_bits-ext 31 _ _ (λ m h. sym (ap (λ b. f m && b) (both (g m)) ∙ and-true (f m)))
  parts-where g true false = zero-add _ ∙ from_bits-ext 31 _ _ (λ m h. ap (λ b. f m && b) (sym (second (g m))))
  parts-where g false true = add-zero _ ∙ from_bits-ext 31 _ _ (λ m h. ap (λ b. f m && b) (sym (first (g m))))
  parts-where g false false =
      none ∙ from_bits-ext 31 _ _ (λ m h. sym (ap (λ b. f m && b) (neither (g m)) ∙ and-false (f m)))

module _ (s : Settings) where
  -- the enable bits of the event counters, and of these the ones of the first range
  abbrev pub enables : ℕ
  enables = s.cnten % 2 ^ 31

  abbrev pub first_range : ℕ
  first_range = cond s.features.el2 (enables % 2 ^ s.mdcr2.hpmn) enables

  pub first-within : first_range ≤ enables
  first-within = go s.features.el2
    where
      go : (a : Bool) → cond a (enables % 2 ^ s.mdcr2.hpmn) enables ≤ enables
      go true = mod-le enables (2 ^ s.mdcr2.hpmn)
      go false = omega arith

  pub enabled-steps :
      cond s.pmcr.e first_range 0 + cond s.mdcr2.hpme (enables - first_range) 0
      ≡ from_bits 31 (counter_enabled s)
  enabled-steps =
      let f : ℕ → Bool = λ m. bit m s.cnten in
      let g : ℕ → Bool = in_second_range s in
      let all : enables ≡ from_bits 31 f = sym (from_bits-mod 31 s.cnten) in
      let low : first_range ≡ from_bits 31 (λ m. f m && not (g m)) =
      ap (λ y. cond s.features.el2 (y % 2 ^ s.mdcr2.hpmn) y) all ∙ below-where f s.features.el2 s.mdcr2.hpmn in
      let high : enables - first_range ≡ from_bits 31 (λ m. f m && g m) = omega (arith, all, low, from_bits-parts 31 f g) in
      ap (λ y. cond s.pmcr.e y 0 + cond s.mdcr2.hpme (enables - first_range) 0) low
      ∙ ap (λ y. cond s.pmcr.e (from_bits 31 (λ m. f m && not (g m))) 0 + cond s.mdcr2.hpme y 0) high
      ∙ parts-where f g s.mdcr2.hpme s.pmcr.e

-- one reason after another
apart : (e x a b c : Bool) → (((e && x) && not a) && not b) && not c ≡ (x && not (a || b || c)) && e
apart false x a b c = sym (and-false (x && not (a || b || c)))
apart true false a b c = refl
apart true true true b c = refl
apart true true false true c = refl
apart true true false false c = sym (and-true (not c))

module _ (v : View) (x : ℕ) where
  abbrev enabled : ℕ
  enabled = from_bits 31 (counter_enabled v.settings)

  -- the operand's bits of enabled counters below N, and of these the accessible ones
  abbrev pub implemented : ℕ
  implemented = bit_and enabled x % 2 ^ v.settings.features.n

  abbrev pub accessible : ℕ
  accessible = cond (el2_enabled v && up_to 1 v) (implemented % 2 ^ v.settings.mdcr2.hpmn) implemented

  pub mask-steps : cond (holds_back v) (bit_and accessible v.settings.pmuacr.p) accessible ≡ add_mask v x
  unfolding add_mask
  mask-steps =
      let n = v.settings.features.n in
      let hpmn = v.settings.mdcr2.hpmn in
      let p = v.settings.pmuacr.p in
      let low = el2_enabled v && up_to 1 v in
      let on : ℕ → Bool = counter_enabled v.settings in
      ap (λ y. cond (holds_back v) (bit_and y p) y)
      (ap (λ y. cond low (y % 2 ^ hpmn) y)
      (ap (λ y. y % 2 ^ n) (among-bits 31 on x) ∙ below-bits 31 (λ m. on m && bit m x) n)
      ∙ below-where (λ m. (on m && bit m x) && not (leb n m)) low hpmn)
      ∙ among-where (λ m. ((on m && bit m x) && not (leb n m)) && not (inaccessible v m)) (holds_back v) p
      ∙ from_bits-ext 31 _ _
      (λ m h. apart (on m) (bit m x) (leb n m) (inaccessible v m) (holds_back v && not (bit m p)))
