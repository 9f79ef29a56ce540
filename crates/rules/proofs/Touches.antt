-- Which places a decision touches, and how a permitted access that touches a place comes, or does not come, to be the decision.
use Prim.Native.Nat.{ℕ}
use mathlib.Core.Bool.{Bool, true, false, cond, ◌||◌}
use mathlib.Core.Path.{◌≡◌, refl}
use Rattle.answer.specs.declared.Cause.TheVariants.{Mdcr3Tpm}
use Rattle.answer.specs.declared.Level.TheVariants.{El3}
use Rattle.bits.specs.Bits.{bit}
use Rattle.machine.proofs.Bools.{chosen}
use Rattle.machine.specs.First.{first}
use Rattle.machine.proofs.First.{test_at, gives, some-held}
use Rattle.std.specs.Prelude.{Result, ⊤, Ok, Err}
use Rattle.answer.specs.declared.Refusal.{Refusal}
use Rattle.state.specs.declared.View.{View}
use Rattle.state.specs.State.{verdict_of}
use Rattle.rules.specs.declared.Decision.{Decision}
use Rattle.rules.specs.declared.Decision.TheVariants.{Says, Read, Write, Add}
use Rattle.rules.specs.declared.Instruction.{Instruction}
use Rattle.rules.specs.declared.Place.{Place}
use Rattle.rules.specs.declared.Place.TheVariants.{Counter, Instructions, Interval, Nvmem}
use Rattle.rules.specs.declared.Register.{Register}
use Rattle.rules.specs.declared.Stop.{Stop}
use Rattle.rules.specs.Word.{decode}
use Rattle.rules.specs.Traps.{halted_sdd, stop_at_el3, counter_rules, stop_of}
use Rattle.rules.specs.Isolation.{same_place}
use Rattle.rules.specs.Permitted.{place_access}
use Rattle.rules.specs.Step.{unless_stopped, undefined_at_once, permitted, decide_register, unless_refused, decide}

-- a mask of event counters has the place
abbrev pub in_mask : ℕ → Place → Bool
in_mask mask (Counter i) = bit i mask
in_mask mask Instructions = false
in_mask mask Interval = false
in_mask mask Nvmem = false

-- the decision reads or changes the place
abbrev pub touches : Place → Decision → Bool
touches p (Says a) = false
touches p (Read q rt) = same_place q p
touches p (Write q x) = same_place q p
touches p (Add mask) = in_mask mask p

-- the order of traps has come to its end
passes : Stop → Bool
passes Stop.Pass = true
passes Stop.Undef = false
passes (Stop.Trap l c) = false

-- no row of the order lets the access pass
all-stop : (v : View) (disabled trapBit above : Bool) → gives passes (counter_rules v disabled trapBit above) ≡ false
unfolding counter_rules stop_at_el3 passes
all-stop v disabled trapBit above =
    chosen (λ s. passes s || false ≡ false) (halted_sdd v) Stop.Undef (Stop.Trap El3 Mdcr3Tpm) refl refl

-- a place that is not touched by what is permitted is not touched on the way up to the decision
module _ (p : Place) where
  pub through-cond : (b : Bool) (d e : Decision) → touches p d ≡ false → touches p e ≡ false → touches p (cond b d e) ≡ false
  through-cond b d e m n = chosen (λ x. touches p x ≡ false) b d e m n

  through-stop : (syndrome : ℕ) (s : Stop) (d : Decision) → touches p d ≡ false → touches p (unless_stopped syndrome s d) ≡ false
  through-stop syndrome Stop.Pass d n = n
  through-stop syndrome Stop.Undef d n = refl
  through-stop syndrome (Stop.Trap l c) d n = refl

  through-refusal : (t : Result ⊤ Refusal) (d : Decision) → touches p d ≡ false → touches p (unless_refused t d) ≡ false
  through-refusal (Ok _) d n = n
  through-refusal (Err r) d n = refl

  -- an access of another place
  pub other_place :
      (isDenied isReadOnly : Bool) (q : Place) (i : Instruction) (x : ℕ) → same_place q p ≡ false
      → touches p (place_access isDenied isReadOnly q i x) ≡ false
  unfolding place_access
  other_place isDenied isReadOnly q i x n =
      through-cond i.read _ _ (through-cond isDenied _ _ refl n) (through-cond (isDenied || isReadOnly) _ _ refl n)

  -- an access that is denied
  pub denied-place :
      (isDenied isReadOnly : Bool) (q : Place) (i : Instruction) (x : ℕ) → isDenied ≡ true
      → touches p (place_access isDenied isReadOnly q i x) ≡ false
  unfolding place_access
  denied-place isDenied isReadOnly q i x e = rw e (through-cond i.read _ _ refl refl)

  -- where the permitted access of the register does not touch it, nor does the decision about it
  pub through-register :
      (v : View) (r : Register) (i : Instruction) (x : ℕ) → touches p (permitted v r i x) ≡ false
      → touches p (decide_register v r i x) ≡ false
  unfolding decide_register
  through-register v r i x n =
      through-cond (undefined_at_once v r i.read) _ _ refl (through-stop i.syndrome (stop_of v r i.read) _ n)

  -- where the decision about no register touches it, nor does the decision
  pub through-decide :
      (v : View) (w x : ℕ) → ((r : Register) → touches p (decide_register v r (decode w) x) ≡ false)
      → touches p (decide v w x) ≡ false
  unfolding decide
  through-decide v w x n = through-refusal (verdict_of v) _ (n (decode w).register)

  stopped : (syndrome : ℕ) (s : Stop) (d : Decision) → passes s ≡ false → touches p (unless_stopped syndrome s d) ≡ false
  unfolding passes
  stopped syndrome Stop.Pass d n = cc
  stopped syndrome Stop.Undef d n = refl
  stopped syndrome (Stop.Trap l c) d n = refl

  -- where row k of the order applies, nothing is touched: whichever row is first, the access is stopped
  pub stopped_by :
      (k syndrome : ℕ) (v : View) (disabled trapBit above : Bool) (d : Decision)
      → test_at k (counter_rules v disabled trapBit above) ≡ true
      → touches p (unless_stopped syndrome (first (counter_rules v disabled trapBit above) Stop.Pass) d) ≡ false
  stopped_by k syndrome v disabled trapBit above d t =
      stopped syndrome _ d
      (some-held passes Stop.Pass (counter_rules v disabled trapBit above) k (all-stop v disabled trapBit above) t)
