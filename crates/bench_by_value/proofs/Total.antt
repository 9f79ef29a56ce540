-- Laws of the measured loops along a list: one entry taken off the front, and none left.
use Rattle.std.proofs.Common.{◌≡◌, ℕ, ◌+◌, ◌%◌, ◌^◌, ◌<◌, ◌≤◌, List, map, length, get_or, drop, sym, zero-add, add-one, arith}
use Rattle.std.proofs.Common.{drop_of_length-le, drop-cons}
use Rattle.machine.specs.declared.Machine.{Machine}
use Rattle.machine.specs.declared.Outcome.{Outcome}
use Rattle.machine.specs.Machine.{with_level}
use Rattle.fields.specs.Set.{set, set_all}
use Rattle.rules.specs.Step.{step, access, run}
use Rattle.bench_by_value.specs.Measure.{set_of, access_of, worth, sum_of, total}

module _ (l : List ℕ) (r : Machine) where
  -- the set commands from entry i on, where the code got o for entry i
  pub sets-next :
      {i : ℕ} {o : Outcome} → i < length l → o ≡ set (set_of (get_or l i 0)).0 (set_of (get_or l i 0)).1 r
      → set_all (map set_of (drop (i + 1) l)) o.machine ≡ set_all (map set_of (drop i l)) r
  unfolding set_all
  sets-next {i} h e = rw e (sym (rw (add-one i, drop-cons l i 0)))

  pub sets-done : {i : ℕ} → length l ≤ i → set_all (map set_of (drop i l)) r ≡ r
  unfolding set_all
  sets-done h = rw (drop_of_length-le l h)

-- the sum of what the accesses from entry i on answer
abbrev pub remaining : List ℕ → ℕ → ℕ → Machine → ℕ
remaining l x i r = sum_of (run (map (access_of x) (drop i l)) r).answers

-- s, and what they add to it
abbrev pub summed : List ℕ → ℕ → ℕ → ℕ → Machine → ℕ
summed l x i s r = (s + remaining l x i r) % 2 ^ 64

module _ (l : List ℕ) (x : ℕ) (r : Machine) where
  pub summed-all : summed l x 0 0 r ≡ total l x r
  unfolding total
  summed-all = rw zero-add

  -- what the access of entry i answers and leaves: `access`, written out
  abbrev entered : ℕ → Outcome
  entered i = let a = access_of x (get_or l i 0) in step a.word a.operand (with_level a.level r)

  -- entry i, where the code got o for it
  remaining-next :
      {i : ℕ} {o : Outcome} → i < length l → o ≡ entered i
      → remaining l x i r ≡ worth o.answer + remaining l x (i + 1) o.machine
  unfolding run access
  remaining-next {i} h e = rw (e, add-one i, drop-cons l i 0)

  -- the same of the sum, which is then t
  pub summed-next :
      {i t : ℕ} {o : Outcome} (s : ℕ) → i < length l → o ≡ entered i → t ≡ (s + worth o.answer) % 2 ^ 64
      → summed l x (i + 1) t o.machine ≡ summed l x i s r
  summed-next s h e p = omega (arith, remaining-next h e)

  pub summed-done : {i s : ℕ} → length l ≤ i → s < 2 ^ 64 → summed l x i s r ≡ s
  unfolding run
  summed-done h f = rw (drop_of_length-le l h) (omega arith)
