-- A consistent record passes every test; and it is consistent at level 0 too.
use Prim.Native.Nat.{ℕ, ◌≤◌}
use mathlib.Core.Bool.{Bool, false, ◌||◌, or-false}
use mathlib.Core.Path.{◌≡◌, refl, ◌∙◌}
use borrow.Author.Tests.{ltb-false}
use lib.Dec.{ltb}
use Rattle.fields.specs.Largest.{largest, exceeds, largest_level}
use Rattle.machine.proofs.Bools.{or_left, or_right}
use Rattle.machine.proofs.First.{test_at, all-fell}
use Rattle.std.specs.Prelude.{Ok, is_ok}
use Rattle.state.specs.declared.View.{View}
use Rattle.state.specs.State.{too_large, refusals, verdict_of}

-- refusal 10's tests but that of the overflow flags and that of the level
abbrev pub numbers_large : View → Bool
numbers_large v =
    exceeds v.settings.features.n 0x0C
    || exceeds v.settings.mdcr2.hpmn 0x27
    || exceeds v.settings.pmuacr.p 0x32
    || exceeds v.settings.cnten 0x34
    || exceeds v.settings.mdcr3.nspb 0x88
    || exceeds v.settings.sampling.reload 0x8B

module _ (v : View) (e : verdict_of v ≡ Ok tt) where
  -- no row of the table applies
  pub passed : (i : ℕ) → test_at i (refusals v) ≡ false
  unfolding verdict_of refusals
  passed = all-fell is_ok (Ok tt) (refusals v) refl (rw e)

  -- N is at most 31
  pub n-fits : v.settings.features.n ≤ 31
  unfolding refusals too_large largest
  n-fits =
      ltb-false 31 v.settings.features.n
      (or_left (exceeds v.settings.features.n 0x0C) (exceeds v.settings.mdcr2.hpmn 0x27)
      (or_left _ (exceeds v.settings.pmuacr.p 0x32)
      (or_left _ (exceeds v.settings.cnten 0x34)
      (or_left _ (exceeds v.settings.mdcr3.nspb 0x88)
      (or_left _ (exceeds v.settings.sampling.reload 0x8B)
      (or_left (numbers_large v) v.ovslarge
      (or_left (numbers_large v || v.ovslarge) (ltb largest_level v.level) (passed 0))))))))

  -- refusal 15's row among them
  pub not_wide : v.wide ≡ false
  unfolding refusals
  not_wide = passed 5

  -- and refusal 10's, the overflow flags' test among its own
  pub ovs-fits : v.ovslarge ≡ false
  unfolding refusals too_large
  ovs-fits =
      or_right (numbers_large v) v.ovslarge
      (or_left (numbers_large v || v.ovslarge) (ltb largest_level v.level) (passed 0))

-- the view with its level put to 0
abbrev pub levelled_to0 : View → View
levelled_to0 v = record { level = 0; settings = v.settings; wide = v.wide; ovslarge = v.ovslarge }

large-at-0 : (v : View) → too_large v ≡ false → too_large (levelled_to0 v) ≡ false
unfolding too_large
large-at-0 v e =
    let fields = numbers_large v || v.ovslarge in
    or-false fields ∙ or_left fields (ltb largest_level v.level) e

-- a record that is consistent at some level is so at level 0: the tests of rows 0, 2, 3, 4, 5 and 7 do not look at the
-- level, or ask for one above
pub consistent-at-0 : (v : View) → verdict_of v ≡ Ok tt → verdict_of (levelled_to0 v) ≡ Ok tt
unfolding verdict_of refusals
consistent-at-0 v e =
    let p = passed v e in rw (large-at-0 v (p 0), p 2, p 3, p 4, p 5, p 7)
