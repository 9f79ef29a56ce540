-- Laws of `store_list`, over the number of the first field: below it, past the 31 fields, and among them.
use Prim.Native.Nat.{ℕ, ◌+◌, ◌-◌, ◌<◌, ◌≤◌}
use mathlib.Core.List.{List}
use mathlib.Core.Path.{◌≡◌, sym}
use borrow.Author.Tests.{le-leb, lt-leb}
use lib.ListN.{set}
use Rattle.store.specs.Store.{store_list}

module _ (first f v : ℕ) (l : List ℕ) where
  pub store_below : f < first → l ≡ store_list first f v l
  store_below h = sym (rw (lt-leb first f h))

  pub store-past : first ≤ f → first + 30 < f → l ≡ store_list first f v l
  store-past h k = sym (rw (le-leb first f h, lt-leb f (first + 30) k))

  pub store_at : first ≤ f → f ≤ first + 30 → set l (f - first) v ≡ store_list first f v l
  store_at h k = sym (rw (le-leb first f h, le-leb f (first + 30) k))
