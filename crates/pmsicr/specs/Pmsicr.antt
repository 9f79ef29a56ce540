-- PMSICR_EL1: its two counters and its reserved bits, the reload when profiling begins, and a member of the sample population.
use Rattle.std.specs.Prelude.{ℕ, ◌+◌, ◌-◌, ◌*◌, ◌/◌, ◌%◌, ◌^◌, Bool, true, false, cond, ◌&&◌, ◌||◌, eqb}
use Rattle.bits.specs.Bits.{bits}
use Rattle.pmsicr.specs.declared.Member.{Member}

-- MODEL J1: the primary counter
abbrev pub primary : ℕ → ℕ
primary x = x % 2 ^ 32

-- MODEL J2: the secondary counter, with ERnd; without it there is none, and it counts as 0
abbrev pub secondary : Bool → ℕ → ℕ
secondary ernd x = cond ernd (bits 63 56 x) 0

-- MODEL J3: the implemented bits, those of the two counters; the reserved ones are 0
unfoldable pub implemented : Bool → ℕ → ℕ
implemented ernd x = secondary ernd x * 2 ^ 56 + primary x

-- MODEL J1 and J3: the register with its primary counter put to n, and every other bit as it was. (A reload field that a caller
-- has set above its largest counts by its lowest 32 bits)
unfoldable pub with_primary : ℕ → ℕ → ℕ
with_primary n x = x / 2 ^ 32 * 2 ^ 32 + n % 2 ^ 32

-- MODEL J2 and J3: the register with its secondary counter put to n, and every other bit as it was
unfoldable pub with_secondary : ℕ → ℕ → ℕ
with_secondary n x = n % 2 ^ 8 * 2 ^ 56 + x % 2 ^ 56

-- MODEL J4: the register when profiling begins: a register that is zero has its primary counter reloaded. Reserved bits do not
-- count
unfoldable pub started : Bool → ℕ → ℕ → ℕ
started ernd reload x = cond (eqb (implemented ernd x) 0) (with_primary reload x) x

-- MODEL J6: a secondary counter that is not 0 loses 1 for a member, which is selected where it reaches 0
unfoldable pub secondary_counts : Bool → ℕ → Member
secondary_counts ernd x =
    let n = secondary ernd x in
    cond (eqb n 0) (record { selected = false; pmsicr = x })
    (record { selected = eqb n 1; pmsicr = with_secondary (n - 1) x })

-- MODEL J7 and J8: a primary counter that is not 0 loses 1. Where it reaches 0 it is reloaded, and the member is selected; but
-- with ERnd and RND the draw goes to the secondary counter, and only a draw of 0 selects
unfoldable pub primary_counts : Bool → Bool → ℕ → ℕ → ℕ → Member
primary_counts ernd rnd reload draw x =
    let n = primary x in
    let reloaded = with_primary reload x in
    cond (eqb n 0) (record { selected = false; pmsicr = x })
    (cond (eqb n 1)
    (cond (ernd && rnd)
    (record { selected = eqb draw 0; pmsicr = with_secondary draw reloaded })
    (record { selected = true; pmsicr = reloaded }))
    (record { selected = false; pmsicr = with_primary (n - 1) x }))

-- MODEL J6 to J8: a member while profiling is enabled: first the secondary counter, then the primary; either may select it
unfoldable pub counted : Bool → Bool → ℕ → ℕ → ℕ → Member
counted ernd rnd reload draw x =
    let s = secondary_counts ernd x in
    let p = primary_counts ernd rnd reload draw s.pmsicr in
    record { selected = s.selected || p.selected; pmsicr = p.pmsicr }
