-- The set and level commands: their tests, lowest number first, and the record afterwards.
use Rattle.std.specs.Prelude.{ℕ, Bool, cond, not, ◌&&◌, List, [], ◌∷◌, ltb, eqb}
use Rattle.answer.specs.declared.Refusal.TheVariants.{UnknownField, ValueTooLarge, LevelTooLarge}
use Rattle.machine.specs.declared.Machine.{Machine}
use Rattle.machine.specs.declared.Outcome.{Outcome}
use Rattle.machine.specs.declared.Settings.{Settings}
use Rattle.fields.specs.Largest.{is_field, exceeds, largest_level}
use Rattle.machine.specs.Machine.{with_level, with_pmsicr}
use Rattle.machine.specs.Outcome.{refused, done}
use Rattle.pmsicr.specs.Pmsicr.{started}
use Rattle.store.specs.Store.{store}

-- MODEL J4: to store v to field f turns profiling on, which was off, with SPE
abbrev pub turns_on : ℕ → ℕ → Settings → Bool
turns_on f v s = eqb f 0x83 && eqb v 1 && not s.sampling.profiling && s.features.spe

-- MODEL F20 and J4: PMSICR_EL1 after v is stored to field f: where that turns profiling on, it is as when profiling begins
abbrev pub pmsicr_after : ℕ → ℕ → Machine → ℕ
pmsicr_after f v m =
    cond (turns_on f v m.settings)
    (started m.settings.features.ernd m.settings.sampling.reload m.values.pmsicr)
    (store f v m).values.pmsicr

-- MODEL R3, R4, F20, J4 and V1: the set command is refused with 3, else with 4, else the field holds the value, and where that
-- turns profiling on, it begins
unfoldable pub set : ℕ → ℕ → Machine → Outcome
set f v m =
    cond (not (is_field f)) (refused UnknownField m)
    (cond (exceeds v f) (refused ValueTooLarge m)
    (done (with_pmsicr (pmsicr_after f v m) (store f v m))))

-- MODEL S2: the record after these set commands, each a field and a value; one that is refused leaves it as it was
unfoldable pub set_all : List (ℕ × ℕ) → Machine → Machine
set_all [] m = m
set_all (s ∷ rest) m = set_all rest (set s.0 s.1 m).machine

-- MODEL R5 and F20: the level command is refused with 5, else the level is l
unfoldable pub set_level : ℕ → Machine → Outcome
set_level l m = cond (ltb largest_level l) (refused LevelTooLarge m) (done (with_level l m))
