-- The examples for the clauses that the worked ones do not reach, all together.
use Rattle.std.specs.Prelude.{List, ◌++◌}
use Rattle.rules.specs.Example.{Example}
unfoldable pub use Rattle.examples.specs.Traps.{trap_examples}
unfoldable pub use Rattle.examples.specs.Icntr.{icntr_examples}
unfoldable pub use Rattle.examples.specs.Permitted.{permitted_examples}
unfoldable pub use Rattle.examples.specs.Enabled.{enabled_examples}
unfoldable pub use Rattle.examples.specs.External.{external_examples}
unfoldable pub use Rattle.examples.specs.Overflow.{overflow_examples}
unfoldable pub use Rattle.examples.specs.Pmsicr.{pmsicr_traps, pmsicr_permitted}
unfoldable pub use Rattle.examples.specs.Sampling.{member_examples, start_examples}
unfoldable pub use Rattle.examples.specs.State.{state_examples}

-- MODEL P12: all of them
unfoldable pub further : List Example
further =
    trap_examples
    ++ icntr_examples
    ++ permitted_examples
    ++ enabled_examples
    ++ external_examples
    ++ overflow_examples
    ++ pmsicr_traps
    ++ pmsicr_permitted
    ++ member_examples
    ++ start_examples
    ++ state_examples
