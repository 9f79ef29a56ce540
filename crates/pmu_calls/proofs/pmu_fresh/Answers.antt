-- `pmu_fresh` meets its contract: words that are all 0 hold the fresh record.
use mathlib.Core.Path.{◌∙◌, ap}
use Rattle.calls_fields.proofs.Zeros.{fresh-words}
use Rattle.words.specs.Words.{record_of}
use Rattle.pmu_calls.proofs.pmu_fresh.Goals as goal

pub returns : goal.returns
returns c = (c.fresh.ensures, ap record_of c.fresh.ensures ∙ fresh-words)
