-- `external_apply::enact` meets its contract: a member counts by its own function.
use Rattle.external_apply.proofs.enact.Goals as goal

pub returns-in-Sample : goal.returns-in-Sample
returns-in-Sample c =
    λ l events counters. simp c.in-Sample.is
    (c.sample.ensures l events counters)
