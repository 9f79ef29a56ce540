-- `undo::settings_before` meets its contract: a case for each branch.
use Rattle.std.proofs.lemmas.Bool.{eq-eqb}
use Rattle.store.specs.Store.{store_settings, store_features, store_mdcr2, store_mdcr3, store_pmuacr, store_sampling}
use Rattle.undo.proofs.settings_before.Goals as goal

pub returns-then-c-eq52 : goal.returns-then-c-eq52
unfolding store_settings store_features store_mdcr2 store_mdcr3 store_pmuacr store_sampling
returns-then-c-eq52 c = simp (eq-eqb c.args.c.field 0x34 c.if-c-eq52.true)
