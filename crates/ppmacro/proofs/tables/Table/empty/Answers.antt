use Rattle.ppmacro.proofs.NameFilterLemmas.{marked-none}
use Rattle.ppmacro.proofs.tables.Table.empty.Goals as goal

pub invariant_of-result : goal.invariant_of-result
invariant_of-result c = rw c.in_ok-macros.ensures.empty (marked-none c.in_ok-filter.filter)
