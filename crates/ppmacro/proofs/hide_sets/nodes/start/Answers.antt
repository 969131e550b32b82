use Rattle.std.proofs.Common.{◌∙◌, sym, ap, subst}
use Rattle.indexmap.specs.IndexSet.{insert_key}
use Rattle.ppmacro.specs.code.Nodes.{IsPool, IsBounded, no_node}
use Rattle.ppmacro.proofs.Tries.{pool-initial_nodes, bounded-initial_nodes, same_node}
use Rattle.ppmacro.proofs.hide_sets.nodes.start.Goals as goal

pub returns-clause-is : goal.returns-clause-is
returns-clause-is c = c.in-Ok.ensures.keys ∙ ap (λ ns. insert_key same_node ns no_node) c.with_hasher-nodes.ensures.empty

pub returns-clause-pool : goal.returns-clause-pool
returns-clause-pool c = subst IsPool (sym (returns-clause-is c)) pool-initial_nodes

pub returns-clause-bounded : goal.returns-clause-bounded
returns-clause-bounded c = subst (IsBounded 0) (sym (returns-clause-is c)) bounded-initial_nodes
