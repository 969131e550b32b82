use Rattle.std.proofs.Common.{◌+◌, ◌*◌}
use Rattle.ppmacro.proofs.hide_sets.nodes.+making.Given as goal

abbrev pub decreases-compute : goal.decreases-compute
decreases-compute l = 2 * l.one + 1

abbrev pub decreases-compute_node : goal.decreases-compute_node
decreases-compute_node l = 2 * l.one
