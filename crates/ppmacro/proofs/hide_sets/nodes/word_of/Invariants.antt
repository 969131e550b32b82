use Rattle.std.proofs.Common.{◌≡◌, ◌<◌, length}
use Rattle.ppmacro.specs.code.Nodes.{word}
use Rattle.ppmacro.proofs.hide_sets.nodes.word_of.Given as goal

abbrev pub invariant-loop-rest : goal.invariant-loop-rest
invariant-loop-rest l = (l.at < length l.nodes.keys) × (word l.nodes.keys l.at l.rest ≡ word l.nodes.keys l.set l.index)

abbrev pub decreases-loop-rest : goal.decreases-loop-rest
decreases-loop-rest l = l.rest
