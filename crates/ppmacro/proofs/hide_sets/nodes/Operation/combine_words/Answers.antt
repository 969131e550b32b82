use Rattle.std.proofs.Common.{rules}
use Rattle.ppmacro.proofs.hide_sets.nodes.Operation.combine_words.Goals as goal

pub returns-in-Intersection : goal.returns-in-Intersection
returns-in-Intersection c = search rules
