use Rattle.ppmacro.proofs.hide_sets.nodes.+insert_bit.Given as goal

abbrev pub decreases-insert_bit : goal.decreases-insert_bit
decreases-insert_bit l = l.index
