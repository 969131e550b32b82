use Rattle.std.proofs.Common.{◌-◌, length}
use Rattle.pptext.proofs.CleanedCopies.{Copies}
use Rattle.pptext.proofs.cleaning.copy_cleaned.Given as goal

abbrev pub invariant-loop-ahead : goal.invariant-loop-ahead
invariant-loop-ahead l = Copies l.profile l.raw l.start l.codes.items l.line_notes.items

abbrev pub decreases-loop-ahead : goal.decreases-loop-ahead
decreases-loop-ahead l = length l.raw - l.start
