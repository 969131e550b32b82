use Rattle.std.proofs.Common.{◌-◌, length}
use Rattle.pptext.proofs.CleanedCopies.{Counted}
use Rattle.pptext.proofs.cleaning.count_notes.Given as goal

abbrev pub invariant-loop-ahead : goal.invariant-loop-ahead
invariant-loop-ahead l = Counted l.profile l.raw l.start l.count

abbrev pub decreases-loop-ahead : goal.decreases-loop-ahead
decreases-loop-ahead l = length l.raw - l.start
