use Rattle.std.proofs.Common.{◌-◌, length}
use Rattle.pptext.specs.code.LineNotes.{OwnPrefix}
use Rattle.pptext.proofs.cleaning.first_note.Given as goal

abbrev pub invariant-loop-ahead : goal.invariant-loop-ahead
invariant-loop-ahead l = OwnPrefix l.profile l.supplied l.bytes l.start

abbrev pub decreases-loop-ahead : goal.decreases-loop-ahead
decreases-loop-ahead l = length l.bytes - l.start
