use Rattle.ppunit.proofs.OperandTexts.{Reads}
use Rattle.ppunit.proofs.line_control.line_number.Given as goal

abbrev pub invariant-loop-byte : goal.invariant-loop-byte
invariant-loop-byte l = Reads l.byte-items l.byte-index l.number
