use Rattle.std.proofs.Common.{take, flat_map}
use Rattle.ppserve.specs.code.Printing.{Puts}
use Rattle.ppserve.specs.Output.{dep_line}
use Rattle.ppserve.proofs.output.put_deps.Given as goal

abbrev pub invariant-loop-row : goal.invariant-loop-row
invariant-loop-row g l = Puts g.W.Sink.written g.W.Sink.has_failed l.initial.writer l.writer l.initial.buf l.buf (flat_map (dep_line l.names) (take l.row-index l.rows))
