use Rattle.std.proofs.Common.{take, flat_map}
use Rattle.ppserve.specs.code.Printing.{Puts}
use Rattle.ppserve.specs.code.LinePrefix.{token_line}
use Rattle.ppserve.proofs.output.put_source_tokens.Given as goal

abbrev pub invariant-loop-token : goal.invariant-loop-token
invariant-loop-token g l = Puts g.W.Sink.written g.W.Sink.has_failed l.initial.writer l.writer l.initial.buf l.buf (flat_map token_line (take l.token-index l.tokens))
