use Rattle.std.proofs.Common.{take, flat_map}
use Rattle.ppserve.specs.code.Printing.{Puts}
use Rattle.ppserve.specs.code.LinePrefix.{token_line}
use Rattle.ppmacro.specs.Substituting.{tokens_of}
use Rattle.ppserve.proofs.output.put_hidden_tokens.Given as goal

abbrev pub invariant-loop-hidden : goal.invariant-loop-hidden
invariant-loop-hidden g l = Puts g.W.Sink.written g.W.Sink.has_failed l.initial.writer l.writer l.initial.buf l.buf (flat_map token_line (tokens_of (take l.hidden-index l.tokens)))
