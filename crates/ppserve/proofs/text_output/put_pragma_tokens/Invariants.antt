use Rattle.std.proofs.Common.{◌≡◌, ℕ, List, ◌++◌, map, drop, None}
use Rattle.ppprint.specs.Located.{pragma_token}
use Rattle.ppprint.specs.Text.{pragma_tokens_text}
use Rattle.ppserve.specs.code.Printing.{Puts}
use Rattle.ppserve.specs.code.TextPieces.{with_bars}
use Rattle.ppserve.proofs.text_output.put_pragma_tokens.Given as goal

abbrev pub invariant-loop-token : goal.invariant-loop-token
invariant-loop-token g l =
    record {
      done : List ℕ;
      whole : done ++ with_bars (pragma_tokens_text l.line (map pragma_token (drop l.token-index l.tokens))) ≡ with_bars (pragma_tokens_text None (map pragma_token l.tokens));
      out : Puts g.W.Sink.written g.W.Sink.has_failed l.initial.writer l.writer l.initial.buf l.buf done;
    }
