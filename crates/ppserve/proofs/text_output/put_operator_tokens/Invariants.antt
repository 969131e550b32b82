use Rattle.std.proofs.Common.{◌≡◌, ℕ, List, ◌++◌, true, Some, None}
use Rattle.ppprint.specs.Operators.{tokens_after}
use Rattle.ppprint.specs.Shown.{PragmaToken}
use Rattle.ppprint.specs.Text.{pragma_tokens_text}
use Rattle.ppprint.specs.code.PragmaText.{length_left, tokens_left}
use Rattle.ppserve.specs.code.Printing.{Puts}
use Rattle.ppserve.specs.code.TextPieces.{with_bars}
use Rattle.ppserve.proofs.text_output.put_operator_tokens.Given as goal

abbrev pub invariant-loop-token : goal.invariant-loop-token
invariant-loop-token g l =
    record {
      done : List ℕ;
      left : (ts : List PragmaToken) → tokens_after 0 true l.text ≡ Some ts
          → (us : List PragmaToken) × ((tokens_left l.tokens ≡ Some us) × (done ++ with_bars (pragma_tokens_text l.line us) ≡ with_bars (pragma_tokens_text None ts)));
      out : Puts g.W.Sink.written g.W.Sink.has_failed l.initial.writer l.writer l.initial.buf l.buf done;
    }

abbrev pub decreases-loop-token : goal.decreases-loop-token
decreases-loop-token g l = length_left l.tokens
