use Rattle.std.proofs.Common.{◌++◌}
use Rattle.ppprint.specs.code.Tokens.{printed_token}
use Rattle.ppserve.specs.code.TextPieces.{barred_way, line_place, token_bytes}
use Rattle.ppserve.proofs.BufferedPrinting.{puts_then}
use Rattle.ppserve.proofs.TextItems.{token_puts}
use Rattle.ppserve.proofs.text_output.put_located.Goals as goal

pub returns-clause-items : goal.returns-clause-items
returns-clause-items g c =
    let s = c.token-step.result in
    let old = c.args.printer.now in
    record {
      bytes = barred_way s.way (line_place c.token-step.new.self) ++ token_bytes s.is_first s.spaces c.args.token.text.now;
      out = puts_then c.put_way.ensures c.put_spelling.ensures;
      left = λ rest. token_puts old.line old.numbering (printed_token c.args.token) s c.token-step.new.self rest c.token-step.ensures.step c.token-step.ensures.line c.token-step.ensures.numbering;
    }
