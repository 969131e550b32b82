use Rattle.std.proofs.Common.{flat_map}
use Rattle.ppserve.specs.Output.{pragma_token_line}
use Rattle.ppserve.proofs.BufferedPrinting.{more_of, puts_all, puts_none, puts_turn}
use Rattle.ppserve.proofs.output.put_pragma_tokens.Goals as goal

pub loop-token-init : goal.loop-token-init
loop-token-init g c = puts_none

pub loop-token-preserved : goal.loop-token-preserved
loop-token-preserved g c =
    puts_turn (flat_map pragma_token_line) c.args.tokens.now c.loop-token.token-index c.token-item.result c.token-item.result c.loop-token-test.true c.token-item.is
    (λ before. more_of pragma_token_line before c.token-item.result) c.loop-token.invariant c.put_pragma_token.ensures

pub returns : goal.returns
returns g c = puts_all (flat_map pragma_token_line) c.args.tokens.now c.loop-token.token-index c.loop-token-test.false c.loop-token.invariant
