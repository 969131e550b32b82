use Rattle.std.proofs.Common.{flat_map, refl}
use Rattle.std.proofs.lemmas.List.{map-append}
use Rattle.ppserve.specs.code.LinePrefix.{token_line}
use Rattle.ppmacro.specs.Substituting.{tokens_of}
use Rattle.ppserve.proofs.BufferedPrinting.{more_of, puts_all, puts_none, puts_turn}
use Rattle.ppserve.proofs.output.put_hidden_tokens.Goals as goal

pub loop-hidden-init : goal.loop-hidden-init
loop-hidden-init g c = puts_none

pub loop-hidden-preserved : goal.loop-hidden-preserved
loop-hidden-preserved g c =
    puts_turn (λ tokens. flat_map token_line (tokens_of tokens)) c.args.tokens.now c.loop-hidden.hidden-index c.hidden-item.result c.hidden-item.result c.loop-hidden-test.true c.hidden-item.is
    (λ before. rw (map-append, more_of) refl) c.loop-hidden.invariant c.put_hidden.ensures

pub returns : goal.returns
returns g c = puts_all (λ tokens. flat_map token_line (tokens_of tokens)) c.args.tokens.now c.loop-hidden.hidden-index c.loop-hidden-test.false c.loop-hidden.invariant
