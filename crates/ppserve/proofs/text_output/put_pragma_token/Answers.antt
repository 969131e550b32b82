use Rattle.std.proofs.Common.{◌++◌, ap}
use Rattle.ppprint.specs.Text.{spaces}
use Rattle.ppserve.specs.code.TextPieces.{with_bars}
use Rattle.ppserve.proofs.BufferedPrinting.{puts_as, puts_then}
use Rattle.ppserve.proofs.text_output.put_pragma_token.Goals as goal

pub returns-clause-out : goal.returns-clause-out
returns-clause-out g c = puts_as (ap (λ n. spaces n ++ with_bars c.args.token.text.now) c.token.ensures.spaces) (puts_then c.put_spaces.ensures c.put_text.ensures)
