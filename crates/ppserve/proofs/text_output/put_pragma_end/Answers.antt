use Rattle.std.proofs.Common.{[], ◌∷◌, ◌++◌, ap}
use Rattle.ppprint.specs.Text.{spaces}
use Rattle.ppserve.proofs.BufferedPrinting.{puts_as, puts_then}
use Rattle.ppserve.proofs.text_output.put_pragma_end.Goals as goal

pub returns : goal.returns
returns g c = puts_as (ap (λ n. spaces n ++ 10 ∷ []) c.last_space.ensures) (puts_then c.put_spaces.ensures c.put.ensures)
