use Rattle.std.proofs.Common.{flat_map, sym, ap, ◌∙◌}
use Rattle.ppunit.specs.Chain.{open_places, without_main}
use Rattle.ppserve.specs.Output.{in_line}
use Rattle.ppserve.proofs.IncludeChain.{outermost_first}
use Rattle.ppserve.proofs.BufferedPrinting.{puts_as, puts_then}
use Rattle.ppserve.proofs.chain.put_chain.Goals as goal

pub returns : goal.returns
returns g c =
    let places = sym c.in-Some.ensures.some ∙ ap open_places c.slices-rest.ensures in
    puts_as (outermost_first _ _ ∙ ap (λ ps. flat_map in_line (without_main ps)) places) (puts_then c.put_outermost.ensures c.put_ins.ensures)
