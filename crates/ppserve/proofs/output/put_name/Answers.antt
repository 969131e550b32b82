use Rattle.std.proofs.Common.{◌≡◌, [], sym, ap, arith}
use Rattle.std.proofs.lemmas.Grind.{common_steps}
use Rattle.ppshelf.specs.Names.{name_in}
use Rattle.ppserve.specs.Output.{percent_encoded}
use Rattle.ppserve.proofs.BufferedPrinting.{puts_as, puts_none}
use Rattle.ppserve.proofs.output.put_name.Goals as goal

pub returns-in_default : goal.returns-in_default
returns-in_default g c =
    let none : name_in c.args.names.now c.args.row ≡ [] = grind (arith, common_steps) in
    puts_as (sym (ap percent_encoded none)) puts_none

pub returns : goal.returns
returns g c =
    let same : c.as_bytes.result.now ≡ name_in c.args.names.now c.args.row = grind (arith, common_steps) in
    puts_as (ap percent_encoded same) c.put_percent_encoded.ensures
