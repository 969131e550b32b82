use Rattle.std.proofs.Common.{◌∙◌, sym, ap, Ok}
use Rattle.ppmacro.proofs.Tries.{searched}
use Rattle.ppmacro.proofs.hide_sets.nodes.existing_number.Goals as goal

pub returns-clause-is : goal.returns-clause-is
returns-clause-is c = (searched c.args.nodes.now.keys c.args.node c.in-Some.number (sym c.get_index_of.ensures.index ∙ c.in-Some.is)).1

pub returns-clause-there : goal.returns-clause-there
returns-clause-there c = λ n k e.
    let ns = c.args.nodes.now.keys in
    let at = searched ns c.args.node c.in-Some.number (sym c.get_index_of.ensures.index ∙ c.in-Some.is) in
    ap Ok (c.requires.different c.in-Some.number n at.0 k (at.1 ∙ sym e))
