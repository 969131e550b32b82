use Rattle.std.proofs.Common.{◌∙◌, Some, ap}
use Rattle.pptext.specs.declared.tokens.Token.{Token}
use Rattle.pptext.proofs.Faults.{no_token}
use Rattle.pptext.proofs.Guards.{part_index}
use Rattle.pptext.proofs.grouping.guards.guard_index.Goals as goal

pub returns-clause-some : goal.returns-clause-some
returns-clause-some c =
    let found = c.in-Some.ensures.some in
    let part = λ (d : Token). part_index c.args.tokens.now c.args.line.start c.args.line.end c.in-Some.index d c.requires.begins c.requires.within found.0 in
    ((part no_token).0, λ d. found.1 d ∙ ap (λ (t : Token). Some t.text) (part d).1)
