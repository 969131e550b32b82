use Rattle.std.proofs.Common.{ap, ◌∙◌, take, arith}
use Rattle.std.proofs.lemmas.List.{take-take}
use Rattle.pptext.proofs.tokens.Spelling.prefix_in_place.Goals as goal

pub returns : goal.returns
returns c =
    ap (take c.args.n) c.copy_from_slice.ensures.after ∙ take-take c.args.n 14 c.args.text.now (omega arith)
