use Rattle.std.proofs.Common.{◌∙◌, sym}
use Rattle.std.proofs.lemmas.Bool.{and_parts}
use Rattle.ppserve.proofs.list.validation.findings_of.Goals as goal

pub returns-in-Ok-clause-fits : goal.returns-in-Ok-clause-fits
returns-in-Ok-clause-fits c = (and_parts _ _ (sym c.sizes_hold.ensures ∙ c.if-not-sizes_hold.false)).1
