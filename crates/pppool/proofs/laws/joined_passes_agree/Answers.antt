use Rattle.std.proofs.Common.{sym, ◌∙◌}
use Rattle.std.proofs.lemmas.Option.{same_Some}
use Rattle.pppool.proofs.laws.joined_passes_agree.Goals as goal

pub returns : goal.returns
returns c one two all first second row x y a b = same_Some x y (sym (first row x a) ∙ second row y b)
