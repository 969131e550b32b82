use Rattle.std.proofs.Common.{sym, ◌∙◌}
use Rattle.ppunit.proofs.UnitUniqueness.{unit_once}
use Rattle.ppunit.proofs.laws.one_value.Goals as goal

pub returns : goal.returns
returns c =
    unit_once (λ m e meter ts a b p q. let one = c.one_expansion.ensures m e meter ts in one.only a p ∙ sym (one.only b q)) c.one_condition.ensures
    c.one_reading.ensures c.one_tree.ensures (λ names once cs a b. c.one_row.ensures names cs a b once)
