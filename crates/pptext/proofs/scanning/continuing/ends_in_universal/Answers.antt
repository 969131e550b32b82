use Rattle.pptext.proofs.TokenContinuation.{ends_first, ends_second}
use Rattle.pptext.proofs.scanning.continuing.ends_in_universal.Goals as goal

pub returns-then-ends_in_name_of : goal.returns-then-ends_in_name_of
returns-then-ends_in_name_of c = ends_first c.args.text.now c.ends_in_name_of.result c.if-ends_in_name_of.true c.ends_in_name_of.ensures

pub returns-else-ends_in_name_of : goal.returns-else-ends_in_name_of
returns-else-ends_in_name_of c =
    ends_second c.args.text.now c.ends_in_name_of.result c.ends_in_name_of-else-ends_in_name_of.result c.if-ends_in_name_of.false c.ends_in_name_of.ensures
    c.ends_in_name_of-else-ends_in_name_of.ensures
