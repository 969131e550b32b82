use Rattle.std.proofs.Common.{sym, subst}
use Rattle.std.specs.List.{IsDistinct}
use Rattle.ppmacro.specs.code.Members.{same_name}
use Rattle.ppmacro.proofs.hide_sets.names.NameNumbers.new.Goals as goal

pub invariant_of-result : goal.invariant_of-result
unfolding IsDistinct
invariant_of-result c = subst (IsDistinct same_name) (sym c.with_hasher.ensures.empty) tt
