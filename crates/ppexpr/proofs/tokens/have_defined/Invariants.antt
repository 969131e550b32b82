use Rattle.std.proofs.Common.{◌≡◌, length}
use Rattle.std.specs.List.{list_any}
use Rattle.ppexpr.specs.DefinedOperator.{is_defined}
use Rattle.ppexpr.proofs.tokens.have_defined.Given as goal

abbrev pub invariant-loop-slice : goal.invariant-loop-slice
invariant-loop-slice l = list_any is_defined l.slices ≡ list_any is_defined l.initial.slices

abbrev pub decreases-loop-slice : goal.decreases-loop-slice
decreases-loop-slice l = length l.slices
