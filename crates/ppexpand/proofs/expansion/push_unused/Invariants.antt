use Rattle.std.proofs.Common.{◌≡◌, replicate}
use Rattle.ppmacro.specs.declared.hidden_token.ArgumentExpansion.TheVariants.{Unused}
use Rattle.ppexpand.proofs.expansion.push_unused.Given as goal

abbrev pub invariant-loop-parameter : goal.invariant-loop-parameter
invariant-loop-parameter l = l.expanded.items ≡ replicate l._parameter Unused
