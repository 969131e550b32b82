use Rattle.std.proofs.Common.{◌≡◌, ◌++◌, map, take, drop}
use Rattle.ppexpand.specs.code.Lists.{with_set}
use Rattle.ppexpand.proofs.token_stack.set_hide.Given as goal

abbrev pub invariant-loop-hidden : goal.invariant-loop-hidden
invariant-loop-hidden l = l.tokens ≡ map (λ h. with_set l.hide h.token) (take l.hidden-index l.initial.tokens) ++ drop l.hidden-index l.initial.tokens
