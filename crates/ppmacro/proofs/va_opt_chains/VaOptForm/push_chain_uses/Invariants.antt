use Rattle.std.proofs.Common.{◌≡◌, ◌++◌, map, take}
use Rattle.std.specs.List.{flat_map}
use Rattle.ppmacro.specs.PreExpansion.{own_use, uses_of_operand, after_own}
use Rattle.ppmacro.specs.code.KeptOperands.{operands_at}
use Rattle.ppmacro.specs.code.VaOptLists.{arguments_at}
use Rattle.ppmacro.proofs.va_opt_chains.VaOptForm.push_chain_uses.Given as goal

abbrev pub invariant-loop-operand : goal.invariant-loop-operand
invariant-loop-operand l = l.uses.items ≡ l.initial.uses.items
    ++ map (own_use l.self.parameters) (flat_map (uses_of_operand (after_own l.self.parameters (arguments_at l.body l.self.contents.items))) (operands_at l.body (take l.operand-index l.operand-items)))
