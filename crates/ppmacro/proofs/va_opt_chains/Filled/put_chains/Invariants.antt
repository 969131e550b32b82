use Rattle.std.proofs.Common.{◌≡◌, ◌+◌, ◌++◌, ◌∷◌, [], not, map, length}
use Rattle.ppmacro.specs.Substitution.{has_tokens}
use Rattle.ppmacro.specs.VaOptChains.{content_parts, with_first_space}
use Rattle.ppmacro.specs.code.KeptChains.{chains_at, part_at}
use Rattle.ppmacro.specs.code.VaOptLists.{arguments_at}
use Rattle.ppmacro.proofs.va_opt_chains.Filled.put_chains.Given as goal

abbrev pub invariant-loop-chain : goal.invariant-loop-chain
invariant-loop-chain l = record {
  parts : map (part_at l.body) l.self.parts.items ≡ map (part_at l.body) l.initial.self.parts.items
      ++ content_parts (l.initial.self.parameters + length l.initial.self.arguments.items) (with_first_space l.space (chains_at l.body l.yielded));
  arguments : arguments_at l.body l.self.arguments.items ≡ arguments_at l.body l.initial.self.arguments.items ++ map (λ c. c ∷ []) (chains_at l.body l.yielded);
  first : l.first ≡ not (has_tokens (chains_at l.body l.yielded));
  parameters : l.self.parameters ≡ l.initial.self.parameters;
}
