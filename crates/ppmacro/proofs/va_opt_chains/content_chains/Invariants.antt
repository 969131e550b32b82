use Rattle.std.proofs.Common.{◌≡◌, map, take}
use Rattle.ppmacro.specs.Chains.{chains_of}
use Rattle.ppmacro.specs.code.VaOptLists.{tokens_at, arguments_at}
use Rattle.ppmacro.proofs.va_opt_chains.content_chains.Given as goal

abbrev pub invariant-loop-content : goal.invariant-loop-content
invariant-loop-content l =
    arguments_at l.body l.all.items ≡ map (λ ts. chains_of (record { kind = l.kind; body = ts })) (map (λ c. tokens_at l.body c.items) (take l.content-index l.contents))
