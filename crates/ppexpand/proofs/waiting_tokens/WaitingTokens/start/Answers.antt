use Rattle.std.proofs.Common.{◌≡◌, ℕ, ◌<◌, ◌^◌, List, length, Option, Some, None, IfSome, sym, arith}
use Rattle.pptext.specs.declared.tokens.Token.{Token}
use Rattle.ppexpand.specs.code.OpenSearch.{open_depth}
use Rattle.ppexpand.proofs.WaitingLists.{open_bound}
use Rattle.ppexpand.proofs.waiting_tokens.WaitingTokens.start.Goals as goal

below : (tokens : List Token) (depth : Option ℕ) → depth ≡ open_depth tokens → length tokens < 2 ^ 63 → IfSome depth (λ d. d < 2 ^ 63)
below tokens None is short = tt
below tokens (Some d) is short = omega (arith, open_bound tokens d (sym is), short)

pub returns-clause-within : goal.returns-clause-within
returns-clause-within c = below c.self.inside.tokens c.self.inside.depth c.self.invariant (omega (arith, c.len-count.ensures.is, c.len-count.ensures.within))
