use Rattle.std.proofs.Common.{true≢false, sym}
use Rattle.ppexpr.proofs.ShortExpressions.{few_shallow}
use Rattle.ppexpr.proofs.nesting.is_too_nested.Goals as goal

pub returns-then-symbols-le-MOST_LEVELS : goal.returns-then-symbols-le-MOST_LEVELS
returns-then-symbols-le-MOST_LEVELS c = (λ t. absurd (true≢false (sym t)), λ n. absurd (few_shallow c.args.symbols.now c.if-symbols-le-MOST_LEVELS.true n))
