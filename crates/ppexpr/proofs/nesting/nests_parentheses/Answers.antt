use Rattle.std.proofs.Common.{◌+◌, arith, refl, sym, true≢false}
use Rattle.std.proofs.lemmas.Grind.{common_steps}
use Rattle.ppexpr.proofs.NestingCounts.{nests_not}
use Rattle.ppexpr.proofs.nesting.nests_parentheses.Goals as goal

pub returns-then-saturating_sub-gt-MOST_LEVELS : goal.returns-then-saturating_sub-gt-MOST_LEVELS
returns-then-saturating_sub-gt-MOST_LEVELS c =
    (λ _. (c.loop-symbol.symbol-index + 1, grind (arith, common_steps)), λ _. refl)

pub returns : goal.returns
returns c = (
  λ t. absurd (true≢false (sym t)),
  λ n. absurd (nests_not c.args.symbols.now (λ k h. c.loop-symbol.invariant.shallow k (omega (arith, c.loop-symbol-test.false))) n),
)
