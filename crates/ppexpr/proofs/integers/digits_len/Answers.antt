use Rattle.std.proofs.Common.{below_more, ◌∙◌, sym, arith, length}
use Rattle.std.specs.Char.{is_digit}
use Rattle.std.proofs.lemmas.List.Sums.{prefix_len_is}
use Rattle.ppexpr.proofs.integers.digits_len.Goals as goal

pub returns-then-not-is_digit-clause-value : goal.returns-then-not-is_digit-clause-value
returns-then-not-is_digit-clause-value c =
    sym (prefix_len_is (λ x. is_digit x c.args.base) c.args.text.now c.loop-at.at 0 (omega arith) c.loop-at.invariant (λ _. sym c.is_digit.ensures ∙ c.if-not-is_digit.true))

pub returns-clause-value : goal.returns-clause-value
returns-clause-value c =
    sym (prefix_len_is (λ x. is_digit x c.args.base) c.args.text.now (length c.args.text.now) 0 (omega arith) (λ k h. c.loop-at.invariant k (omega arith)) (λ h. absurd (omega arith)))

pub loop-at-preserved : goal.loop-at-preserved
loop-at-preserved c = below_more _ _ c.loop-at.invariant (sym c.is_digit.ensures ∙ c.if-not-is_digit.false)
