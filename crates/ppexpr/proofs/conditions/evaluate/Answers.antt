use Rattle.std.proofs.Common.{List, sym}
use Rattle.pptext.specs.declared.tokens.Token.{Token}
use Rattle.ppexpr.specs.DefinedOperator.{ReplacesDefined}
use Rattle.ppexpr.specs.Conditions.{Condition, IsCondition}
use Rattle.pptext.proofs.ErrorReturns.{if_settled-weaker}
use Rattle.ppexpr.proofs.UnreplacedConditions.{direct_condition, undefined_stays}
use Rattle.ppexpr.proofs.conditions.evaluate.Goals as goal

pub returns-in-Some : goal.returns-in-Some
returns-in-Some c =
    let truth = c.in-Some.ensures in
    direct_condition c.args.table.now.macros c.args.env.now c.args.at c.args.tokens.now c.args.meter.now _ _ truth.represents (truth.evaluated c.args.at)

pub returns : goal.returns
returns c =
    let macros = c.args.table.now.macros in
    let tokens = c.args.tokens.now in
    let Of : Condition → List Token → Type 0 = λ r list. IsCondition macros c.args.env.now c.args.at list c.args.meter.now r c.evaluate_expansion.new.meter in
    if_settled-weaker c.evaluate_expansion.result (λ r. (list : List Token) → ReplacesDefined macros list tokens → Of r list) (λ r. Of r tokens)
    (λ r h. h tokens (undefined_stays macros tokens (sym c.if-has_defined.ensures))) c.evaluate_expansion.ensures
