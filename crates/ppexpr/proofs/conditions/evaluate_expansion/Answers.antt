use Rattle.std.proofs.Common.{◌++◌, List}
use Rattle.pptext.specs.declared.tokens.Token.{Token}
use Rattle.ppexpr.specs.DefinedOperator.{ReplacesDefined}
use Rattle.ppexpr.specs.Conditions.{Condition, EvaluatesTokens, IsCondition, expansion_fault, replaced}
use Rattle.pptext.proofs.ErrorReturns.{if_settled-weaker}
use Rattle.ppexpr.proofs.conditions.evaluate_expansion.Goals as goal

pub returns-in-Some : goal.returns-in-Some
returns-in-Some c = λ list replaces. expansion_fault replaces c.in_ok-prefix.ensures c.in-Some.is

pub returns-in-None : goal.returns-in-None
returns-in-None c =
    let macros = c.args.table.now.macros in
    let tokens = c.args.tokens.now in
    let Of : Condition → List Token → Type 0 = λ r list. IsCondition macros c.args.env.now c.args.at list c.args.meter.now r c.expand.new.meter in
    if_settled-weaker c.evaluate_emitted.result (EvaluatesTokens c.args.at (c.in_ok-prefix.field-0.prefix.now ++ c.expand.new.scratch)) (λ r. (list : List Token) → ReplacesDefined macros list tokens → Of r list)
    (λ r h list replaces. replaced replaces c.in_ok-prefix.ensures c.in-None.is h) c.evaluate_emitted.ensures
