-- A condition within a budget is the condition without a budget, or fault 35.
use Rattle.std.proofs.Common.{◌≡◌, ℕ, ◌+◌, ◌-◌, List, Some, Err, ap, ◌∙◌, arith}
use Rattle.pptext.specs.declared.tokens.Place.{Place}
use Rattle.pptext.specs.declared.tokens.Token.{Token}
use Rattle.ppmacro.specs.Names.{Macros}
use Rattle.ppexpand.specs.declared.env.Env.{Env}
use Rattle.ppexpand.specs.declared.meter.Meter.{Meter}
use Rattle.ppexpand.specs.Budget.{with_budget, without_budget}
use Rattle.ppexpand.proofs.BudgetLemmas.{without}
use Rattle.ppexpr.specs.Conditions.{Condition, IsCondition, count_condition}
use Rattle.ppexpr.specs.Laws.{CapsCondition}
use Rattle.ppexpr.proofs.ConditionBudgets.{condition_enough, IsRefused, condition_short}
use Rattle.ppexpr.proofs.ConditionUniqueness.{same_condition}

pub capped : {macros : Macros} {env : Env} {at : Place} {tokens : List Token} (meter : Meter) {whole_after : Meter} {whole : Condition}
    → (d : IsCondition macros env at tokens (without_budget meter) whole whole_after) (b : ℕ) (limited_after : Meter) (limited : Condition)
    → IsCondition macros env at tokens (with_budget (Some b) meter) limited limited_after
    → CapsCondition b (count_condition d) whole limited whole_after limited_after
capped {macros} {env} {at} {tokens} meter {whole_after} {whole} d b limited_after limited other = record {
  enough = λ fits.
      let n = b - count_condition d in
      let sum : b ≡ count_condition d + n = omega (arith, fits) in
      let is : IsCondition macros env at tokens (with_budget (Some b) meter) whole (with_budget (Some n) whole_after) = condition_enough b without d n sum in
      let one = same_condition macros env at tokens (with_budget (Some b) meter) limited_after (with_budget (Some n) whole_after) limited whole other is in
      (one.0, one.1);
  short = λ less.
      let s : IsRefused macros env at tokens (with_budget (Some b) meter) = condition_short b without d less in
      let one = same_condition macros env at tokens (with_budget (Some b) meter) limited_after s.meter_after limited (Err s.fault) other s.is in
      ((s.fault, one.0, s.number), ap (λ (m : Meter). m.remaining) one.1 ∙ s.nothing);
}
