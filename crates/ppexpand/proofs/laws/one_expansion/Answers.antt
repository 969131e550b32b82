use Rattle.std.proofs.Common.{◌≡◌, refl, ap, ◌∙◌, map}
use Rattle.ppmacro.specs.Substitution.{unhidden}
use Rattle.ppexpand.proofs.OutcomeExistence.{total}
use Rattle.ppexpand.proofs.OutcomeUniqueness.{same_outcome}
use Rattle.ppexpand.proofs.laws.one_expansion.Goals as goal

pub returns : goal.returns
returns c = λ macros env meter tokens.
    let one = total macros env 0 meter (map unhidden tokens) in
    record {
      expansion = record { tokens = map (λ t. t.token) one.1.tokens; fault = one.1.fault; meter = one.1.meter };
      is = record { outcome = one.1; expands = (one.0, one.2); emitted = refl; fault_is = refl; meter_is = refl };
      only = λ other d.
          let same : d.outcome ≡ one.1 = (same_outcome macros env d.expands.1 one.0 one.1 one.2).1 in
          let emitted = d.emitted ∙ ap (λ o. map (λ t. t.token) o.tokens) same in
          let fault_is = d.fault_is ∙ ap (λ o. o.fault) same in
          let meter_is = d.meter_is ∙ ap (λ o. o.meter) same in
          λ i. record { tokens = emitted i; fault = fault_is i; meter = meter_is i };
    }
