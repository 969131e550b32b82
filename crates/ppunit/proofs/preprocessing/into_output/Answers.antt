use Rattle.std.proofs.Common.{◌≡◌, Option, Ok, IfOk, subst}
use Rattle.pptext.specs.declared.tokens.Fault.{Fault}
use Rattle.ppunit.specs.States.{State, output}
use Rattle.ppunit.proofs.preprocessing.into_output.Goals as goal

pub returns : goal.returns
returns c =
    subst (λ (z : State). IfOk c.unit_out.result (λ out.
    (fault : Option Fault) × (c.args.outcome ≡ Ok fault) × (out ≡ output (record { state = z; fault = fault })))) c.state.view_is c.unit_out.ensures
