use Rattle.std.proofs.Common.{◌∙◌, ◌++◌, refl, subst}
use Rattle.ppexpand.specs.Expansion.{Expansion, IsExpansion}
use Rattle.ppunit.specs.States.{State}
use Rattle.ppunit.proofs.LineDecisions.{none_of}
use Rattle.ppunit.proofs.operand_expansion.expand_operands.Goals as goal

pub returns-in-Some-clause-replaces : goal.returns-in-Some-clause-replaces
returns-in-Some-clause-replaces c =
    let out : Expansion = record { tokens = c.in_ok-prefix.field-0.prefix.now ++ c.expand.new.scratch; fault = c.in_ok-prefix.field-0.fault; meter = c.expand.new.meter } in
    record {
      expanded = out;
      expands = subst (λ (s : State). IsExpansion s.macros s.env s.meter c.args.operands.now out) c.state.view_is c.in_ok-prefix.ensures;
      leaves = refl;
      fault = c.in-Some.is;
      tokens = tt;
    }

pub returns-clause-replaces : goal.returns-clause-replaces
returns-clause-replaces c =
    let out : Expansion = record { tokens = c.in_ok-prefix.field-0.prefix.now ++ c.expand.new.scratch; fault = c.in_ok-prefix.field-0.fault; meter = c.expand.new.meter } in
    record {
      expanded = out;
      expands = subst (λ (s : State). IsExpansion s.macros s.env s.meter c.args.operands.now out) c.state.view_is c.in_ok-prefix.ensures;
      leaves = refl;
      fault = none_of c.in_ok-prefix.field-0.fault c.in_default.not-Some;
      tokens = c.new.ensures ∙ c.in_ok-to_vec.ensures;
    }
