use Rattle.std.proofs.Common.{List, map, subst, refl, ◌++◌}
use Rattle.pptext.specs.declared.tokens.Token.{Token}
use Rattle.ppmacro.specs.Substituting.{tokens_of}
use Rattle.ppmacro.specs.Substitution.{unhidden}
use Rattle.ppexpand.specs.Expansion.{Outcome, ExpandsTo}
use Rattle.ppmacro.specs.HideSets.{hidings}
use Rattle.ppmacro.proofs.JoinLemmas.{tokens-in}
use Rattle.ppexpand.proofs.expansion.expand_rest.Goals as goal

pub returns : goal.returns
returns c =
    let sets = c.in_ok-fault.ensures.0 in
    let emitted = c.expand_tokens.new.emitted in
    let outcome : Outcome = record { tokens = hidings sets emitted; fault = c.in_ok-fault.fault; meter = c.expand_tokens.new.meter } in
    let from : List Token → Type 0 = λ list. ExpandsTo c.args.context.now.table.now.macros c.args.context.now.env.now 0 c.args.meter.now (map unhidden list) outcome in
    record {
      outcome = outcome;
      expands = subst from (λ i. tokens_of (c.clear-2.ensures.items i) ++ c.args.tokens.now) c.in_ok-fault.ensures.1;
      emitted = tokens-in sets emitted;
      fault_is = refl;
      meter_is = refl;
    }
