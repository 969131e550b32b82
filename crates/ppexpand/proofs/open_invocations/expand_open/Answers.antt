use Rattle.std.proofs.Common.{List, map, subst, refl, ◌∙◌, true}
use Rattle.pptext.specs.declared.tokens.Token.{Token}
use Rattle.ppmacro.specs.HideSets.{hidings}
use Rattle.ppmacro.specs.Substitution.{unhidden}
use Rattle.ppmacro.specs.Substituting.{tokens_of}
use Rattle.ppmacro.proofs.JoinLemmas.{tokens-in}
use Rattle.ppexpand.specs.Expansion.{Outcome}
use Rattle.ppexpand.specs.code.OpenSearch.{ExpandsLeavingOpen}
use Rattle.ppexpand.proofs.open_invocations.expand_open.Goals as goal

pub returns : goal.returns
returns c =
    let sets = c.in_ok-fault.ensures.0 in
    let emitted = c.expand_stack.new.emitted in
    let outcome : Outcome = record { tokens = hidings sets emitted; fault = c.in_ok-fault.fault; meter = c.expand_stack.new.meter } in
    let open' = tokens_of c.expand_stack.new.unclosed.items in
    let one : ExpandsLeavingOpen true c.args.table.now.macros c.args.env.now 0 c.args.meter.now (map unhidden c.args.list) outcome open' =
    subst (λ (list : List Token). ExpandsLeavingOpen true c.args.table.now.macros c.args.env.now 0 c.args.meter.now (map unhidden list) outcome open') c.into_tokens-stack.ensures c.in_ok-fault.ensures.1 in (
      record {
        outcome = outcome;
        expands = one.expands;
        emitted = tokens-in sets emitted;
        fault_is = refl;
        meter_is = refl;
      },
      c.of-unclosed.ensures ∙ one.open_is refl,
    )
