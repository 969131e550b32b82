use Rattle.std.proofs.Common.{◌∙◌, ◌≤◌, [], ap, unwrap_or, length, rules}
use Rattle.ppmacro.specs.Substituting.{expansion_if_computed}
use Rattle.ppmacro.proofs.JoinLemmas.{expansion-at, expansion-following}
use Rattle.ppmacro.proofs.substituting.operands.expansion.Goals as goal

pub returns-in_default : goal.returns-in_default
returns-in_default c =
    let none : length c.args.expanded.now ≤ c.args.index = search rules in
    c.default-none.ensures ∙ expansion-following c.args.given.now c.args.expanded.now c.args.index none

pub returns : goal.returns
returns c =
    let at = c.in-Some.ensures.lookup in
    c.expansion_tokens.ensures ∙ ap (λ hs. unwrap_or (expansion_if_computed hs c.in-Some.expansion.now) []) c.argument_of.ensures ∙ expansion-at c.args.given.now c.args.expanded.now c.args.index c.in-Some.expansion.now at.3.0 at.1
