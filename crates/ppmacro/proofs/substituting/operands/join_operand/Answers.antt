use Rattle.std.proofs.Common.{◌∙◌, ap, [], ◌∷◌, map, Ok}
use Rattle.pptext.proofs.ErrorReturns.{stops}
use Rattle.ppmacro.specs.HideSets.{hidings}
use Rattle.ppmacro.specs.Substitution.{after_ok, join, stringized}
use Rattle.ppmacro.specs.Substituting.{tokens_of, arguments_in}
use Rattle.ppmacro.proofs.JoinLemmas.{tokens-in, argument-in}
use Rattle.ppmacro.proofs.JoinedOperands.{returns-same, argument-joined}
use Rattle.ppmacro.proofs.substituting.operands.join_operand.Goals as goal

pub returns-in_err-hidden-in-Str-clause-is : goal.returns-in_err-hidden-in-Str-clause-is
returns-in_err-hidden-in-Str-clause-is c =
    let s = c.args.sets.now in
    let left = hidings s c.args.left.now.items in
    let tokens = ap tokens_of c.argument_of-argument.ensures ∙ tokens-in s _ ∙ ap (λ hs. map (λ t. t.token) hs) (argument-in s c.args.arguments.given.now c.in-Str.index) in
    rw c.in-Str.is (stops _ _ _ _ _ _ c.from_residual.ensures.1 c.in_err-hidden-in-Str.ensures.is (λ fault e.
    ap (λ r. after_ok (after_ok r (λ t. Ok (t ∷ []))) (λ ts. join left ts c.args.used)) (e ∙ ap (λ ts. stringized ts c.in-Str.at c.args.used) tokens)))

pub returns-in_ok-hidden-in-Str-clause-is : goal.returns-in_ok-hidden-in-Str-clause-is
returns-in_ok-hidden-in-Str-clause-is c =
    let s = c.args.sets.now in
    let left = hidings s c.args.left.now.items in
    let tokens = ap tokens_of c.argument_of-argument.ensures ∙ tokens-in s _ ∙ ap (λ hs. map (λ t. t.token) hs) (argument-in s c.args.arguments.given.now c.in-Str.index) in
    rw c.in-Str.is (returns-same _ _ _ _ c.join-in-Str.ensures.is
    (ap (λ hs. join left (hidings s hs) c.args.used) c.from_ref-in-Str.ensures.value
    ∙ ap (λ r. after_ok (after_ok r (λ t. Ok (t ∷ []))) (λ ts. join left ts c.args.used)) (c.in_ok-hidden-in-Str.ensures.is ∙ ap (λ ts. stringized ts c.in-Str.at c.args.used) tokens)))

pub returns-in-Param-clause-is : goal.returns-in-Param-clause-is
returns-in-Param-clause-is c =
    let s = c.args.sets.now in
    let left = hidings s c.args.left.now.items in
    returns-same _ _ _ _ c.join-in-Param.ensures.is
    (ap (λ hs. join left (hidings s hs) c.args.used) c.argument_of-argument-in-Param.ensures
    ∙ ap (λ ts. join left ts c.args.used) (argument-in s c.args.arguments.given.now c.in-Param.index)
    ∙ argument-joined (arguments_in s c.args.arguments.given.now c.args.arguments.expanded.now) c.args.used left c.args.operand.now c.in-Param.index c.in-Param.is)
