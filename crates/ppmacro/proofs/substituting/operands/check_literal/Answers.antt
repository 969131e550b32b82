use Rattle.std.proofs.Common.{◌∙◌, ap, [], ◌∷◌, map, Ok}
use Rattle.pptext.proofs.ErrorReturns.{stops}
use Rattle.ppmacro.specs.Substitution.{after_ok, stringized}
use Rattle.ppmacro.specs.Substituting.{tokens_of}
use Rattle.ppmacro.proofs.JoinLemmas.{tokens-in, argument-in}
use Rattle.ppmacro.proofs.JoinedOperands.{fault_of}
use Rattle.ppmacro.proofs.substituting.operands.check_literal.Goals as goal

pub returns-in_err-_literal : goal.returns-in_err-_literal
returns-in_err-_literal c =
    let s = c.args.sets.now in
    let tokens = ap tokens_of c.argument_of.ensures ∙ tokens-in s _ ∙ ap (λ hs. map (λ t. t.token) hs) (argument-in s c.args.arguments.given.now c.in-Str.index) in
    rw c.in-Str.is (stops _ _ _ _ _ _ c.from_residual.ensures.1 c.in_err-_literal.ensures.is (λ fault e.
    ap (λ r. fault_of (after_ok r (λ t. Ok (t ∷ [])))) (e ∙ ap (λ ts. stringized ts c.in-Str.at c.args.used) tokens)))

pub returns : goal.returns
returns c =
    let s = c.args.sets.now in
    let tokens = ap tokens_of c.argument_of.ensures ∙ tokens-in s _ ∙ ap (λ hs. map (λ t. t.token) hs) (argument-in s c.args.arguments.given.now c.in-Str.index) in
    rw c.in-Str.is (ap (λ r. fault_of (after_ok r (λ t. Ok (t ∷ [])))) (c.in_ok-_literal.ensures.is ∙ ap (λ ts. stringized ts c.in-Str.at c.args.used) tokens))
