use Rattle.std.proofs.Common.{◌≡◌, ◌∙◌, sym, ap, subst, [], ◌∷◌, ◌++◌, map, Ok, Err, false}
use Rattle.std.proofs.lemmas.List.{map-append}
use Rattle.pptext.proofs.ErrorReturns.{stops}
use Rattle.ppmacro.specs.HideSets.{hiding, hidings, AllKnown}
use Rattle.ppmacro.specs.Substitution.{argument_at, expanded_at, space_first, stringized, with_space}
use Rattle.ppmacro.specs.Substituting.{tokens_of, expansions_if_computed, arguments_in}
use Rattle.ppmacro.specs.code.Replacing.{pushed}
use Rattle.ppmacro.proofs.JoinLemmas.{tokens-in, argument-in, expansion-in}
use Rattle.ppmacro.proofs.JoinedOperands.{argument-alone, literal-alone}
use Rattle.ppmacro.proofs.substituting.push_operand.Goals as goal

pub returns-in_ok-pending-in-Param-clause-is : goal.returns-in_ok-pending-in-Param-clause-is
returns-in_ok-pending-in-Param-clause-is c =
    let s = c.args.sets.now in
    let front = hidings s c.args.tokens.now.items in
    let args = arguments_in s c.args.arguments.given.now c.args.arguments.expanded.now in
    let same : hidings s c.expansion-argument.result.now ≡ expanded_at args.expanded c.in-Param.index =
    ap (hidings s) c.expansion-argument.ensures ∙ expansion-in s (expansions_if_computed c.args.arguments.given.now c.args.arguments.expanded.now) c.in-Param.index in
    let tokens = c.in_ok-pending-in-Param.ensures.tokens s ∙ ap (λ hs. front ++ (space_first c.args.space hs).tokens) same in
    let pending = c.in_ok-pending-in-Param.ensures.pending s ∙ ap (λ hs. (space_first c.args.space hs).pending) same in
    rw c.in-Param.is (λ i. Ok (record { tokens = tokens i; pending = pending i }))

pub returns-in_ok-pending-in-Param-clause-known : goal.returns-in_ok-pending-in-Param-clause-known
returns-in_ok-pending-in-Param-clause-known c =
    let s = c.args.sets.now in
    c.in_ok-pending-in-Param.ensures.known s c.requires.tokens (subst (AllKnown s) (sym c.expansion-argument.ensures) (c.requires.arguments.expanded_known _))

pub returns-in_ok-pending-in-VariadicAfterComma-clause-is : goal.returns-in_ok-pending-in-VariadicAfterComma-clause-is
returns-in_ok-pending-in-VariadicAfterComma-clause-is c =
    let s = c.args.sets.now in
    let i = c.in-VariadicAfterComma.index in
    let front = hidings s c.args.tokens.now.items in
    let args = arguments_in s c.args.arguments.given.now c.args.arguments.expanded.now in
    let same : hidings s c.argument_of.result.now ≡ argument_at args.given i = ap (hidings s) c.argument_of.ensures ∙ argument-in s c.args.arguments.given.now i in
    let tokens = c.in_ok-pending-in-VariadicAfterComma.ensures.tokens s ∙ ap (λ hs. front ++ (space_first c.args.space hs).tokens) same in
    let pending = c.in_ok-pending-in-VariadicAfterComma.ensures.pending s ∙ ap (λ hs. (space_first c.args.space hs).pending) same in
    rw c.in-VariadicAfterComma.is ((λ j. Ok (record { tokens = tokens j; pending = pending j })) ∙ ap (pushed front c.args.space) (argument-alone args c.args.used c.args.space i))

pub returns-in_ok-pending-in-VariadicAfterComma-clause-known : goal.returns-in_ok-pending-in-VariadicAfterComma-clause-known
returns-in_ok-pending-in-VariadicAfterComma-clause-known c =
    let s = c.args.sets.now in
    c.in_ok-pending-in-VariadicAfterComma.ensures.known s c.requires.tokens (subst (AllKnown s) (sym c.argument_of.ensures) (c.requires.arguments.given_known _))

pub returns-in_err-literal-in-Str-clause-is : goal.returns-in_err-literal-in-Str-clause-is
returns-in_err-literal-in-Str-clause-is c =
    let s = c.args.sets.now in
    let i = c.in-Str.index in
    let at = c.in-Str.at in
    let front = hidings s c.args.tokens.now.items in
    let args = arguments_in s c.args.arguments.given.now c.args.arguments.expanded.now in
    let tokens = ap tokens_of c.argument_of-argument.ensures ∙ tokens-in s _ ∙ ap (λ hs. map (λ t. t.token) hs) (argument-in s c.args.arguments.given.now i) in
    rw c.in-Str.is (stops _ _ _ _ _ _ c.from_residual-in_err-literal-in-Str.ensures.1 c.in_err-literal-in-Str.ensures.is (λ fault e.
    ap (pushed front c.args.space) (literal-alone args c.args.used c.args.space i at (Err fault) (e ∙ ap (λ ts. stringized ts at c.args.used) tokens))))

pub returns-in_ok-push-in-Str-clause-is : goal.returns-in_ok-push-in-Str-clause-is
returns-in_ok-push-in-Str-clause-is c =
    let s = c.args.sets.now in
    let i = c.in-Str.index in
    let at = c.in-Str.at in
    let space = c.args.space in
    let front = c.args.tokens.now.items in
    let literal = c.in_ok-literal-in-Str.literal in
    let args = arguments_in s c.args.arguments.given.now c.args.arguments.expanded.now in
    let text = ap tokens_of c.argument_of-argument.ensures ∙ tokens-in s _ ∙ ap (λ hs. map (λ t. t.token) hs) (argument-in s c.args.arguments.given.now i) in
    let tokens : hidings s c.push.new.items.items ≡ hidings s front ++ with_space space (hiding s literal) ∷ [] =
    ap (hidings s) c.in_ok-push-in-Str.ensures ∙ map-append (hiding s) front (c.set_space.new.self ∷ []) ∙ ap (λ h. hidings s front ++ hiding s h ∷ []) c.set_space.ensures in
    rw c.in-Str.is ((λ j. Ok (record { tokens = tokens j; pending = false }))
    ∙ ap (pushed (hidings s front) space) (literal-alone args c.args.used space i at (Ok (hiding s literal)) (c.in_ok-literal-in-Str.ensures.is ∙ ap (λ ts. stringized ts at c.args.used) text)))
