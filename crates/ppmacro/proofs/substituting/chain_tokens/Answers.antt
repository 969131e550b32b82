use Rattle.std.proofs.Common.{◌≡◌, ◌∙◌, ap, [], Ok, true, take}
use Rattle.pptext.proofs.ErrorReturns.{stops}
use Rattle.ppmacro.specs.HideSets.{hidings}
use Rattle.ppmacro.specs.Substitution.{is_joined, before_variadic, variadic_of, with_variadic_tokens, operands_tokens}
use Rattle.ppmacro.specs.Substituting.{lists_of, arguments_in}
use Rattle.ppmacro.specs.code.Replacing.{operands_fault}
use Rattle.ppmacro.proofs.VariadicOperands.{chain-laid, rest-laid, rest-laid-known}
use Rattle.ppmacro.proofs.JoinedOperands.{no-fault, next-to-paste, joined-all, chain-refused, chain-unpasted}
use Rattle.ppmacro.proofs.substituting.chain_tokens.Goals as goal

pub returns-in_err-check_literals-clause-is : goal.returns-in_err-check_literals-clause-is
returns-in_err-check_literals-clause-is c =
    let args = arguments_in c.args.sets.now c.args.arguments.given.now c.args.arguments.expanded.now in
    stops _ _ _ _ _ _ c.from_residual.ensures.1 c.in_err-check_literals.ensures (λ fault e.
    chain-refused args c.args.used c.args.chain.now fault c.requires.joined (e ∙ ap (operands_fault args c.args.used) c.split_variadic-count.ensures.front))

pub returns-in_err-tokens-clause-is : goal.returns-in_err-tokens-clause-is
returns-in_err-tokens-clause-is c =
    let used = c.args.used in
    let chain = c.args.chain.now in
    let args = arguments_in c.args.sets.now c.args.arguments.given.now c.args.arguments.expanded.now in
    let front = take c.split_variadic-count.result.0 chain.operands in
    let whole = no-fault args used front c.in_ok-check_literals.field-0 c.in_ok-check_literals.ensures in
    let made : Ok whole.lists ≡ operands_tokens (is_joined chain.operands) args used (before_variadic chain.operands) =
    whole.is ∙ ap (operands_tokens true args used) c.split_variadic-count.ensures.front ∙ next-to-paste args used chain.operands c.requires.joined in
    stops _ _ _ _ _ _ c.from_residual-in_err-tokens.ensures.1 c.in_err-tokens.ensures.is (λ fault e.
    chain-unpasted args used chain whole.lists fault made (e ∙ joined-all args used front whole.lists [] whole.is))

pub returns-clause-is : goal.returns-clause-is
returns-clause-is c =
    let used = c.args.used in
    let chain = c.args.chain.now in
    let given = c.args.arguments.given.now in
    let expanded = c.args.arguments.expanded.now in
    let tokens = c.in_ok-tokens.tokens.items in
    let args = arguments_in c.args.sets.now given expanded in
    let front = take c.split_variadic-count.result.0 chain.operands in
    let whole = no-fault args used front c.in_ok-check_literals.field-0 c.in_ok-check_literals.ensures in
    let made : Ok whole.lists ≡ operands_tokens (is_joined chain.operands) args used (before_variadic chain.operands) =
    whole.is ∙ ap (operands_tokens true args used) c.split_variadic-count.ensures.front ∙ next-to-paste args used chain.operands c.requires.joined in
    let laid = c.in_ok-append_variadic.ensures ∙ ap (λ o. with_variadic_tokens (lists_of given) o tokens) c.split_variadic-count.ensures.variadic in
    ap Ok (rest-laid given expanded (variadic_of chain.operands) tokens c.append_variadic.new.tokens.items c.in_ok-tokens.ensures.keeps c.requires.arguments laid)
    ∙ chain-laid args used chain whole.lists (hidings c.join_operands.new.sets tokens) made (c.in_ok-tokens.ensures.is ∙ joined-all args used front whole.lists [] whole.is)

pub returns-clause-known : goal.returns-clause-known
returns-clause-known c =
    rest-laid-known c.args.arguments.given.now c.args.arguments.expanded.now c.split_variadic-count.result.1 c.in_ok-tokens.tokens.items c.append_variadic.new.tokens.items
    c.in_ok-tokens.ensures.keeps c.requires.arguments c.in_ok-append_variadic.ensures c.in_ok-tokens.ensures.known
