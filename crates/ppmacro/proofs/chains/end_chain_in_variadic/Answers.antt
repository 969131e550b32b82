use Rattle.std.proofs.Common.{rules, ◌≡◌, ◌∙◌, sym, ap, subst, set, get_or, length, ◌-◌, ◌<◌, ◌≤◌, arith, List, ℕ}
use Rattle.std.proofs.lemmas.List.{length-map, map-set, get_or-map, set-get_or}
use Rattle.pptext.specs.declared.tokens.Token.{Token}
use Rattle.ppmacro.specs.Chains.{variadic_after, ending_in_variadic}
use Rattle.ppmacro.specs.declared.macros.Operand.{Operand}
use Rattle.ppmacro.specs.declared.macros.Operand.TheVariants.{VariadicAfterComma}
use Rattle.ppmacro.specs.declared.kept_chains.KeptOperand.{KeptOperand}
use Rattle.ppmacro.specs.declared.kept_chains.KeptOperand.TheVariants as kept
use Rattle.ppmacro.specs.code.KeptOperands.{operand_at, operands_at}
use Rattle.ppmacro.proofs.VariadicOperands.{ending-short, ending-last}
use Rattle.ppmacro.proofs.chains.end_chain_in_variadic.Goals as goal

pub returns-then-count-lt2 : goal.returns-then-count-lt2
returns-then-count-lt2 c =
    let body = c.args.body.now in
    let ops = c.args.operands.now.items in
    let short : length ops < 2 = search rules in
    ending-short c.args.index (operands_at body ops) (subst (λ n. n < 2) (sym (length-map ops (operand_at body))) short)

-- The operand at an index, as the list of operands has it.
read : (body : List Token) (ops : List KeptOperand) (i : ℕ) (k : KeptOperand) (o : Operand)
    → i < length ops
    → k ≡ get_or ops i k
    → o ≡ operand_at body k
    → o ≡ get_or (operands_at body ops) i o
read body ops i k o within at is = is ∙ ap (operand_at body) at ∙ sym (get_or-map (operand_at body) ops i k o within)

-- The last operand with its new value.
ended : (body : List Token) (ops : List KeptOperand) (index : ℕ) (b l : Operand)
    → 2 ≤ length ops
    → b ≡ get_or (operands_at body ops) (length ops - 2) b
    → l ≡ get_or (operands_at body ops) (length ops - 1) l
    → set (operands_at body ops) (length ops - 1) (variadic_after index b l) ≡ ending_in_variadic index (operands_at body ops)
ended body ops index b l long before last =
    let same : length (operands_at body ops) ≡ length ops = length-map ops (operand_at body) in
    subst (λ n. set (operands_at body ops) (n - 1) (variadic_after index b l) ≡ ending_in_variadic index (operands_at body ops)) same
    (ending-last index (operands_at body ops) b l (subst (λ n. 2 ≤ n) (sym same) long)
    (before ∙ ap (λ n. get_or (operands_at body ops) (n - 2) b) (sym same)) (last ∙ ap (λ n. get_or (operands_at body ops) (n - 1) l) (sym same)))

pub returns-then-is_variadic : goal.returns-then-is_variadic
returns-then-is_variadic c =
    let body = c.args.body.now in
    let ops = c.args.operands.now.items in
    let count : c.len-count.result ≡ length ops = search rules in
    let long : 2 ≤ length ops = search rules in
    let before = read body ops (length ops - 2) c.index.result.now c.operand_at-before.result (omega (arith, long)) (c.index.ensures ∙ ap (λ n. get_or ops (n - 2) c.index.result.now) count) c.operand_at-before.ensures in
    let last = read body ops (length ops - 1) c.index-2.result.now c.operand_at-last.result (omega (arith, long)) (c.index-2.ensures ∙ ap (λ n. get_or ops (n - 1) c.index-2.result.now) count) c.operand_at-last.ensures in
    map-set (operand_at body) ops (c.len-count.result - 1) (kept.VariadicAfterComma c.args.index)
    ∙ ap (λ n. set (operands_at body ops) (n - 1) (VariadicAfterComma c.args.index)) count
    ∙ ap (set (operands_at body ops) (length ops - 1)) (sym c.if-is_variadic.ensures)
    ∙ ended body ops c.args.index c.operand_at-before.result c.operand_at-last.result long before last

pub returns-else-is_variadic : goal.returns-else-is_variadic
returns-else-is_variadic c =
    let body = c.args.body.now in
    let ops = c.args.operands.now.items in
    let count : c.len-count.result ≡ length ops = search rules in
    let long : 2 ≤ length ops = search rules in
    let before = read body ops (length ops - 2) c.index.result.now c.operand_at-before.result (omega (arith, long)) (c.index.ensures ∙ ap (λ n. get_or ops (n - 2) c.index.result.now) count) c.operand_at-before.ensures in
    let last = read body ops (length ops - 1) c.index-2.result.now c.operand_at-last.result (omega (arith, long)) (c.index-2.ensures ∙ ap (λ n. get_or ops (n - 1) c.index-2.result.now) count) c.operand_at-last.ensures in
    sym (set-get_or (operands_at body ops) (length ops - 1) c.operand_at-last.result)
    ∙ ap (set (operands_at body ops) (length ops - 1)) (sym last ∙ sym c.if-is_variadic.ensures)
    ∙ ended body ops c.args.index c.operand_at-before.result c.operand_at-last.result long before last
