use Rattle.std.proofs.Common.{◌≡◌, ◌∙◌, suc, sym, ap, subst, false, true, List, [], ◌∷◌, ◌++◌, ◌<◌, length, get_or, arith, set}
use Rattle.std.proofs.lemmas.Result.{on_ok_weaker}
use Rattle.std.proofs.lemmas.List.{length-map, map-set, map-append, get_or-map}
use Rattle.pptext.specs.declared.tokens.Token.{Token}
use Rattle.ppmacro.specs.Chains.{ChainPart, OperandPart}
use Rattle.ppmacro.specs.code.ChainParts.{append_parts}
use Rattle.ppmacro.specs.code.KeptOperands.{operand_at, operands_at}
use Rattle.ppmacro.specs.code.KeptChains.{chain_at, chains_at}
use Rattle.ppmacro.proofs.ChainLemmas.{append_parts-begin, append_parts-joined}
use Rattle.ppmacro.proofs.chains.put.Goals as goal

pub returns-then-not-joined : goal.returns-then-not-joined
returns-then-not-joined c =
    let apart : c.args.joined ≡ false = c.if-not-joined.true in
    let old = c.args.chains.now.items in
    let new = c.begin_chain.new.chains.items in
    let more : ((body : List Token) → chains_at body new ≡ chains_at body old ++ record { space = c.args.space; operands = operand_at body c.args.operand ∷ [] } ∷ [])
    → (body : List Token) (is : List ChainPart)
    → append_parts false (chains_at body new) is ≡ append_parts c.args.joined (chains_at body old) (OperandPart c.args.space (operand_at body c.args.operand) ∷ is) =
    λ e body is.
    ap (λ cs. append_parts false cs is) (e body)
    ∙ append_parts-begin (chains_at body old) c.args.space (operand_at body c.args.operand) is
    ∙ ap (λ j. append_parts j (chains_at body old) (OperandPart c.args.space (operand_at body c.args.operand) ∷ is)) (sym apart) in
    on_ok_weaker _ more c.begin_chain.ensures

pub returns : goal.returns
returns c = λ body is.
    let joined : c.args.joined ≡ true = c.if-not-joined.false in
    let last = c.in-Some.last in
    let chain = c.index_mut-chain.result.now in
    let old = c.args.chains.now.items in
    let o = operand_at body c.args.operand in
    let counted : length (chains_at body old) ≡ suc last = length-map old (chain_at body) ∙ omega (arith, c.args.chains.now.ok, c.len.ensures, c.in-Some.ensures.0, c.in-Some.ensures.1) in
    let grown : operands_at body c.push.new.self.items ≡ operands_at body chain.operands.items ++ o ∷ [] =
    ap (operands_at body) c.in_ok-push.ensures.items ∙ map-append (operand_at body) chain.operands.items (c.args.operand ∷ []) in
    let was : chain_at body chain ≡ get_or (chains_at body old) last (chain_at body chain) =
    ap (chain_at body) c.index_mut-chain.ensures.value ∙ sym (get_or-map (chain_at body) old last chain (chain_at body chain) (subst (λ n. last < n) (length-map old (chain_at body)) (omega (arith, counted)))) in
    ap (λ cs. append_parts false cs is) (map-set (chain_at body) old last (record { space = chain.space; operands = c.push.new.self }))
    ∙ ap (λ os. append_parts false (set (chains_at body old) last (record { space = chain.space; operands = os })) is) grown
    ∙ append_parts-joined (chains_at body old) last (chain_at body chain) c.args.space o is counted was
    ∙ ap (λ j. append_parts j (chains_at body old) (OperandPart c.args.space o ∷ is)) (sym joined)
