use Rattle.std.proofs.Common.{◌≡◌, ◌∙◌, ◌+◌, ◌++◌, map, length, sym, ap}
use Rattle.std.proofs.lemmas.Result.{on_ok_weaker}
use Rattle.pptext.specs.declared.tokens.Token.{Token}
use Rattle.std.proofs.Common.{List, ◌∷◌, []}
use Rattle.ppmacro.specs.Chains.{OperandPart}
use Rattle.ppmacro.specs.declared.macros.Operand.TheVariants.{Str}
use Rattle.ppmacro.specs.declared.chains.ChainPart.TheVariants as variant
use Rattle.ppmacro.specs.declared.kept_chains.KeptOperand.TheVariants as kept
use Rattle.ppmacro.specs.VaOptChains.{parts_for}
use Rattle.ppmacro.specs.code.KeptChains.{chains_at, part_at}
use Rattle.ppmacro.proofs.va_opt_chains.Filled.put_content.Goals as goal

pub returns-in-Str-clause-parts : goal.returns-in-Str-clause-parts
returns-in-Str-clause-parts c =
    let body = c.args.body.now in
    let old = c.args.self.now in
    let new = c.put_literal.new.self in
    let i = old.parameters + length old.arguments.items in
    let space = c.in-OperandPart.space in
    let part : c.args.part ≡ variant.OperandPart space (kept.Str c.in-Str.field-0 c.in-Str.at) = c.in-OperandPart.is ∙ ap (variant.OperandPart space) c.in-Str.is in
    let here : ((b : List Token) → map (part_at b) new.parts.items ≡ map (part_at b) old.parts.items ++ OperandPart space (Str i c.in-Str.at) ∷ [])
    → map (part_at body) new.parts.items ≡ map (part_at body) old.parts.items ++ parts_for (part_at body c.args.part) i (chains_at body c.args.content.items) =
    λ is. is body ∙ ap (λ p. map (part_at body) old.parts.items ++ parts_for (part_at body p) i (chains_at body c.args.content.items)) (sym part) in
    on_ok_weaker _ here c.put_literal.ensures.parts
