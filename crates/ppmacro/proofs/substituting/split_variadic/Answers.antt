use Rattle.std.proofs.Common.{◌≡◌, ◌∙◌, ◌≤◌, sym, ap, subst, refl, [], ◌∷◌, ◌++◌, take, length, suc, arith}
use Rattle.std.proofs.lemmas.List.{take_all}
use Rattle.ppmacro.specs.Substitution.{before_variadic, variadic_of}
use Rattle.ppmacro.specs.declared.macros.Operand.TheVariants.{Tok, Param, Str, VariadicAfterComma}
use Rattle.ppmacro.proofs.JoinedOperands.{last-behind}
use Rattle.ppmacro.proofs.VariadicOperands.{before-rest, rest-last, Stays, stays}
use Rattle.ppmacro.proofs.substituting.split_variadic.Goals as goal

pub returns-in-VariadicAfterComma-clause-front : goal.returns-in-VariadicAfterComma-clause-front
returns-in-VariadicAfterComma-clause-front c =
    let os = c.args.operands.now in
    let n = c.in-Some.last in
    let size : length os ≡ suc n = omega (arith, c.in-Some.ensures.0, c.in-Some.ensures.1, c.len-count.ensures) in
    let ends : os ≡ take n os ++ VariadicAfterComma c.in-VariadicAfterComma.index ∷ [] =
    last-behind os n c.at.result size (c.at.ensures c.at.result) ∙ ap (λ o. take n os ++ o ∷ []) c.in-VariadicAfterComma.is in
    sym (ap before_variadic ends ∙ before-rest (take n os) c.in-VariadicAfterComma.index)

pub returns-in-VariadicAfterComma-clause-variadic : goal.returns-in-VariadicAfterComma-clause-variadic
returns-in-VariadicAfterComma-clause-variadic c =
    let os = c.args.operands.now in
    let n = c.in-Some.last in
    let size : length os ≡ suc n = omega (arith, c.in-Some.ensures.0, c.in-Some.ensures.1, c.len-count.ensures) in
    let ends : os ≡ take n os ++ VariadicAfterComma c.in-VariadicAfterComma.index ∷ [] =
    last-behind os n c.at.result size (c.at.ensures c.at.result) ∙ ap (λ o. take n os ++ o ∷ []) c.in-VariadicAfterComma.is in
    sym (ap variadic_of ends ∙ rest-last (take n os) c.in-VariadicAfterComma.index)

pub returns-in_default-at : goal.returns-in_default-at
returns-in_default-at c =
    let os = c.args.operands.now in
    let n = c.in-Some.last in
    let last = c.at.result in
    let size : length os ≡ suc n = omega (arith, c.in-Some.ensures.0, c.in-Some.ensures.1, c.len-count.ensures) in
    let whole : length os ≤ c.len-count.result = omega (arith, c.len-count.ensures) in
    let alone : Stays (last ∷ []) = elim last as (λ o. last ≡ o → Stays (o ∷ [])) [
      | Tok t ↦ λ _. (refl, refl)
      | Param i ↦ λ _. (refl, refl)
      | Str i at ↦ λ _. (refl, refl)
      | VariadicAfterComma i ↦ λ e. absurd (c.in_default-at.not-VariadicAfterComma i e)
    ] refl in
    let all : Stays os = subst Stays (sym (last-behind os n last size (c.at.ensures last))) (stays (take n os) last alone) in
    record { front = take_all c.len-count.result os whole ∙ sym all.0; count = omega (arith, c.len-count.ensures); variadic = sym all.1 }
