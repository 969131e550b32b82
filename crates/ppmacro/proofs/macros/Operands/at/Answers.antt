use Rattle.std.proofs.Common.{◌∙◌, ◌<◌, length, get_or, sym, ap, subst, arith}
use Rattle.std.proofs.lemmas.List.{length-map, get_or-map}
use Rattle.ppmacro.specs.code.KeptOperands.{operand_at}
use Rattle.ppmacro.proofs.macros.Operands.at.Goals as goal

pub bounds-kept-index : goal.bounds-kept-index
bounds-kept-index c = subst (λ n. c.args.index < n) (ap length (sym c.self.view_is) ∙ length-map c.self.inside.kept.now (operand_at c.self.inside.body.now)) c.requires

pub offset_bounds-kept-index : goal.offset_bounds-kept-index
offset_bounds-kept-index c =
    let below = subst (λ n. c.args.index < n) (ap length (sym c.self.view_is) ∙ length-map c.self.inside.kept.now (operand_at c.self.inside.body.now)) c.requires in
    omega (arith, below, c.self.told)

pub returns : goal.returns
returns c = λ e.
    let i = c.args.index in
    let body = c.self.inside.body.now in
    let kept = c.self.inside.kept.now in
    let below = subst (λ n. i < n) (ap length (sym c.self.view_is) ∙ length-map kept (operand_at body)) c.requires in
    c.operand_at.ensures
    ∙ sym (get_or-map (operand_at body) kept i _ e below)
    ∙ ap (λ xs. get_or xs i e) c.self.view_is
