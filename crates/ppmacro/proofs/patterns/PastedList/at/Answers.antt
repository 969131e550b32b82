use Rattle.std.proofs.Common.{◌∙◌, ◌<◌, length, get_or, sym, ap, subst, arith}
use Rattle.std.proofs.lemmas.List.{length-map, get_or-map}
use Rattle.ppmacro.specs.code.KeptOperands.{operands_at}
use Rattle.ppmacro.specs.code.KeptChains.{chain_at}
use Rattle.ppmacro.proofs.patterns.PastedList.at.Goals as goal

pub bounds-chains-index : goal.bounds-chains-index
bounds-chains-index c = subst (λ n. c.args.index < n) (ap length (sym c.self.view_is) ∙ length-map c.self.inside.chains.now (chain_at c.self.inside.body.now)) c.requires

pub offset_bounds-chains-index : goal.offset_bounds-chains-index
offset_bounds-chains-index c =
    let below = subst (λ n. c.args.index < n) (ap length (sym c.self.view_is) ∙ length-map c.self.inside.chains.now (chain_at c.self.inside.body.now)) c.requires in
    omega (arith, below, c.self.told)

pub returns : goal.returns
returns c = λ e.
    let i = c.args.index in
    let body = c.self.inside.body.now in
    let kept = c.self.inside.chains.now in
    let here = c.index-chains-index.result in
    let below = subst (λ n. i < n) (ap length (sym c.self.view_is) ∙ length-map kept (chain_at body)) c.requires in
    ap (λ os. record { space = here.space; operands = os }) (c.new.ensures ∙ ap (operands_at body) c.as_slice.ensures.value)
    ∙ ap (chain_at body) c.index-chains-index.is
    ∙ sym (get_or-map (chain_at body) kept i here e below)
    ∙ ap (λ xs. get_or xs i e) c.self.view_is
