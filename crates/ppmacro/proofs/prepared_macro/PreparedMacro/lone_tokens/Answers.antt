use Rattle.std.proofs.Common.{◌≡◌, ◌∙◌, ◌&&◌, not, true, None, map, ap, sym}
use Rattle.std.specs.List.{list_any}
use Rattle.std.proofs.lemmas.Bool.{and_parts}
use Rattle.ppmacro.specs.HashOperators.{is_paste}
use Rattle.ppmacro.specs.PasteFree.{is_object_like}
use Rattle.ppmacro.specs.Chains.{chains_of, parts_after, group_parts, lenient_parameter, with_variadic}
use Rattle.ppmacro.proofs.ObjectLikeChains.{lone_chains, object_like}
use Rattle.ppmacro.proofs.PlainLists.{not-true}
use Rattle.ppmacro.proofs.prepared_macro.PreparedMacro.lone_tokens.Goals as goal

pub returns-then-get-clause-chains : goal.returns-then-get-clause-chains
returns-then-get-clause-chains c =
    let kind = c.self.inside.definition.kind in
    let body = c.self.inside.body.now in
    let both : (is_object_like kind && not (list_any is_paste body)) ≡ true = sym c.self.invariant.lone ∙ sym (ap (λ d. d.lone) c.get.ensures) ∙ c.if-get.true in
    let parts = and_parts (is_object_like kind) (not (list_any is_paste body)) both in
    ap chains_of (sym c.self.view_is)
    ∙ (λ i. map (with_variadic (lenient_parameter (object_like kind parts.0 i))) (group_parts (parts_after (object_like kind parts.0 i) None body)))
    ∙ lone_chains body (not-true (list_any is_paste body) parts.1)
