use Rattle.std.proofs.Common.{◌≡◌, ◌∙◌, ◌+◌, sym, ap, subst, length, drop, ◌∷◌, None, Some, Option, ◌≤◌, arith, slice_get, refl}
use Rattle.std.proofs.lemmas.List.{at_drop_all}
use Rattle.std.proofs.lemmas.Option.{slice_get_read}
use Rattle.std.specs.Option.{option_map}
use Rattle.ppmacro.specs.declared.chains.ChainPart as code
use Rattle.ppmacro.specs.Chains.{parts_after}
use Rattle.ppmacro.specs.code.ChainParts.{with_first_part, append_parts}
use Rattle.ppmacro.specs.code.KeptChains.{chains_at, part_at}
use Rattle.ppmacro.proofs.ChainLemmas.{append_parts-end}
use Rattle.ppmacro.proofs.ChainReplacementLemmas.{drop-item}
use Rattle.ppmacro.proofs.chains.chains_in.Goals as goal

pub returns : goal.returns
returns c =
    let kind = c.args.kind.now.kind in
    let body = c.args.body.now in
    let chains = chains_at body c.loop-index.chains.items in
    let at_end : length body ≤ c.loop-index.index = omega (arith, c.loop-index-test.false) in
    sym (append_parts-end c.loop-index.joined chains)
    ∙ sym (at_drop_all (λ ts. append_parts c.loop-index.joined chains (parts_after kind c.loop-index.hash ts)) body c.loop-index.index at_end)
    ∙ c.loop-index.invariant

pub loop-index-preserved : goal.loop-index-preserved
loop-index-preserved c =
    let kind = c.args.kind.now.kind in
    let i = c.loop-index.index in
    let body = c.args.body.now in
    let token = c.index-body-index.result in
    let rest = drop (i + 1) body in
    let items = append_parts c.loop-index.joined (chains_at body c.loop-index.chains.items) in
    let here : slice_get body i ≡ Some token = slice_get_read body (length body) i token refl c.loop-index-test.true c.index-body-index.is in
    let P : Option code.ChainPart → Type 0 = λ r. parts_after kind c.loop-index.hash (token ∷ rest) ≡ with_first_part kind token (option_map (part_at body) r) rest in
    c.in_ok-joined.ensures body (parts_after kind None rest)
    ∙ ap items (sym (subst P c.in-Some.is (c.next_part.ensures body rest here)) ∙ ap (parts_after kind c.loop-index.hash) (sym (drop-item body i token c.loop-index-test.true c.index-body-index.is)))
    ∙ c.loop-index.invariant

pub loop-index-preserved-in_default : goal.loop-index-preserved-in_default
loop-index-preserved-in_default c =
    let kind = c.args.kind.now.kind in
    let i = c.loop-index.index in
    let body = c.args.body.now in
    let token = c.index-body-index.result in
    let rest = drop (i + 1) body in
    let items = append_parts c.loop-index.joined (chains_at body c.loop-index.chains.items) in
    let here : slice_get body i ≡ Some token = slice_get_read body (length body) i token refl c.loop-index-test.true c.index-body-index.is in
    let P : Option code.ChainPart → Type 0 = λ r. parts_after kind c.loop-index.hash (token ∷ rest) ≡ with_first_part kind token (option_map (part_at body) r) rest in
    ap items (sym (subst P c.in_default.is (c.next_part.ensures body rest here)) ∙ ap (parts_after kind c.loop-index.hash) (sym (drop-item body i token c.loop-index-test.true c.index-body-index.is)))
    ∙ c.loop-index.invariant
