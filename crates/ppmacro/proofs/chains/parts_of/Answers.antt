use Rattle.std.proofs.Common.{◌≡◌, ◌∙◌, ◌+◌, ◌++◌, ◌∷◌, map, drop, sym, ap, subst, Option, Some, None, get_or, slice_get, length, refl}
use Rattle.std.proofs.lemmas.Option.{slice_get_past, slice_get_read}
use Rattle.std.specs.Option.{option_map}
use Rattle.ppmacro.specs.declared.chains.ChainPart as code
use Rattle.ppmacro.specs.Chains.{parts_after}
use Rattle.ppmacro.specs.code.ChainParts.{with_first_part}
use Rattle.ppmacro.specs.code.KeptChains.{part_at}
use Rattle.ppmacro.specs.code.VaOptLists.{tokens_at}
use Rattle.ppmacro.proofs.VaOptParts.{next-token, no-token, part-pushed}
use Rattle.ppmacro.proofs.chains.parts_of.Goals as goal

pub loop-index-preserved-in_default : goal.loop-index-preserved-in_default
loop-index-preserved-in_default c =
    let body = c.args.body.now in
    let is = c.args.indices.now in
    let k = c.loop-index.index-index in
    let none : slice_get body (get_or is k 0) ≡ None = slice_get_past body (get_or is k 0) c.in_default.ensures.lookup.3 in
    ap (λ ts. map (part_at body) c.loop-index.parts.items ++ parts_after c.args.kind.now.kind c.loop-index.hash ts) (no-token body is k c.loop-index-test.true none)
    ∙ c.loop-index.invariant

pub loop-index-preserved-in_default-next_part : goal.loop-index-preserved-in_default-next_part
loop-index-preserved-in_default-next_part c =
    let body = c.args.body.now in
    let kind = c.args.kind.now.kind in
    let is = c.args.indices.now in
    let k = c.loop-index.index-index in
    let token = c.in-Some.token.now in
    let rest = tokens_at body (drop (k + 1) is) in
    let parts = map (part_at body) c.loop-index.parts.items in
    let here : slice_get body (get_or is k 0) ≡ Some token =
    slice_get_read body (length body) (get_or is k 0) token refl c.in-Some.ensures.lookup.3.0 c.in-Some.ensures.lookup.1 in
    let P : Option code.ChainPart → Type 0 = λ r. parts_after kind c.loop-index.hash (token ∷ rest) ≡ with_first_part kind token (option_map (part_at body) r) rest in
    ap (λ ps. parts ++ ps) (sym (subst P c.in_default-next_part.is (c.next_part.ensures body rest here)))
    ∙ ap (λ ts. parts ++ parts_after kind c.loop-index.hash ts) (next-token body is k token c.loop-index-test.true here)
    ∙ c.loop-index.invariant

pub loop-index-preserved : goal.loop-index-preserved
loop-index-preserved c =
    let body = c.args.body.now in
    let kind = c.args.kind.now.kind in
    let is = c.args.indices.now in
    let k = c.loop-index.index-index in
    let token = c.in-Some.token.now in
    let rest = tokens_at body (drop (k + 1) is) in
    let here : slice_get body (get_or is k 0) ≡ Some token =
    slice_get_read body (length body) (get_or is k 0) token refl c.in-Some.ensures.lookup.3.0 c.in-Some.ensures.lookup.1 in
    let P : Option code.ChainPart → Type 0 = λ r. parts_after kind c.loop-index.hash (token ∷ rest) ≡ with_first_part kind token (option_map (part_at body) r) rest in
    part-pushed body kind c.loop-index.hash token rest c.loop-index.parts.items c.push.new.self.items c.in-Some-next_part.part c.in_ok-push.ensures.items
    (subst P c.in-Some-next_part.is (c.next_part.ensures body rest here))
    ∙ ap (λ ts. map (part_at body) c.loop-index.parts.items ++ parts_after kind c.loop-index.hash ts) (next-token body is k token c.loop-index-test.true here)
    ∙ c.loop-index.invariant
