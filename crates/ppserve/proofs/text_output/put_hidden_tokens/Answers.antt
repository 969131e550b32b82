use Rattle.std.proofs.Common.{◌≡◌, ◌+◌, [], ◌∷◌, ◌++◌, map, take, refl, sym, ap, ◌∙◌}
use Rattle.std.proofs.lemmas.List.{map-append, take_all, take_more}
use Rattle.ppmacro.specs.Substituting.{tokens_of}
use Rattle.ppmacro.specs.declared.hidden_token.Hidden.{Hidden}
use Rattle.ppunit.specs.declared.units.Item.TheVariants as item
use Rattle.ppserve.proofs.TextItems.{items_as, items_none, items_then}
use Rattle.ppserve.proofs.text_output.put_hidden_tokens.Goals as goal

pub loop-token-init : goal.loop-token-init
loop-token-init g c = record { held = c.requires; items = items_none }

pub loop-token-preserved : goal.loop-token-preserved
loop-token-preserved g c =
    let x = c.token-item.result in
    let xs = c.args.tokens.now in
    let i = c.loop-token.token-index in
    let more : take (i + 1) xs ≡ take i xs ++ x ∷ [] = take_more xs i x c.loop-token-test.true ∙ ap (λ y. take i xs ++ y ∷ []) (sym c.token-item.is) in
    let tokens = sym (map-append (λ (h : Hidden). h.token) (take i xs) (x ∷ [])) ∙ ap tokens_of (sym more) in
    let items = ap (λ t. map item.Token (tokens_of (take i xs)) ++ item.Token t ∷ []) c.of_hidden.ensures ∙ sym (map-append item.Token (tokens_of (take i xs)) (x.token ∷ [])) ∙ ap (map item.Token) tokens in
    record { held = c.put_token.ensures.held; items = items_as refl refl items (items_then c.loop-token.invariant.items c.put_token.ensures.items) }

pub returns : goal.returns
returns g c = record {
  held = c.loop-token.invariant.held;
  items = items_as refl refl (ap (λ z. map item.Token (tokens_of z)) (take_all c.loop-token.token-index c.args.tokens.now c.loop-token-test.false)) c.loop-token.invariant.items;
}
