use Rattle.std.proofs.Common.{rules, ◌≡◌, ◌∙◌, ◌++◌, ◌∷◌, [], sym, ap, map, append_assoc}
use Rattle.std.proofs.lemmas.List.{map-append}
use Rattle.pptext.specs.declared.tokens.Token.{Token}
use Rattle.ppmacro.specs.declared.hidden_token.Hidden.{Hidden}
use Rattle.ppexpand.specs.code.Lists.{placed}
use Rattle.ppexpand.proofs.lone_steps.push_replacement.Goals as goal

pub loop-last-preserved : goal.loop-last-preserved
loop-last-preserved c =
    let f : Token → Hidden = placed c.args.names_to_hide c.args.used in
    let last = c.in-Some.last.now in
    let others = c.in-Some.others.now in
    let list = c.loop-last.list in
    let parts : c.loop-last.rest.now ≡ others ++ last ∷ [] = search rules in
    let pushed : c.push.new.self ≡ f last ∷ list = c.in_ok-push.ensures ∙ ap (λ h. h ∷ list) c.replacement_token.ensures in
    let joined : map f c.loop-last.rest.now ≡ map f others ++ f last ∷ [] = ap (map f) parts ∙ map-append f others (last ∷ []) in
    ap (λ hs. map f others ++ hs) pushed ∙ sym (append_assoc (map f others) (f last ∷ []) list) ∙ ap (λ hs. hs ++ list) (sym joined) ∙ c.loop-last.invariant
