use Rattle.std.proofs.Common.{◌≡◌, ◌∙◌, sym, ap, subst, [], ◌∷◌, ◌++◌, drop, length, arith, Ok}
use Rattle.ppmacro.specs.HideSets.{hiding, hidings, AllKnown}
use Rattle.ppmacro.specs.Substitution.{join, pasted}
use Rattle.ppmacro.specs.code.Replacing.{EndsWithSpelledKind}
use Rattle.std.proofs.lemmas.Bool.{eqb-true}
use Rattle.std.proofs.lemmas.List.{take_rest}
use Rattle.ppmacro.proofs.JoinLemmas.{split-first, no-first, join-nothing, join-pasted, join-refused, known-joined, known-last}
use Rattle.pptext.proofs.ErrorReturns.{stops}
use Rattle.ppmacro.proofs.SpelledKindLemmas.{ends-has_spelled_kind}
use Rattle.ppmacro.proofs.substituting.joining.join.Goals as goal

pub returns-in-None-clause-is : goal.returns-in-None-clause-is
returns-in-None-clause-is c =
    let none : c.args.right.now ≡ [] = no-first c.args.right.now c.in-None.ensures.value in
    join-nothing (hidings c.args.sets.now c.args.left.now.items) c.args.used
    ∙ ap (λ hs. join (hidings c.args.sets.now c.args.left.now.items) (hidings c.args.sets.now hs) c.args.used) (sym none)

pub paste_onto-requires-clause-last : goal.paste_onto-requires-clause-last
paste_onto-requires-clause-last c =
    known-last c.args.sets.now c.pop.new.self.items c.in-Some-pop.last (subst (AllKnown c.args.sets.now) c.in-Some-pop.ensures.items c.requires.left)

pub returns-clause-is : goal.returns-clause-is
returns-clause-is c =
    let s = c.args.sets.now in
    let t = c.paste_onto.new.sets in
    let first = c.in-Some.first.now in
    let rest = drop 1 c.args.right.now in
    let left : c.args.left.now.items ≡ c.pop.new.self.items ++ c.in-Some-pop.last ∷ [] = c.in-Some-pop.ensures.items in
    let right : c.args.right.now ≡ first ∷ rest = split-first c.args.right.now first c.in-Some.ensures.value in
    let one : Ok (hiding t c.in_ok-hidden.hidden) ≡ pasted (hiding s c.in-Some-pop.last) (hiding s first) c.args.used = c.in_ok-hidden.ensures.is in
    ap (λ hs. Ok (hidings t hs)) (c.in_ok-push_joined.ensures ∙ ap (λ hs. c.pop.new.self.items ++ c.in_ok-hidden.hidden ∷ hs) (take_rest c.args.right.now 1))
    ∙ join-pasted s t c.pop.new.self.items c.in-Some-pop.last first c.in_ok-hidden.hidden rest c.args.used c.in_ok-hidden.ensures.keeps (subst (AllKnown s) left c.requires.left) (subst (AllKnown s) right c.requires.right) one
    ∙ (λ i. join (hidings s (sym left i)) (hidings s (sym right i)) c.args.used)

pub returns-clause-known : goal.returns-clause-known
returns-clause-known c =
    let s = c.args.sets.now in
    let t = c.paste_onto.new.sets in
    let first = c.in-Some.first.now in
    let rest = drop 1 c.args.right.now in
    let left : c.args.left.now.items ≡ c.pop.new.self.items ++ c.in-Some-pop.last ∷ [] = c.in-Some-pop.ensures.items in
    let right : c.args.right.now ≡ first ∷ rest = split-first c.args.right.now first c.in-Some.ensures.value in
    let made : c.push_joined.new.tokens.items ≡ c.pop.new.self.items ++ c.in_ok-hidden.hidden ∷ rest = c.in_ok-push_joined.ensures ∙ ap (λ hs. c.pop.new.self.items ++ c.in_ok-hidden.hidden ∷ hs) (take_rest c.args.right.now 1) in
    subst (AllKnown t) (sym made)
    (known-joined s t c.pop.new.self.items c.in-Some-pop.last first c.in_ok-hidden.hidden rest c.in_ok-hidden.ensures.keeps
    (subst (AllKnown s) left c.requires.left) (subst (AllKnown s) right c.requires.right) c.in_ok-hidden.ensures.known)

pub returns-in_err-hidden-clause-is : goal.returns-in_err-hidden-clause-is
returns-in_err-hidden-clause-is c =
    let s = c.args.sets.now in
    let first = c.in-Some.first.now in
    let rest = drop 1 c.args.right.now in
    let left : c.args.left.now.items ≡ c.pop.new.self.items ++ c.in-Some-pop.last ∷ [] = c.in-Some-pop.ensures.items in
    let right : c.args.right.now ≡ first ∷ rest = split-first c.args.right.now first c.in-Some.ensures.value in
    stops _ _ _ _ _ _ c.from_residual-in_err-hidden.ensures.1 c.in_err-hidden.ensures.is (λ fault none.
    join-refused s c.pop.new.self.items c.in-Some-pop.last first rest c.args.used fault none
    ∙ (λ i. join (hidings s (sym left i)) (hidings s (sym right i)) c.args.used))

pub returns-clause-has_spelled_kind : goal.returns-clause-has_spelled_kind
returns-clause-has_spelled_kind c = λ one.
    let made : c.push_joined.new.tokens.items ≡ c.pop.new.self.items ++ c.in_ok-hidden.hidden ∷ drop 1 c.args.right.now =
    c.in_ok-push_joined.ensures ∙ ap (λ hs. c.pop.new.self.items ++ c.in_ok-hidden.hidden ∷ hs) (take_rest c.args.right.now 1) in
    let rest = drop 1 c.args.right.now in
    let right : c.args.right.now ≡ c.in-Some.first.now ∷ rest = split-first c.args.right.now c.in-Some.first.now c.in-Some.ensures.value in
    let size : length c.args.right.now ≡ 1 = eqb-true (length c.args.right.now) 1 one in
    let alone : length rest ≡ 0 = (let more = ap length right in omega arith) in
    subst EndsWithSpelledKind (sym made) (ends-has_spelled_kind c.pop.new.self.items c.in_ok-hidden.hidden rest alone c.in_ok-hidden.ensures.has_spelled_kind)
