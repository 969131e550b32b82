-- Tokens whose kind is the kind of their spelling, as after `##`.
use Rattle.std.proofs.Common.{◌≡◌, ℕ, List, [], ◌∷◌, ◌++◌, Option, Some, None, Result, Ok, Err, IfOk, refl, sym, ap, ◌∙◌, subst, length, drop, length-append, arith}
use Rattle.std.proofs.lemmas.List.{drop_at}
use Rattle.std.specs.FinSet as set
use Rattle.pptext.specs.declared.tokens.Kind.{Kind}
use Rattle.pptext.specs.declared.tokens.Place.{Place}
use Rattle.pptext.specs.declared.tokens.Fault.{Fault}
use Rattle.pptext.specs.Continuations.{ContinuesToken}
use Rattle.pptext.specs.KindTests.{Lexes}
use Rattle.pptext.proofs.TextKinds.{one_lexing}
use Rattle.pptext.proofs.TokenContinuation.{continued_token}
use Rattle.ppmacro.specs.HideSetPool.{HideSetPool}
use Rattle.ppmacro.specs.Hiding.{Hiding}
use Rattle.ppmacro.specs.HideSets.{set_at, hide_of, hiding}
use Rattle.ppmacro.specs.HiddenView.{extended}
use Rattle.ppmacro.specs.Lexing.{kind_of}
use Rattle.ppmacro.specs.Substitution.{pasted, pasted_as}
use Rattle.ppmacro.specs.code.Replacing.{HasSpelledKind, EndsWithSpelledKind}
use Rattle.pptext.specs.Errors.{Returns}
use Rattle.ppmacro.specs.declared.hidden_token.Hidden.{Hidden}
use Rattle.pptext.specs.declared.error.Error.{Error}
use Rattle.ppmacro.proofs.LexerLemmas.{kind_of_is}

ok-same : {x y : Hiding} → ◌≡◌ {A = Result Hiding Fault} (Ok x) (Ok y) → x ≡ y
ok-same e = cc e

carried_kind : (text more : List ℕ) (k : Kind) → kind_of text ≡ Some k → ContinuesToken k text more → kind_of (text ++ more) ≡ Some k
carried_kind text more k e rest =
    let one : Lexes text (Some k) = subst (Lexes text) e (kind_of_is.each text) in
    one_lexing (text ++ more) (kind_of (text ++ more)) (Some k) (kind_of_is.each (text ++ more)) (continued_token text more k one.0 rest)

-- If a text continues a token, appending it is the paste, and the token keeps its kind.
module _ (last first grown turned : Hidden) (n : ℕ) (used : Place) (has_spelled_kind : HasSpelledKind last)
    (rest : ContinuesToken last.token.kind last.token.text first.token.text) (is_grown : grown ≡ extended last first.token.text)
    (is_turned : turned ≡ record { token = record grown.token { used = used }; hide = n; extra = None }) where
  still-has_spelled_kind : kind_of (last.token.text ++ first.token.text) ≡ Some last.token.kind
  still-has_spelled_kind = carried_kind last.token.text first.token.text last.token.kind has_spelled_kind rest

  pub carried-has_spelled_kind : HasSpelledKind turned
  carried-has_spelled_kind =
      subst HasSpelledKind (sym is_turned) (subst (λ h. kind_of h.token.text ≡ Some h.token.kind) (sym is_grown) still-has_spelled_kind)

  pub carried-pasted : (s t : HideSetPool) → set_at t n ≡ set.intersection (hide_of s grown) (hide_of s first) → Ok (hiding t turned) ≡ pasted (hiding s last) (hiding s first) used
  carried-pasted s t met =
      ap (λ h. Ok (hiding t h)) is_turned
      ∙ ap (λ names. Ok (record { token = record grown.token { used = used }; hide = names })) met
      ∙ ap (λ h. Ok (record { token = record h.token { used = used }; hide = set.intersection (hide_of s h) (hide_of s first) })) is_grown
      ∙ ap (λ k. pasted_as k (hiding s last) (hiding s first) used) (sym still-has_spelled_kind)

-- The result of `##` has the kind of its spelling.
pasted-has_spelled_kind : (k : Option Kind) (l r h : Hiding) (used : Place) → k ≡ kind_of (l.token.text ++ r.token.text) → Ok h ≡ pasted_as k l r used → kind_of h.token.text ≡ Some h.token.kind
pasted-has_spelled_kind None l r h used is e = absurd (cc e)
pasted-has_spelled_kind (Some k) l r h used is e = subst (λ t. kind_of t.token.text ≡ Some t.token.kind) (sym (ok-same e)) (sym is)

pub paste-has_spelled_kind : (s t : HideSetPool) (l r : Hidden) (used : Place) (m : Result Hidden Error) → Returns m (hiding t) (pasted (hiding s l) (hiding s r) used) → IfOk m HasSpelledKind
paste-has_spelled_kind s t l r used (Ok h) e = pasted-has_spelled_kind _ (hiding s l) (hiding s r) (hiding t h) used refl e
paste-has_spelled_kind s t l r used (Err m) e = tt

-- ---- the last token of a list

last-same : (xs ys : List Hidden) (x y : Hidden) → xs ++ x ∷ [] ≡ ys ++ y ∷ [] → x ≡ y
last-same xs ys x y e =
    let lx = length-append xs (x ∷ []) in
    let ly = length-append ys (y ∷ []) in
    let same : length xs ≡ length ys = (let h = ap length e in omega arith) in
    let last : x ∷ [] ≡ y ∷ [] = sym (drop_at xs (x ∷ []) (length ys) same) ∙ ap (drop (length ys)) e ∙ drop_at ys (y ∷ []) (length ys) refl in
    cc

pub ends-has_spelled_kind : (ls : List Hidden) (h : Hidden) (rest : List Hidden) → length rest ≡ 0 → HasSpelledKind h → EndsWithSpelledKind (ls ++ h ∷ rest)
ends-has_spelled_kind ls h [] e has_spelled_kind = λ front last is. subst HasSpelledKind (last-same ls front h last is) has_spelled_kind
ends-has_spelled_kind ls h (r ∷ rest) e has_spelled_kind = absurd (omega arith)
