-- Each token has a spelling of its kind or of a header name. Each line has the directive that its tokens determine.
use Rattle.std.proofs.Common.{◌≡◌, ℕ, Bool, true, false, ◌||◌, nat_eq, List, [], ◌∷◌, ◌++◌, length, take, ◌⊎◌, inl, inr, refl, sym, ap, ◌∙◌, subst, codes}
use Rattle.std.specs.List.{AllByRecursion}
use Rattle.std.proofs.lemmas.Bool.{false≢true}
use Rattle.std.proofs.lemmas.List.{length-map, map-append, take_at}
use Rattle.pptext.specs.declared.tokens.Kind.{Kind}
use Rattle.pptext.specs.declared.tokens.Kind.TheVariants.{Ident}
use Rattle.pptext.specs.declared.tokens.Token.{Token}
use Rattle.pptext.specs.declared.sources.Profile.{Profile}
use Rattle.pptext.specs.declared.characters.Char.{Char}
use Rattle.pptext.specs.Clean.{codes_of}
use Rattle.pptext.specs.Languages.{Either, One}
use Rattle.pptext.specs.Spellings.{is_digit, is_nondigit, IsNondigit, IsHeader, Spells}
use Rattle.pptext.specs.Lexemes.{LexemeKind, NewLine, Blank, Comment, Spelled, Lexeme, IsLexemeAt, AreLexemes, with_lexeme, characters_of}
use Rattle.pptext.specs.Lines.{LogicalLine, leaves_space, tokens_after, lines_ended, lines_after, IsDirected}
use Rattle.pptext.specs.Sources.{IsSource}
use Rattle.pptext.proofs.KindUniqueness.{begins, one_kind}

abbrev pub IsSpelled : Token → Type 0
IsSpelled t = Spells t.kind t.text ⊎ IsHeader t.text

abbrev pub AreSpelled : List Token → Type 0
AreSpelled ts = AllByRecursion IsSpelled ts

-- the tokens have such spellings, and the directive is the one that they determine
abbrev pub IsSpelledLine : Profile → LogicalLine → Type 0
IsSpelledLine profile r = AreSpelled r.tokens × IsDirected profile r

pub both : {A : Type 0} (P : A → Type 0) (xs ys : List A) → AllByRecursion P xs → AllByRecursion P ys → AllByRecursion P (xs ++ ys)
both P [] ys a b = b
both P (x ∷ xs) ys a b = (a.0, both P xs ys a.1 b)

-- ---- from the lexemes of the text

piece_spelled : (profile : Profile) (line : List (List ℕ)) (chars rest : List Char) (k : Kind) → IsLexemeAt profile line (codes_of (chars ++ rest)) (length chars) (Spelled k) → Spells k (codes_of chars) ⊎ IsHeader (codes_of chars)
piece_spelled profile line chars rest k here = cases here
  where
    front : take (length chars) (codes_of (chars ++ rest)) ≡ codes_of chars
    front = ap (take (length chars)) (map-append (λ (c : Char). c.code) chars rest) ∙ take_at (codes_of chars) (codes_of rest) (length chars) (length-map chars (λ (c : Char). c.code))

    cases : IsLexemeAt profile line (codes_of (chars ++ rest)) (length chars) (Spelled k) → Spells k (codes_of chars) ⊎ IsHeader (codes_of chars)
    cases (inl h) = inr (subst IsHeader front h.0.spelled)
    cases (inr p) = inl (subst (Spells k) front p.spelled)

ended_spelled : (profile : Profile) (tokens : List Token) (chars : List Char) (kind : LexemeKind)
    → AreSpelled tokens
    → AllByRecursion (IsSpelledLine profile) (lines_ended profile tokens chars kind)
ended_spelled profile tokens chars NewLine all = ((all, refl), tt)
ended_spelled profile tokens chars Blank all = tt
ended_spelled profile tokens chars Comment all = tt
ended_spelled profile tokens chars (Spelled k) all = tt

after_spelled : (profile : Profile) (line : List (List ℕ)) (space : Bool) (tokens : List Token) (chars rest : List Char) (kind : LexemeKind)
    → AreSpelled tokens
    → IsLexemeAt profile line (codes_of (chars ++ rest)) (length chars) kind
    → AreSpelled (tokens_after space tokens chars kind)
after_spelled profile line space tokens chars rest NewLine all here = tt
after_spelled profile line space tokens chars rest Blank all here = all
after_spelled profile line space tokens chars rest Comment all here = all
after_spelled profile line space tokens chars rest (Spelled k) all here = both IsSpelled tokens _ all (piece_spelled profile line chars rest k here, tt)

lines_spelled : (profile : Profile) (line : List (List ℕ)) (space : Bool) (tokens : List Token) (ps : List Lexeme) (rest : List Char)
    → AreSpelled tokens
    → AreLexemes profile line ps rest
    → AllByRecursion (IsSpelledLine profile) (lines_after profile space tokens ps)
lines_spelled profile line space tokens [] rest all each = tt
lines_spelled profile line space tokens (p ∷ ps) rest all each =
    let remaining_after = tokens_after space tokens p.chars p.kind in
    both (IsSpelledLine profile) (lines_ended profile tokens p.chars p.kind) (lines_after profile (leaves_space p.kind) remaining_after ps)
    (ended_spelled profile tokens p.chars p.kind all)
    (lines_spelled profile (with_lexeme line p p.kind) (leaves_space p.kind) remaining_after ps rest
    (after_spelled profile line space tokens p.chars (characters_of ps ++ rest) p.kind all each.0) each.1)

pub source_spelled : (profile : Profile) (file : ℕ) (bytes : List ℕ) (lines : List LogicalLine)
    → IsSource profile file bytes lines
    → AllByRecursion (IsSpelledLine profile) lines
source_spelled profile file bytes lines is =
    subst (AllByRecursion (IsSpelledLine profile)) (sym is.lines_are) (lines_spelled profile [] true [] is.lexemes [] tt is.tokenized.each)

-- ---- the kind of a spelling

abbrev pub opens_header : ℕ → Bool
opens_header c = nat_eq c 60 || nat_eq c 34

header_opens : (s : List ℕ) → IsHeader s → begins opens_header s ≡ true
header_opens s (inl (a, b, e, p, q)) = subst (λ z. begins opens_header z ≡ true) (sym (e ∙ ap (λ z. z ++ b) p)) refl
header_opens s (inr (a, b, e, p, q)) = subst (λ z. begins opens_header z ≡ true) (sym (e ∙ ap (λ z. z ++ b) p)) refl

pub kind_is : (t : Token) (text : List ℕ) (k : Kind) → begins opens_header text ≡ false → Spells k text → t.text ≡ text → IsSpelled t → t.kind ≡ k
kind_is t text k apart known e (inl here) = one_kind text t.kind k (subst (Spells t.kind) e here) known
kind_is t text k apart known e (inr header) = absurd (false≢true (sym apart ∙ header_opens text (subst IsHeader e header)))

letter : (c : ℕ) → is_nondigit c ≡ true → Either IsNondigit (One is_digit) (c ∷ [])
letter c e = inl (inl (c, refl, e))

pub defined_spelled : Spells Ident (codes "defined")
defined_spelled = (
  100 ∷ [],
  codes "efined",
  refl,
  inl (100, refl, refl),
  (
    (101 ∷ []) ∷ (102 ∷ []) ∷ (105 ∷ []) ∷ (110 ∷ []) ∷ (101 ∷ []) ∷ (100 ∷ []) ∷ [],
    (letter 101 refl, (letter 102 refl, (letter 105 refl, (letter 110 refl, (letter 101 refl, (letter 100 refl, tt)))))),
    refl,
  ),
)
