-- The lexemes of lines, by their kinds and the codes of their characters.
use Rattle.std.proofs.Common.{◌≡◌, ℕ, ◌+◌, Bool, true, false, ◌==◌, List, [], ◌∷◌, ◌++◌, length, take, drop, flat_map, refl, sym, ap, ◌∙◌, subst, arith, append_assoc, append-nil, if◌then◌else◌}
use Rattle.std.proofs.lemmas.Grind.{flat_map-append}
use Rattle.std.proofs.lemmas.List.{take-append-le, take-append-drop, take_all, drop_at, length-map}
use Rattle.std.specs.List.{take-map, drop-map}
use Rattle.pptext.specs.declared.characters.Char.{Char}
use Rattle.pptext.specs.declared.sources.Profile.{Profile}
use Rattle.pptext.specs.Clean.{codes_of, with_locations, newline}
use Rattle.pptext.specs.Lexemes.{Lexeme, LexemeKind, NewLine, Blank, Comment, Spelled, characters_of, with_lexeme, IsLexemeAt, AreLexemes, Tokenizes}
use Rattle.ppprint.specs.Apart.{Written}
use Rattle.ppprint.specs.Reads.{token_of_lexeme, tokens_of_lexemes, HasTokens}

-- a lexeme's kind, and the codes of its characters
abbrev pub Cut : Type 0
Cut = LexemeKind × List ℕ

abbrev pub codes_of_cuts : List Cut → List ℕ
codes_of_cuts cuts = flat_map (λ p. p.1) cuts

-- the spellings on the line after a lexeme
abbrev pub line_after_cut : List (List ℕ) → LexemeKind → List ℕ → List (List ℕ)
line_after_cut line NewLine s = []
line_after_cut line Blank s = line
line_after_cut line Comment s = line
line_after_cut line (Spelled k) s = line ++ s ∷ []

abbrev pub line_after_cuts : List (List ℕ) → List Cut → List (List ℕ)
line_after_cuts line [] = line
line_after_cuts line (p ∷ ps) = line_after_cuts (line_after_cut line p.0 p.1) ps

-- each of these is a lexeme where it is
abbrev pub Lexes : Profile → List (List ℕ) → List Cut → List ℕ → Type 0
Lexes profile line [] rest = Unit {0}
Lexes profile line (p ∷ ps) rest = IsLexemeAt profile line (p.1 ++ (codes_of_cuts ps ++ rest)) (length p.1) p.0 × Lexes profile (line_after_cut line p.0 p.1) ps rest

pub lexes_then : (profile : Profile) (line : List (List ℕ)) (ps qs : List Cut) (rest : List ℕ)
    → Lexes profile line ps (codes_of_cuts qs ++ rest)
    → Lexes profile (line_after_cuts line ps) qs rest
    → Lexes profile line (ps ++ qs) rest
lexes_then profile line [] qs rest a b = b
lexes_then profile line (p ∷ ps) qs rest a b =
    let same : codes_of_cuts ps ++ (codes_of_cuts qs ++ rest) ≡ codes_of_cuts (ps ++ qs) ++ rest =
    sym (append_assoc (codes_of_cuts ps) (codes_of_cuts qs) rest) ∙ ap (λ z. z ++ rest) (sym (flat_map-append (λ (c : Cut). c.1) ps qs)) in
    (subst (λ z. IsLexemeAt profile line (p.1 ++ z) (length p.1) p.0) same a.0, lexes_then profile (line_after_cut line p.0 p.1) ps qs rest a.1 b)

-- ---- lexemes of characters

-- the characters, divided into lexemes
abbrev pub lexemes_from : List Cut → List Char → List Lexeme
lexemes_from [] chars = []
lexemes_from (p ∷ ps) chars = record { kind = p.0; chars = take (length p.1) chars } ∷ lexemes_from ps (drop (length p.1) chars)

front_codes : (s rest : List ℕ) (chars : List Char) → codes_of chars ≡ s ++ rest → codes_of (take (length s) chars) ≡ s
front_codes s rest chars e =
    sym (take-map (λ (c : Char). c.code) (length s) chars) ∙ (ap (take (length s)) e ∙ (take-append-le (length s) s rest (omega arith) ∙ take_all (length s) s (omega arith)))

back_codes : (s rest : List ℕ) (chars : List Char) → codes_of chars ≡ s ++ rest → codes_of (drop (length s) chars) ≡ rest
back_codes s rest chars e = sym (drop-map (λ (c : Char). c.code) (length s) chars) ∙ (ap (drop (length s)) e ∙ drop_at s rest (length s) refl)

no_chars : (chars : List Char) → codes_of chars ≡ [] → chars ≡ []
no_chars [] e = refl
no_chars (c ∷ cs) e = cc

pub whole_chars : (ps : List Cut) (chars : List Char) → codes_of chars ≡ codes_of_cuts ps → characters_of (lexemes_from ps chars) ≡ chars
whole_chars [] chars e = sym (no_chars chars e)
whole_chars (p ∷ ps) chars e =
    ap (λ z. take (length p.1) chars ++ z) (whole_chars ps (drop (length p.1) chars) (back_codes p.1 (codes_of_cuts ps) chars e)) ∙ take-append-drop (length p.1) chars

same_line : (line : List (List ℕ)) (p : Lexeme) (k : LexemeKind) → with_lexeme line p k ≡ line_after_cut line k (codes_of p.chars)
same_line line p NewLine = refl
same_line line p Blank = refl
same_line line p Comment = refl
same_line line p (Spelled k) = refl

pub each_lexeme : (profile : Profile) (line : List (List ℕ)) (ps : List Cut) (chars : List Char)
    → codes_of chars ≡ codes_of_cuts ps
    → Lexes profile line ps []
    → AreLexemes profile line (lexemes_from ps chars) []
each_lexeme profile line [] chars e a = tt
each_lexeme profile line (p ∷ ps) chars e a =
    let behind = back_codes p.1 (codes_of_cuts ps) chars e in
    let before = front_codes p.1 (codes_of_cuts ps) chars e in
    let later = drop (length p.1) chars in
    let first : Lexeme = record { kind = p.0; chars = take (length p.1) chars } in
    let whole : take (length p.1) chars ++ (characters_of (lexemes_from ps later) ++ []) ≡ chars =
    ap (λ z. take (length p.1) chars ++ z) (append-nil (characters_of (lexemes_from ps later)) ∙ whole_chars ps later behind) ∙ take-append-drop (length p.1) chars in
    let text : codes_of (take (length p.1) chars ++ (characters_of (lexemes_from ps later) ++ [])) ≡ p.1 ++ (codes_of_cuts ps ++ []) =
    ap codes_of whole ∙ (e ∙ ap (λ z. p.1 ++ z) (sym (append-nil (codes_of_cuts ps)))) in
    let long : length (take (length p.1) chars) ≡ length p.1 = sym (length-map (take (length p.1) chars) (λ (c : Char). c.code)) ∙ ap length before in
    let here : IsLexemeAt profile line (codes_of (take (length p.1) chars ++ (characters_of (lexemes_from ps later) ++ []))) (length (take (length p.1) chars)) p.0 =
    subst (λ n. IsLexemeAt profile line (codes_of (take (length p.1) chars ++ (characters_of (lexemes_from ps later) ++ []))) n p.0) (sym long)
    (subst (λ z. IsLexemeAt profile line z (length p.1) p.0) (sym text) a.0) in
    let same : with_lexeme line first p.0 ≡ line_after_cut line p.0 p.1 = same_line line first p.0 ∙ ap (line_after_cut line p.0) before in
    (here, subst (λ z. AreLexemes profile z (lexemes_from ps later) []) (sym same) (each_lexeme profile (line_after_cut line p.0 p.1) ps later behind a.1))

-- the tokens among cuts
abbrev pub token_of_cut : Cut → List Written
token_of_cut p = token_of_lexeme p.1 p.0

abbrev pub tokens_of_cuts : List Cut → List Written
tokens_of_cuts ps = flat_map token_of_cut ps

pub same_tokens : (ps : List Cut) (chars : List Char) → codes_of chars ≡ codes_of_cuts ps → tokens_of_lexemes (lexemes_from ps chars) ≡ tokens_of_cuts ps
same_tokens [] chars e = refl
same_tokens (p ∷ ps) chars e =
    let behind = back_codes p.1 (codes_of_cuts ps) chars e in
    let before = front_codes p.1 (codes_of_cuts ps) chars e in
    ap (λ z. token_of_lexeme z p.0 ++ tokens_of_lexemes (lexemes_from ps (drop (length p.1) chars))) before
    ∙ ap (λ z. token_of_lexeme p.1 p.0 ++ z) (same_tokens ps (drop (length p.1) chars) behind)

-- the characters of bytes have their codes
pub codes_located : (file line col : ℕ) (bs : List ℕ) → codes_of (with_locations file line col bs) ≡ bs
codes_located file line col [] = refl
codes_located file line col (b ∷ bs) = go (b == newline) (codes_located file (line + 1) 1 bs) (codes_located file line (col + 1) bs)
  where
    go : (x : Bool) → codes_of (with_locations file (line + 1) 1 bs) ≡ bs → codes_of (with_locations file line (col + 1) bs) ≡ bs
        → b ∷ codes_of (if x then with_locations file (line + 1) 1 bs else with_locations file line (col + 1) bs) ≡ b ∷ bs
    go true e f = ap (λ z. b ∷ z) e
    go false e f = ap (λ z. b ∷ z) f

-- Cuts that are lexemes tokenize the characters of their codes.
pub tokenized : (profile : Profile) (ps : List Cut) (chars : List Char) → codes_of chars ≡ codes_of_cuts ps → Lexes profile [] ps [] → Tokenizes profile chars (lexemes_from ps chars)
tokenized profile ps chars e a = record {
  whole = append-nil (characters_of (lexemes_from ps chars)) ∙ whole_chars ps chars e;
  each = each_lexeme profile [] ps chars e a;
}

pub has_tokens : (profile : Profile) (line : List ℕ) (ps : List Cut) → line ++ 10 ∷ [] ≡ codes_of_cuts ps → Lexes profile [] ps [] → HasTokens profile line (tokens_of_cuts ps)
has_tokens profile line ps e a =
    let chars = with_locations 0 1 1 (line ++ 10 ∷ []) in
    let same : codes_of chars ≡ codes_of_cuts ps = codes_located 0 1 1 (line ++ 10 ∷ []) ∙ e in
    record {
      lexemes = lexemes_from ps chars;
      tokenizes = tokenized profile ps chars same a;
      tokens_are = sym (same_tokens ps chars same);
    }
