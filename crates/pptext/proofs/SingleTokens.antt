-- A text that is one token, and the lexeme that the lexer finds there.
use Rattle.std.proofs.Common.{◌≡◌, ℕ, ◌+◌, ◌<◌, ◌≤◌, Bool, true, false, if◌then◌else◌, ◌==◌, List, [], ◌∷◌, ◌++◌, length, take}
use Rattle.std.proofs.Common.{Option, None, Some, refl, sym, ap, ◌∙◌, subst, inl, inr, ◌⊎◌, zero, suc, ◌≢◌, arith, get_or}
use Rattle.std.proofs.lemmas.List.{append-nil, length-map, take_at, take_all, map-append}
use Rattle.std.specs.Prelude.{Contains}
use Rattle.pptext.specs.declared.sources.Profile.{Profile}
use Rattle.pptext.specs.declared.sources.Profile.TheVariants.{C11}
use Rattle.pptext.specs.declared.tokens.Kind.{Kind}
use Rattle.pptext.specs.declared.tokens.Kind.TheVariants.{Header}
use Rattle.pptext.specs.declared.characters.Char.{Char}
use Rattle.pptext.specs.Clean.{codes_of, with_locations, newline}
use Rattle.pptext.specs.Spellings.{IsSpelling, Spells}
use Rattle.pptext.specs.Lexemes.{LexemeKind, NewLine, Blank, Comment, Spelled, IsLexemeAt, AreLexemes, Tokenizes, Lexeme, characters_of, with_lexeme, BeginsWith, OpensBlock, OpensLine}
use Rattle.pptext.specs.Sources.{IsOneToken}
use Rattle.pptext.specs.code.FoundLexemes.{FindsLexeme, AreBlanks}
use Rattle.pptext.proofs.TokenizationUniqueness.{one_piece, no_piece_open}
use Rattle.pptext.proofs.Locations.{placed_length}

codes_of-with_locations : (file line col : ℕ) (bytes : List ℕ) → codes_of (with_locations file line col bytes) ≡ bytes
codes_of-with_locations file line col [] = refl
codes_of-with_locations file line col (b ∷ bs) = ap (λ z. b ∷ z) (cases (b == newline) (codes_of-with_locations file (line + 1) 1 bs) (codes_of-with_locations file line (col + 1) bs))
  where
    cases : (x : Bool) → codes_of (with_locations file (line + 1) 1 bs) ≡ bs → codes_of (with_locations file line (col + 1) bs) ≡ bs → codes_of (if x then with_locations file (line + 1) 1 bs else with_locations file line (col + 1) bs) ≡ bs
    cases true e f = e
    cases false e f = f

module _ (text : List ℕ) where
  whole : codes_of (with_locations 0 1 1 text ++ ([] ++ [])) ≡ text
  whole = ap codes_of (append-nil (with_locations 0 1 1 text)) ∙ codes_of-with_locations 0 1 1 text

  pub one_token_stands : (k : Kind) → IsOneToken text k → IsLexemeAt C11 [] text (length text) (Spelled k)
  one_token_stands k tokenized =
      subst (λ z. IsLexemeAt C11 [] text z (Spelled k)) (placed_length 0 1 1 text) (subst (λ z. IsLexemeAt C11 [] z (length (with_locations 0 1 1 text)) (Spelled k)) whole tokenized.each.0)

  pub stands_one_token : (k : Kind) → IsLexemeAt C11 [] text (length text) (Spelled k) → IsOneToken text k
  stands_one_token k here = record {
    whole = append-nil (with_locations 0 1 1 text ++ []) ∙ append-nil (with_locations 0 1 1 text);
    each = (subst (λ z. IsLexemeAt C11 [] z (length (with_locations 0 1 1 text)) (Spelled k)) (sym whole) (subst (λ z. IsLexemeAt C11 [] text z (Spelled k)) (sym (placed_length 0 1 1 text)) here), tt);
  }

-- If a prefix opens a comment, so does the whole text.
begins_more : (a b : ℕ) (s t : List ℕ) → BeginsWith s (a ∷ b ∷ []) → BeginsWith (s ++ t) (a ∷ b ∷ [])
begins_more a b [] t e = cc
begins_more a b (x ∷ []) t e = cc
begins_more a b (x ∷ y ∷ s) t e = e

-- A token that is no header name is one token when its spelling is the whole text.
stands_alone : (profile : Profile) (line : List (List ℕ)) (s t : List ℕ) (k : Kind) → k ≢ Header → IsLexemeAt profile line (s ++ t) (length s) (Spelled k) → IsLexemeAt C11 [] s (length s) (Spelled k)
stands_alone profile line s t k plain (inl (h, e)) = absurd (plain e)
stands_alone profile line s t k plain (inr p) =
    let prefix : take (length s) (s ++ t) ≡ take (length s) s = take_at s t (length s) refl ∙ sym (take_all (length s) s (omega arith)) in
    inr (record {
      no_comment = λ o. opens o;
      no_header = λ m h. h.awaited;
      longest = record { fits = omega arith; prefix = subst IsSpelling prefix p.longest.prefix; longest = λ m more fits q. absurd (omega arith) };
      spelled = subst (Spells k) prefix p.spelled;
    })
  where
    opens : OpensBlock s ⊎ OpensLine s → ⊥
    opens (inl o) = p.no_comment (inl (begins_more 47 42 s t o))
    opens (inr o) = p.no_comment (inr (begins_more 47 47 s t o))

-- A lexeme of a tokenization, with the tokens before it on its line and the text after it.
stands_within : (profile : Profile) (line : List (List ℕ)) (ps : List Lexeme) (rest : List Char) (i : ℕ) (p : Lexeme)
    → AreLexemes profile line ps rest
    → i < length ps
    → get_or ps i p ≡ p
    → (before : List (List ℕ)) × (behind : List Char) × IsLexemeAt profile before (codes_of (p.chars ++ behind)) (length p.chars) p.kind
stands_within profile line [] rest i p each lt e = absurd (omega arith)
stands_within profile line (q ∷ qs) rest zero p each lt e = (line, characters_of qs ++ rest, subst (λ (z : Lexeme). IsLexemeAt profile line (codes_of (z.chars ++ (characters_of qs ++ rest))) (length z.chars) z.kind) e each.0)
stands_within profile line (q ∷ qs) rest (suc i) p each lt e = stands_within profile (with_lexeme line q q.kind) qs rest i p each.1 (omega arith) e

pub relexes_tokens : (profile : Profile) (chars : List Char) (lexemes : List Lexeme) → Tokenizes profile chars lexemes → (p : Lexeme) (k : Kind) → Contains lexemes p → p.kind ≡ Spelled k → k ≢ Header → IsOneToken (codes_of p.chars) k
relexes_tokens profile chars lexemes tokenized p k (i, lt, e) kind plain =
    let found = stands_within profile [] lexemes [] i p tokenized.each lt e in
    let whole : codes_of (p.chars ++ found.1) ≡ codes_of p.chars ++ codes_of found.1 = map-append (λ (c : Char). c.code) p.chars found.1 in
    let is_lexeme : IsLexemeAt profile found.0 (codes_of (p.chars ++ found.1)) (length p.chars) (Spelled k) = subst (IsLexemeAt profile found.0 (codes_of (p.chars ++ found.1)) (length p.chars)) kind found.2 in
    let here : IsLexemeAt profile found.0 (codes_of p.chars ++ codes_of found.1) (length (codes_of p.chars)) (Spelled k) = rw (length-map p.chars (λ (c : Char). c.code), ← whole) is_lexeme in
    stands_one_token (codes_of p.chars) k (stands_alone profile found.0 (codes_of p.chars) (codes_of found.1) k plain here)

first_blank : (text : List ℕ) (n : ℕ) → 0 < n → n ≤ length text → AreBlanks n text → IsLexemeAt C11 [] text 1 Blank
first_blank [] n some fits blank = absurd (omega arith)
first_blank (c ∷ cs) n some fits blank = (refl, c, refl, blank 0 some)

-- The lexeme that begins a text of one token is that token.
stood : (text : List ℕ) (n : ℕ) (s : LexemeKind) (k : Kind) → IsLexemeAt C11 [] text n s → IsOneToken text k → ◌≡◌ {A = Option (LexemeKind × ℕ)} (Some (s, n)) (Some (Spelled k, length text))
stood text n s k here one =
    let same = one_piece C11 [] text n (length text) s (Spelled k) here (one_token_stands text k one) in
    ap (λ z. Some (z, n)) same.1 ∙ ap (λ z. Some (Spelled k, z)) same.0

-- If the text is one token, the lexer finds that token.
pub finds_token : (text : List ℕ) (found : Option (LexemeKind × ℕ)) (k : Kind) → FindsLexeme C11 [] text found → IsOneToken text k → found ≡ Some (Spelled k, length text)
finds_token text None k here one = absurd (no_piece_open C11 [] text (length text) (Spelled k) here.0 here.1 (one_token_stands text k one))
finds_token text (Some (Blank, n)) k here one =
    let e : Blank ≡ Spelled k = (one_piece C11 [] text 1 (length text) Blank (Spelled k) (first_blank text n here.1 here.0 here.2) (one_token_stands text k one)).1 in cc
finds_token text (Some (NewLine, n)) k here one = stood text n NewLine k here.2 one
finds_token text (Some (Comment, n)) k here one = stood text n Comment k here.2 one
finds_token text (Some (Spelled l, n)) k here one = stood text n (Spelled l) k here.2 one
