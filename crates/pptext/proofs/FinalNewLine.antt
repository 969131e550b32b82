-- A cleaned text ends in a new-line, so each token is on a line.
use Rattle.std.proofs.Common.{◌≡◌, ℕ, zero, suc, ◌+◌, ◌<◌, Bool, true, false, ◌&&◌, ◌==◌, if◌then◌else◌, List, [], ◌∷◌, ◌++◌, length, drop, refl, sym}
use Rattle.std.proofs.Common.{ap, ◌∙◌, subst, inl, inr, ◌⊎◌, arith, append_assoc, length-append, get_or, IsTrue, None, Some, Ok}
use Rattle.std.specs.Prelude.{Option}
use Rattle.std.proofs.lemmas.Bool.{false≢true}
use Rattle.std.proofs.lemmas.Bool.Decides.{nat_tests}
use Rattle.std.proofs.lemmas.List.{append-nil, length-map, map-append, take_all, get_or-drop}
use Rattle.pptext.specs.declared.tokens.Place.{Place}
use Rattle.pptext.specs.declared.tokens.Token.{Token}
use Rattle.pptext.specs.declared.characters.Char.{Char}
use Rattle.pptext.specs.declared.sources.Profile.{Profile}
use Rattle.pptext.specs.declared.sources.Profile.TheVariants.{C11, Later, Gnu}
use Rattle.pptext.specs.Continuations.{last_of}
use Rattle.pptext.specs.Clean.{codes_of, newline, next_col, terminated, line_ends, trigraph, trigraph_at, trigraphs_after, trigraphs, splice_at, splices_after, splices, splice_at_end, unless_at, cleaned}
use Rattle.pptext.specs.Spellings.{is_blank, IsHeader, Spells}
use Rattle.pptext.specs.Lexemes.{Lexeme, LexemeKind, NewLine, Blank, Comment, Spelled, IsLexemeAt, CommentAt, AreLexemes, Tokenizes, characters_of, with_lexeme, BeginsWith}
use Rattle.pptext.specs.Lines.{lines_of, lines_after, lines_ended, leaves_space, tokens_after, token_of}
use Rattle.pptext.specs.Sources.{line_tokens}
use Rattle.pptext.specs.Laws.{token_in, tokens_in}
use Rattle.pptext.proofs.TokenContinuation.{last_at}
use Rattle.pptext.proofs.KindUniqueness.{last-append, spelling_last}
use Rattle.pptext.proofs.TokenizationUniqueness.{some_piece, between}

-- the text is empty or ends in a new-line
abbrev Ended : List Char → Type 0
Ended cs = (cs ≡ []) ⊎ (last_of (codes_of cs) ≡ 10)

last_behind : (c : ℕ) (s : List ℕ) → last_of s ≡ 10 → last_of (c ∷ s) ≡ 10
last_behind c [] e = absurd (omega arith)
last_behind c (d ∷ s) e = e

terminated_end : (cs : List Char) → Ended (terminated cs)
terminated_end [] = inl refl
terminated_end (c ∷ []) = inr (cases (c.code == newline) refl)
  where
    cases : (b : Bool) → (c.code == newline) ≡ b → last_of (codes_of (c ∷ (if b then [] else record { code = newline; at = next_col c.at } ∷ []))) ≡ 10
    cases true e = grind (arith, nat_tests)
    cases false e = refl
terminated_end (c ∷ d ∷ cs) = cases (terminated_end (d ∷ cs))
  where
    cases : Ended (terminated (d ∷ cs)) → Ended (terminated (c ∷ d ∷ cs))
    cases (inl e) = cc
    cases (inr e) = inr e

-- Trigraph replacement preserves a new-line at the end.
trigraphs_end : (skip : ℕ) (cs : List Char) → last_of (codes_of (drop skip cs)) ≡ 10 → last_of (codes_of (trigraphs_after skip cs)) ≡ 10
trigraphs_end zero [] e = e
trigraphs_end (suc skip) [] e = e
trigraphs_end (suc skip) (c ∷ cs) e = trigraphs_end skip cs e
trigraphs_end zero (c ∷ []) e = e
trigraphs_end zero (c ∷ d ∷ []) e = trigraphs_end zero (d ∷ []) e
trigraphs_end zero (c ∷ d ∷ f ∷ []) e = cases (trigraph_at (c ∷ d ∷ f ∷ []) == 0) refl (trigraphs_end zero (d ∷ f ∷ []) e)
  where
    none : (b : Bool) → (if b then trigraph f.code else 0) == 0 ≡ true
    none true = ap (λ z. trigraph z == 0) e
    none false = refl

    cases : (b : Bool)
        → (trigraph_at (c ∷ d ∷ f ∷ []) == 0) ≡ b
        → last_of (codes_of (trigraphs_after 0 (d ∷ f ∷ []))) ≡ 10
        → last_of (codes_of
        (if b then c ∷ trigraphs_after 0 (d ∷ f ∷ []) else record { code = trigraph_at (c ∷ d ∷ f ∷ []); at = c.at } ∷ trigraphs_after 2 (d ∷ f ∷ [])))
        ≡ 10
    cases true is later = last_behind c.code (codes_of (trigraphs_after 0 (d ∷ f ∷ []))) later
    cases false is later = absurd (false≢true (sym is ∙ none (c.code == 63 && d.code == 63)))
trigraphs_end zero (c ∷ d ∷ f ∷ g ∷ cs) e = cases (trigraph_at (c ∷ d ∷ f ∷ g ∷ cs) == 0) (trigraphs_end zero (d ∷ f ∷ g ∷ cs) e) (trigraphs_end zero (g ∷ cs) e)
  where
    cases : (b : Bool)
        → last_of (codes_of (trigraphs_after 0 (d ∷ f ∷ g ∷ cs))) ≡ 10
        → last_of (codes_of (trigraphs_after 0 (g ∷ cs))) ≡ 10
        → last_of (codes_of (if b then c ∷ trigraphs_after 0 (d ∷ f ∷ g ∷ cs)
        else record { code = trigraph_at (c ∷ d ∷ f ∷ g ∷ cs); at = c.at } ∷ trigraphs_after 2 (d ∷ f ∷ g ∷ cs)))
        ≡ 10
    cases true later last_later = last_behind c.code (codes_of (trigraphs_after 0 (d ∷ f ∷ g ∷ cs))) later
    cases false later last_later = last_behind (trigraph_at (c ∷ d ∷ f ∷ g ∷ cs)) (codes_of (trigraphs_after 0 (g ∷ cs))) last_later

no_splice : (c : Char) (cs : List Char) → splice_at_end (c ∷ cs) ≡ None → (length cs == 1 && splice_at (c ∷ cs) ≡ false) × (splice_at_end cs ≡ None)
no_splice c cs = cases (length cs == 1 && splice_at (c ∷ cs))
  where
    cases : (b : Bool) → (if b then Some c.at else splice_at_end cs) ≡ None → (b ≡ false) × (splice_at_end cs ≡ None)
    cases true e = cc
    cases false e = (refl, e)

-- Line splicing preserves a new-line at the end, unless the text ends in a splice.
splices_end : (skip : ℕ) (cs : List Char) → splice_at_end cs ≡ None → last_of (codes_of (drop skip cs)) ≡ 10 → last_of (codes_of (splices_after skip cs)) ≡ 10
splices_end zero [] none e = e
splices_end (suc skip) [] none e = e
splices_end (suc skip) (c ∷ cs) none e = splices_end skip cs (no_splice c cs none).1 e
splices_end zero (c ∷ []) none e = cases (c.code == 92)
  where
    cases : (b : Bool) → last_of (codes_of (if b && false then splices_after 1 [] else c ∷ splices_after 0 [])) ≡ 10
    cases true = e
    cases false = e
splices_end zero (c ∷ d ∷ []) none e = cases (splice_at (c ∷ d ∷ [])) (no_splice c (d ∷ []) none).0 (splices_end zero (d ∷ []) (no_splice c (d ∷ []) none).1 e)
  where
    cases : (b : Bool) → b ≡ false → last_of (codes_of (splices_after 0 (d ∷ []))) ≡ 10 → last_of (codes_of (if b then splices_after 1 (d ∷ []) else c ∷ splices_after 0 (d ∷ []))) ≡ 10
    cases true is later = absurd (false≢true (sym is))
    cases false is later = last_behind c.code (codes_of (splices_after 0 (d ∷ []))) later
splices_end zero (c ∷ d ∷ f ∷ cs) none e =
    cases (splice_at (c ∷ d ∷ f ∷ cs)) (splices_end zero (d ∷ f ∷ cs) (no_splice c (d ∷ f ∷ cs) none).1 e) (splices_end zero (f ∷ cs) (no_splice d (f ∷ cs) (no_splice c (d ∷ f ∷ cs) none).1).1 e)
  where
    cases : (b : Bool)
        → last_of (codes_of (splices_after 0 (d ∷ f ∷ cs))) ≡ 10
        → last_of (codes_of (splices_after 0 (f ∷ cs))) ≡ 10
        → last_of (codes_of (if b then splices_after 1 (d ∷ f ∷ cs) else c ∷ splices_after 0 (d ∷ f ∷ cs))) ≡ 10
    cases true later after = after
    cases false later after = last_behind c.code (codes_of (splices_after 0 (d ∷ f ∷ cs))) later

spliced_end : (cs chars : List Char) → Ended cs → unless_at (splice_at_end cs) (splices cs) ≡ Ok chars → Ended chars
spliced_end cs chars ended = cases (splice_at_end cs) refl
  where
    kept : splice_at_end cs ≡ None → Ended cs → Ended (splices cs)
    kept none (inl e) = inl (ap splices e)
    kept none (inr e) = inr (splices_end 0 cs none e)

    cases : (o : Option Place) → splice_at_end cs ≡ o → unless_at o (splices cs) ≡ Ok chars → Ended chars
    cases None none e = let same : splices cs ≡ chars = cc in subst (λ (z : List Char). Ended z) same (kept none ended)
    cases (Some p) some e = cc

pub cleaned_end : (profile : Profile) (file : ℕ) (bytes : List ℕ) (chars : List Char) → cleaned profile file bytes ≡ Ok chars → Ended chars
cleaned_end profile file bytes chars e = spliced_end (trigraphs profile (line_ends file bytes)) chars (kept profile (line_ends file bytes) (terminated_end _)) e
  where
    replaced : (cs : List Char) → Ended cs → Ended (trigraphs_after 0 cs)
    replaced cs (inl is) = inl (ap (trigraphs_after 0) is)
    replaced cs (inr is) = inr (trigraphs_end 0 cs is)

    kept : (profile : Profile) (cs : List Char) → Ended cs → Ended (trigraphs profile cs)
    kept C11 cs ended = replaced cs ended
    kept Later cs ended = replaced cs ended
    kept Gnu cs ended = ended

-- a lexeme that is the whole text and ends in a new-line is a new-line
blank_last : (text : List ℕ) → length text ≡ 1 → (c : ℕ) → BeginsWith text (c ∷ []) → IsTrue (is_blank c) → last_of text ≡ 10 → ⊥
blank_last [] l c b t e = omega arith
blank_last (x ∷ []) l c b t e =
    let same : x ≡ c = cc in
    false≢true (ap is_blank (sym (sym same ∙ e)) ∙ t)
blank_last (x ∷ y ∷ text) l c b t e = omega arith

comment_last : (text : List ℕ) → CommentAt text (length text) → last_of text ≡ 10 → ⊥
comment_last [] a e = absurd (omega arith)
comment_last (x ∷ xs) (inl (o, k, f, n)) e =
    let at : last_of (x ∷ xs) ≡ get_or (x ∷ xs) (k + 3) 0 = sym (last_at (x ∷ xs) (k + 3) (omega arith)) in
    let slash : get_or (drop 2 (x ∷ xs)) (k + 1) 0 ≡ 47 = f.1.reads 1 (omega arith) in
    let there : get_or (drop 2 (x ∷ xs)) (k + 1) 0 ≡ get_or (x ∷ xs) (2 + (k + 1)) 0 = get_or-drop 2 (x ∷ xs) (k + 1) 0 in
    let same : get_or (x ∷ xs) (2 + (k + 1)) 0 ≡ get_or (x ∷ xs) (k + 3) 0 = ap (λ i. get_or (x ∷ xs) i 0) (omega arith) in
    let ten : ◌≡◌ {A = ℕ} 47 10 = sym slash ∙ there ∙ same ∙ sym at ∙ e in
    absurd (omega arith)
comment_last (x ∷ xs) (inr (o, None, f, n)) e =
    f (length xs) (omega arith) (omega arith) (ap (λ z. z == 10) (last_at (x ∷ xs) (length xs) (omega arith) ∙ e))
comment_last (x ∷ xs) (inr (o, Some k, f, n)) e = absurd (omega (arith, f.0.high))

header_last : (s : List ℕ) → IsHeader s → last_of s ≡ 10 → ⊥
header_last s (inl a) e =
    let b = between 60 62 s a in
    let ten : ◌≡◌ {A = ℕ} 62 10 = sym (ap last_of b.is ∙ last-append (60 ∷ b.body) (62 ∷ []) (omega arith)) ∙ e in
    absurd (omega arith)
header_last s (inr a) e =
    let b = between 34 34 s a in
    let ten : ◌≡◌ {A = ℕ} 34 10 = sym (ap last_of b.is ∙ last-append (34 ∷ b.body) (34 ∷ []) (omega arith)) ∙ e in
    absurd (omega arith)

ends_line : (profile : Profile) (line : List (List ℕ)) (text : List ℕ) (s : LexemeKind) → IsLexemeAt profile line text (length text) s → last_of text ≡ 10 → s ≡ NewLine
ends_line profile line text NewLine a e = refl
ends_line profile line text Blank a e = absurd (blank_last text a.0 a.1 a.2 a.3 e)
ends_line profile line text Comment a e = absurd (comment_last text a e)
ends_line profile line text (Spelled k) (inl (h, is)) e = absurd (header_last text (subst IsHeader (take_all (length text) text (omega arith)) h.spelled) e)
ends_line profile line text (Spelled k) (inr p) e = absurd (spelling_last text k (subst (Spells k) (take_all (length text) text (omega arith)) p.spelled) e)

-- the last lexeme is a new-line
abbrev EndsLine : List Lexeme → Type 0
EndsLine [] = ⊥
EndsLine (p ∷ []) = p.kind ≡ NewLine
EndsLine (p ∷ q ∷ ps) = EndsLine (q ∷ ps)

pieces_end : (profile : Profile) (line : List (List ℕ)) (ps : List Lexeme) → AreLexemes profile line ps [] → last_of (codes_of (characters_of ps)) ≡ 10 → EndsLine ps
pieces_end profile line [] each e = absurd (omega arith)
pieces_end profile line (p ∷ []) each e =
    let l : length p.chars ≡ length (codes_of (p.chars ++ [])) = sym (length-map (p.chars ++ []) (λ (c : Char). c.code) ∙ ap length (append-nil p.chars)) in
    ends_line profile line (codes_of (p.chars ++ [])) p.kind (subst (λ n. IsLexemeAt profile line (codes_of (p.chars ++ [])) n p.kind) l each.0) e
pieces_end profile line (p ∷ q ∷ ps) each e =
    let behind : List Char = characters_of (q ∷ ps) in
    let some = some_piece profile (with_lexeme line p p.kind) (codes_of (q.chars ++ (characters_of ps ++ []))) (length q.chars) q.kind each.1.0 in
    let l = length-append q.chars (characters_of ps) in
    let m = length-map (characters_of (q ∷ ps)) (λ (c : Char). c.code) in
    let split : last_of (codes_of (p.chars ++ characters_of (q ∷ ps))) ≡ last_of (codes_of (characters_of (q ∷ ps))) =
    ap last_of (map-append (λ (c : Char). c.code) p.chars (characters_of (q ∷ ps))) ∙ last-append (codes_of p.chars) (codes_of (characters_of (q ∷ ps))) (omega arith) in
    pieces_end profile (with_lexeme line p p.kind) (q ∷ ps) each.1 (sym split ∙ e)

kept_one : (profile : Profile) (space : Bool) (ts : List Token) (chars : List Char) (s : LexemeKind)
    → s ≡ NewLine
    → line_tokens (lines_ended profile ts chars s ++ lines_after profile (leaves_space s) (tokens_after space ts chars s) []) ≡ ts ++ (token_in space chars s ++ [])
kept_one profile space ts chars NewLine e = refl
kept_one profile space ts chars Blank e = cc
kept_one profile space ts chars Comment e = cc
kept_one profile space ts chars (Spelled k) e = cc

kept_more : (profile : Profile) (space : Bool) (ts : List Token) (chars : List Char) (s : LexemeKind) (ps : List Lexeme)
    → ((after : Bool) (us : List Token) → line_tokens (lines_after profile after us ps) ≡ us ++ tokens_in after ps)
    → line_tokens (lines_ended profile ts chars s ++ lines_after profile (leaves_space s) (tokens_after space ts chars s) ps)
    ≡ ts ++ (token_in space chars s ++ tokens_in (leaves_space s) ps)
kept_more profile space ts chars NewLine ps later = ap (λ (z : List Token). ts ++ z) (later true [])
kept_more profile space ts chars Blank ps later = later true ts
kept_more profile space ts chars Comment ps later = later true ts
kept_more profile space ts chars (Spelled k) ps later =
    later false (ts ++ token_of k space chars ∷ []) ∙ append_assoc ts (token_of k space chars ∷ []) (tokens_in false ps)

kept : (profile : Profile) (space : Bool) (ts : List Token) (ps : List Lexeme) → EndsLine ps → line_tokens (lines_after profile space ts ps) ≡ ts ++ tokens_in space ps
kept profile space ts [] e = absurd e
kept profile space ts (p ∷ []) e = kept_one profile space ts p.chars p.kind e
kept profile space ts (p ∷ q ∷ ps) e = kept_more profile space ts p.chars p.kind (q ∷ ps) (λ after us. kept profile after us (q ∷ ps) e)

pub keeps_every_token : (profile : Profile) (file : ℕ) (bytes : List ℕ) (chars : List Char) (lexemes : List Lexeme)
    → cleaned profile file bytes ≡ Ok chars
    → Tokenizes profile chars lexemes
    → line_tokens (lines_of profile lexemes) ≡ tokens_in true lexemes
keeps_every_token profile file bytes chars [] clean tokenized = refl
keeps_every_token profile file bytes chars (p ∷ ps) clean tokenized = cases (cleaned_end profile file bytes chars clean)
  where
    some : 0 < length (characters_of (p ∷ ps))
    some =
        let one = some_piece profile [] (codes_of (p.chars ++ (characters_of ps ++ []))) (length p.chars) p.kind tokenized.each.0 in
        let l = length-append p.chars (characters_of ps) in
        omega arith

    same : characters_of (p ∷ ps) ≡ chars
    same = sym (append-nil (characters_of (p ∷ ps))) ∙ tokenized.whole

    cases : Ended chars → line_tokens (lines_of profile (p ∷ ps)) ≡ tokens_in true (p ∷ ps)
    cases (inl e) = let none = ap length (same ∙ e) in absurd (omega (arith, some))
    cases (inr e) = kept profile true [] (p ∷ ps) (pieces_end profile [] (p ∷ ps) tokenized.each (ap (λ (z : List Char). last_of (codes_of z)) same ∙ e))
