-- Lines of tokens with spaces between them are read as these tokens.
use Rattle.std.proofs.Common.{◌≡◌, ℕ, zero, suc, ◌+◌, ◌<◌, true, false, List, [], ◌∷◌, ◌++◌, length, map, flat_map, refl, sym, ap, ◌∙◌, subst, inr, arith, append_assoc, append-nil, replicate}
use Rattle.std.proofs.lemmas.Grind.{flat_map-append}
use Rattle.pptext.specs.declared.sources.Profile.{Profile}
use Rattle.pptext.specs.Lexemes.{NewLine, Blank, Spelled, IsLexemeAt, AwaitsHeader}
use Rattle.pptext.specs.Spellings.{Spells}
use Rattle.ppprint.specs.Apart.{Written, must_part, are_apart}
use Rattle.ppprint.specs.Laws.{IsSpelled}
use Rattle.ppprint.specs.Reads.{HasTokens}
use Rattle.ppprint.specs.Text.{spaces}
use Rattle.ppprint.proofs.TokenEnds.{ends_before, longest_here, opens_none, ends_before_next, ends_before_blank, spelling_some, whole_front}
use Rattle.ppprint.proofs.LineLexemes.{Cut, codes_of_cuts, line_after_cuts, Lexes, lexes_then, token_of_cut, tokens_of_cuts, has_tokens}

-- a token on a line, with the spaces before and after it
pub record Put : Type 0 where
  pub before : ℕ
  pub token : Written
  pub after : ℕ

abbrev pub put_text : Put → List ℕ
put_text p = spaces p.before ++ p.token.text ++ spaces p.after

abbrev pub puts_text : List Put → List ℕ
puts_text ps = flat_map put_text ps

abbrev pub puts_tokens : List Put → List Written
puts_tokens ps = map (λ p. p.token) ps

-- tokens that are spelled by their kinds, and have a space between them if they must be kept apart
abbrev pub AreSpaced : List Put → Type 0
AreSpaced [] = Unit {0}
AreSpaced (p ∷ []) = IsSpelled p.token
AreSpaced (p ∷ q ∷ ps) = IsSpelled p.token × (p.after + q.before ≡ 0 → are_apart p.token q.token ≡ false) × AreSpaced (q ∷ ps)

-- no header name is awaited at any of the tokens, after these tokens of their line
abbrev pub AwaitNoHeader : Profile → List (List ℕ) → List Put → Type 0
AwaitNoHeader profile line [] = Unit {0}
AwaitNoHeader profile line (p ∷ ps) = (¬ AwaitsHeader profile line) × AwaitNoHeader profile (line ++ p.token.text ∷ []) ps

-- ---- cuts

abbrev blank_cut : Cut
blank_cut = (Blank, 32 ∷ [])

abbrev pub blanks : ℕ → List Cut
blanks n = replicate n blank_cut

abbrev pub put_cuts : Put → List Cut
put_cuts p = blanks p.before ++ (Spelled p.token.kind, p.token.text) ∷ blanks p.after

abbrev pub puts_cuts : List Put → List Cut
puts_cuts ps = flat_map put_cuts ps

blank_codes : (n : ℕ) → codes_of_cuts (blanks n) ≡ spaces n
blank_codes zero = refl
blank_codes (suc n) = ap (λ z. 32 ∷ z) (blank_codes n)

put_codes : (p : Put) → codes_of_cuts (put_cuts p) ≡ put_text p
put_codes p =
    flat_map-append (λ (c : Cut). c.1) (blanks p.before) ((Spelled p.token.kind, p.token.text) ∷ blanks p.after)
    ∙ (ap (λ z. z ++ (p.token.text ++ codes_of_cuts (blanks p.after))) (blank_codes p.before) ∙ (ap (λ z. spaces p.before ++ (p.token.text ++ z)) (blank_codes p.after) ∙ sym (append_assoc (spaces p.before) p.token.text (spaces p.after))))

pub puts_codes : (ps : List Put) → codes_of_cuts (puts_cuts ps) ≡ puts_text ps
puts_codes [] = refl
puts_codes (p ∷ ps) = flat_map-append (λ (c : Cut). c.1) (put_cuts p) (puts_cuts ps) ∙ (ap (λ z. z ++ codes_of_cuts (puts_cuts ps)) (put_codes p) ∙ ap (λ z. put_text p ++ z) (puts_codes ps))

no_tokens : (n : ℕ) → tokens_of_cuts (blanks n) ≡ []
no_tokens zero = refl
no_tokens (suc n) = no_tokens n

put_token : (p : Put) → tokens_of_cuts (put_cuts p) ≡ p.token ∷ []
put_token p =
    flat_map-append token_of_cut (blanks p.before) ((Spelled p.token.kind, p.token.text) ∷ blanks p.after)
    ∙ (ap (λ z. z ++ (p.token ∷ tokens_of_cuts (blanks p.after))) (no_tokens p.before) ∙ ap (λ z. p.token ∷ z) (no_tokens p.after))

pub puts_all : (ps : List Put) → tokens_of_cuts (puts_cuts ps) ≡ puts_tokens ps
puts_all [] = refl
puts_all (p ∷ ps) = flat_map-append token_of_cut (put_cuts p) (puts_cuts ps) ∙ (ap (λ z. z ++ tokens_of_cuts (puts_cuts ps)) (put_token p) ∙ ap (λ z. p.token ∷ z) (puts_all ps))

-- ---- each is a lexeme

lexes_blanks : (profile : Profile) (line : List (List ℕ)) (n : ℕ) (rest : List ℕ) → Lexes profile line (blanks n) rest
lexes_blanks profile line zero rest = tt
lexes_blanks profile line (suc n) rest = ((refl, 32, refl, refl), lexes_blanks profile line n rest)

same_after : (line : List (List ℕ)) (n : ℕ) → line_after_cuts line (blanks n) ≡ line
same_after line zero = refl
same_after line (suc n) = same_after line n

-- a text that begins with a character before which the token ends
abbrev EndsBefore : Written → List ℕ → Type 0
EndsBefore t text = (c : ℕ) × (r : List ℕ) × (text ≡ c ∷ r) × (ends_before t.kind t.text c ≡ true)

lexes_token : (profile : Profile) (line : List (List ℕ)) (t : Written) (text : List ℕ)
    → IsSpelled t
    → (¬ AwaitsHeader profile line)
    → EndsBefore t text
    → IsLexemeAt profile line (t.text ++ text) (length t.text) (Spelled t.kind)
lexes_token profile line t text spelled none (c, r, e, ends) =
    subst (λ z. IsLexemeAt profile line (t.text ++ z) (length t.text) (Spelled t.kind)) (sym e)
    (inr (record {
      no_comment = opens_none t.kind t.text r c spelled.0 ends;
      no_header = λ m h. none h.awaited;
      longest = longest_here t.kind t.text r c spelled.0 spelled.1 ends;
      spelled = subst (Spells t.kind) (sym (whole_front t.text (c ∷ r))) spelled.0;
    }))

first_code : (t : Written) → IsSpelled t → (c : ℕ) × (b : List ℕ) × (t.text ≡ c ∷ b)
first_code t spelled = go t.text (spelling_some t.kind t.text spelled.0)
  where
    go : (s : List ℕ) → 0 < length s → (c : ℕ) × (b : List ℕ) × (s ≡ c ∷ b)
    go [] some = absurd (omega arith)
    go (c ∷ b) some = (c, b, refl)

space_ends : (t : Written) (n : ℕ) (rest : List ℕ) → IsSpelled t → EndsBefore t (spaces (suc n) ++ rest)
space_ends t n rest spelled = (32, spaces n ++ rest, refl, ends_before_blank t.kind t.text 32 spelled.0 refl)

token_next : (t u : Written) (rest : List ℕ) → IsSpelled t → IsSpelled u → are_apart t u ≡ false → EndsBefore t (u.text ++ rest)
token_next t u rest spelled next apart =
    let f = first_code u next in (
      f.0,
      f.1 ++ rest,
      ap (λ z. z ++ rest) f.2,
      ends_before_next t.kind u.kind t.text f.1 f.0 spelled.0 (subst (Spells u.kind) f.2 next.0)
          (subst (λ z. must_part t.kind u.kind t.text z ≡ false) f.2 apart),
    )

-- what follows a token on a line with more tokens: its spaces, and the spaces and the text of the next
next_ends : (p q : Put) (rest : List ℕ) → IsSpelled p.token → IsSpelled q.token → (p.after + q.before ≡ 0 → are_apart p.token q.token ≡ false)
    → EndsBefore p.token (spaces p.after ++ (spaces q.before ++ (q.token.text ++ rest)))
next_ends p q rest spelled next apart = go p.after q.before apart
  where
    go : (m n : ℕ) → (m + n ≡ 0 → are_apart p.token q.token ≡ false) → EndsBefore p.token (spaces m ++ (spaces n ++ (q.token.text ++ rest)))
    go (suc m) n h = space_ends p.token m (spaces n ++ (q.token.text ++ rest)) spelled
    go zero (suc n) h = space_ends p.token n (q.token.text ++ rest) spelled
    go zero zero h = token_next p.token q.token rest spelled next (h (omega arith))

last_ends : (p : Put) (rest : List ℕ) → IsSpelled p.token → EndsBefore p.token (spaces p.after ++ 10 ∷ rest)
last_ends p rest spelled = go p.after
  where
    go : (n : ℕ) → EndsBefore p.token (spaces n ++ 10 ∷ rest)
    go (suc n) = space_ends p.token n (10 ∷ rest) spelled
    go zero = (10, rest, refl, ends_before_blank p.token.kind p.token.text 10 spelled.0 refl)

pub first_spelled : (p : Put) (ps : List Put) → AreSpaced (p ∷ ps) → IsSpelled p.token
first_spelled p [] a = a
first_spelled p (q ∷ ps) a = a.0

later_spaced : (p : Put) (ps : List Put) → AreSpaced (p ∷ ps) → AreSpaced ps
later_spaced p [] a = tt
later_spaced p (q ∷ ps) a = a.2

puts_end : (p : Put) (ps : List Put) (rest : List ℕ) → AreSpaced (p ∷ ps) → EndsBefore p.token (spaces p.after ++ (puts_text ps ++ 10 ∷ rest))
puts_end p [] rest a = last_ends p rest a
puts_end p (q ∷ ps) rest a =
    subst (λ z. EndsBefore p.token (spaces p.after ++ z)) (sym same) (next_ends p q (spaces q.after ++ (puts_text ps ++ 10 ∷ rest)) a.0 (first_spelled q ps a.2) a.1)
  where
    same : puts_text (q ∷ ps) ++ 10 ∷ rest ≡ spaces q.before ++ (q.token.text ++ (spaces q.after ++ (puts_text ps ++ 10 ∷ rest)))
    same = simp append_assoc

line_after_put : (line : List (List ℕ)) (p : Put) → line_after_cuts line (put_cuts p) ≡ line ++ p.token.text ∷ []
line_after_put line p = go p.before
  where
    go : (n : ℕ) → line_after_cuts line (blanks n ++ (Spelled p.token.kind, p.token.text) ∷ blanks p.after) ≡ line ++ p.token.text ∷ []
    go zero = same_after (line ++ p.token.text ∷ []) p.after
    go (suc n) = go n

lexes_put : (profile : Profile) (line : List (List ℕ)) (p : Put) (text : List ℕ) → IsSpelled p.token → (¬ AwaitsHeader profile line) → EndsBefore p.token (spaces p.after ++ text) → Lexes profile line (put_cuts p) text
lexes_put profile line p text spelled none ends =
    lexes_then profile line (blanks p.before) ((Spelled p.token.kind, p.token.text) ∷ blanks p.after) text
    (lexes_blanks profile line p.before (codes_of_cuts ((Spelled p.token.kind, p.token.text) ∷ blanks p.after) ++ text))
    (subst (λ z. Lexes profile z ((Spelled p.token.kind, p.token.text) ∷ blanks p.after) text) (sym (same_after line p.before)) (
      subst (λ z. IsLexemeAt profile line (p.token.text ++ (z ++ text)) (length p.token.text) (Spelled p.token.kind)) (sym (blank_codes p.after)) (lexes_token profile line p.token (spaces p.after ++ text) spelled none ends),
      lexes_blanks profile (line ++ p.token.text ∷ []) p.after text,
    ))

-- A line of tokens and its new-line, before any rest, are these lexemes.
pub lexes_line : (profile : Profile) (line : List (List ℕ)) (ps : List Put) (rest : List ℕ) → AreSpaced ps → AwaitNoHeader profile line ps → Lexes profile line (puts_cuts ps ++ (NewLine, 10 ∷ []) ∷ []) rest
lexes_line profile line [] rest a none = ((refl, refl), tt)
lexes_line profile line (p ∷ ps) rest a none =
    let later : List Cut = puts_cuts ps ++ (NewLine, 10 ∷ []) ∷ [] in
    let text : codes_of_cuts later ++ rest ≡ puts_text ps ++ 10 ∷ rest =
    ap (λ z. z ++ rest) (flat_map-append (λ (c : Cut). c.1) (puts_cuts ps) ((NewLine, 10 ∷ []) ∷ []) ∙ ap (λ z. z ++ 10 ∷ []) (puts_codes ps)) ∙ append_assoc (puts_text ps) (10 ∷ []) rest in
    subst (λ z. Lexes profile line z rest) (sym (append_assoc (put_cuts p) (puts_cuts ps) ((NewLine, 10 ∷ []) ∷ [])))
    (lexes_then profile line (put_cuts p) later rest
    (lexes_put profile line p (codes_of_cuts later ++ rest) (first_spelled p ps a) none.0 (subst (λ z. EndsBefore p.token (spaces p.after ++ z)) (sym text) (puts_end p ps rest a)))
    (subst (λ z. Lexes profile z later rest) (sym (line_after_put line p)) (lexes_line profile (line ++ p.token.text ∷ []) ps rest (later_spaced p ps a) none.1)))

-- A line of tokens has these tokens.
pub line_has_tokens : (profile : Profile) (ps : List Put) → AreSpaced ps → AwaitNoHeader profile [] ps → HasTokens profile (puts_text ps) (puts_tokens ps)
line_has_tokens profile ps a none =
    let cuts : List Cut = puts_cuts ps ++ (NewLine, 10 ∷ []) ∷ [] in
    let text : puts_text ps ++ 10 ∷ [] ≡ codes_of_cuts cuts = sym (flat_map-append (λ (c : Cut). c.1) (puts_cuts ps) ((NewLine, 10 ∷ []) ∷ []) ∙ ap (λ z. z ++ 10 ∷ []) (puts_codes ps)) in
    let found : tokens_of_cuts cuts ≡ puts_tokens ps = flat_map-append token_of_cut (puts_cuts ps) ((NewLine, 10 ∷ []) ∷ []) ∙ (append-nil (tokens_of_cuts (puts_cuts ps)) ∙ puts_all ps) in
    subst (λ z. HasTokens profile (puts_text ps) z) found (has_tokens profile (puts_text ps) cuts text (lexes_line profile [] ps [] a none))
