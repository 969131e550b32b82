-- The text of items as one file: translation phase 3 finds the tokens of its lines, and no comment.
use Rattle.std.proofs.Common.{◌≡◌, ℕ, zero, suc, Bool, true, false, List, [], ◌∷◌, ◌++◌, length, drop, refl, sym, ap, ◌∙◌, subst, append_assoc, append-nil}
use Rattle.std.specs.List.{AllByRecursion}
use Rattle.std.proofs.lemmas.Bool.{false≢true}
use Rattle.std.proofs.lemmas.Grind.{flat_map-append}
use Rattle.pptext.specs.declared.characters.Char.{Char}
use Rattle.pptext.specs.declared.sources.Profile.{Profile}
use Rattle.pptext.specs.Clean.{with_locations}
use Rattle.pptext.specs.Lexemes.{Lexeme, LexemeKind, NewLine, Blank, Comment, Spelled}
use Rattle.ppprint.specs.Laws.{AreWellSpelled, LinesHaveTokens, IsWhole}
use Rattle.ppprint.specs.Reads.{Reading}
use Rattle.ppprint.specs.Shown.{Location, Shown, ShowsToken, ShowsPragma, ShowsMark}
use Rattle.ppprint.specs.Text.{text_of}
use Rattle.ppprint.proofs.ItemLines.{IsLine, is_plain, IsReader, ItemHas, NamedBy, text_reads}
use Rattle.ppprint.proofs.LineLexemes.{Cut, codes_of_cuts, line_after_cut, line_after_cuts, Lexes, lexes_then, lexemes_from, token_of_cut, tokens_of_cuts, codes_located, tokenized, same_tokens}
use Rattle.ppprint.proofs.NewLineFreeLines.{no_new_line}
use Rattle.ppprint.proofs.ReadingBack.{Any, any_texts}
use Rattle.ppprint.proofs.SpacedLines.{Put, puts_text, puts_tokens, blanks, put_cuts, puts_cuts, puts_codes, puts_all, lexes_line, line_has_tokens}

-- ---- texts of lines

-- a text that consists of lines of tokens
pub data AreLines (Q : List ℕ → Type 0) : List ℕ → Type 0 where
  at_end : AreLines Q []
  with_line : {ps : List Put} {rest : List ℕ} → IsLine Q ps → AreLines Q rest → AreLines Q (puts_text ps ++ 10 ∷ rest)

abbrev AnyName : List ℕ → List ℕ → Type 0
AnyName a b = Unit {0}

named_any : (name : List ℕ) (items : List Shown) → NamedBy AnyName name items
named_any name [] = tt
named_any name (ShowsToken at t ∷ items) = (tt, named_any name items)
named_any name (ShowsPragma at ts ∷ items) = (tt, named_any name items)
named_any name (ShowsMark at turn ∷ items) = named_any at.name items

abbrev HasLines : (List ℕ → Type 0) → Location → List ℕ → List Reading → Type 0
HasLines Q at text r = AreLines Q text

takes_lines : (Q : List ℕ → Type 0) → ((s : List ℕ) → is_plain s ≡ true → Q s) → IsReader Q AnyName (HasLines Q)
takes_lines Q plain = record {
  plain = plain;
  other_way = λ a b e. tt;
  nothing = λ at. AreLines.at_end;
  tokens = λ at ps rest r line none later. AreLines.with_line line later;
  marker = λ any at turn rest r h line later. AreLines.with_line line later;
  pragma = λ at ts rest r line later. AreLines.with_line line later;
  moves = λ a b ps text r name number system later. later;
}

pub text_lines : (Q : List ℕ → Type 0) → ((s : List ℕ) → is_plain s ≡ true → Q s) → (items : List Shown) → AreWellSpelled items → AllByRecursion (ItemHas Q) items → AreLines Q (text_of items)
text_lines Q plain items spelled has = text_reads (takes_lines Q plain) items spelled has (named_any [] items)

-- ---- the lexemes of all lines

-- no comment is among the cuts
abbrev NoComment : List Cut → Type 0
NoComment ps = AllByRecursion (λ (p : Cut). ¬ (p.0 ≡ Comment)) ps

abbrev is_comment : LexemeKind → Bool
is_comment Comment = true
is_comment s = false

other_kind : (s : LexemeKind) → is_comment s ≡ false → ¬ (s ≡ Comment)
other_kind s e f = false≢true (sym e ∙ ap is_comment f)

none_then : (ps qs : List Cut) → NoComment ps → NoComment qs → NoComment (ps ++ qs)
none_then [] qs a b = b
none_then (p ∷ ps) qs a b = (a.0, none_then ps qs a.1 b)

none_blank : (n : ℕ) → NoComment (blanks n)
none_blank zero = tt
none_blank (suc n) = (other_kind Blank refl, none_blank n)

none_puts : (ps : List Put) → NoComment (puts_cuts ps)
none_puts [] = tt
none_puts (p ∷ ps) =
    none_then (put_cuts p) (puts_cuts ps) (none_then (blanks p.before) ((Spelled p.token.kind, p.token.text) ∷ blanks p.after) (none_blank p.before) (other_kind (Spelled p.token.kind) refl, none_blank p.after))
    (none_puts ps)

abbrev end_cuts : List Cut
end_cuts = (NewLine, 10 ∷ []) ∷ []

abbrev line_cuts : List Put → List Cut
line_cuts ps = puts_cuts ps ++ end_cuts

line_over : (line : List (List ℕ)) (ps : List Cut) → line_after_cuts line (ps ++ end_cuts) ≡ []
line_over line [] = refl
line_over line (p ∷ ps) = line_over (line_after_cut line p.0 p.1) ps

-- a text as the lexemes of its lines
record IsCut (profile : Profile) (text : List ℕ) : Type 0 where
  cuts : List Cut
  codes : text ≡ codes_of_cuts cuts
  lexes : Lexes profile [] cuts []
  lines : LinesHaveTokens profile text (tokens_of_cuts cuts)
  none : NoComment cuts

cut_line : (profile : Profile) (ps : List Put) (rest : List ℕ) → IsLine Any ps → IsCut profile rest → IsCut profile (puts_text ps ++ 10 ∷ rest)
cut_line profile ps rest line later =
    let first : codes_of_cuts (line_cuts ps) ≡ puts_text ps ++ 10 ∷ [] = flat_map-append (λ (c : Cut). c.1) (puts_cuts ps) end_cuts ∙ ap (λ z. z ++ 10 ∷ []) (puts_codes ps) in
    let all : codes_of_cuts (line_cuts ps ++ later.cuts) ≡ puts_text ps ++ 10 ∷ rest =
    flat_map-append (λ (c : Cut). c.1) (line_cuts ps) later.cuts ∙ (ap (λ z. z ++ codes_of_cuts later.cuts) first ∙ (append_assoc (puts_text ps) (10 ∷ []) (codes_of_cuts later.cuts) ∙ ap (λ z. puts_text ps ++ 10 ∷ z) (sym later.codes))) in
    let found : tokens_of_cuts (line_cuts ps) ≡ puts_tokens ps = flat_map-append token_of_cut (puts_cuts ps) end_cuts ∙ (append-nil (tokens_of_cuts (puts_cuts ps)) ∙ puts_all ps) in
    let tokens : puts_tokens ps ++ tokens_of_cuts later.cuts ≡ tokens_of_cuts (line_cuts ps ++ later.cuts) =
    ap (λ z. z ++ tokens_of_cuts later.cuts) (sym found) ∙ sym (flat_map-append token_of_cut (line_cuts ps) later.cuts) in
    record {
      cuts = line_cuts ps ++ later.cuts;
      codes = sym all;
      lexes = lexes_then profile [] (line_cuts ps) later.cuts [] (lexes_line profile [] ps (codes_of_cuts later.cuts ++ []) line.spaced (line.free profile))
          (subst (λ z. Lexes profile z later.cuts []) (sym (line_over [] (puts_cuts ps))) later.lexes);
      lines = subst (λ z. LinesHaveTokens profile (puts_text ps ++ 10 ∷ rest) z) tokens
          (LinesHaveTokens.first_line (no_new_line ps line.spaced) (line_has_tokens profile ps line.spaced (line.free profile)) later.lines);
      none = none_then (line_cuts ps) later.cuts (none_then (puts_cuts ps) end_cuts (none_puts ps) (other_kind NewLine refl, tt)) later.none;
    }

cut_lines : (profile : Profile) (text : List ℕ) → AreLines Any text → IsCut profile text
cut_lines profile _ AreLines.at_end = record { cuts = []; codes = refl; lexes = tt; lines = LinesHaveTokens.no_line; none = tt }
cut_lines profile _ (AreLines.with_line {ps = ps} {rest = rest} h later) = cut_line profile ps rest h (cut_lines profile rest later)

none_lexeme : (ps : List Cut) (chars : List Char) → NoComment ps → AllByRecursion (λ (p : Lexeme). ¬ (p.kind ≡ Comment)) (lexemes_from ps chars)
none_lexeme [] chars a = tt
none_lexeme (p ∷ ps) chars a = (a.0, none_lexeme ps (drop (length p.1) chars) a.1)

whole_text : (profile : Profile) (file : ℕ) (text : List ℕ) → IsCut profile text → IsWhole profile file text
whole_text profile file text h =
    let chars = with_locations file 1 1 text in
    let same = codes_located file 1 1 text ∙ h.codes in
    record {
      lexemes = lexemes_from h.cuts chars;
      tokenizes = tokenized profile h.cuts chars same h.lexes;
      lines = subst (λ z. LinesHaveTokens profile text z) (sym (same_tokens h.cuts chars same)) h.lines;
      no_comment = none_lexeme h.cuts chars h.none;
    }

pub reads_as_one_file : (profile : Profile) (file : ℕ) (items : List Shown) → AreWellSpelled items → IsWhole profile file (text_of items)
reads_as_one_file profile file items spelled = whole_text profile file (text_of items) (cut_lines profile (text_of items) (text_lines Any (λ s e. tt) items spelled (any_texts items)))
