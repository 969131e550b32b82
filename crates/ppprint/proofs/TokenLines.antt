-- Lines of tokens while they are written: what is on the line fits what is put on it next.
use Rattle.std.proofs.Common.{◌≡◌, ℕ, zero, suc, ◌+◌, ◌-◌, ◌<◌, Bool, true, false, not, ◌||◌, ◌&&◌, ◌==◌, List, [], ◌∷◌, ◌++◌, length, codes, take, refl, sym, ap, ◌∙◌, subst, arith, append_assoc, append-nil}
use Rattle.std.specs.Prelude.{Option, Some, None, if◌then◌else◌, is_none}
use Rattle.std.proofs.lemmas.Bool.{false≢true, and_parts, eqb-true, eqb-false}
use Rattle.std.proofs.lemmas.Bool.Decides.{nat_tests}
use Rattle.std.proofs.lemmas.Grind.{flat_map-append}
use Rattle.pptext.specs.declared.sources.Profile.{Profile}
use Rattle.pptext.specs.declared.tokens.Kind.{Kind}
use Rattle.pptext.specs.declared.tokens.Kind.TheVariants.{Ident, Number, CharConst, Str, Punct, Header, Other}
use Rattle.pptext.specs.declared.tokens.Token.{Token}
use Rattle.pptext.specs.Lexemes.{takes_header, BeginsWith}
use Rattle.pptext.specs.Spellings.{Spells, IsPunct}
use Rattle.pptext.proofs.CharacterTests.{punct_passes}
use Rattle.pptext.proofs.KindUniqueness.{begins, begins_apart, is_ident_head, is_number_head, ident_begins, number_begins, number_head}
use Rattle.ppprint.specs.Apart.{Written, are_apart}
use Rattle.ppprint.specs.Laws.{IsSpelled}
use Rattle.ppprint.specs.Text.{Line, empty_line, written, spaces, spaces_before, first_spaces, later_spaces, space_between, column_spaces, padding, space_after, is_indented, is_hash_text, line_after, token_text}
use Rattle.ppprint.proofs.LiteralEnds.{is_literal_head, begins_literal, char_headed, str_headed}
use Rattle.ppprint.proofs.MarkedLines.{later_free}
use Rattle.ppprint.proofs.SpacedLines.{Put, put_text, puts_text, AreSpaced, AwaitNoHeader}

-- ---- a hash at the beginning

abbrev pub is_hash : ℕ → Bool
is_hash c = c == 35

ident_no_hash : (c : ℕ) → is_ident_head c ≡ true → is_hash c ≡ true → ⊥
ident_no_hash c t u = grind (arith, nat_tests)

number_no_hash : (c : ℕ) → is_number_head c ≡ true → is_hash c ≡ true → ⊥
number_no_hash c t u = grind (arith, nat_tests)

literal_no_hash : (s : List ℕ) → begins_literal s ≡ true → begins is_hash s ≡ true → ⊥
literal_no_hash [] e f = false≢true e
literal_no_hash (c ∷ cs) e f = other c e f
  where
    other : (d : ℕ) → is_literal_head d ≡ true → is_hash d ≡ true → ⊥
    other d t u = grind (arith, nat_tests)

abbrev hash_or_indented : List ℕ → Bool
hash_or_indented s = not (begins is_hash s) || is_indented s

-- the spellings that begin with a hash don't begin a line
hash_indented : (k : Kind) (s : List ℕ) → Spells k s → begins is_hash s ≡ true → is_indented s ≡ true
hash_indented Ident s t e = absurd (begins_apart is_ident_head is_hash ident_no_hash s (ident_begins s t) e)
hash_indented Number s t e = absurd (begins_apart is_number_head is_hash number_no_hash s (number_head s (number_begins s t)) e)
hash_indented CharConst s t e = absurd (literal_no_hash s (char_headed s t) e)
hash_indented Str s t e = absurd (literal_no_hash s (str_headed s t) e)
hash_indented Punct s t e = go (begins is_hash s) e (punct_passes hash_or_indented refl s t)
  where
    go : (x : Bool) → x ≡ true → not x || is_indented s ≡ true → is_indented s ≡ true
    go true f g = g
    go false f g = absurd (false≢true f)
hash_indented Header s t e = absurd t
hash_indented Other s ((c, f, v), a, b, punct) e =
    absurd (punct (subst IsPunct (sym (f ∙ ap (λ z. z ∷ []) (eqb-true c 35 (subst (λ z. begins is_hash z ≡ true) f e)))) refl))

begins_false : (s rest : List ℕ) → 0 < length s → begins is_hash s ≡ false → begins is_hash (s ++ rest) ≡ false
begins_false [] rest some e = absurd (omega arith)
begins_false (c ∷ cs) rest some e = e

-- ---- what is on a line

-- the line begins with no hash
abbrev pub FirstPlain : List Put → Type 0
FirstPlain [] = Unit {0}
FirstPlain (p ∷ ps) = (rest : List ℕ) → begins is_hash (put_text p ++ rest) ≡ false

-- a directive can't begin with the first token
abbrev pub FirstOpen : List Put → Type 0
FirstOpen [] = Unit {0}
FirstOpen (p ∷ ps) = is_hash_text p.token.text ≡ false

abbrev last_of : Put → List Put → Written
last_of p [] = p.token
last_of p (q ∷ ps) = last_of q ps

abbrev pub last_put : List Put → Option Written
last_put [] = None
last_put (p ∷ ps) = Some (last_of p ps)

-- these tokens are on the line
pub record OnLine (l : Line) (ps : List Put) : Type 0 where
  pub spaced : AreSpaced ps
  pub plain : FirstPlain ps
  pub last : l.last ≡ last_put ps
  pub more : l.is_closed ≡ false → FirstOpen ps
  pub free : (profile : Profile) → AwaitNoHeader profile [] ps

pub empty_on : (number : ℕ) (system : Bool) → OnLine (empty_line number system) []
empty_on number system = record { spaced = tt; plain = tt; last = refl; more = λ e. tt; free = λ profile. tt }

pub no_hash : (l : Line) (ps : List Put) → OnLine l ps → ¬ BeginsWith (puts_text ps) (codes "#")
no_hash l [] on e = cc
no_hash l (p ∷ ps) on e = go (puts_text (p ∷ ps)) (on.plain (puts_text ps)) e
  where
    go : (s : List ℕ) → begins is_hash s ≡ false → take 1 s ≡ 35 ∷ [] → ⊥
    go [] f g = cc
    go (c ∷ cs) f g = eqb-false c 35 f cc

-- ---- one token more

spaced_more : (p : Put) (ps : List Put) (q : Put)
    → AreSpaced (p ∷ ps)
    → (q.before ≡ 0 → are_apart (last_of p ps) q.token ≡ false)
    → IsSpelled q.token
    → AreSpaced ((p ∷ ps) ++ q ∷ [])
spaced_more p [] q a h s = (a, λ e. h (omega arith), s)
spaced_more p (r ∷ ps) q a h s = (a.0, a.1, spaced_more r ps q a.2 h s)

last_more : (p : Put) (ps : List Put) (q : Put) → last_of p (ps ++ q ∷ []) ≡ q.token
last_more p [] q = refl
last_more p (r ∷ ps) q = last_more r ps q

-- after a token that begins no directive
open_free : (profile : Profile) (p : Put) (ps : List Put) → is_hash_text p.token.text ≡ false → AwaitNoHeader profile [] (p ∷ ps)
open_free profile p ps e = (λ h. h, second ps)
  where
    third : (q : Put) (qs : List Put) → AwaitNoHeader profile (p.token.text ∷ q.token.text ∷ []) qs
    third q [] = tt
    third q (r ∷ qs) = (
      λ h. false≢true (sym e ∙ (and_parts (is_hash_text p.token.text) (takes_header profile q.token.text) h).0),
      later_free profile p.token.text q.token.text r.token.text [] qs,
    )

    second : (qs : List Put) → AwaitNoHeader profile (p.token.text ∷ []) qs
    second [] = tt
    second (q ∷ qs) = (λ h. h, third q qs)

-- the first token of a line
first_text : (n : ℕ) (k : Kind) (s after rest : List ℕ) → Spells k s → 0 < length s → (is_indented s ≡ true → 0 < n) → begins is_hash (((spaces n ++ s) ++ after) ++ rest) ≡ false
first_text (suc n) k s after rest t some h = refl
first_text zero k s after rest t some h =
    ap (begins is_hash) (append_assoc s after rest) ∙ begins_false s (after ++ rest) some (go (begins is_hash s) refl)
  where
    go : (x : Bool) → begins is_hash s ≡ x → x ≡ false
    go true e = absurd (omega (arith, h (hash_indented k s t e)))
    go false e = refl

indented_some : (t : Token) → is_indented t.text ≡ true → 0 < first_spaces t
indented_some t e = go (padding (t.used.col - 1)) (padding (t.used.col - 1) == 0) (is_indented t.text) refl e
  where
    go : (n : ℕ) (x b : Bool) → n == 0 ≡ x → b ≡ true → 0 < (if x && b then 1 else n)
    go n x false f g = absurd (false≢true g)
    go n true true f g = omega arith
    go n false true f g = omega (arith, eqb-false n 0 f)

spaces_first : (l : Line) (t : Token) → l.last ≡ None → spaces_before l t ≡ first_spaces t
spaces_first l t e = ap (λ o. spaces_before (record l { last = o }) t) e

spaces_later : (l : Line) (t : Token) (last : Written) → l.last ≡ Some last → spaces_before l t ≡ later_spaces l.columns last t
spaces_later l t last e = ap (λ o. spaces_before (record l { last = o }) t) e

apart_later : (columns : ℕ) (last : Written) (t : Token) → later_spaces columns last t ≡ 0 → are_apart last (written t) ≡ false
apart_later columns last t e = go t.space (are_apart last (written t)) (column_spaces (columns + space_between last t) t) e
  where
    go : (a b : Bool) (n : ℕ) → (if a || b then 1 else 0) + n ≡ 0 → b ≡ false
    go true b n f = absurd (omega arith)
    go false true n f = absurd (omega arith)
    go false false n f = refl

-- a token as it is put on a line
abbrev pub token_put : Line → Token → Put
token_put l t = record { before = spaces_before l t; token = written t; after = space_after t.text }

first_put : (l : Line) (t : Token) → IsSpelled (written t) → 0 < length t.text → l.last ≡ None → OnLine (line_after l t) (token_put l t ∷ [])
first_put l t spelled some e = record {
  spaced = spelled;
  plain = λ rest. first_text (spaces_before l t) t.kind t.text (spaces (space_after t.text)) rest spelled.0 some (λ i. subst (λ n. 0 < n) (sym (spaces_first l t e)) (indented_some t i));
  last = refl;
  more = λ c. sym (ap (λ o. is_none o && is_hash_text t.text) e) ∙ c;
  free = λ profile. (λ h. h, tt);
}

later_put : (l : Line) (p : Put) (ps : List Put) (t : Token) → OnLine l (p ∷ ps) → IsSpelled (written t) → l.is_closed ≡ false → OnLine (line_after l t) ((p ∷ ps) ++ token_put l t ∷ [])
later_put l p ps t on spelled open_line = record {
  spaced = spaced_more p ps (token_put l t) on.spaced (λ z. apart_later l.columns (last_of p ps) t (sym (spaces_later l t (last_of p ps) on.last) ∙ z)) spelled;
  plain = on.plain;
  last = sym (ap Some (last_more p ps (token_put l t)));
  more = λ c. on.more open_line;
  free = λ profile. open_free profile p (ps ++ token_put l t ∷ []) (on.more open_line);
}

pub put_on : (l : Line) (ps : List Put) (t : Token) → OnLine l ps → IsSpelled (written t) → 0 < length t.text → l.is_closed ≡ false → OnLine (line_after l t) (ps ++ token_put l t ∷ [])
put_on l [] t on spelled some open_line = first_put l t spelled some on.last
put_on l (p ∷ ps) t on spelled some open_line = later_put l p ps t on spelled open_line

-- the text of the line with it
pub put_text_on : (l : Line) (ps : List Put) (t : Token) (rest : List ℕ) → puts_text (ps ++ token_put l t ∷ []) ++ rest ≡ puts_text ps ++ (token_text l t ++ rest)
put_text_on l ps t rest =
    ap (λ z. z ++ rest) (flat_map-append put_text ps (token_put l t ∷ []) ∙ ap (λ z. puts_text ps ++ z) (append-nil (token_text l t)))
    ∙ append_assoc (puts_text ps) (token_text l t) rest
