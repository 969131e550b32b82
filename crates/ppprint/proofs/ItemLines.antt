-- The text of items is made of lines of tokens, of markers and of pragmas: what holds of each such line, and of what follows it, holds of the text.
use Rattle.std.proofs.Common.{◌≡◌, ℕ, zero, suc, ◌+◌, ◌-◌, ◌<◌, Bool, true, false, not, ◌&&◌, ◌==◌, List, [], ◌∷◌, ◌++◌, map, codes, decimal, refl, sym, ap, ◌∙◌, subst, arith, append_assoc, append-nil, replicate}
use Rattle.std.specs.Prelude.{Option, Some, None, if◌then◌else◌, is_some, nat_lt, nat_le}
use Rattle.std.specs.List.{AllByRecursion, list_all}
use Rattle.std.proofs.lemmas.Bool.{false≢true, and_parts, eqb-true, eqb-false, ltb-true}
use Rattle.std.proofs.lemmas.Bool.Decides.{nat_tests}
use Rattle.pptext.specs.declared.sources.Profile.{Profile}
use Rattle.pptext.specs.declared.tokens.Kind.TheVariants.{Number, Str, Punct}
use Rattle.pptext.specs.declared.tokens.Token.{Token}
use Rattle.pptext.specs.Lexemes.{BeginsWith}
use Rattle.pptext.specs.Spellings.{is_digit}
use Rattle.ppprint.specs.Apart.{Written}
use Rattle.ppprint.specs.Laws.{IsSpelled, IsPrintable, AreWellSpelled, turn_reading, readings_of}
use Rattle.ppprint.specs.Reads.{Reading, ReadsToken, ReadsPragma, next_line, nowhere}
use Rattle.ppprint.specs.Shown.{Location, PragmaToken, Turn, Enters, Leaves, Renumbers, Shown, ShowsToken, ShowsPragma, ShowsMark}
use Rattle.ppprint.specs.Text.{Line, empty_line, line_end, marker, most_new_lines, Way, Stay, Down, Jump, same_flag, way_to, way_text, way_line}
use Rattle.ppprint.specs.Text.{written, token_text, space_after, line_after, pragma_written, pragma_text, own_line, text_after, text_of}
use Rattle.ppprint.proofs.LiteralEnds.{is_literal, str_literal}
use Rattle.ppprint.proofs.MarkedLines.{put, flag_put, marker_puts, flag_puts, marker_text, marker_spaced, marker_free, decimal_digits, pragma_puts, tokens_puts, pragma_line_text, pragma_spaced, pragma_free}
use Rattle.ppprint.proofs.SpacedLines.{Put, puts_text, puts_tokens, AreSpaced, AwaitNoHeader}
use Rattle.ppprint.proofs.TokenEnds.{spelling_some}
use Rattle.ppprint.proofs.TokenLines.{OnLine, empty_on, no_hash, token_put, put_on, put_text_on}

-- ---- lines

-- a `\` that is the last token has a space after it
abbrev pub EndsApart : List Put → Type 0
EndsApart [] = Unit {0}
EndsApart (p ∷ []) = p.token.text ≡ 92 ∷ [] → 0 < p.after
EndsApart (p ∷ q ∷ ps) = EndsApart (q ∷ ps)

-- a line of tokens, each with a text of this kind
pub record IsLine (Q : List ℕ → Type 0) (ps : List Put) : Type 0 where
  pub spaced : AreSpaced ps
  pub free : (profile : Profile) → AwaitNoHeader profile [] ps
  pub each : AllByRecursion (λ p. Q p.token.text) ps
  pub ends : EndsApart ps

-- what is read of these tokens
abbrev pub tokens_at : Location → List Put → List Reading
tokens_at at ps = map (ReadsToken at) (puts_tokens ps)

-- no `?`
abbrev pub is_plain : List ℕ → Bool
is_plain s = list_all (λ c. not (c == 63)) s

-- What is asked of a relation R between locations, texts and readings, so that it holds of the text of items: that it holds of no text, and of each
-- line before a text of which it holds. Q holds of the texts of the tokens, and N of names that R doesn't tell apart.
pub record IsReader (Q : List ℕ → Type 0) (N : List ℕ → List ℕ → Type 0) (R : Location → List ℕ → List Reading → Type 0) : Type 0 where
  pub plain : (s : List ℕ) → is_plain s ≡ true → Q s
  pub other_way : (a b : List ℕ) → N a b → N b a
  pub nothing : (at : Location) → R at [] []
  pub tokens : (at : Location) (ps : List Put) (rest : List ℕ) (r : List Reading)
      → IsLine Q ps
      → (¬ BeginsWith (puts_text ps) (codes "#"))
      → R (next_line at) rest r
      → R at (puts_text ps ++ 10 ∷ rest) (tokens_at at ps ++ r)
  pub marker : (any at : Location) (turn : Turn) (rest : List ℕ) (r : List Reading)
      → IsPrintable at
      → IsLine Q (marker_puts turn at)
      → R at rest r
      → R any (puts_text (marker_puts turn at) ++ 10 ∷ rest) (turn_reading at turn ++ r)
  pub pragma : (at : Location) (ts : List PragmaToken) (rest : List ℕ) (r : List Reading)
      → IsLine Q (pragma_puts ts)
      → R (next_line at) rest r
      → R at (puts_text (pragma_puts ts) ++ 10 ∷ rest) (ReadsPragma at (map pragma_written ts) ∷ r)
  pub moves : (a b : Location) (ps : List Put) (text : List ℕ) (r : List Reading)
      → N a.name b.name
      → a.line ≡ b.line
      → a.system ≡ b.system
      → R a text (tokens_at a ps ++ r)
      → R b text (tokens_at b ps ++ r)

-- the names and spellings of an item
abbrev pub ItemHas : (List ℕ → Type 0) → Shown → Type 0
ItemHas Q (ShowsToken at t) = Q at.name × Q t.text
ItemHas Q (ShowsPragma at ts) = Q at.name × AllByRecursion (λ (t : PragmaToken). Q t.text) ts
ItemHas Q (ShowsMark at turn) = Q at.name

-- each item has the name of the last mark before it
abbrev pub NamedBy : (List ℕ → List ℕ → Type 0) → List ℕ → List Shown → Type 0
NamedBy N name [] = Unit {0}
NamedBy N name (ShowsToken at t ∷ items) = N at.name name × NamedBy N name items
NamedBy N name (ShowsPragma at ts ∷ items) = N at.name name × NamedBy N name items
NamedBy N name (ShowsMark at turn ∷ items) = NamedBy N at.name items

-- ---- the texts of tokens

digits_plain : (ds : List ℕ) → AllByRecursion (λ d. is_digit d ≡ true) ds → is_plain ds ≡ true
digits_plain [] a = refl
digits_plain (d ∷ ds) a = go (not (d == 63)) (other d a.0) (digits_plain ds a.1)
  where
    other : (c : ℕ) → is_digit c ≡ true → not (c == 63) ≡ true
    other c e = grind (arith, nat_tests)

    go : (x : Bool) → x ≡ true → is_plain ds ≡ true → x && is_plain ds ≡ true
    go true e f = f
    go false e f = e

backslash_space : (text : List ℕ) → text ≡ 92 ∷ [] → 0 < space_after text
backslash_space text e = subst (λ z. 0 < space_after z) (sym e) (omega arith)

tokens_end : (last : Option Written) (ts : List PragmaToken) → EndsApart (tokens_puts last ts)
tokens_end last [] = tt
tokens_end last (t ∷ []) = backslash_space t.text
tokens_end last (t ∷ u ∷ []) = backslash_space u.text
tokens_end last (t ∷ u ∷ v ∷ ts) = tokens_end (Some (pragma_written t)) (u ∷ v ∷ ts)

pragma_end : (ts : List PragmaToken) → EndsApart (pragma_puts ts)
pragma_end [] = λ e. absurd cc
pragma_end (t ∷ []) = tokens_end None (t ∷ [])
pragma_end (t ∷ u ∷ ts) = tokens_end None (t ∷ u ∷ ts)

-- a text of other characters
no_backslash : (c : ℕ) (cs : List ℕ) → c == 92 ≡ false → c ∷ cs ≡ 92 ∷ [] → ⊥
no_backslash c cs e f = eqb-false c 92 e cc

flag_end : (p : Put) (c : ℕ) → c == 92 ≡ false → p.token.text ≡ c ∷ [] → EndsApart (p ∷ [])
flag_end p c e f g = absurd (no_backslash c [] e (sym f ∙ g))

name_end : (at : Location) → IsPrintable at → EndsApart (put 1 Str at.name ∷ [])
name_end at h e = absurd (false≢true (sym (ap is_literal e) ∙ str_literal at.name h.name))

marker_end : (turn : Turn) (at : Location) → IsPrintable at → EndsApart (marker_puts turn at)
marker_end turn at h = go turn at.system
  where
    go : (t : Turn) (system : Bool) → EndsApart (put 0 Punct (codes "#") ∷ put 1 Number (decimal at.line) ∷ put 1 Str at.name ∷ flag_puts t system)
    go Enters true = flag_end (flag_put (codes "3")) 51 refl refl
    go Enters false = flag_end (flag_put (codes "1")) 49 refl refl
    go Leaves true = flag_end (flag_put (codes "3")) 51 refl refl
    go Leaves false = flag_end (flag_put (codes "2")) 50 refl refl
    go Renumbers true = flag_end (flag_put (codes "3")) 51 refl refl
    go Renumbers false = name_end at h

-- ---- from location to location

-- the location of a line
abbrev pub here : List ℕ → Line → Location
here name l = record { name = name; line = l.number; system = l.system }

-- what is on the line after a way
abbrev way_puts : Way → List Put → List Put
way_puts Stay ps = ps
way_puts way ps = []

abbrev Reaches : Line → Location → Way → Type 0
Reaches l at Stay = (l.number ≡ at.line) × (l.system ≡ at.system) × (l.is_closed ≡ false)
Reaches l at (Down n) = (l.number + n ≡ at.line) × (l.system ≡ at.system) × (0 < n)
Reaches l at Jump = Unit {0}

same_flags : (a b : Bool) → same_flag a b ≡ true → a ≡ b
same_flags true true e = refl
same_flags true false e = absurd (false≢true e)
same_flags false true e = absurd (false≢true e)
same_flags false false e = refl

reaches : (l : Line) (at : Location) → Reaches l at (way_to l at)
reaches l at = go (same_flag l.system at.system) (l.number == at.line) l.is_closed (nat_lt l.number at.line && nat_le (at.line - l.number) most_new_lines) refl refl refl refl
  where
    go : (f e c d : Bool)
        → same_flag l.system at.system ≡ f
        → l.number == at.line ≡ e
        → l.is_closed ≡ c
        → nat_lt l.number at.line && nat_le (at.line - l.number) most_new_lines ≡ d
        → Reaches l at (if not f then Jump else if e then (if c then Jump else Stay) else if d then Down (at.line - l.number) else Jump)
    go false e c d p q r s = tt
    go true true true d p q r s = tt
    go true true false d p q r s = (eqb-true l.number at.line q, same_flags l.system at.system p, r)
    go true false c true p q r s =
        let low = ltb-true l.number at.line (and_parts (nat_lt l.number at.line) (nat_le (at.line - l.number) most_new_lines) s).0 in
        (omega arith, same_flags l.system at.system p, omega arith)
    go true false c false p q r s = tt

way_open : (l : Line) (at : Location) (way : Way) → Reaches l at way → (way_line l at way).is_closed ≡ false
way_open l at Stay h = h.2
way_open l at (Down n) h = refl
way_open l at Jump h = refl

way_number : (l : Line) (at : Location) (way : Way) → Reaches l at way → (way_line l at way).number ≡ at.line
way_number l at Stay h = h.0
way_number l at (Down n) h = refl
way_number l at Jump h = refl

way_system : (l : Line) (at : Location) (way : Way) → Reaches l at way → (way_line l at way).system ≡ at.system
way_system l at Stay h = h.1
way_system l at (Down n) h = refl
way_system l at Jump h = refl

-- ---- items

-- what is written on a way and then of a token, or of a pragma, and the items after it
abbrev token_after : Line → Way → Location → Token → List Shown → List ℕ
token_after l way at t items = let m = way_line l at way in way_text l at way ++ token_text m t ++ text_after (line_after m t) items

abbrev pragma_after : Line → Way → Location → List PragmaToken → List Shown → List ℕ
pragma_after l way at ts items = way_text l at way ++ own_line (way_line l at way) at ++ pragma_text ts ++ text_after (empty_line (at.line + 1) at.system) items

each_more : (Q : List ℕ → Type 0) (ps : List Put) (q : Put) → AllByRecursion (λ p. Q p.token.text) ps → Q q.token.text → AllByRecursion (λ p. Q p.token.text) (ps ++ q ∷ [])
each_more Q [] q a h = (h, tt)
each_more Q (p ∷ ps) q a h = (a.0, each_more Q ps q a.1 h)

ends_more : (ps : List Put) (q : Put) → EndsApart (q ∷ []) → EndsApart (ps ++ q ∷ [])
ends_more [] q h = h
ends_more (p ∷ []) q h = h
ends_more (p ∷ r ∷ ps) q h = ends_more (r ∷ ps) q h

module _ {Q : List ℕ → Type 0} {N : List ℕ → List ℕ → Type 0} {R : Location → List ℕ → List Reading → Type 0} (reader : IsReader Q N R) where
  -- such tokens are on a line
  record Holds (l : Line) (ps : List Put) : Type 0 where
    on : OnLine l ps
    each : AllByRecursion (λ p. Q p.token.text) ps
    ends : EndsApart ps

  holds_none : (number : ℕ) (system : Bool) → Holds (empty_line number system) []
  holds_none number system = record { on = empty_on number system; each = tt; ends = tt }

  is_line : (l : Line) (ps : List Put) → Holds l ps → IsLine Q ps
  is_line l ps h = record { spaced = h.on.spaced; free = h.on.free; each = h.each; ends = h.ends }

  read_tokens : (at : Location) (l : Line) (ps : List Put) (rest : List ℕ) (r : List Reading) → Holds l ps → R (next_line at) rest r → R at (puts_text ps ++ 10 ∷ rest) (tokens_at at ps ++ r)
  read_tokens at l ps rest r h later = reader.tokens at ps rest r (is_line l ps h) (no_hash l ps h.on) later

  flags_each : (turn : Turn) (system : Bool) → AllByRecursion (λ p. Q p.token.text) (flag_puts turn system)
  flags_each Enters true = (reader.plain (codes "1") refl, (reader.plain (codes "3") refl, tt))
  flags_each Enters false = (reader.plain (codes "1") refl, tt)
  flags_each Leaves true = (reader.plain (codes "2") refl, (reader.plain (codes "3") refl, tt))
  flags_each Leaves false = (reader.plain (codes "2") refl, tt)
  flags_each Renumbers true = (reader.plain (codes "3") refl, tt)
  flags_each Renumbers false = tt

  marker_line : (turn : Turn) (at : Location) → IsPrintable at → Q at.name → IsLine Q (marker_puts turn at)
  marker_line turn at h q = record {
    spaced = marker_spaced turn at h;
    free = λ profile. marker_free profile turn at h;
    each = (reader.plain (codes "#") refl, (reader.plain (decimal at.line) (digits_plain (decimal at.line) (decimal_digits at.line h.line)), (q, flags_each turn at.system)));
    ends = marker_end turn at h;
  }

  read_marker : (any at : Location) (turn : Turn) (rest : List ℕ) (r : List Reading) → IsPrintable at → Q at.name → R at rest r → R any (marker turn at ++ rest) (turn_reading at turn ++ r)
  read_marker any at turn rest r h q later =
      subst (λ z. R any z (turn_reading at turn ++ r)) (sym (marker_text turn at rest)) (reader.marker any at turn rest r h (marker_line turn at h q) later)

  pragma_each : (last : Option Written) (ts : List PragmaToken) → AllByRecursion (λ (t : PragmaToken). Q t.text) ts → AllByRecursion (λ p. Q p.token.text) (tokens_puts last ts)
  pragma_each last [] a = tt
  pragma_each last (t ∷ []) a = a
  pragma_each last (t ∷ u ∷ ts) a = (a.0, pragma_each (Some (pragma_written t)) (u ∷ ts) a.1)

  read_pragma : (at : Location) (ts : List PragmaToken) (rest : List ℕ) (r : List Reading)
      → AllByRecursion (λ t. IsSpelled (pragma_written t)) ts
      → AllByRecursion (λ (t : PragmaToken). Q t.text) ts
      → R (next_line at) rest r
      → R at (pragma_text ts ++ rest) (ReadsPragma at (map pragma_written ts) ∷ r)
  read_pragma at ts rest r h a later =
      let line : IsLine Q (pragma_puts ts) = record {
        spaced = pragma_spaced ts h;
        free = λ profile. pragma_free profile ts;
        each = (reader.plain (codes "#") refl, (reader.plain (codes "pragma") refl, pragma_each None ts a));
        ends = pragma_end ts;
      } in
      subst (λ z. R at z (ReadsPragma at (map pragma_written ts) ∷ r)) (sym (pragma_line_text ts rest)) (reader.pragma at ts rest r line later)

  -- ---- from line to line

  lower : Location → ℕ → Location
  lower at n = record { name = at.name; line = at.line + n; system = at.system }

  below : (a b : Location) (n : ℕ) → a.name ≡ b.name → a.line ≡ b.line + n → a.system ≡ b.system → a ≡ lower b n
  unfolding lower
  below a b n p q s = λ i. record { name = p i; line = q i; system = s i }

  empty_lines : (n : ℕ) (at : Location) (rest : List ℕ) (r : List Reading) → R (lower at n) rest r → R at (replicate n 10 ++ rest) r
  unfolding lower
  empty_lines zero at rest r later = subst (λ z. R z rest r) (sym (below at at zero refl (omega arith) refl)) later
  empty_lines (suc n) at rest r later =
      read_tokens at (empty_line 0 false) [] (replicate n 10 ++ rest) r (holds_none 0 false)
      (empty_lines n (next_line at) rest r (subst (λ z. R z rest r) (below (lower at (suc n)) (next_line at) n refl (omega arith) refl) later))

  lines_down : (l : Line) (ps : List Put) (n : ℕ) (at : Location) (rest : List ℕ) (r : List Reading)
      → Holds l ps
      → 0 < n
      → R (lower at n) rest r
      → R at (puts_text ps ++ (replicate n 10 ++ rest)) (tokens_at at ps ++ r)
  unfolding lower
  lines_down l ps zero at rest r h some later = absurd (omega arith)
  lines_down l ps (suc n) at rest r h some later =
      read_tokens at l ps (replicate n 10 ++ rest) r h
      (empty_lines n (next_line at) rest r (subst (λ z. R z rest r) (below (lower at (suc n)) (next_line at) n refl (omega arith) refl) later))

  -- a line is ended, and a text follows that can be read anywhere
  line_ended : (l : Line) (ps : List Put) (at : Location) (rest : List ℕ) (r : List Reading)
      → Holds l ps
      → ((any : Location) → R any rest r)
      → R at (puts_text ps ++ (line_end l ++ rest)) (tokens_at at ps ++ r)
  line_ended l [] at rest r h later = subst (λ o. R at ((if is_some o then 10 ∷ [] else []) ++ rest) r) (sym h.on.last) (later at)
  line_ended l (p ∷ ps) at rest r h later =
      subst (λ o. R at (puts_text (p ∷ ps) ++ ((if is_some o then 10 ∷ [] else []) ++ rest)) (tokens_at at (p ∷ ps) ++ r)) (sym h.on.last)
      (read_tokens at l (p ∷ ps) rest r h (later (next_line at)))

  way_holds : (l : Line) (ps : List Put) (at : Location) (way : Way) → Holds l ps → Holds (way_line l at way) (way_puts way ps)
  way_holds l ps at Stay h = h
  way_holds l ps at (Down n) h = holds_none at.line at.system
  way_holds l ps at Jump h = holds_none at.line at.system

  -- the same location, under a name that isn't told apart
  lowered : (name : List ℕ) (l : Line) (at : Location) (n : ℕ) (rest : List ℕ) (r : List Reading)
      → N at.name name
      → l.number + n ≡ at.line
      → l.system ≡ at.system
      → R at rest r
      → R (lower (here name l) n) rest r
  unfolding lower
  lowered name l at n rest r named line system later = reader.moves at (lower (here name l) n) [] rest r named (sym line) (sym system) later

  read_way : (name : List ℕ) (l : Line) (ps : List Put) (at : Location) (way : Way) (rest : List ℕ) (r : List Reading)
      → Holds l ps
      → Reaches l at way
      → N at.name name
      → IsPrintable at
      → Q at.name
      → R at (puts_text (way_puts way ps) ++ rest) (tokens_at at (way_puts way ps) ++ r)
      → R (here name l) (puts_text ps ++ (way_text l at way ++ rest)) (tokens_at (here name l) ps ++ r)
  read_way name l ps at Stay rest r h reached named printable q later = reader.moves at (here name l) ps (puts_text ps ++ rest) r named (sym reached.0) (sym reached.1) later
  read_way name l ps at (Down n) rest r h reached named printable q later =
      lines_down l ps n (here name l) rest r h reached.2 (lowered name l at n rest r named reached.0 reached.1 later)
  read_way name l ps at Jump rest r h reached named printable q later =
      subst (λ z. R (here name l) (puts_text ps ++ z) (tokens_at (here name l) ps ++ r)) (sym (append_assoc (line_end l) (marker Renumbers at) rest))
      (line_ended l ps (here name l) (marker Renumbers at ++ rest) r h (λ any. read_marker any at Renumbers rest r printable q later))

  -- ---- items

  -- the rest of the items after a line
  Later : List ℕ → List Shown → Type 0
  Later name items = (l : Line) (ps : List Put) → Holds l ps → R (here name l) (puts_text ps ++ text_after l items) (tokens_at (here name l) ps ++ readings_of items)

  tokens_more : (at : Location) (ps : List Put) (q : Put) (r : List Reading) → tokens_at at (ps ++ q ∷ []) ++ r ≡ tokens_at at ps ++ (ReadsToken at q.token ∷ r)
  tokens_more at [] q r = refl
  tokens_more at (p ∷ ps) q r = ap (λ z. ReadsToken at p.token ∷ z) (tokens_more at ps q r)

  token_holds : (m : Line) (ps : List Put) (t : Token) → Holds m ps → m.is_closed ≡ false → IsSpelled (written t) → Q t.text → Holds (line_after m t) (ps ++ token_put m t ∷ [])
  token_holds m ps t h open_line spelled q = record {
    on = put_on m ps t h.on spelled (spelling_some t.kind t.text spelled.0) open_line;
    each = each_more Q ps (token_put m t) h.each q;
    ends = ends_more ps (token_put m t) (backslash_space t.text);
  }

  read_token : (name : List ℕ) (at : Location) (t : Token) (items : List Shown) (m : Line) (ps : List Put)
      → Holds (line_after m t) (ps ++ token_put m t ∷ [])
      → N name at.name
      → m.number ≡ at.line
      → m.system ≡ at.system
      → Later name items
      → R at (puts_text ps ++ (token_text m t ++ text_after (line_after m t) items)) (tokens_at at ps ++ (ReadsToken at (written t) ∷ readings_of items))
  unfolding Later
  read_token name at t items m ps h named line system later =
      let qs = ps ++ token_put m t ∷ [] in
      let rest = text_after (line_after m t) items in
      let found = reader.moves (here name (line_after m t)) at qs (puts_text qs ++ rest) (readings_of items) named line system (later (line_after m t) qs h) in
      subst (λ z. R at z (tokens_at at ps ++ (ReadsToken at (written t) ∷ readings_of items))) (put_text_on m ps t rest)
      (subst (λ z. R at (puts_text qs ++ rest) z) (tokens_more at ps (token_put m t) (readings_of items)) found)

  step_token : (name : List ℕ) (l : Line) (ps : List Put) (at : Location) (t : Token) (items : List Shown) (way : Way)
      → Holds l ps
      → Reaches l at way
      → N at.name name
      → IsPrintable at × IsSpelled (written t)
      → Q at.name × Q t.text
      → Later name items
      → R (here name l) (puts_text ps ++ token_after l way at t items) (tokens_at (here name l) ps ++ (ReadsToken at (written t) ∷ readings_of items))
  step_token name l ps at t items way h reached named spelled q later =
      let m = way_line l at way in
      let r = ReadsToken at (written t) ∷ readings_of items in
      let held = token_holds m (way_puts way ps) t (way_holds l ps at way h) (way_open l at way reached) spelled.1 q.1 in
      subst (λ z. R (here name l) (puts_text ps ++ z) (tokens_at (here name l) ps ++ r)) (sym (append_assoc (way_text l at way) (token_text m t) (text_after (line_after m t) items)))
      (read_way name l ps at way (token_text m t ++ text_after (line_after m t) items) r h reached named spelled.0 q.0
      (read_token name at t items m (way_puts way ps) held (reader.other_way at.name name named) (way_number l at way reached) (way_system l at way reached) later))

  read_own : (at : Location) (m : Line) (ps : List Put) (rest : List ℕ) (r : List Reading)
      → Holds m ps
      → IsPrintable at
      → Q at.name
      → R at rest r
      → R at (puts_text ps ++ (own_line m at ++ rest)) (tokens_at at ps ++ r)
  read_own at m [] rest r h printable q later =
      subst (λ o. R at ((if is_some o then line_end m ++ marker Renumbers at else []) ++ rest) r) (sym h.on.last) later
  read_own at m (p ∷ ps) rest r h printable q later =
      subst (λ o. R at (puts_text (p ∷ ps) ++ ((if is_some o then line_end m ++ marker Renumbers at else []) ++ rest)) (tokens_at at (p ∷ ps) ++ r)) (sym h.on.last)
      (subst (λ z. R at (puts_text (p ∷ ps) ++ z) (tokens_at at (p ∷ ps) ++ r)) (sym (append_assoc (line_end m) (marker Renumbers at) rest))
      (line_ended m (p ∷ ps) at (marker Renumbers at ++ rest) r h (λ any. read_marker any at Renumbers rest r printable q later)))

  step_pragma : (name : List ℕ) (l : Line) (ps : List Put) (at : Location) (ts : List PragmaToken) (items : List Shown) (way : Way)
      → Holds l ps
      → Reaches l at way
      → N at.name name
      → IsPrintable at × AllByRecursion (λ t. IsSpelled (pragma_written t)) ts
      → Q at.name × AllByRecursion (λ (t : PragmaToken). Q t.text) ts
      → Later name items
      → R (here name l) (puts_text ps ++ pragma_after l way at ts items) (tokens_at (here name l) ps ++ (ReadsPragma at (map pragma_written ts) ∷ readings_of items))
  unfolding Later
  step_pragma name l ps at ts items way h reached named spelled q later =
      let m = way_line l at way in
      let next = empty_line (at.line + 1) at.system in
      let rest = text_after next items in
      let r = ReadsPragma at (map pragma_written ts) ∷ readings_of items in
      let behind = reader.moves (here name next) (next_line at) [] rest (readings_of items) (reader.other_way at.name name named) refl refl (later next [] (holds_none (at.line + 1) at.system)) in
      let group : ((way_text l at way ++ own_line m at) ++ pragma_text ts) ++ rest ≡ way_text l at way ++ (own_line m at ++ (pragma_text ts ++ rest)) =
      append_assoc (way_text l at way ++ own_line m at) (pragma_text ts) rest ∙ append_assoc (way_text l at way) (own_line m at) (pragma_text ts ++ rest) in
      subst (λ z. R (here name l) (puts_text ps ++ z) (tokens_at (here name l) ps ++ r)) (sym group)
      (read_way name l ps at way (own_line m at ++ (pragma_text ts ++ rest)) r h reached named spelled.0 q.0
      (read_own at m (way_puts way ps) (pragma_text ts ++ rest) r (way_holds l ps at way h) spelled.0 q.0
      (read_pragma at ts rest (readings_of items) spelled.1 q.1 behind)))

  step_mark : (name : List ℕ) (l : Line) (ps : List Put) (at : Location) (turn : Turn) (items : List Shown)
      → Holds l ps
      → IsPrintable at
      → Q at.name
      → Later at.name items
      → R (here name l) (puts_text ps ++ (line_end l ++ marker turn at ++ text_after (empty_line at.line at.system) items)) (tokens_at (here name l) ps ++ (turn_reading at turn ++ readings_of items))
  unfolding Later
  step_mark name l ps at turn items h printable q later =
      let next = empty_line at.line at.system in
      let rest = text_after next items in
      let r = turn_reading at turn ++ readings_of items in
      subst (λ z. R (here name l) (puts_text ps ++ z) (tokens_at (here name l) ps ++ r)) (sym (append_assoc (line_end l) (marker turn at) rest))
      (line_ended l ps (here name l) (marker turn at ++ rest) r h
      (λ any. read_marker any at turn rest (readings_of items) printable q (later next [] (holds_none at.line at.system))))

  read_items : (name : List ℕ) (items : List Shown) → AreWellSpelled items → AllByRecursion (ItemHas Q) items → NamedBy N name items → Later name items
  unfolding Later
  read_items name [] spelled has named l ps h =
      subst (λ z. R (here name l) (puts_text ps ++ z) (tokens_at (here name l) ps ++ [])) (append-nil (line_end l)) (line_ended l ps (here name l) [] [] h (λ any. reader.nothing any))
  read_items name (ShowsToken at t ∷ items) spelled has named l ps h =
      step_token name l ps at t items (way_to l at) h (reaches l at) named.0 spelled.0 has.0 (read_items name items spelled.1 has.1 named.1)
  read_items name (ShowsPragma at ts ∷ items) spelled has named l ps h =
      step_pragma name l ps at ts items (way_to l at) h (reaches l at) named.0 spelled.0 has.0 (read_items name items spelled.1 has.1 named.1)
  read_items name (ShowsMark at turn ∷ items) spelled has named l ps h =
      step_mark name l ps at turn items h spelled.0 has.0 (read_items at.name items spelled.1 has.1 named)

  -- The relation holds of the text of items.
  pub text_reads : (items : List Shown) → AreWellSpelled items → AllByRecursion (ItemHas Q) items → NamedBy N [] items → R nowhere (text_of items) (readings_of items)
  unfolding Later
  text_reads items spelled has named = read_items [] items spelled has named (empty_line 0 false) [] (holds_none 0 false)
