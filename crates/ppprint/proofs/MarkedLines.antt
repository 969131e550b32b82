-- The tokens and spaces of line markers and of lines of pragmas.
use Rattle.std.proofs.Common.{◌≡◌, ℕ, ◌+◌, ◌<◌, ◌^◌, Bool, true, false, ◌||◌, ◌&&◌, ◌==◌, List, [], ◌∷◌, ◌++◌, length, map, flat_map, codes, decimal, refl, sym, ap, ◌∙◌, subst, inl, inr, arith, append_assoc, append-nil}
use Rattle.std.specs.Prelude.{Option, Some, None, if◌then◌else◌}
use Rattle.std.specs.List.{AllByRecursion}
use Rattle.std.specs.Str.{bytes_eq}
use Rattle.std.proofs.lemmas.Bool.{false≢true, and_parts, or_cases}
use Rattle.std.proofs.lemmas.Bool.Decides.{nat_tests}
use Rattle.std.proofs.lemmas.Fmt.{decimal_is_IsNumeral}
use Rattle.std.proofs.lemmas.Slice.Eq.{bytes_eq-Decides}
use Rattle.std.proofs.lemmas.Str.Parse.{digit_from_value}
use Rattle.std.specs.Str.Parse.{AllDigits}
use Rattle.std.specs.Char.{digit_value}
use Rattle.pptext.specs.declared.sources.Profile.{Profile}
use Rattle.pptext.specs.declared.tokens.Kind.{Kind}
use Rattle.pptext.specs.declared.tokens.Kind.TheVariants.{Ident, Number, Str, Punct}
use Rattle.pptext.specs.Languages.{One, Either}
use Rattle.pptext.specs.Lexemes.{takes_header}
use Rattle.pptext.specs.Profiles.{is_gnu}
use Rattle.pptext.specs.Sources.{IsUnmatchedQuote}
use Rattle.pptext.specs.Spellings.{is_digit, is_nondigit, IsNondigit, IsIdent, IsNumberPart, IsNumber, IsStr}
use Rattle.pptext.proofs.KindUniqueness.{begins, is_ident_head, is_number_head, number_begins, number_head}
use Rattle.ppprint.specs.Apart.{Written, are_apart}
use Rattle.ppprint.specs.Laws.{IsSpelled, IsPrintable}
use Rattle.ppprint.specs.Reads.{token}
use Rattle.ppprint.specs.Shown.{Location, PragmaToken, Turn, Enters, Leaves, Renumbers}
use Rattle.ppprint.specs.Text.{marker, turn_flag, system_flag, spaces, space_after, pragma_written, pragma_space, pragma_tokens_text, pragma_text}
use Rattle.ppprint.proofs.LiteralEnds.{is_literal, str_literal}
use Rattle.ppprint.proofs.SpacedLines.{Put, puts_text, puts_tokens, AreSpaced, AwaitNoHeader}

-- ---- spellings

-- no text that passes a test is an unmatched quote, if the quotes don't pass it
pub lone : (test : List ℕ → Bool) → test (39 ∷ []) ≡ false → test (34 ∷ []) ≡ false → (s : List ℕ) → test s ≡ true → ¬ IsUnmatchedQuote s
lone test a b s t (inl e) = false≢true (sym a ∙ (sym (ap test e) ∙ t))
lone test a b s t (inr e) = false≢true (sym b ∙ (sym (ap test e) ∙ t))

pub str_spelled : (name : List ℕ) → IsStr name → IsSpelled (token Str name)
str_spelled name t = (t, lone is_literal refl refl name (str_literal name t))

pub number_spelled : (s : List ℕ) → IsNumber s → IsSpelled (token Number s)
number_spelled s t = (t, lone (begins is_number_head) refl refl s (number_head s (number_begins s t)))

is_hash : ℕ → Bool
is_hash c = c == 35

pub hash_spelled : IsSpelled (token Punct (codes "#"))
unfolding is_hash
hash_spelled = (refl, lone (begins is_hash) refl refl (codes "#") refl)

-- characters, each by itself
abbrev each : List ℕ → List (List ℕ)
each xs = map (λ (x : ℕ). x ∷ []) xs

each_joined : (xs : List ℕ) → xs ≡ flat_map (λ p. p) (each xs)
each_joined [] = refl
each_joined (x ∷ xs) = ap (λ z. x ∷ z) (each_joined xs)

digit_part : (y : ℕ) → is_digit y ≡ true → is_digit y || y == 46 ≡ true
digit_part y e = grind (arith, nat_tests)

digits_number : (c : ℕ) (cs : List ℕ) → is_digit c ≡ true → AllByRecursion (λ d. is_digit d ≡ true) cs → IsNumber (c ∷ cs)
digits_number c cs d all = (c ∷ [], cs, refl, inl (c, refl, d), (each cs, parts cs all, each_joined cs))
  where
    parts : (xs : List ℕ) → AllByRecursion (λ e. is_digit e ≡ true) xs → AllByRecursion IsNumberPart (each xs)
    parts [] a = tt
    parts (x ∷ xs) a = (inr (inl (x, refl, digit_part x a.0)), parts xs a.1)

number_of_digits : (ds : List ℕ) → 0 < length ds → AllByRecursion (λ d. is_digit d ≡ true) ds → IsNumber ds
number_of_digits [] some all = absurd (omega arith)
number_of_digits (c ∷ cs) some all = digits_number c cs all.0 all.1

digit_in : (c : ℕ) → digit_value c < 10 → is_digit c ≡ true
digit_in c h = let r = digit_from_value c h in grind (arith, nat_tests)

digits_in : (ds : List ℕ) → AllDigits 10 ds → AllByRecursion (λ d. is_digit d ≡ true) ds
digits_in [] a = tt
digits_in (c ∷ cs) a = (digit_in c a.0, digits_in cs a.1)

pub decimal_digits : (n : ℕ) → n < 2 ^ 64 → AllByRecursion (λ d. is_digit d ≡ true) (decimal n)
decimal_digits n h = digits_in (decimal n) (decimal_is_IsNumeral n h).0.1

pub decimal_number : (n : ℕ) → n < 2 ^ 64 → IsNumber (decimal n)
decimal_number n h = number_of_digits (decimal n) (decimal_is_IsNumeral n h).0.0 (decimal_digits n h)

-- the name of a pragma's line
pub pragma_spelled : IsSpelled (token Ident (codes "pragma"))
pragma_spelled = (word, lone (begins is_ident_head) refl refl (codes "pragma") refl)
  where
    part : (c : ℕ) → is_nondigit c ≡ true → Either IsNondigit (One is_digit) (c ∷ [])
    part c e = inl (inl (c, refl, e))

    parts : (xs : List ℕ) → AllByRecursion (λ d. is_nondigit d ≡ true) xs → AllByRecursion (Either IsNondigit (One is_digit)) (each xs)
    parts [] a = tt
    parts (x ∷ xs) a = (part x a.0, parts xs a.1)

    word : IsIdent (codes "pragma")
    word = (112 ∷ [], codes "ragma", refl, inl (112, refl, refl), (each (codes "ragma"), parts (codes "ragma") (refl, (refl, (refl, (refl, (refl, tt))))), refl))

-- ---- markers

abbrev pub put : ℕ → Kind → List ℕ → Put
put n k text = record { before = n; token = token k text; after = 0 }

abbrev pub flag_put : List ℕ → Put
flag_put text = put 1 Number text

abbrev pub turn_puts : Turn → List Put
turn_puts Enters = flag_put (codes "1") ∷ []
turn_puts Leaves = flag_put (codes "2") ∷ []
turn_puts Renumbers = []

abbrev pub system_puts : Bool → List Put
system_puts true = flag_put (codes "3") ∷ []
system_puts false = []

abbrev pub flag_puts : Turn → Bool → List Put
flag_puts turn system = turn_puts turn ++ system_puts system

abbrev pub marker_puts : Turn → Location → List Put
marker_puts turn at = put 0 Punct (codes "#") ∷ put 1 Number (decimal at.line) ∷ put 1 Str at.name ∷ flag_puts turn at.system

flags_text : (turn : Turn) (system : Bool) → puts_text (flag_puts turn system) ≡ turn_flag turn ++ system_flag system
flags_text Enters true = refl
flags_text Enters false = refl
flags_text Leaves true = refl
flags_text Leaves false = refl
flags_text Renumbers true = refl
flags_text Renumbers false = refl

marker_parts : (d name f g : List ℕ) → ((((codes "# " ++ d) ++ codes " ") ++ name) ++ f) ++ g ≡ ((([] ++ codes "#") ++ [])) ++ ((((32 ∷ []) ++ d) ++ []) ++ ((((32 ∷ []) ++ name) ++ []) ++ (f ++ g)))
marker_parts d name f g =
    let group : ((((codes "# " ++ d) ++ codes " ") ++ name) ++ f) ++ g ≡ codes "# " ++ (d ++ (codes " " ++ (name ++ (f ++ g)))) = simp append_assoc in
    group ∙ ap (λ z. codes "# " ++ z) (before_nil d (codes " " ++ (name ++ (f ++ g))) ∙ ap (λ z. (d ++ []) ++ (codes " " ++ z)) (before_nil name (f ++ g)))
  where
    before_nil : (x y : List ℕ) → x ++ y ≡ (x ++ []) ++ y
    before_nil x y = ap (λ z. z ++ y) (sym (append-nil x))

-- a marker is a line of these tokens
pub marker_text : (turn : Turn) (at : Location) (rest : List ℕ) → marker turn at ++ rest ≡ puts_text (marker_puts turn at) ++ 10 ∷ rest
marker_text turn at rest =
    append_assoc (codes "# " ++ decimal at.line ++ codes " " ++ at.name ++ turn_flag turn ++ system_flag at.system) (10 ∷ []) rest
    ∙ ap (λ z. z ++ 10 ∷ rest) (marker_parts (decimal at.line) at.name (turn_flag turn) (system_flag at.system)
    ∙ ap (λ z. codes "#" ++ ((((32 ∷ []) ++ decimal at.line) ++ []) ++ ((((32 ∷ []) ++ at.name) ++ []) ++ z))) (sym (flags_text turn at.system)))

flag_spelled : (c : ℕ) → is_digit c ≡ true → IsSpelled (token Number (c ∷ []))
flag_spelled c e = number_spelled (c ∷ []) (digits_number c [] e tt)

some_space : (p q : Put) → q.before ≡ 1 → p.after + q.before ≡ 0 → are_apart p.token q.token ≡ false
some_space p q e f = absurd (omega arith)

flags_spaced : (turn : Turn) (system : Bool) → AreSpaced (flag_puts turn system)
flags_spaced Enters true = (flag_spelled 49 refl, some_space (flag_put (codes "1")) (flag_put (codes "3")) refl, flag_spelled 51 refl)
flags_spaced Enters false = flag_spelled 49 refl
flags_spaced Leaves true = (flag_spelled 50 refl, some_space (flag_put (codes "2")) (flag_put (codes "3")) refl, flag_spelled 51 refl)
flags_spaced Leaves false = flag_spelled 50 refl
flags_spaced Renumbers true = flag_spelled 51 refl
flags_spaced Renumbers false = tt

-- the first of these has a space before it
abbrev FirstSpaced : List Put → Type 0
FirstSpaced [] = Unit {0}
FirstSpaced (p ∷ ps) = p.before ≡ 1

flags_first : (turn : Turn) (system : Bool) → FirstSpaced (flag_puts turn system)
flags_first Enters system = refl
flags_first Leaves system = refl
flags_first Renumbers true = refl
flags_first Renumbers false = tt

name_spaced : (p : Put) (ps : List Put) → IsSpelled p.token → FirstSpaced ps → AreSpaced ps → AreSpaced (p ∷ ps)
name_spaced p [] s first a = s
name_spaced p (q ∷ ps) s first a = (s, some_space p q first, a)

pub marker_spaced : (turn : Turn) (at : Location) → IsPrintable at → AreSpaced (marker_puts turn at)
marker_spaced turn at h =
    let hash = put 0 Punct (codes "#") in
    let number = put 1 Number (decimal at.line) in
    let name = put 1 Str at.name in (
      hash_spelled,
      some_space hash number refl,
      (
        number_spelled (decimal at.line) (decimal_number at.line h.line),
        some_space number name refl,
        name_spaced name (flag_puts turn at.system) (str_spelled at.name h.name) (flags_first turn at.system) (flags_spaced turn at.system),
      ),
    )

-- ---- no header name is awaited

-- nor after three tokens
pub later_free : (profile : Profile) (a b c : List ℕ) (xs : List (List ℕ)) (ps : List Put) → AwaitNoHeader profile (a ∷ b ∷ c ∷ xs) ps
later_free profile a b c xs [] = tt
later_free profile a b c xs (p ∷ ps) = (λ h. h, later_free profile a b c (xs ++ p.token.text ∷ []) ps)

is_i : ℕ → Bool
is_i c = c == 105

takes_i : (profile : Profile) (s : List ℕ) → takes_header profile s ≡ true → begins is_i s ≡ true
unfolding is_i
takes_i profile s e = elim (or_cases (bytes_eq s (codes "include")) (is_gnu profile && bytes_eq s (codes "include_next")) e) [
  | inl f ↦ subst (λ z. begins is_i z ≡ true) (sym ((bytes_eq-Decides s (codes "include")).0 f)) refl
  | inr f ↦ subst (λ z. begins is_i z ≡ true) (sym ((bytes_eq-Decides s (codes "include_next")).0 (and_parts (is_gnu profile) (bytes_eq s (codes "include_next")) f).1)) refl
]

no_i : (s : List ℕ) → IsNumber s → begins is_i s ≡ true → ⊥
unfolding is_i
no_i s t e = both s (number_head s (number_begins s t)) e
  where
    other : (c : ℕ) → is_number_head c ≡ true → c == 105 ≡ true → ⊥
    other c f g = grind (arith, nat_tests)

    both : (z : List ℕ) → begins is_number_head z ≡ true → begins is_i z ≡ true → ⊥
    both [] f g = false≢true f
    both (c ∷ cs) f g = other c f g

pub marker_free : (profile : Profile) (turn : Turn) (at : Location) → IsPrintable at → AwaitNoHeader profile [] (marker_puts turn at)
marker_free profile turn at h = (
  λ x. x,
  (
    λ x. x,
    (
      λ x. no_i (decimal at.line) (decimal_number at.line h.line) (takes_i profile (decimal at.line) x),
      later_free profile (codes "#") (decimal at.line) at.name [] (flag_puts turn at.system),
    ),
  ),
)

-- ---- pragmas

-- the tokens of a pragma after this one; the last may have a space after it
abbrev pub tokens_puts : Option Written → List PragmaToken → List Put
tokens_puts last [] = []
tokens_puts last (t ∷ []) = record { before = pragma_space last t; token = pragma_written t; after = space_after t.text } ∷ []
tokens_puts last (t ∷ u ∷ ts) = record { before = pragma_space last t; token = pragma_written t; after = 0 } ∷ tokens_puts (Some (pragma_written t)) (u ∷ ts)

abbrev pub pragma_puts : List PragmaToken → List Put
pragma_puts ts = put 0 Punct (codes "#") ∷ put 0 Ident (codes "pragma") ∷ tokens_puts None ts

tokens_text : (last : Option Written) (t : PragmaToken) (ts : List PragmaToken) → pragma_tokens_text last (t ∷ ts) ≡ puts_text (tokens_puts last (t ∷ ts))
tokens_text last t [] = sym (append-nil (spaces (pragma_space last t) ++ t.text ++ spaces (space_after t.text)))
tokens_text last t (u ∷ ts) =
    ap (λ z. (spaces (pragma_space last t) ++ t.text) ++ z) (tokens_text (Some (pragma_written t)) u ts)
    ∙ ap (λ z. z ++ puts_text (tokens_puts (Some (pragma_written t)) (u ∷ ts))) (sym (append-nil (spaces (pragma_space last t) ++ t.text)))

all_text : (ts : List PragmaToken) → pragma_tokens_text None ts ≡ puts_text (tokens_puts None ts)
all_text [] = refl
all_text (t ∷ ts) = tokens_text None t ts

-- the line of a pragma is a line of these tokens
pub pragma_line_text : (ts : List PragmaToken) (rest : List ℕ) → pragma_text ts ++ rest ≡ puts_text (pragma_puts ts) ++ 10 ∷ rest
pragma_line_text ts rest = append_assoc (codes "#pragma" ++ pragma_tokens_text None ts) (10 ∷ []) rest ∙ ap (λ z. (codes "#pragma" ++ z) ++ 10 ∷ rest) (all_text ts)

pub tokens_written : (last : Option Written) (ts : List PragmaToken) → puts_tokens (tokens_puts last ts) ≡ map pragma_written ts
tokens_written last [] = refl
tokens_written last (t ∷ []) = refl
tokens_written last (t ∷ u ∷ ts) = ap (λ z. pragma_written t ∷ z) (tokens_written (Some (pragma_written t)) (u ∷ ts))

apart_unless : (a b : Bool) → 0 + (if a || b then 1 else 0) ≡ 0 → b ≡ false
apart_unless true b e = absurd (omega arith)
apart_unless false true e = absurd (omega arith)
apart_unless false false e = refl

tokens_spaced : (last : Option Written) (ts : List PragmaToken) → AllByRecursion (λ t. IsSpelled (pragma_written t)) ts → AreSpaced (tokens_puts last ts)
tokens_spaced last [] a = tt
tokens_spaced last (t ∷ []) a = a.0
tokens_spaced last (t ∷ u ∷ []) a = (a.0, apart_unless u.space (are_apart (pragma_written t) (pragma_written u)), a.1.0)
tokens_spaced last (t ∷ u ∷ v ∷ ts) a = (a.0, apart_unless u.space (are_apart (pragma_written t) (pragma_written u)), tokens_spaced (Some (pragma_written t)) (u ∷ v ∷ ts) a.1)

named_spaced : (ts : List PragmaToken) → AllByRecursion (λ t. IsSpelled (pragma_written t)) ts → AreSpaced (put 0 Ident (codes "pragma") ∷ tokens_puts None ts)
named_spaced [] a = pragma_spelled
named_spaced (t ∷ []) a = (pragma_spelled, λ e. absurd (omega (arith, e)), tokens_spaced None (t ∷ []) a)
named_spaced (t ∷ u ∷ ts) a = (pragma_spelled, λ e. absurd (omega (arith, e)), tokens_spaced None (t ∷ u ∷ ts) a)

pub pragma_spaced : (ts : List PragmaToken) → AllByRecursion (λ t. IsSpelled (pragma_written t)) ts → AreSpaced (pragma_puts ts)
pragma_spaced ts a = (hash_spelled, λ e. refl, named_spaced ts a)

no_pragma_header : (b : Bool) → (bytes_eq (codes "pragma") (codes "include") || (b && bytes_eq (codes "pragma") (codes "include_next"))) ≡ true → ⊥
no_pragma_header true e = false≢true e
no_pragma_header false e = false≢true e

tokens_free : (profile : Profile) (ps : List Put) → AwaitNoHeader profile (codes "#" ∷ codes "pragma" ∷ []) ps
tokens_free profile [] = tt
tokens_free profile (p ∷ ps) = (λ h. no_pragma_header (is_gnu profile) h, later_free profile (codes "#") (codes "pragma") p.token.text [] ps)

pub pragma_free : (profile : Profile) (ts : List PragmaToken) → AwaitNoHeader profile [] (pragma_puts ts)
pragma_free profile ts = (λ h. h, (λ h. h, tokens_free profile (tokens_puts None ts)))
