-- Each test of `Kinds` decides the language of its name (6.4), and `kind_of` gives the one kind of each text.
use Rattle.std.proofs.Common.{◌≡◌, ℕ, zero, suc, Bool, true, false, not, ◌||◌, ◌&&◌, ◌==◌, List, [], ◌∷◌, ◌++◌, length, refl, sym, ap, ◌∙◌, subst, inl, inr, ◌⊎◌, arith, Option, Some, None, if◌then◌else◌, take, ◌↔◌}
use Rattle.std.specs.Prelude.{Contains, Decides, codes}
use Rattle.std.specs.List.{AllByRecursion, list_all, flat_map}
use Rattle.std.specs.Str.{bytes_eq}
use Rattle.std.proofs.lemmas.Bool.{false≢true}
use Rattle.std.proofs.lemmas.Bool.Decides.{Decides-eqb, Decides-and, Decides-or, Decides-not, Decides-like, not_from_Decides}
use Rattle.std.proofs.lemmas.List.Sums.{AllPass-from_list_all, list_all-from_AllPass}
use Rattle.std.proofs.lemmas.Slice.Eq.{bytes_eq-Decides}
use Rattle.std.proofs.lemmas.List.{take_all}
use Rattle.pptext.specs.Languages.{Exactly, One, Then, Either, IsRun, Repeated}
use Rattle.pptext.specs.Spellings.{is_digit, is_hex, is_nondigit, is_blank, is_exponent, is_sign, char_prefixes, str_prefixes, is_punctuator, IsUniversal, IsNondigit, IsIdent, IsNumberPart}
use Rattle.pptext.specs.Spellings.{IsNumber, IsElement, IsCharConst, IsStr, IsPunct, IsOther, Spells, punctuators}
use Rattle.pptext.specs.Kinds.{exactly_test, among_test, one_test, either_test, then_test, run_test, then_repeated_test, repeated_test, universal_test, nondigit_test, ident_test, number_part_test}
use Rattle.pptext.specs.Kinds.{number_test, element_test, char_const_test, str_test, other_test, spelled_kind, unmatched_quote_test, comment_test, kind_of}
use Rattle.pptext.specs.declared.tokens.Kind.{Kind}
use Rattle.pptext.specs.declared.tokens.Kind.TheVariants.{Ident, Number, CharConst, Str, Punct, Header, Other}
use Rattle.pptext.specs.declared.sources.Profile.TheVariants.{C11}
use Rattle.pptext.specs.Lexemes.{LexemeKind, Lexeme, Spelled, OpensBlock, OpensLine, PlainTokenAt}
use Rattle.pptext.specs.Sources.{IsOneToken, IsUnmatchedQuote}
use Rattle.pptext.specs.KindTests.{Lexes, IsLexer, HasOneLexer, OpensComment, TestsAreLanguages}
use Rattle.pptext.proofs.TokenizationUniqueness.{one_tokenization}
use Rattle.pptext.proofs.SingleTokens.{one_token_stands, stands_one_token}
use Rattle.pptext.proofs.KindUniqueness.{one_kind}

-- ---- for each test of `Kinds`, exactly the texts of its language pass it (6.4)

-- exactly the texts of the language pass the test
pub record Tests (P : List ℕ → Type 0) (p : List ℕ → Bool) : Type 0 where
  pub at : (s : List ℕ) → Decides (p s) (P s)

-- ---- languages

pub exactly : (text : List ℕ) → Tests (Exactly text) (exactly_test text)
exactly text = record { at = λ s. bytes_eq-Decides s text }

pub one : (test : ℕ → Bool) → Tests (One test) (one_test test)
one test = record { at = at }
  where
    at : (s : List ℕ) → Decides (one_test test s) (One test s)
    at [] = (λ e. absurd (false≢true e), λ h. let e = h.1 in cc)
    at (c ∷ []) = (λ t. (c, refl, t), λ h. let e = h.1 in let head : c ≡ h.0 = cc in ap test head ∙ h.2)
    at (c ∷ d ∷ s) = (λ e. absurd (false≢true e), λ h. let e = h.1 in cc)

pub either : {P Q : List ℕ → Type 0} {p q : List ℕ → Bool} → Tests P p → Tests Q q → Tests (Either P Q) (either_test p q)
either {P} {Q} {p} {q} of_p of_q = record { at = λ s. Decides-or (p s) (q s) (of_p.at s) (of_q.at s) }

-- Putting a character before the text, in the language and in the test, preserves `Tests`.
behind : {P : List ℕ → Type 0} {p : List ℕ → Bool} (c : ℕ) → Tests P p → Tests (λ a. P (c ∷ a)) (λ a. p (c ∷ a))
behind c of_p = record { at = λ a. of_p.at (c ∷ a) }

-- If the empty text is split in two, both parts are empty.
no_split : (P Q : List ℕ → Type 0) → Then P Q [] → P [] × Q []
no_split P Q ([], [], e, p, q) = (p, q)
no_split P Q ([], x ∷ b, e, p, q) = cc
no_split P Q (x ∷ a, b, e, p, q) = cc

-- The first character is in the first part, or the first part is empty.
split : (P Q : List ℕ → Type 0) (c : ℕ) (s : List ℕ) → Then P Q (c ∷ s) → (P [] × Q (c ∷ s)) ⊎ Then (λ a. P (c ∷ a)) Q s
split P Q c s ([], b, e, p, q) = inl (p, subst Q (sym e) q)
split P Q c s (d ∷ a, b, e, p, q) =
    let head : d ≡ c = cc in
    let tail : s ≡ a ++ b = cc in
    inr (a, b, tail, subst (λ z. P (z ∷ a)) head p, q)

unsplit : (P Q : List ℕ → Type 0) (c : ℕ) (s : List ℕ) → (P [] × Q (c ∷ s)) ⊎ Then (λ a. P (c ∷ a)) Q s → Then P Q (c ∷ s)
unsplit P Q c s (inl h) = ([], c ∷ s, refl, h.0, h.1)
unsplit P Q c s (inr (a, b, e, p, q)) = (c ∷ a, b, ap (λ z. c ∷ z) e, p, q)

then_at : (P Q : List ℕ → Type 0) (p q : List ℕ → Bool) → Tests P p → Tests Q q → (s : List ℕ) → Decides (then_test p q s) (Then P Q s)
then_at P Q p q of_p of_q [] =
    Decides-like (p [] && q []) (λ h. ([], [], refl, h.0, h.1)) (no_split P Q) (Decides-and (p []) (q []) (of_p.at []) (of_q.at []))
then_at P Q p q of_p of_q (c ∷ s) =
    let here = p [] && q (c ∷ s) in
    let later = then_test (λ a. p (c ∷ a)) q s in
    Decides-like (here || later) (unsplit P Q c s) (split P Q c s) (Decides-or here later (Decides-and (p []) (q (c ∷ s)) (of_p.at []) (of_q.at (c ∷ s))) (then_at (λ a. P (c ∷ a)) Q (λ a. p (c ∷ a)) q (behind c of_p) of_q s))

pub followed : {P Q : List ℕ → Type 0} {p q : List ℕ → Bool} → Tests P p → Tests Q q → Tests (Then P Q) (then_test p q)
followed {P} {Q} {p} {q} of_p of_q = record { at = then_at P Q p q of_p of_q }

run : (n : ℕ) (test : ℕ → Bool) → Tests (IsRun n test) (run_test n test)
run n test = record { at = λ s. Decides-and (length s == n) (list_all test s) (Decides-eqb (length s) n) (AllPass-from_list_all test s, list_all-from_AllPass test s) }

-- A non-empty repetition is a non-empty part, and then a repetition.
first_part : (P : List ℕ → Type 0) (c : ℕ) (s : List ℕ) (parts : List (List ℕ)) → AllByRecursion P parts → c ∷ s ≡ flat_map (λ p. p) parts → Then (λ a. P (c ∷ a)) (Repeated P) s
first_part P c s [] all e = cc
first_part P c s ([] ∷ ps) all e = first_part P c s ps all.1 e
first_part P c s ((d ∷ a) ∷ ps) all e =
    let head : d ≡ c = cc in
    let tail : s ≡ a ++ flat_map (λ p. p) ps = cc in
    (a, flat_map (λ p. p) ps, tail, subst (λ z. P (z ∷ a)) head all.0, (ps, all.1, refl))

with_part : (P : List ℕ → Type 0) (c : ℕ) (s : List ℕ) → Then (λ a. P (c ∷ a)) (Repeated P) s → Repeated P (c ∷ s)
with_part P c s (a, b, e, p, (ps, all, f)) = ((c ∷ a) ∷ ps, (p, all), ap (λ z. c ∷ z) (e ∙ ap (λ z. a ++ z) f))

then_repeated_at : (P Q : List ℕ → Type 0) (p q : List ℕ → Bool) → Tests P p → Tests Q q → (s : List ℕ) → Decides (then_repeated_test p q s) (Then P (Repeated Q) s)
then_repeated_at P Q p q of_p of_q [] =
    Decides-like (p []) (λ h. ([], [], refl, h, ([], tt, refl))) (λ h. (no_split P (Repeated Q) h).0) (of_p.at [])
then_repeated_at P Q p q of_p of_q (c ∷ s) =
    let parts = then_repeated_test (λ a. q (c ∷ a)) q s in
    let here = p [] && parts in
    let later = then_repeated_test (λ a. p (c ∷ a)) q s in
    let of_parts = then_repeated_at (λ a. Q (c ∷ a)) Q (λ a. q (c ∷ a)) q (behind c of_q) of_q s in
    let of_later = then_repeated_at (λ a. P (c ∷ a)) Q (λ a. p (c ∷ a)) q (behind c of_p) of_q s in
    let repeats = Decides-like parts (with_part Q c s) (λ h. first_part Q c s h.0 h.1 h.2) of_parts in
    Decides-like (here || later) (unsplit P (Repeated Q) c s) (split P (Repeated Q) c s) (Decides-or here later (Decides-and (p []) parts (of_p.at []) repeats) of_later)

behind_nothing : (P : List ℕ → Type 0) (s : List ℕ) → Then (Exactly []) P s → P s
behind_nothing P s (a, b, e, none, p) = subst P (sym (e ∙ ap (λ z. z ++ b) none)) p

pub repeated : {P : List ℕ → Type 0} {p : List ℕ → Bool} → Tests P p → Tests (Repeated P) (repeated_test p)
repeated {P} {p} of_p = record {
  at = λ s. Decides-like (repeated_test p s) (behind_nothing (Repeated P) s) (λ h. ([], s, refl, refl, h)) (then_repeated_at (Exactly []) P (exactly_test []) p (exactly []) of_p s);
}

pub among : (texts : List (List ℕ)) → Tests (Contains texts) (among_test texts)
among texts = record { at = at texts }
  where
    parts : (t : List ℕ) (ts : List (List ℕ)) (s : List ℕ) → Contains (t ∷ ts) s → (t ≡ s) ⊎ Contains ts s
    parts t ts s (zero, lt, e) = inl e
    parts t ts s (suc k, lt, e) = inr (k, omega arith, e)

    whole : (t : List ℕ) (ts : List (List ℕ)) (s : List ℕ) → (t ≡ s) ⊎ Contains ts s → Contains (t ∷ ts) s
    whole t ts s (inl e) = (zero, omega arith, e)
    whole t ts s (inr (k, lt, e)) = (suc k, omega arith, e)

    at : (ts : List (List ℕ)) (s : List ℕ) → Decides (among_test ts s) (Contains ts s)
    at [] s = (λ e. absurd (false≢true e), λ h. let lt = h.1 in absurd (omega arith))
    at (t ∷ ts) s = Decides-like (among_test (t ∷ ts) s) (whole t ts s) (parts t ts s) (Decides-or (bytes_eq t s) (among_test ts s) (bytes_eq-Decides t s) (at ts s))

-- ---- the kinds' spellings

pub universal : Tests IsUniversal universal_test
universal = either (followed (exactly (92 ∷ 117 ∷ [])) (run 4 is_hex)) (followed (exactly (92 ∷ 85 ∷ [])) (run 8 is_hex))

pub nondigit : Tests IsNondigit nondigit_test
nondigit = either (one is_nondigit) universal

pub ident : Tests IsIdent ident_test
ident = followed nondigit (repeated (either nondigit (one is_digit)))

pub number_part : Tests IsNumberPart number_part_test
number_part = either nondigit (either (one (λ c. is_digit c || c == 46)) (followed (one is_exponent) (one is_sign)))

pub number : Tests IsNumber number_test
number = followed (either (one is_digit) (followed (exactly (46 ∷ [])) (one is_digit))) (repeated number_part)

pub element : (quote : ℕ) → Tests (IsElement quote) (element_test quote)
element quote = either (one (λ c. not (c == quote || (c == 92 || c == 10)))) (followed (exactly (92 ∷ [])) (one (λ c. not (c == 10))))

pub char_const : Tests IsCharConst char_const_test
char_const = followed (among char_prefixes) (followed (exactly (39 ∷ [])) (followed (element 39) (followed (repeated (element 39)) (exactly (39 ∷ [])))))

pub str : Tests IsStr str_test
str = followed (among str_prefixes) (followed (exactly (34 ∷ [])) (followed (repeated (element 34)) (exactly (34 ∷ []))))

punct : Tests IsPunct is_punctuator
punct = record { at = λ s. (λ e. e, λ e. e) }

visible : Tests (One (λ c. not (is_blank c || c == 10))) (one_test (λ c. not (is_blank c || c == 10)))
visible = one (λ c. not (is_blank c || c == 10))

pub other : Tests IsOther other_test
other = record { at = at }
  where
    at : (s : List ℕ) → Decides (other_test s) (IsOther s)
    at s =
        let lacks = Decides-and _ _ (Decides-not _ (ident.at s)) (Decides-and _ _ (Decides-not _ (number.at s)) (Decides-not _ (punct.at s))) in
        Decides-like (other_test s) (λ h. (h.0, h.1.0, h.1.1.0, h.1.1.1)) (λ h. (h.0, (h.1, (h.2, h.3)))) (Decides-and _ _ (visible.at s) lacks)

-- the kind spells the text; or, for None, no kind does
abbrev pub HasKind : List ℕ → Option Kind → Type 0
HasKind s None = (k : Kind) → ¬ Spells k s
HasKind s (Some k) = Spells k s

try : (s : List ℕ) (k : Kind) {b : Bool} (others : Option Kind) → Decides b (Spells k s) → ((¬ Spells k s) → HasKind s others) → HasKind s (if b then Some k else others)
try s k {b} others d h = by b d
  where
    by : (b : Bool) → Decides b (Spells k s) → HasKind s (if b then Some k else others)
    by true d = d.0 refl
    by false d = h (not_from_Decides false d refl)

no_kind : (s : List ℕ) → (¬ Spells Ident s) → (¬ Spells Number s) → (¬ Spells CharConst s) → (¬ Spells Str s) → (¬ Spells Punct s) → (¬ Spells Other s) → (k : Kind) → ¬ Spells k s
no_kind s a b c d e f Ident h = a h
no_kind s a b c d e f Number h = b h
no_kind s a b c d e f CharConst h = c h
no_kind s a b c d e f Str h = d h
no_kind s a b c d e f Punct h = e h
no_kind s a b c d e f Header h = h
no_kind s a b c d e f Other h = f h

pub spelled_kind_is : (s : List ℕ) → HasKind s (spelled_kind s)
spelled_kind_is s =
    try s Ident _ (ident.at s)
    (λ a. try s Number _ (number.at s)
    (λ b. try s CharConst _ (char_const.at s)
    (λ c. try s Str _ (str.at s) (λ d. try s Punct _ (punct.at s) (λ e. try s Other _ (other.at s) (λ f. no_kind s a b c d e f))))))

-- ---- the kind of each text is computed by `kind_of`, and it is unique

pub plain_token : (text : List ℕ) (k : Kind) → IsOneToken text k → PlainTokenAt C11 [] text (length text) k
plain_token text k one = elim (one_token_stands text k one) [ inl h ↦ absurd h.0.awaited | inr p ↦ p ]

pub spelled_whole : (text : List ℕ) (k : Kind) → (¬ (OpensBlock text ⊎ OpensLine text)) → Spells k text → IsOneToken text k
spelled_whole text k opens h =
    let whole : text ≡ take (length text) text = sym (take_all (length text) text (omega arith)) in
    stands_one_token text k
    (inr (record {
      no_comment = opens;
      no_header = λ m h. h.awaited;
      longest = record { fits = omega arith; prefix = (k, subst (Spells k) whole h); longest = λ m more fits q. absurd (omega arith) };
      spelled = subst (Spells k) whole h;
    }))

tell : (text : List ℕ) (b : Bool) (o : Option Kind) → Decides b (IsUnmatchedQuote text ⊎ (OpensBlock text ⊎ OpensLine text)) → HasKind text o → Lexes text (if b then None else o)
tell text true o d h = λ k one. elim (d.0 refl) [ inl unmatched ↦ unmatched | inr opens ↦ absurd ((plain_token text k one).no_comment opens) ]
tell text false None d h = λ k one. absurd (h k (subst (Spells k) (take_all (length text) text (omega arith)) (plain_token text k one).spelled))
tell text false (Some k) d h =
    let n = not_from_Decides false d refl in
    (spelled_whole text k (λ opens. n (inr opens)) h, λ unmatched. n (inl unmatched))

none_stands : (text : List ℕ) → Decides (unmatched_quote_test text || comment_test text) (IsUnmatchedQuote text ⊎ (OpensBlock text ⊎ OpensLine text))
none_stands text =
    let unmatched = either (exactly (39 ∷ [])) (exactly (34 ∷ [])) in
    let opens = either (exactly (codes "/*")) (exactly (codes "//")) in
    Decides-or (unmatched_quote_test text) (comment_test text) (unmatched.at text) (opens.at (take 2 text))

pub lexer_is : IsLexer kind_of
unfolding kind_of
lexer_is = record {
  each = λ text. tell text (unmatched_quote_test text || comment_test text) (spelled_kind text) (none_stands text) (spelled_kind_is text);
}

-- ---- uniqueness

kind_in : LexemeKind → Option Kind
kind_in (Spelled k) = Some k
kind_in _ = None

first_kind : List Lexeme → Option Kind
first_kind [] = None
first_kind (p ∷ ps) = kind_in p.kind

pub one_lexing : (text : List ℕ) (k l : Option Kind) → Lexes text k → Lexes text l → k ≡ l
unfolding kind_in first_kind
one_lexing text None None h g = refl
one_lexing text None (Some l) h g = absurd (g.1 (h l g.0))
one_lexing text (Some k) None h g = absurd (h.1 (g k h.0))
one_lexing text (Some k) (Some l) h g = ap first_kind (one_tokenization C11 _ _ _ h.0 g.0)

pub has_one_lexer : HasOneLexer
has_one_lexer = ((kind_of, lexer_is), λ a b x y text. one_lexing text (a text) (b text) (x.each text) (y.each text))

-- ---- each test of `Kinds` decides the language of its name; the kind of a text, in terms of languages

one_spelling : (text : List ℕ) (k : Kind) (o : Option Kind) → HasKind text o → Spells k text → o ≡ Some k
one_spelling text k None none h = absurd (none k h)
one_spelling text k (Some l) g h = ap (λ (z : Kind). Some z) (one_kind text l k g h)

pub tests_are_languages : TestsAreLanguages
tests_are_languages = record {
  identifier = ident.at;
  number = number.at;
  character_constant = char_const.at;
  string_literal = str.at;
  punctuator = (among punctuators).at;
  other = other.at;
  universal = universal.at;
  nondigit = nondigit.at;
  number_part = number_part.at;
  element = λ quote. (element quote).at;
  unmatched_quote = (either (exactly (39 ∷ [])) (exactly (34 ∷ []))).at;
  comment = λ text. (either (exactly (codes "/*")) (exactly (codes "//"))).at (take 2 text);
  kind = λ text k. (λ e. subst (HasKind text) e (spelled_kind_is text), λ h. one_spelling text k (spelled_kind text) (spelled_kind_is text) h);
}

abbrev IsPlain : List ℕ → Kind → Type 0
IsPlain text k = Spells k text × (¬ IsUnmatchedQuote text) × (¬ OpensComment text)

lexed_plain : (text : List ℕ) (k : Kind) → Lexes text (Some k) → IsPlain text k
lexed_plain text k h =
    let plain = plain_token text k h.0 in
    (subst (Spells k) (take_all (length text) text (omega arith)) plain.spelled, h.1, plain.no_comment)

pub kind_by_language : (text : List ℕ) (k : Kind) → (kind_of text ≡ Some k) ↔ (Spells k text × (¬ IsUnmatchedQuote text) × (¬ OpensComment text))
kind_by_language text k =
    (λ e. lexed_plain text k (subst (Lexes text) e (lexer_is.each text)), λ h. one_lexing text (kind_of text) (Some k) (lexer_is.each text) (spelled_whole text k h.2 h.0, h.1))
