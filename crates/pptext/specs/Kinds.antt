-- The kind of a text (6.4), by tests. Exactly the texts of the language of the same name, in `Languages` or `Spellings`, pass a test.
use Rattle.std.specs.Prelude.{ℕ, List, [], ◌∷◌, Bool, false, not, ◌&&◌, ◌||◌, ◌==◌, length, take, Option, None, Some, if◌then◌else◌, codes}
use Rattle.std.specs.List.{list_any, list_all}
use Rattle.std.specs.Str.{bytes_eq}
use Rattle.pptext.specs.Spellings.{is_digit, is_hex, is_nondigit, is_blank, is_exponent, is_sign, char_prefixes, str_prefixes, is_punctuator}
use Rattle.pptext.specs.declared.tokens.Kind.{Kind}
use Rattle.pptext.specs.declared.tokens.Kind.TheVariants.{Ident, Number, CharConst, Str, Punct, Other}

-- this text alone
abbrev pub exactly_test : List ℕ → List ℕ → Bool
exactly_test text s = bytes_eq s text

-- one of these texts
abbrev pub among_test : List (List ℕ) → List ℕ → Bool
among_test texts s = list_any (λ text. bytes_eq text s) texts

-- one character that passes the test
abbrev pub one_test : (ℕ → Bool) → List ℕ → Bool
one_test test (c ∷ []) = test c
one_test test s = false

abbrev pub either_test : (List ℕ → Bool) → (List ℕ → Bool) → List ℕ → Bool
either_test p q s = p s || q s

-- The text has two parts, one after the other: the first passes `p`, the second `q`. Either the first part is empty, or it begins with the text's
-- first character, and the rest of it passes `λ a. p (c ∷ a)`.
abbrev pub then_test : (List ℕ → Bool) → (List ℕ → Bool) → List ℕ → Bool
then_test p q [] = p [] && q []
then_test p q (c ∷ s) = (p [] && q (c ∷ s)) || then_test (λ a. p (c ∷ a)) q s

-- n characters that all pass the test
abbrev pub run_test : ℕ → (ℕ → Bool) → List ℕ → Bool
run_test n test s = length s == n && list_all test s

-- The text has parts, one after another: the first passes `p`, and each later one `q`.
abbrev pub then_repeated_test : (List ℕ → Bool) → (List ℕ → Bool) → List ℕ → Bool
then_repeated_test p q [] = p []
then_repeated_test p q (c ∷ s) = (p [] && then_repeated_test (λ a. q (c ∷ a)) q s) || then_repeated_test (λ a. p (c ∷ a)) q s

-- any number of these, one after another
abbrev pub repeated_test : (List ℕ → Bool) → List ℕ → Bool
repeated_test p = then_repeated_test (exactly_test []) p

abbrev pub universal_test : List ℕ → Bool
universal_test =
    let four = then_test (exactly_test (92 ∷ 117 ∷ [])) (run_test 4 is_hex) in
    let eight = then_test (exactly_test (92 ∷ 85 ∷ [])) (run_test 8 is_hex) in
    either_test four eight

abbrev pub nondigit_test : List ℕ → Bool
nondigit_test = either_test (one_test is_nondigit) universal_test

abbrev pub ident_test : List ℕ → Bool
ident_test = then_test nondigit_test (repeated_test (either_test nondigit_test (one_test is_digit)))

abbrev pub number_part_test : List ℕ → Bool
number_part_test =
    either_test nondigit_test (either_test (one_test (λ c. is_digit c || c == 46)) (then_test (one_test is_exponent) (one_test is_sign)))

abbrev pub number_test : List ℕ → Bool
number_test =
    then_test (either_test (one_test is_digit) (then_test (exactly_test (46 ∷ [])) (one_test is_digit))) (repeated_test number_part_test)

abbrev pub element_test : ℕ → List ℕ → Bool
element_test quote =
    let plain = one_test (λ c. not (c == quote || (c == 92 || c == 10))) in
    either_test plain (then_test (exactly_test (92 ∷ [])) (one_test (λ c. not (c == 10))))

abbrev pub char_const_test : List ℕ → Bool
char_const_test =
    let element = element_test 39 in
    let quote = exactly_test (39 ∷ []) in
    then_test (among_test char_prefixes) (then_test quote (then_test element (then_test (repeated_test element) quote)))

abbrev pub str_test : List ℕ → Bool
str_test =
    let quote = exactly_test (34 ∷ []) in
    then_test (among_test str_prefixes) (then_test quote (then_test (repeated_test (element_test 34)) quote))

abbrev pub other_test : List ℕ → Bool
other_test s = one_test (λ c. not (is_blank c || c == 10)) s && (not (ident_test s) && (not (number_test s) && not (is_punctuator s)))

abbrev pub unmatched_quote_test : List ℕ → Bool
unmatched_quote_test = either_test (exactly_test (39 ∷ [])) (exactly_test (34 ∷ []))

-- a comment begins with the text
abbrev pub comment_test : List ℕ → Bool
comment_test s = either_test (exactly_test (codes "/*")) (exactly_test (codes "//")) (take 2 s)

-- the kind that spells the text. No two kinds spell the same text.
abbrev pub spelled_kind : List ℕ → Option Kind
spelled_kind s =
    if ident_test s then Some Ident
    else if number_test s then Some Number
    else if char_const_test s then Some CharConst
    else if str_test s then Some Str
    else if is_punctuator s then Some Punct
    else if other_test s then Some Other
    else None

-- the kind of the one token that a text is, or None if it is no token or an unmatched quote
unfoldable pub kind_of : List ℕ → Option Kind
kind_of text = if unmatched_quote_test text || comment_test text then None else spelled_kind text
