-- No token contains a new-line, so only new-lines and comments end lines.
use Rattle.std.proofs.Common.{◌≡◌, ℕ, ◌+◌, ◌-◌, ◌<◌, ◌≤◌, Bool, true, not, ◌||◌, ◌==◌, List, [], ◌∷◌, length, take, drop, get_or}
use Rattle.std.proofs.Common.{refl, ap, ◌∙◌, subst, inl, inr, arith}
use Rattle.std.specs.List.{list_all}
use Rattle.std.proofs.lemmas.Bool.{cases_lt}
use Rattle.std.proofs.lemmas.Bool.Decides.{nat_tests}
use Rattle.std.proofs.lemmas.List.{get_or-drop, get_or-take, length-take-le}
use Rattle.std.proofs.lemmas.List.Sums.{AllPass-from_list_all}
use Rattle.pptext.specs.declared.sources.Profile.{Profile}
use Rattle.pptext.specs.declared.tokens.Kind.{Kind}
use Rattle.pptext.specs.declared.tokens.Kind.TheVariants.{Ident, Number, CharConst, Str, Punct, Header, Other}
use Rattle.pptext.specs.Languages.{Exactly, Then, Repeated}
use Rattle.pptext.specs.Spellings.{is_blank, IsElement, char_prefixes, str_prefixes, IsCharConst, IsStr, IsPunct, IsBetween, IsHeader, Spells}
use Rattle.pptext.specs.Lexemes.{Spelled, IsLexemeAt}
use Rattle.pptext.specs.code.CleanedText.{InLine}
use Rattle.pptext.proofs.CharacterTests.{Throughout, one_passes, either_passes, then_passes, exactly_passes, repeated_passes, contains_passes, punct_passes, is_word_byte, ident_passes, number_passes}

-- A character that is no new-line, and a text without new-lines.
within_line : ℕ → Bool
within_line c = not (c == 10)

abbrev along : List ℕ → Bool
along s = list_all within_line s

word_along : (c : ℕ) → is_word_byte c ≡ true → within_line c ≡ true
unfolding within_line
word_along c t = grind (arith, nat_tests)

visible_along : (c : ℕ) → not (is_blank c || c == 10) ≡ true → within_line c ≡ true
unfolding within_line
visible_along c t = grind (arith, nat_tests)

blank_along : (c : ℕ) → is_blank c ≡ true → within_line c ≡ true
unfolding within_line
blank_along c t = grind (arith, nat_tests)

plain_element_along : (quote c : ℕ) → not (c == quote || (c == 92 || c == 10)) ≡ true → within_line c ≡ true
unfolding within_line
plain_element_along quote c t = grind (arith, nat_tests)

escaped_along : (c : ℕ) → not (c == 10) ≡ true → within_line c ≡ true
unfolding within_line
escaped_along c t = t

inner_along : (close c : ℕ) → not (c == close || c == 10) ≡ true → within_line c ≡ true
unfolding within_line
inner_along close c t = grind (arith, nat_tests)

element_along : (quote : ℕ) → Throughout within_line (IsElement quote)
unfolding within_line
element_along quote =
    either_passes (one_passes (plain_element_along quote)) (then_passes (exactly_passes (92 ∷ []) refl) (one_passes escaped_along))

-- Elements and the closing quote contain no new-line.
elements_along : (quote : ℕ) → along (quote ∷ []) ≡ true → Throughout within_line (Then (Repeated (IsElement quote)) (Exactly (quote ∷ [])))
elements_along quote ends = then_passes (repeated_passes (element_along quote)) (exactly_passes (quote ∷ []) ends)

char_const_along : Throughout within_line IsCharConst
unfolding within_line
char_const_along =
    then_passes (record { at = contains_passes along char_prefixes refl })
    (then_passes (exactly_passes (39 ∷ []) refl) (then_passes (element_along 39) (elements_along 39 refl)))

str_along : Throughout within_line IsStr
unfolding within_line
str_along = then_passes (record { at = contains_passes along str_prefixes refl }) (then_passes (exactly_passes (34 ∷ []) refl) (elements_along 34 refl))

punct_along : Throughout within_line IsPunct
unfolding within_line
punct_along = record { at = punct_passes along refl }

between_along : (open_code close_code : ℕ)
    → along (open_code ∷ []) ≡ true
    → along (close_code ∷ []) ≡ true
    → Throughout within_line (IsBetween open_code close_code)
between_along open_code close_code opens closes =
    let one = one_passes (inner_along close_code) in
    then_passes (exactly_passes (open_code ∷ []) opens) (then_passes one (then_passes (repeated_passes one) (exactly_passes (close_code ∷ []) closes)))

header_along : Throughout within_line IsHeader
unfolding within_line
header_along = either_passes (between_along 60 62 refl refl) (between_along 34 34 refl refl)

spelling_along : (s : List ℕ) (k : Kind) → Spells k s → along s ≡ true
spelling_along s Ident a = (ident_passes within_line word_along).at s a
spelling_along s Number a = (number_passes within_line word_along).at s a
spelling_along s CharConst a = char_const_along.at s a
spelling_along s Str a = str_along.at s a
spelling_along s Punct a = punct_along.at s a
spelling_along s Header a = absurd a
spelling_along s Other a = (one_passes visible_along).at s a.0

token_along : (profile : Profile) (line : List (List ℕ)) (text : List ℕ) (n : ℕ) (k : Kind) → IsLexemeAt profile line text n (Spelled k) → along (take n text) ≡ true
token_along profile line text n k (inl h) = header_along.at (take n text) h.0.spelled
token_along profile line text n k (inr t) = spelling_along (take n text) k t.spelled

not_newline : (c : ℕ) → within_line c ≡ true → c ≡ 10 → ⊥
unfolding within_line
not_newline c t e = grind (arith, nat_tests)

-- No line ends within n more characters that are no new-lines.
line_on : (codes : List ℕ) (line at n : ℕ)
    → InLine codes line at
    → ((i : ℕ) → i < n → within_line (get_or (drop at codes) i 0) ≡ true)
    → InLine codes line (at + n)
line_on codes line at n before next k from to = elim (cases_lt k at) [
  | inl lt ↦ before k from lt
  | inr le ↦ λ e. not_newline (get_or (drop at codes) (k - at) 0) (next (k - at) (omega arith))
      (get_or-drop at codes (k - at) 0 ∙ ap (λ j. get_or codes j 0) (omega arith) ∙ e)
]

pub line_start : (codes : List ℕ) (at : ℕ) → InLine codes at at
line_start codes at k from to = absurd (omega arith)

pub line_over_blanks : (codes : List ℕ) (line at n : ℕ)
    → InLine codes line at
    → ((i : ℕ) → i < n → is_blank (get_or (drop at codes) i 0) ≡ true)
    → InLine codes line (at + n)
line_over_blanks codes line at n before blanks = line_on codes line at n before (λ i lt. blank_along (get_or (drop at codes) i 0) (blanks i lt))

pub line_over_token : (codes : List ℕ) (profile : Profile) (line : List (List ℕ)) (from at n : ℕ) (k : Kind)
    → InLine codes from at
    → n ≤ length (drop at codes)
    → IsLexemeAt profile line (drop at codes) n (Spelled k)
    → InLine codes from (at + n)
line_over_token codes profile line from at n k before fits here =
    let text = drop at codes in
    let all = token_along profile line text n k here in
    let l = length-take-le n text fits in
    line_on codes from at n before
    (λ i lt. subst (λ z. within_line z ≡ true) (get_or-take n text i 0 lt) (AllPass-from_list_all within_line (take n text) all i 0 (omega arith)))
