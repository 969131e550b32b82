-- Lines of tokens contain no new-line.
use Rattle.std.proofs.Common.{◌≡◌, ℕ, zero, suc, Bool, true, not, ◌||◌, ◌==◌, List, [], ◌∷◌, ◌++◌, refl, ◌∙◌, subst, arith}
use Rattle.std.specs.Prelude.{Contains}
use Rattle.std.specs.List.{list_all}
use Rattle.std.proofs.lemmas.Bool.{false≢true, and_from}
use Rattle.std.proofs.lemmas.Bool.Decides.{nat_tests}
use Rattle.std.proofs.lemmas.List.Folds.{list_all-append}
use Rattle.std.proofs.lemmas.List.Sums.{AllPass-from_list_all}
use Rattle.pptext.specs.declared.tokens.Kind.{Kind}
use Rattle.pptext.specs.declared.tokens.Kind.TheVariants.{Ident, Number, CharConst, Str, Punct, Header, Other}
use Rattle.pptext.specs.Languages.{Exactly, Then, Repeated}
use Rattle.pptext.specs.Spellings.{is_blank, IsElement, char_prefixes, str_prefixes, IsCharConst, IsStr, Spells}
use Rattle.pptext.proofs.CharacterTests.{Throughout, one_passes, either_passes, then_passes, exactly_passes, repeated_passes, contains_passes, punct_passes, is_word_byte, ident_passes, number_passes}
use Rattle.ppprint.specs.Text.{spaces}
use Rattle.ppprint.proofs.SpacedLines.{Put, put_text, puts_text, AreSpaced}

-- a character that is no new-line
abbrev pub within_line : ℕ → Bool
within_line c = not (c == 10)

abbrev pub along : List ℕ → Bool
along s = list_all within_line s

word_along : (c : ℕ) → is_word_byte c ≡ true → within_line c ≡ true
word_along c t = grind (arith, nat_tests)

visible_along : (c : ℕ) → not (is_blank c || c == 10) ≡ true → within_line c ≡ true
visible_along c t = grind (arith, nat_tests)

plain_along : (quote c : ℕ) → not (c == quote || (c == 92 || c == 10)) ≡ true → within_line c ≡ true
plain_along quote c t = grind (arith, nat_tests)

element_along : (quote : ℕ) → Throughout within_line (IsElement quote)
element_along quote = either_passes (one_passes (plain_along quote)) (then_passes (exactly_passes (92 ∷ []) refl) (one_passes (λ c t. t)))

elements_along : (quote : ℕ) → along (quote ∷ []) ≡ true → Throughout within_line (Then (Repeated (IsElement quote)) (Exactly (quote ∷ [])))
elements_along quote ends = then_passes (repeated_passes (element_along quote)) (exactly_passes (quote ∷ []) ends)

char_along : Throughout within_line IsCharConst
char_along =
    then_passes (record { at = contains_passes along char_prefixes refl })
    (then_passes (exactly_passes (39 ∷ []) refl) (then_passes (element_along 39) (elements_along 39 refl)))

str_along : Throughout within_line IsStr
str_along = then_passes (record { at = contains_passes along str_prefixes refl }) (then_passes (exactly_passes (34 ∷ []) refl) (elements_along 34 refl))

spelling_along : (k : Kind) (s : List ℕ) → Spells k s → along s ≡ true
spelling_along Ident s a = (ident_passes within_line word_along).at s a
spelling_along Number s a = (number_passes within_line word_along).at s a
spelling_along CharConst s a = char_along.at s a
spelling_along Str s a = str_along.at s a
spelling_along Punct s a = punct_passes along refl s a
spelling_along Header s a = absurd a
spelling_along Other s a = (one_passes visible_along).at s a.0

both_along : (a b : List ℕ) → along a ≡ true → along b ≡ true → along (a ++ b) ≡ true
both_along a b e f = list_all-append within_line a b ∙ and_from (along a) (along b) e f

spaces_along : (n : ℕ) → along (spaces n) ≡ true
spaces_along zero = refl
spaces_along (suc n) = spaces_along n

put_along : (p : Put) → Spells p.token.kind p.token.text → along (put_text p) ≡ true
put_along p a =
    both_along (spaces p.before ++ p.token.text) (spaces p.after)
    (both_along (spaces p.before) p.token.text (spaces_along p.before) (spelling_along p.token.kind p.token.text a)) (spaces_along p.after)

pub puts_along : (ps : List Put) → AreSpaced ps → along (puts_text ps) ≡ true
puts_along [] a = refl
puts_along (p ∷ []) a = both_along (put_text p) [] (put_along p a.0) refl
puts_along (p ∷ q ∷ ps) a = both_along (put_text p) (puts_text (q ∷ ps)) (put_along p a.0.0) (puts_along (q ∷ ps) a.2)

pub no_new_line : (ps : List Put) → AreSpaced ps → ¬ Contains (puts_text ps) 10
no_new_line ps a (k, lt, e) = false≢true (subst (λ z. within_line z ≡ true) e (AllPass-from_list_all within_line (puts_text ps) (puts_along ps a) k 10 lt))
