-- Languages whose texts pass a test at each character; the characters of identifiers and numbers.
use Rattle.std.proofs.Common.{◌≡◌, ℕ, Bool, true, ◌||◌, ◌==◌, List, [], ◌∷◌, ◌++◌, get_or, refl, sym, ◌∙◌, subst, inl, inr, arith}
use Rattle.std.specs.Prelude.{Contains}
use Rattle.std.specs.List.{list_all, AllByRecursion, flat_map}
use Rattle.std.proofs.lemmas.Bool.{and_from}
use Rattle.std.proofs.lemmas.Bool.Decides.{nat_tests}
use Rattle.std.proofs.lemmas.List.Folds.{list_all-append}
use Rattle.std.proofs.lemmas.List.Sums.{AllPass-from_list_all, list_all-from_AllPass}
use Rattle.pptext.specs.Languages.{Exactly, One, Then, Either, IsRun, Repeated}
use Rattle.pptext.specs.Spellings.{is_digit, is_hex, is_nondigit, is_exponent, is_sign, IsUniversal, IsNondigit, IsIdent, IsNumberPart, IsNumber, punctuators, IsPunct}
use Rattle.pptext.proofs.LongestPunctuator.{any_passes}

-- An entry of a table passes each test that all entries pass.
pub contains_passes : (test : List ℕ → Bool) (ps : List (List ℕ)) → list_all test ps ≡ true → (s : List ℕ) → Contains ps s → test s ≡ true
contains_passes test ps all s (k, lt, e) = subst (λ z. test z ≡ true) e (AllPass-from_list_all test ps all k s lt)

pub punct_passes : (test : List ℕ → Bool) → list_all test punctuators ≡ true → (s : List ℕ) → IsPunct s → test s ≡ true
punct_passes test all s p = any_passes test punctuators s all p

-- each character of each text of the language passes the test
pub record Throughout (test : ℕ → Bool) (P : List ℕ → Type 0) : Type 0 where
  pub at : (s : List ℕ) → P s → list_all test s ≡ true

both_pass : (test : ℕ → Bool) (a b : List ℕ) → list_all test a ≡ true → list_all test b ≡ true → list_all test (a ++ b) ≡ true
both_pass test a b e f = list_all-append test a b ∙ and_from (list_all test a) (list_all test b) e f

module _ {test : ℕ → Bool} where
  pub one_passes : {part : ℕ → Bool} → ((c : ℕ) → part c ≡ true → test c ≡ true) → Throughout test (One part)
  one_passes more = record { at = λ s h. subst (λ z. list_all test z ≡ true) (sym h.1) (and_from (test h.0) true (more h.0 h.2) refl) }

  pub either_passes : {P Q : List ℕ → Type 0} → Throughout test P → Throughout test Q → Throughout test (Either P Q)
  either_passes p q = record { at = λ s h. elim h [ inl a ↦ p.at s a | inr b ↦ q.at s b ] }

  pub then_passes : {P Q : List ℕ → Type 0} → Throughout test P → Throughout test Q → Throughout test (Then P Q)
  then_passes p q = record { at = λ s h. subst (λ z. list_all test z ≡ true) (sym h.2) (both_pass test h.0 h.1 (p.at h.0 h.3) (q.at h.1 h.4)) }

  pub exactly_passes : (text : List ℕ) → list_all test text ≡ true → Throughout test (Exactly text)
  exactly_passes text all = record { at = λ s e. subst (λ z. list_all test z ≡ true) (sym e) all }

  parts_pass : {P : List ℕ → Type 0} → Throughout test P → (parts : List (List ℕ)) → AllByRecursion P parts → list_all test (flat_map (λ p. p) parts) ≡ true
  parts_pass p [] all = refl
  parts_pass p (x ∷ xs) all = both_pass test x (flat_map (λ q. q) xs) (p.at x all.0) (parts_pass p xs all.1)

  pub repeated_passes : {P : List ℕ → Type 0} → Throughout test P → Throughout test (Repeated P)
  repeated_passes p = record { at = λ s h. subst (λ z. list_all test z ≡ true) (sym h.2) (parts_pass p h.0 h.1) }

  pub run_passes : (n : ℕ) {part : ℕ → Bool} → ((c : ℕ) → part c ≡ true → test c ≡ true) → Throughout test (IsRun n part)
  run_passes n more = record { at = λ s h. list_all-from_AllPass test s (λ k d lt. more (get_or s k d) (h.1 k d lt)) }

-- the characters of identifiers and numbers
abbrev pub is_word_byte : ℕ → Bool
is_word_byte c = is_nondigit c || (is_digit c || (is_sign c || (c == 46 || c == 92)))

nondigit_in_word : (c : ℕ) → is_nondigit c ≡ true → is_word_byte c ≡ true
nondigit_in_word c t = grind (arith, nat_tests)

digit_in_word : (c : ℕ) → is_digit c ≡ true → is_word_byte c ≡ true
digit_in_word c t = grind (arith, nat_tests)

hex_in_word : (c : ℕ) → is_hex c ≡ true → is_word_byte c ≡ true
hex_in_word c t = grind (arith, nat_tests)

dot_in_word : (c : ℕ) → is_digit c || c == 46 ≡ true → is_word_byte c ≡ true
dot_in_word c t = grind (arith, nat_tests)

exponent_in_word : (c : ℕ) → is_exponent c ≡ true → is_word_byte c ≡ true
exponent_in_word c t = grind (arith, nat_tests)

sign_in_word : (c : ℕ) → is_sign c ≡ true → is_word_byte c ≡ true
sign_in_word c t = grind (arith, nat_tests)

digit_words : Throughout is_word_byte (One is_digit)
digit_words = one_passes digit_in_word

universal_words : Throughout is_word_byte IsUniversal
universal_words =
    either_passes (then_passes (exactly_passes (92 ∷ 117 ∷ []) refl) (run_passes 4 hex_in_word))
    (then_passes (exactly_passes (92 ∷ 85 ∷ []) refl) (run_passes 8 hex_in_word))

nondigit_words : Throughout is_word_byte IsNondigit
nondigit_words = either_passes (one_passes nondigit_in_word) universal_words

ident_words : Throughout is_word_byte IsIdent
ident_words = then_passes nondigit_words (repeated_passes (either_passes nondigit_words digit_words))

number_part_words : Throughout is_word_byte IsNumberPart
number_part_words =
    either_passes nondigit_words (either_passes (one_passes dot_in_word) (then_passes (one_passes exponent_in_word) (one_passes sign_in_word)))

number_words : Throughout is_word_byte IsNumber
number_words =
    then_passes (either_passes digit_words (then_passes (exactly_passes (46 ∷ []) refl) digit_words)) (repeated_passes number_part_words)

-- a test that the characters of identifiers and numbers pass
module _ (test : ℕ → Bool) (words : (c : ℕ) → is_word_byte c ≡ true → test c ≡ true) where
  all_pass : (s : List ℕ) → list_all is_word_byte s ≡ true → list_all test s ≡ true
  all_pass s all = list_all-from_AllPass test s (λ k d lt. words (get_or s k d) (AllPass-from_list_all is_word_byte s all k d lt))

  pub ident_passes : Throughout test IsIdent
  ident_passes = record { at = λ s a. all_pass s (ident_words.at s a) }

  pub number_passes : Throughout test IsNumber
  number_passes = record { at = λ s a. all_pass s (number_words.at s a) }
