-- The last characters of tokens: which of them end in a CR, a `\` or a `?`.
use Rattle.std.proofs.Common.{◌≡◌, ℕ, ◌<◌, Bool, true, false, not, ◌||◌, ◌==◌, List, [], ◌∷◌, ◌++◌, length, flat_map, refl, sym, subst, inl, inr, arith}
use Rattle.std.specs.List.{AllByRecursion, list_all}
use Rattle.std.specs.Str.{bytes_eq}
use Rattle.std.proofs.lemmas.Bool.{false≢true, and_parts}
use Rattle.std.proofs.lemmas.Bool.Decides.{nat_tests}
use Rattle.pptext.specs.declared.tokens.Kind.{Kind}
use Rattle.pptext.specs.declared.tokens.Kind.TheVariants.{Ident, Number, CharConst, Str, Punct, Header, Other}
use Rattle.pptext.specs.Languages.{Exactly, One, Then, Either, IsRun, Repeated}
use Rattle.pptext.specs.Spellings.{is_blank, is_digit, is_hex, is_nondigit, is_sign, IsUniversal, IsNondigit, IsIdent, IsNumberPart, IsNumber, IsCharConst, IsStr, Spells}
use Rattle.pptext.proofs.CharacterTests.{run_passes, punct_passes}

-- the last character of a text behind a character
abbrev pub last_after : ℕ → List ℕ → ℕ
last_after p [] = p
last_after p (c ∷ cs) = last_after c cs

pub last_append : (p : ℕ) (a b : List ℕ) → last_after p (a ++ b) ≡ last_after (last_after p a) b
last_append p [] b = refl
last_append p (c ∷ a) b = last_append c a b

-- no CR, `\` or `?`
abbrev pub is_firm : ℕ → Bool
is_firm c = not (c == 13 || (c == 92 || c == 63))

-- ---- languages

-- the last character of each text of the language is firm
record Ends (P : List ℕ → Type 0) : Type 0 where
  at : (s : List ℕ) (c : ℕ) → P s → is_firm (last_after c s) ≡ true

-- the same, behind a firm character, where the text may be empty
record Keeps (P : List ℕ → Type 0) : Type 0 where
  at : (s : List ℕ) (c : ℕ) → P s → is_firm c ≡ true → is_firm (last_after c s) ≡ true

ends_keeps : {P : List ℕ → Type 0} → Ends P → Keeps P
ends_keeps p = record { at = λ s c h f. p.at s c h }

one_ends : {part : ℕ → Bool} → ((c : ℕ) → part c ≡ true → is_firm c ≡ true) → Ends (One part)
one_ends more = record { at = λ s c h. subst (λ z. is_firm (last_after c z) ≡ true) (sym h.1) (more h.0 h.2) }

exactly_ends : (x : ℕ) → is_firm x ≡ true → Ends (Exactly (x ∷ []))
exactly_ends x f = record { at = λ s c h. subst (λ z. is_firm (last_after c z) ≡ true) (sym h) f }

either_ends : {P Q : List ℕ → Type 0} → Ends P → Ends Q → Ends (Either P Q)
either_ends p q = record { at = λ s c h. elim h [ inl a ↦ p.at s c a | inr b ↦ q.at s c b ] }

then_ends : {P Q : List ℕ → Type 0} → Ends Q → Ends (Then P Q)
then_ends q = record { at = λ s c h. subst (λ z. is_firm (last_after c z) ≡ true) (sym h.2) (subst (λ d. is_firm d ≡ true) (sym (last_append c h.0 h.1)) (q.at h.1 (last_after c h.0) h.4)) }

then_kept : {P Q : List ℕ → Type 0} → Ends P → Keeps Q → Ends (Then P Q)
then_kept p q = record {
  at = λ s c h. subst (λ z. is_firm (last_after c z) ≡ true) (sym h.2) (subst (λ d. is_firm d ≡ true) (sym (last_append c h.0 h.1)) (q.at h.1 (last_after c h.0) h.4 (p.at h.0 c h.3)));
}

parts_keep : {P : List ℕ → Type 0} → Keeps P → (parts : List (List ℕ)) (c : ℕ) → AllByRecursion P parts → is_firm c ≡ true → is_firm (last_after c (flat_map (λ p. p) parts)) ≡ true
parts_keep p [] c all f = f
parts_keep p (x ∷ xs) c all f =
    subst (λ d. is_firm d ≡ true) (sym (last_append c x (flat_map (λ r. r) xs))) (parts_keep p xs (last_after c x) all.1 (p.at x c all.0 f))

repeated_keeps : {P : List ℕ → Type 0} → Keeps P → Keeps (Repeated P)
repeated_keeps p = record { at = λ s c h f. subst (λ z. is_firm (last_after c z) ≡ true) (sym h.2) (parts_keep p h.0 c h.1 f) }

all_firm : (s : List ℕ) (c : ℕ) → list_all is_firm s ≡ true → is_firm c ≡ true → is_firm (last_after c s) ≡ true
all_firm [] c e f = f
all_firm (d ∷ s) c e f = let h = and_parts (is_firm d) (list_all is_firm s) e in all_firm s d h.1 h.0

some_firm : (s : List ℕ) (c : ℕ) → 0 < length s → list_all is_firm s ≡ true → is_firm (last_after c s) ≡ true
some_firm [] c some e = absurd (omega arith)
some_firm (d ∷ s) c some e = let h = and_parts (is_firm d) (list_all is_firm s) e in all_firm s d h.1 h.0

hex_firm : (c : ℕ) → is_hex c ≡ true → is_firm c ≡ true
hex_firm c t = grind (arith, nat_tests)

run_ends : (n : ℕ) → 0 < n → Ends (IsRun n is_hex)
run_ends n some = record { at = λ s c h. some_firm s c (subst (λ m. 0 < m) (sym h.0) some) ((run_passes n {part = is_hex} hex_firm).at s h) }

-- ---- kinds

nondigit_firm : (c : ℕ) → is_nondigit c ≡ true → is_firm c ≡ true
nondigit_firm c t = grind (arith, nat_tests)

digit_firm : (c : ℕ) → is_digit c ≡ true → is_firm c ≡ true
digit_firm c t = grind (arith, nat_tests)

dot_firm : (c : ℕ) → is_digit c || c == 46 ≡ true → is_firm c ≡ true
dot_firm c t = grind (arith, nat_tests)

sign_firm : (c : ℕ) → is_sign c ≡ true → is_firm c ≡ true
sign_firm c t = grind (arith, nat_tests)

universal_ends : Ends IsUniversal
universal_ends = either_ends (then_ends (run_ends 4 (omega arith))) (then_ends (run_ends 8 (omega arith)))

nondigit_ends : Ends IsNondigit
nondigit_ends = either_ends (one_ends nondigit_firm) universal_ends

ident_ends : Ends IsIdent
ident_ends = then_kept nondigit_ends (repeated_keeps (ends_keeps (either_ends nondigit_ends (one_ends digit_firm))))

number_ends : Ends IsNumber
number_ends =
    let part : Ends IsNumberPart = either_ends nondigit_ends (either_ends (one_ends dot_firm) (then_ends (one_ends sign_firm))) in
    then_kept (either_ends (one_ends digit_firm) (then_ends (one_ends digit_firm))) (repeated_keeps (ends_keeps part))

char_ends : Ends IsCharConst
char_ends = then_ends (then_ends (then_ends (then_ends (exactly_ends 39 refl))))

str_ends : Ends IsStr
str_ends = then_ends (then_ends (then_ends (exactly_ends 34 refl)))

-- The last character is firm, or the text is a `\` or a `?` alone.
abbrev pub ends_firmly : List ℕ → Bool
ends_firmly [] = false
ends_firmly (c ∷ cs) = is_firm (last_after c cs) || (bytes_eq (c ∷ cs) (92 ∷ []) || bytes_eq (c ∷ cs) (63 ∷ []))

firm_end : (s : List ℕ) → 0 < length s → is_firm (last_after 0 s) ≡ true → ends_firmly s ≡ true
firm_end [] some e = absurd (omega arith)
firm_end (c ∷ cs) some e = go (is_firm (last_after c cs)) e
  where
    go : (x : Bool) → x ≡ true → x || (bytes_eq (c ∷ cs) (92 ∷ []) || bytes_eq (c ∷ cs) (63 ∷ [])) ≡ true
    go true f = refl
    go false f = absurd (false≢true f)

visible_end : (c : ℕ) → not (is_blank c || c == 10) ≡ true → ends_firmly (c ∷ []) ≡ true
visible_end c e = grind (arith, nat_tests)

pub spelled_end : (k : Kind) (s : List ℕ) → Spells k s → 0 < length s → ends_firmly s ≡ true
spelled_end Ident s t some = firm_end s some (ident_ends.at s 0 t)
spelled_end Number s t some = firm_end s some (number_ends.at s 0 t)
spelled_end CharConst s t some = firm_end s some (char_ends.at s 0 t)
spelled_end Str s t some = firm_end s some (str_ends.at s 0 t)
spelled_end Punct s t some = punct_passes ends_firmly refl s t
spelled_end Header s t some = absurd t
spelled_end Other s t some = subst (λ z. ends_firmly z ≡ true) (sym t.0.1) (visible_end t.0.0 t.0.2)
