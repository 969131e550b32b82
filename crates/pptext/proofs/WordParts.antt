-- The parts of an identifier (6.4.2) and of a preprocessing number (6.4.8).
use Rattle.std.proofs.Common.{◌≡◌, ℕ, ◌<◌, Bool, true, false, ◌||◌, List, length, refl, sym, arith, get_or, ◌-◌, ◌≤◌, [], ◌∷◌, ◌++◌, take, drop, ap, ◌∙◌, inl, inr, ◌⊎◌, length-drop}
use Rattle.std.proofs.lemmas.Bool.{false≢true}
use Rattle.std.proofs.lemmas.Bool.Decides.{nat_tests}
use Rattle.pptext.specs.Languages.{One, Either, Exactly, Then}
use Rattle.pptext.specs.code.Scanning.{NoPrefix, IsNext, NextPart, IsOnly, OnlyPart}
use Rattle.pptext.specs.Spellings.{is_digit, is_nondigit, IsUniversal, IsNondigit, is_exponent, is_sign, IsNumberPart}
use Rattle.pptext.proofs.LanguagePrefixes.{next_from_only, either_lacks, one_empty, nondigit_here, nondigit_later, nondigit_none, ident_part_here, ident_part_later, one_here, one_lacks}
use Rattle.pptext.proofs.LanguagePrefixes.{universal_lacks, either_left, either_right, either_left_part, only_zero, only_some, front_of, begins_two, then_lacks, then_only, next_some, two_front}
use Rattle.pptext.proofs.LanguagePrefixes.{two_here, head_behind, exactly_here, one_begins}
use Rattle.pptext.proofs.KindUniqueness.{is_number_head}

-- ---- the parts of an identifier (6.4.2)

abbrev pub IdentPart : List ℕ → Type 0
IdentPart = Either IsNondigit (One is_digit)

or_left : (a b : Bool) → a || b ≡ false → a ≡ false
or_left true b e = e
or_left false b e = refl

or_right : (a b : Bool) → a || b ≡ false → b ≡ false
or_right true b e = absurd (false≢true (sym e))
or_right false b e = e

pub ident_byte : (text : List ℕ) → 0 < length text → is_nondigit (get_or text 0 0) || is_digit (get_or text 0 0) ≡ true → IsNext IdentPart text 1
ident_byte text l t = next_from_only IdentPart text 1 (cases (is_nondigit (get_or text 0 0)) (is_digit (get_or text 0 0)) refl refl t)
  where
    cases : (a b : Bool) → is_nondigit (get_or text 0 0) ≡ a → is_digit (get_or text 0 0) ≡ b → a || b ≡ true → IsOnly IdentPart text 1
    cases a true e f h = (ident_part_here text l f).1 (omega arith)
    cases true false e f h = (ident_part_later text 1 f (nondigit_here text l e)).1 (omega arith)
    cases false false e f h = absurd (false≢true h)

pub ident_universal : (text : List ℕ) (n : ℕ) → is_nondigit (get_or text 0 0) || is_digit (get_or text 0 0) ≡ false → OnlyPart IsUniversal text n → NextPart IdentPart text n
ident_universal text n f u =
    let whole : OnlyPart IdentPart text n = ident_part_later text n (or_right (is_nondigit (get_or text 0 0)) (is_digit (get_or text 0 0)) f)
    (nondigit_later text n (or_left (is_nondigit (get_or text 0 0)) (is_digit (get_or text 0 0)) f) u) in
    (whole.0, λ some. next_from_only IdentPart text n (whole.1 some))

pub ident_end : (text : List ℕ) → length text ≡ 0 → NoPrefix IdentPart text
ident_end text l = either_lacks IsNondigit (One is_digit) text ((nondigit_none text l).0 refl) (one_empty is_digit text l)

-- ---- the parts of a preprocessing number (6.4.8)

abbrev Exponent : List ℕ → Type 0
Exponent = Then (One is_exponent) (One is_sign)

pub lacks_nondigit : (text : List ℕ) → is_nondigit (get_or text 0 0) ≡ false → (get_or text 0 0 ≡ 92 → ⊥) → NoPrefix IsNondigit text
lacks_nondigit text f g = either_lacks (One is_nondigit) IsUniversal text (one_lacks is_nondigit text f) (universal_lacks text g)

number_head-no_nondigit : (x : ℕ) → is_number_head x ≡ true → is_nondigit x ≡ false
number_head-no_nondigit x t = grind (arith, nat_tests)

number_head-no_backslash : (x : ℕ) → is_number_head x ≡ true → x ≡ 92 → ⊥
number_head-no_backslash x t e = false≢true (ap is_number_head (sym e) ∙ t)

number_head-no_exponent : (x : ℕ) → is_number_head x ≡ true → is_exponent x ≡ false
number_head-no_exponent x t = grind (arith, nat_tests)

exponent-nondigit : (x : ℕ) → is_exponent x ≡ true → is_nondigit x ≡ true
exponent-nondigit x t = grind (arith, nat_tests)

exponent-no_digit : (x : ℕ) → is_exponent x ≡ true → is_number_head x ≡ false
exponent-no_digit x t = grind (arith, nat_tests)

sign-no_nondigit : (x : ℕ) → is_sign x ≡ true → is_nondigit x ≡ false
sign-no_nondigit x t = grind (arith, nat_tests)

sign-no_backslash : (x : ℕ) → is_sign x ≡ true → x ≡ 92 → ⊥
sign-no_backslash x t e = false≢true (ap is_sign (sym e) ∙ t)

sign-no_digit : (x : ℕ) → is_sign x ≡ true → is_number_head x ≡ false
sign-no_digit x t = grind (arith, nat_tests)

sign-no_exponent : (x : ℕ) → is_sign x ≡ true → is_exponent x ≡ false
sign-no_exponent x t = grind (arith, nat_tests)

-- A sign begins no part of a number.
sign_begins_none : (text : List ℕ) → is_sign (get_or text 0 0) ≡ true → NoPrefix IsNumberPart text
sign_begins_none text t =
    let x : ℕ = get_or text 0 0 in
    either_lacks IsNondigit (Either (One is_number_head) Exponent) text
    (lacks_nondigit text (sign-no_nondigit x t) (sign-no_backslash x t))
    (either_lacks (One is_number_head) Exponent text (one_lacks is_number_head text (sign-no_digit x t)) (then_lacks (One is_exponent) (One is_sign) text (one_lacks is_exponent text (sign-no_exponent x t))))

pub digit_part : (text : List ℕ) → 0 < length text → is_number_head (get_or text 0 0) ≡ true → NextPart IsNumberPart text 1
digit_part text l t =
    let x : ℕ = get_or text 0 0 in
    let inner : IsOnly (Either (One is_number_head) Exponent) text 1 =
    either_left (One is_number_head) Exponent text 1 (one_here is_number_head text l t) (then_lacks (One is_exponent) (One is_sign) text (one_lacks is_exponent text (number_head-no_exponent x t))) in
    let whole : OnlyPart IsNumberPart text 1 =
    either_right IsNondigit (Either (One is_number_head) Exponent) text 1 (lacks_nondigit text (number_head-no_nondigit x t) (number_head-no_backslash x t)) (only_some (Either (One is_number_head) Exponent) text 1 inner) in
    next_some IsNumberPart text 1 (next_from_only IsNumberPart text 1 (whole.1 (omega arith)))

-- The exponent letter alone is a part too, but then the sign after it begins no part.
exponent_others : (text : List ℕ)
    → 2 ≤ length text
    → is_exponent (get_or text 0 0) ≡ true
    → is_sign (get_or text 1 0) ≡ true
    → (m : ℕ)
    → m ≤ length text
    → IsNumberPart (take m text)
    → (m ≡ 2) ⊎ ((m < 2) × NoPrefix IsNumberPart (drop m text))
exponent_others text l t s m fits (inl nondigit) =
    let one : m ≡ 1 = ((nondigit_here text (omega arith) (exponent-nondigit (get_or text 0 0) t)).1 (omega arith)).only m fits nondigit in
    let none : NoPrefix IsNumberPart (drop 1 text) = sign_begins_none (drop 1 text) (ap is_sign (head_behind text) ∙ s) in
    inr (omega arith, rw one none)
exponent_others text l t s m fits (inr (inl digit)) = absurd (one_lacks is_number_head text (exponent-no_digit (get_or text 0 0) t) m fits digit)
exponent_others text l t s m fits (inr (inr both)) = inl (two_front is_exponent is_sign text m fits both).0

pub exponent_part : (text : List ℕ) → 2 ≤ length text → is_exponent (get_or text 0 0) ≡ true → is_sign (get_or text 1 0) ≡ true → NextPart IsNumberPart text 2
exponent_part text l t s =
    next_some IsNumberPart text 2 (record {
      positive = omega arith;
      fits = l;
      part = inr (inr (two_here is_exponent is_sign text l t s).part);
      others = λ m fits p. exponent_others text l t s m fits p;
    })

pub nondigit_part : (text : List ℕ) (n : ℕ)
    → is_number_head (get_or text 0 0) ≡ false
    → ((2 ≤ length text) × (is_exponent (get_or text 0 0) ≡ true) × (is_sign (get_or text 1 0) ≡ true) → ⊥)
    → OnlyPart IsNondigit text n
    → NextPart IsNumberPart text n
nondigit_part text n f g p =
    let lacks : NoPrefix (Either (One is_number_head) Exponent) text =
    either_lacks (One is_number_head) Exponent text (one_lacks is_number_head text f)
    (λ m fits e. let h = two_front is_exponent is_sign text m fits e in g (h.1, h.2, h.3)) in
    let whole : OnlyPart IsNumberPart text n = either_left_part IsNondigit (Either (One is_number_head) Exponent) text n p lacks in
    (whole.0, λ some. next_from_only IsNumberPart text n (whole.1 some))

-- the start of a number: a digit, or a period and a digit
abbrev pub Fraction : List ℕ → Type 0
Fraction = Then (Exactly (46 ∷ [])) (One is_digit)

abbrev pub NumberStart : List ℕ → Type 0
NumberStart = Either (One is_digit) Fraction

pub period_front : (text : List ℕ) (m : ℕ) → m ≤ length text → Fraction (take m text) → (2 ≤ length text) × (get_or text 0 0 ≡ 46) × (is_digit (get_or text 1 0) ≡ true)
period_front text m fits (a, b, e, x, (d, bd, t)) =
    let e' : take m text ≡ (46 ∷ d ∷ []) ++ [] = cc in
    let h = begins_two text 46 d [] (sym (front_of text (46 ∷ d ∷ []) [] m fits e')) in
    (h.0, h.1, ap is_digit h.2 ∙ t)

digit-no_period : (x : ℕ) → is_digit x ≡ true → x ≡ 46 → ⊥
digit-no_period x t e = false≢true (ap is_digit (sym e) ∙ t)

period-no_digit : (x : ℕ) → x ≡ 46 → is_digit x ≡ false
period-no_digit x e = ap is_digit e

pub digit_start : (text : List ℕ) → 0 < length text → is_digit (get_or text 0 0) ≡ true → OnlyPart NumberStart text 1
digit_start text l t =
    only_some NumberStart text 1 (either_left (One is_digit) Fraction text 1 (one_here is_digit text l t) (λ m fits f. digit-no_period (get_or text 0 0) t (period_front text m fits f).1))

pub period_start : (text : List ℕ) → 2 ≤ length text → get_or text 0 0 ≡ 46 → is_digit (get_or text 1 0) ≡ true → OnlyPart NumberStart text 2
period_start text l e t =
    let d : length (drop 1 text) ≡ length text - 1 = length-drop 1 text in
    let period : IsOnly (Exactly (46 ∷ [])) text 1 = exactly_here (46 ∷ []) text (omega arith) (one_begins text 46 (omega arith) e) (omega arith) in
    let digit : IsOnly (One is_digit) (drop 1 text) 1 = one_here is_digit (drop 1 text) (omega arith) (ap is_digit (head_behind text) ∙ t) in
    either_right (One is_digit) Fraction text 2 (one_lacks is_digit text (period-no_digit (get_or text 0 0) e)) (only_some Fraction text 2 (then_only (Exactly (46 ∷ [])) (One is_digit) text 1 1 period digit))

pub no_start : (text : List ℕ) → is_digit (get_or text 0 0) ≡ false → ((2 ≤ length text) × (get_or text 0 0 ≡ 46) × (is_digit (get_or text 1 0) ≡ true) → ⊥) → OnlyPart NumberStart text 0
no_start text f g =
    only_zero NumberStart text (either_lacks (One is_digit) Fraction text (one_lacks is_digit text f) (λ m fits h. g (period_front text m fits h)))
