-- Where two tokens are not kept apart, no longer token and no comment begins with the first.
use Rattle.std.proofs.Common.{◌≡◌, ℕ, zero, suc, ◌-◌, ◌<◌, Bool, true, false, not, ◌||◌, ◌&&◌, ◌==◌, List, [], ◌∷◌, ◌++◌, length, take, drop, codes}
use Rattle.std.proofs.Common.{refl, sym, ap, ◌∙◌, subst, inl, inr, ◌⊎◌, arith, append_assoc, length-append, if◌then◌else◌}
use Rattle.std.specs.List.{list_any, list_all}
use Rattle.std.specs.Str.{bytes_eq}
use Rattle.std.proofs.lemmas.Bool.{false≢true, and_parts, and_from, or_right}
use Rattle.std.proofs.lemmas.Bool.Decides.{nat_tests}
use Rattle.std.proofs.lemmas.List.{take-append-le, take-append-drop, take_all}
use Rattle.std.proofs.lemmas.Slice.Eq.{bytes_eq-Decides}
use Rattle.pptext.specs.declared.tokens.Kind.{Kind}
use Rattle.pptext.specs.declared.tokens.Kind.TheVariants.{Ident, Number, CharConst, Str, Punct, Header, Other}
use Rattle.pptext.specs.Languages.{One, Longest}
use Rattle.pptext.specs.Lexemes.{OpensBlock, OpensLine}
use Rattle.pptext.specs.Sources.{IsUnmatchedQuote}
use Rattle.pptext.specs.Spellings.{is_blank, is_digit, is_nondigit, is_hex, IsIdent, IsNumber, IsPunct, IsOther, IsSpelling, Spells, punctuators}
use Rattle.pptext.proofs.CharacterTests.{Throughout, one_passes, either_passes, then_passes, exactly_passes, repeated_passes, run_passes, punct_passes, is_word_byte, ident_passes, number_passes}
use Rattle.pptext.proofs.KindUniqueness.{begins, begins-append, begins_apart, is_ident_head, is_number_head, begins_number, ident_begins, number_begins, number_head}
use Rattle.pptext.proofs.TokenizationUniqueness.{opening_begins}
use Rattle.ppprint.specs.Apart.{joints, is_joint_start, must_part}
use Rattle.ppprint.proofs.LiteralEnds.{is_quote, is_ident_byte, no_quote, closes, is_literal, char_literal, str_literal, literal_end}
use Rattle.ppprint.proofs.LiteralEnds.{opens_literal, is_literal_head, begins_literal, char_opens, str_opens, char_headed, str_headed, no_opening}

-- ---- parts of lists

-- a test that all characters pass, at the first of the second part
middle : (test : ℕ → Bool) (a r : List ℕ) (c : ℕ) → list_all test (a ++ c ∷ r) ≡ true → test c ≡ true
middle test [] r c e = (and_parts (test c) (list_all test r) e).0
middle test (x ∷ a) r c e = middle test a r c (and_parts (test x) (list_all test (a ++ c ∷ r)) e).1

front : (test : ℕ → Bool) (a b : List ℕ) → list_all test (a ++ b) ≡ true → list_all test a ≡ true
front test [] b e = refl
front test (x ∷ a) b e = let h = and_parts (test x) (list_all test (a ++ b)) e in and_from (test x) (list_all test a) h.0 (front test a b h.1)

not_true : (b : Bool) → not b ≡ true → b ≡ true → ⊥
not_true true e f = false≢true e
not_true false e f = false≢true f

-- ---- the characters of tokens

hex_ident : (c : ℕ) → is_hex c ≡ true → is_ident_byte c ≡ true
hex_ident c t = grind (arith, nat_tests)

nondigit_ident : (c : ℕ) → is_nondigit c ≡ true → is_ident_byte c ≡ true
nondigit_ident c t = grind (arith, nat_tests)

digit_ident : (c : ℕ) → is_digit c ≡ true → is_ident_byte c ≡ true
digit_ident c t = grind (arith, nat_tests)

ident_bytes : Throughout is_ident_byte IsIdent
ident_bytes =
    let universal = either_passes (then_passes (exactly_passes (92 ∷ 117 ∷ []) refl) (run_passes 4 hex_ident)) (then_passes (exactly_passes (92 ∷ 85 ∷ []) refl) (run_passes 8 hex_ident)) in
    let nondigit = either_passes (one_passes nondigit_ident) universal in
    then_passes nondigit (repeated_passes (either_passes nondigit (one_passes digit_ident)))

number_bytes : Throughout is_word_byte IsNumber
number_bytes = number_passes is_word_byte (λ c t. t)

word_no_quote : (c : ℕ) → is_word_byte c ≡ true → not (is_quote c) ≡ true
word_no_quote c t = grind (arith, nat_tests)

ident_no_quote : Throughout (λ c. not (is_quote c)) IsIdent
ident_no_quote = ident_passes (λ c. not (is_quote c)) word_no_quote

-- no punctuator has this character: one of a word, a quote, white space or a new-line
abbrev pub is_outside : ℕ → Bool
is_outside c = is_ident_byte c || (is_quote c || (is_blank c || c == 10))

punct_inside : Throughout (λ c. not (is_outside c)) IsPunct
punct_inside = record { at = punct_passes (λ p. list_all (λ c. not (is_outside c)) p) refl }

word_outside : (c : ℕ) → is_ident_head c ≡ true → is_outside c ≡ true
word_outside c t = grind (arith, nat_tests)

-- ---- where a token ends

-- A token of this kind with this spelling ends before this character.
abbrev pub ends_before : Kind → List ℕ → ℕ → Bool
ends_before Ident a c = not (is_ident_byte c || is_quote c)
ends_before Number a c = not (is_word_byte c)
ends_before CharConst a c = true
ends_before Str a c = true
ends_before Punct a c = not (is_joint_start (a ++ c ∷ [])) && not (bytes_eq a (codes ".") && is_digit c)
ends_before Header a c = false
ends_before Other a c = is_blank c || c == 10

is_not : (b : Bool) → not b ≡ true → b ≡ false
is_not true e = absurd (false≢true e)
is_not false e = refl

long : (a r s : List ℕ) (c : ℕ) (test : ℕ → Bool) → 0 < length a → s ≡ a ++ c ∷ r → One test s → ⊥
long a r s c test some e (d, f, t) =
    let h : length (a ++ c ∷ r) ≡ 1 = ap length (sym e ∙ f) in
    let l = length-append a (c ∷ r) in
    absurd (omega arith)

begins_some : (test : ℕ → Bool) (s : List ℕ) → begins test s ≡ true → 0 < length s
begins_some test [] e = absurd (false≢true e)
begins_some test (c ∷ s) e = omega arith

number_front : (a b : List ℕ) → begins_number a ≡ true → begins_number (a ++ b) ≡ true
number_front [] b e = absurd (false≢true e)
number_front (c ∷ []) [] e = e
number_front (c ∷ []) (d ∷ b) e = grind (arith, nat_tests)
number_front (c ∷ d ∷ a) b e = e

heads_apart : (c : ℕ) → is_ident_head c ≡ true → is_number_head c ≡ true → ⊥
heads_apart c t u = grind (arith, nat_tests)

literal_number_apart : (c : ℕ) → is_literal_head c ≡ true → is_number_head c ≡ true → ⊥
literal_number_apart c t u = grind (arith, nat_tests)

headed : (s : List ℕ) → begins_literal s ≡ true → begins is_literal_head s ≡ true
headed [] e = e
headed (c ∷ s) e = e

-- ---- identifiers

module _ (a r : List ℕ) (c : ℕ) (ident : IsIdent a) (ends : not (is_ident_byte c || is_quote c) ≡ true) where
  ident_head : (s : List ℕ) → s ≡ a ++ c ∷ r → begins is_ident_head s ≡ true
  ident_head s e = subst (λ z. begins is_ident_head z ≡ true) (sym e) (begins-append is_ident_head a (c ∷ r) (ident_begins a ident))

  ident_some : 0 < length a
  ident_some = begins_some is_ident_head a (ident_begins a ident)

  no_byte : is_ident_byte c ≡ true → ⊥
  no_byte t = grind (arith, nat_tests)

  ident_literal : (s : List ℕ) → s ≡ a ++ c ∷ r → opens_literal s ≡ true → ⊥
  ident_literal s e t =
      no_opening a r c ident_some (ident_no_quote.at a ident) (is_not (is_ident_byte c || is_quote c) ends) (subst (λ z. opens_literal z ≡ true) e t)

  ident_ends : (s : List ℕ) (j : Kind) → Spells j s → s ≡ a ++ c ∷ r → ⊥
  ident_ends s Ident t e = no_byte (middle is_ident_byte a r c (subst (λ z. list_all is_ident_byte z ≡ true) e (ident_bytes.at s t)))
  ident_ends s Number t e = begins_apart is_ident_head is_number_head heads_apart s (ident_head s e) (number_head s (number_begins s t))
  ident_ends s CharConst t e = ident_literal s e (char_opens s t)
  ident_ends s Str t e = ident_literal s e (str_opens s t)
  ident_ends s Punct t e = not_true (begins is_ident_head s) (punct_passes (λ p. not (begins is_ident_head p)) refl s t) (ident_head s e)
  ident_ends s Header t e = t
  ident_ends s Other t e = long a r s c _ ident_some e t.0

-- ---- numbers

module _ (a r : List ℕ) (c : ℕ) (number : IsNumber a) (ends : not (is_word_byte c) ≡ true) where
  number_here : (s : List ℕ) → s ≡ a ++ c ∷ r → begins_number s ≡ true
  number_here s e = subst (λ z. begins_number z ≡ true) (sym e) (number_front a (c ∷ r) (number_begins a number))

  number_some : 0 < length a
  number_some = begins_some is_number_head a (number_head a (number_begins a number))

  number_ends : (s : List ℕ) (j : Kind) → Spells j s → s ≡ a ++ c ∷ r → ⊥
  number_ends s Ident t e = begins_apart is_ident_head is_number_head heads_apart s (ident_begins s t) (number_head s (number_here s e))
  number_ends s Number t e = not_true (is_word_byte c) ends (middle is_word_byte a r c (subst (λ z. list_all is_word_byte z ≡ true) e (number_bytes.at s t)))
  number_ends s CharConst t e = begins_apart is_literal_head is_number_head literal_number_apart s (headed s (char_headed s t)) (number_head s (number_here s e))
  number_ends s Str t e = begins_apart is_literal_head is_number_head literal_number_apart s (headed s (str_headed s t)) (number_head s (number_here s e))
  number_ends s Punct t e = not_true (begins_number s) (punct_passes (λ p. not (begins_number p)) refl s t) (number_here s e)
  number_ends s Header t e = t
  number_ends s Other t e = long a r s c _ number_some e t.0

-- ---- literals

some_quote : (a : List ℕ) → is_literal a ≡ true → no_quote a ≡ true → ⊥
some_quote [] e f = false≢true e
some_quote (d ∷ a) e f = go (is_quote d) e f (some_quote a)
  where
    go : (x : Bool) → (if x then closes d false a else is_literal a) ≡ true → (not x && no_quote a) ≡ true → (is_literal a ≡ true → no_quote a ≡ true → ⊥) → ⊥
    go true e f later = false≢true f
    go false e f later = later e f

literal_some : (a : List ℕ) → is_literal a ≡ true → 0 < length a
literal_some [] e = absurd (false≢true e)
literal_some (c ∷ a) e = omega arith

number_no_quote : Throughout (λ c. not (is_quote c)) IsNumber
number_no_quote = number_passes (λ c. not (is_quote c)) word_no_quote

punct_no_quote : Throughout (λ c. not (is_quote c)) IsPunct
punct_no_quote = record { at = punct_passes no_quote refl }

module _ (a r : List ℕ) (c : ℕ) (literal : is_literal a ≡ true) where
  quote_in : (s : List ℕ) → s ≡ a ++ c ∷ r → no_quote s ≡ true → ⊥
  quote_in s e t = some_quote a literal (front (λ d. not (is_quote d)) a (c ∷ r) (subst (λ z. no_quote z ≡ true) e t))

  literal_ends : (s : List ℕ) (j : Kind) → Spells j s → s ≡ a ++ c ∷ r → ⊥
  literal_ends s Ident t e = quote_in s e (ident_no_quote.at s t)
  literal_ends s Number t e = quote_in s e (number_no_quote.at s t)
  literal_ends s CharConst t e = literal_end a r c literal (subst (λ z. is_literal z ≡ true) e (char_literal s t))
  literal_ends s Str t e = literal_end a r c literal (subst (λ z. is_literal z ≡ true) e (str_literal s t))
  literal_ends s Punct t e = quote_in s e (punct_no_quote.at s t)
  literal_ends s Header t e = t
  literal_ends s Other t e = long a r s c _ (literal_some a literal) e t.0

-- ---- punctuators

-- a joint that begins with a text, at least as long
joint_of : (joint text : List ℕ) (more : List (List ℕ)) → take (length text) joint ≡ text → list_any (λ p. bytes_eq (take (length text) p) text) (joint ∷ more) ≡ true
joint_of joint text more e = rw ((bytes_eq-Decides (take (length text) joint) text).1 e) refl

-- a punctuator is among the joints, so each of its beginnings begins a joint
begins_of : (ps : List (List ℕ)) (text rest : List ℕ) → list_any (λ p. bytes_eq p (text ++ rest)) ps ≡ true → list_any (λ p. bytes_eq (take (length text) p) text) ps ≡ true
begins_of [] text rest e = e
begins_of (p ∷ ps) text rest e = go (bytes_eq p (text ++ rest)) refl e (begins_of ps text rest)
  where
    cut : p ≡ text ++ rest → take (length text) p ≡ text
    cut f = ap (take (length text)) f ∙ take-append-le (length text) text rest (omega arith) ∙ take_all (length text) text (omega arith)

    go : (x : Bool)
        → bytes_eq p (text ++ rest) ≡ x
        → (x || list_any (λ q. bytes_eq q (text ++ rest)) ps) ≡ true
        → (list_any (λ q. bytes_eq q (text ++ rest)) ps ≡ true → list_any (λ q. bytes_eq (take (length text) q) text) ps ≡ true)
        → list_any (λ q. bytes_eq (take (length text) q) text) (p ∷ ps) ≡ true
    go true f e later = joint_of p text ps (cut ((bytes_eq-Decides p (text ++ rest)).0 f))
    go false f e later = or_right (bytes_eq (take (length text) p) text) (list_any (λ q. bytes_eq (take (length text) q) text) ps) (later e)

begins_back : (test : ℕ → Bool) (a b : List ℕ) → 0 < length a → begins test (a ++ b) ≡ true → begins test a ≡ true
begins_back test [] b some e = absurd (omega arith)
begins_back test (c ∷ a) b some e = e

punct_some : (a : List ℕ) → IsPunct a → 0 < length a
punct_some a t = begins_some (λ c. not (is_outside c)) a (punct_passes (λ p. begins (λ c. not (is_outside c)) p) refl a t)

number_after : (a r : List ℕ) (c : ℕ) → not (begins_number a) ≡ true → not (bytes_eq a (codes ".") && is_digit c) ≡ true → 0 < length a → begins_number (a ++ c ∷ r) ≡ true → ⊥
number_after [] r c e f some g = omega arith
number_after (x ∷ []) r c e f some g = grind (arith, nat_tests)
number_after (x ∷ y ∷ a) r c e f some g = not_true (begins_number (x ∷ y ∷ a)) e g

module _ (a r : List ℕ) (c : ℕ) (punct : IsPunct a) (apart : not (is_joint_start (a ++ c ∷ [])) ≡ true) (digit : not (bytes_eq a (codes ".") && is_digit c) ≡ true) where
  punct_head : (test : ℕ → Bool) → begins test a ≡ false → (s : List ℕ) → s ≡ a ++ c ∷ r → begins test s ≡ true → ⊥
  punct_head test none s e t = false≢true (sym none ∙ begins_back test a (c ∷ r) (punct_some a punct) (subst (λ z. begins test z ≡ true) e t))

  punct_punct : (s : List ℕ) → s ≡ a ++ c ∷ r → IsPunct s → ⊥
  unfolding is_joint_start
  punct_punct s e t =
      let whole : s ≡ (a ++ c ∷ []) ++ r = e ∙ sym (append_assoc a (c ∷ []) r) in
      let test : List ℕ → Bool = λ p. bytes_eq (take (length (a ++ c ∷ [])) p) (a ++ c ∷ []) in
      let here : list_any test punctuators ≡ true = begins_of punctuators (a ++ c ∷ []) r (subst (λ z. list_any (λ p. bytes_eq p z) punctuators ≡ true) whole t) in
      let one = or_right (test (codes "??")) (list_any test punctuators) here in
      let two = or_right (test (codes "/*")) (test (codes "??") || list_any test punctuators) one in
      not_true (is_joint_start (a ++ c ∷ [])) apart (or_right (test (codes "//")) (test (codes "/*") || (test (codes "??") || list_any test punctuators)) two)

  punct_ends : (s : List ℕ) (j : Kind) → Spells j s → s ≡ a ++ c ∷ r → ⊥
  punct_ends s Ident t e = punct_head is_ident_head (is_not (begins is_ident_head a) (punct_passes (λ p. not (begins is_ident_head p)) refl a punct)) s e (ident_begins s t)
  punct_ends s Number t e =
      number_after a r c (punct_passes (λ p. not (begins_number p)) refl a punct) digit (punct_some a punct) (subst (λ z. begins_number z ≡ true) e (number_begins s t))
  punct_ends s CharConst t e = punct_head is_literal_head (is_not (begins is_literal_head a) (punct_passes (λ p. not (begins is_literal_head p)) refl a punct)) s e (headed s (char_headed s t))
  punct_ends s Str t e = punct_head is_literal_head (is_not (begins is_literal_head a) (punct_passes (λ p. not (begins is_literal_head p)) refl a punct)) s e (headed s (str_headed s t))
  punct_ends s Punct t e = punct_punct s e t
  punct_ends s Header t e = t
  punct_ends s Other t e = long a r s c _ (punct_some a punct) e t.0

-- ---- other characters

blank_no_word : (c : ℕ) → is_blank c || c == 10 ≡ true → is_word_byte c ≡ true → ⊥
blank_no_word c t u = grind (arith, nat_tests)

blank_outside : (c : ℕ) → is_blank c || c == 10 ≡ true → is_outside c ≡ true
blank_outside c t = grind (arith, nat_tests)

blank_no_ident : (c : ℕ) → is_blank c || c == 10 ≡ true → is_ident_byte c || is_quote c ≡ false
blank_no_ident c t = grind (arith, nat_tests)

other_some : (a : List ℕ) → IsOther a → 0 < length a
other_some a t = let h : length a ≡ 1 = ap length t.0.1 in omega arith

other_no_quote : (a : List ℕ) → IsOther a → (¬ IsUnmatchedQuote a) → no_quote a ≡ true
other_no_quote a t lone = subst (λ z. no_quote z ≡ true) (sym t.0.1) (go (t.0.0 == 39) (t.0.0 == 34) refl refl)
  where
    is_equal : (q : ℕ) → t.0.0 == q ≡ true → a ≡ q ∷ []
    is_equal q e = t.0.1 ∙ ap (λ (z : ℕ). z ∷ []) (grind (arith, nat_tests))

    go : (x y : Bool) → t.0.0 == 39 ≡ x → t.0.0 == 34 ≡ y → (not (x || y) && true) ≡ true
    go true y e f = absurd (lone (inl (is_equal 39 e)))
    go false true e f = absurd (lone (inr (is_equal 34 f)))
    go false false e f = refl

module _ (a r : List ℕ) (c : ℕ) (other : IsOther a) (lone : ¬ IsUnmatchedQuote a) (blank : is_blank c || c == 10 ≡ true) where
  other_literal : (s : List ℕ) → s ≡ a ++ c ∷ r → opens_literal s ≡ true → ⊥
  other_literal s e t = no_opening a r c (other_some a other) (other_no_quote a other lone) (blank_no_ident c blank) (subst (λ z. opens_literal z ≡ true) e t)

  other_word : (s : List ℕ) → s ≡ a ++ c ∷ r → list_all is_word_byte s ≡ true → ⊥
  other_word s e t = blank_no_word c blank (middle is_word_byte a r c (subst (λ z. list_all is_word_byte z ≡ true) e t))

  other_ends : (s : List ℕ) (j : Kind) → Spells j s → s ≡ a ++ c ∷ r → ⊥
  other_ends s Ident t e = other_word s e ((ident_passes is_word_byte (λ d u. u)).at s t)
  other_ends s Number t e = other_word s e (number_bytes.at s t)
  other_ends s CharConst t e = other_literal s e (char_opens s t)
  other_ends s Str t e = other_literal s e (str_opens s t)
  other_ends s Punct t e =
      not_true (is_outside c) (middle (λ d. not (is_outside d)) a r c (subst (λ z. list_all (λ d. not (is_outside d)) z ≡ true) e (punct_inside.at s t))) (blank_outside c blank)
  other_ends s Header t e = t
  other_ends s Other t e = long a r s c _ (other_some a other) e t.0

-- ---- all kinds

-- A token ends before the character: no spelling begins with it and the character.
pub token_ends : (k : Kind) (a r : List ℕ) (c : ℕ) → Spells k a → (¬ IsUnmatchedQuote a) → ends_before k a c ≡ true → (s : List ℕ) (j : Kind) → Spells j s → s ≡ a ++ c ∷ r → ⊥
token_ends Ident a r c t lone e = ident_ends a r c t e
token_ends Number a r c t lone e = number_ends a r c t e
token_ends CharConst a r c t lone e = literal_ends a r c (char_literal a t)
token_ends Str a r c t lone e = literal_ends a r c (str_literal a t)
token_ends Punct a r c t lone e = let h = and_parts (not (is_joint_start (a ++ c ∷ []))) (not (bytes_eq a (codes ".") && is_digit c)) e in punct_ends a r c t h.0 h.1
token_ends Header a r c t lone e = absurd t
token_ends Other a r c t lone e = other_ends a r c t lone e

pub spelling_some : (k : Kind) (a : List ℕ) → Spells k a → 0 < length a
spelling_some Ident a t = begins_some is_ident_head a (ident_begins a t)
spelling_some Number a t = begins_some is_number_head a (number_head a (number_begins a t))
spelling_some CharConst a t = literal_some a (char_literal a t)
spelling_some Str a t = literal_some a (str_literal a t)
spelling_some Punct a t = punct_some a t
spelling_some Header a t = absurd t
spelling_some Other a t = other_some a t

-- ---- comments

abbrev is_slash : ℕ → Bool
is_slash c = c == 47

ident_slash : (c : ℕ) → is_ident_head c ≡ true → is_slash c ≡ true → ⊥
ident_slash c t u = grind (arith, nat_tests)

number_slash : (c : ℕ) → is_number_head c ≡ true → is_slash c ≡ true → ⊥
number_slash c t u = grind (arith, nat_tests)

literal_slash : (c : ℕ) → is_literal_head c ≡ true → is_slash c ≡ true → ⊥
literal_slash c t u = grind (arith, nat_tests)

-- the text has at most one character, or does not begin a comment
abbrev begins_none : List ℕ → Bool
begins_none [] = true
begins_none (c ∷ []) = true
begins_none (c ∷ d ∷ cs) = not (bytes_eq (c ∷ d ∷ []) (codes "/*") || bytes_eq (c ∷ d ∷ []) (codes "//"))

punct_opens_none : (a r : List ℕ) (c : ℕ) → IsPunct a → not (is_joint_start (a ++ c ∷ [])) ≡ true → OpensBlock (a ++ c ∷ r) ⊎ OpensLine (a ++ c ∷ r) → ⊥
unfolding is_joint_start
punct_opens_none a r c t e o = go a (punct_some a t) (punct_passes begins_none refl a t) e o
  where
    go : (b : List ℕ) → 0 < length b → begins_none b ≡ true → not (is_joint_start (b ++ c ∷ [])) ≡ true → OpensBlock (b ++ c ∷ r) ⊎ OpensLine (b ++ c ∷ r) → ⊥
    go [] some f e o = omega arith
    go (x ∷ []) some f e (inl h) = false≢true (subst (λ z. not (is_joint_start z) ≡ true) h e)
    go (x ∷ []) some f e (inr h) = false≢true (subst (λ z. not (is_joint_start z) ≡ true) h e)
    go (x ∷ y ∷ b) some f e (inl h) = false≢true (subst (λ z. not (bytes_eq z (codes "/*") || bytes_eq z (codes "//")) ≡ true) h f)
    go (x ∷ y ∷ b) some f e (inr h) = false≢true (subst (λ z. not (bytes_eq z (codes "/*") || bytes_eq z (codes "//")) ≡ true) h f)

-- No comment begins with a token and a character before which it ends.
pub opens_none : (k : Kind) (a r : List ℕ) (c : ℕ) → Spells k a → ends_before k a c ≡ true → OpensBlock (a ++ c ∷ r) ⊎ OpensLine (a ++ c ∷ r) → ⊥
opens_none Ident a r c t e o = begins_apart is_ident_head is_slash ident_slash (a ++ c ∷ r) (begins-append is_ident_head a (c ∷ r) (ident_begins a t)) (opening_begins is_slash refl (a ++ c ∷ r) o)
opens_none Number a r c t e o =
    begins_apart is_number_head is_slash number_slash (a ++ c ∷ r) (begins-append is_number_head a (c ∷ r) (number_head a (number_begins a t))) (opening_begins is_slash refl (a ++ c ∷ r) o)
opens_none CharConst a r c t e o =
    begins_apart is_literal_head is_slash literal_slash (a ++ c ∷ r) (begins-append is_literal_head a (c ∷ r) (headed a (char_headed a t))) (opening_begins is_slash refl (a ++ c ∷ r) o)
opens_none Str a r c t e o =
    begins_apart is_literal_head is_slash literal_slash (a ++ c ∷ r) (begins-append is_literal_head a (c ∷ r) (headed a (str_headed a t))) (opening_begins is_slash refl (a ++ c ∷ r) o)
opens_none Punct a r c t e o = punct_opens_none a r c t (and_parts (not (is_joint_start (a ++ c ∷ []))) (not (bytes_eq a (codes ".") && is_digit c)) e).0 o
opens_none Header a r c t e o = t
opens_none Other a r c t e o = other_slash (begins_back is_slash a (c ∷ r) (other_some a t) (opening_begins is_slash refl (a ++ c ∷ r) o))
  where
    other_slash : begins is_slash a ≡ true → ⊥
    other_slash h =
        let x : begins is_slash (t.0.0 ∷ []) ≡ true = subst (λ z. begins is_slash z ≡ true) t.0.1 h in
        let same : t.0.0 ≡ 47 = grind (arith, nat_tests) in
        t.3 (subst (λ z. IsPunct z) (sym (t.0.1 ∙ ap (λ (z : ℕ). z ∷ []) same)) refl)

-- ---- the longest token

cut_longer : (a r : List ℕ) (c m : ℕ) → length a < m → take m (a ++ c ∷ r) ≡ a ++ c ∷ take (m - length a - 1) r
cut_longer [] r c zero lt = absurd (omega arith)
cut_longer [] r c (suc m) lt = ap (λ n. c ∷ take n r) (omega arith)
cut_longer (x ∷ a) r c zero lt = absurd (omega arith)
cut_longer (x ∷ a) r c (suc m) lt = ap (λ z. x ∷ z) (cut_longer a r c m (omega arith)) ∙ ap (λ n. x ∷ (a ++ c ∷ take n r)) (omega arith)

pub whole_front : (a r : List ℕ) → take (length a) (a ++ r) ≡ a
whole_front a r = take-append-le (length a) a r (omega arith) ∙ take_all (length a) a (omega arith)

-- Before such a character, the token is the longest that begins the text.
pub longest_here : (k : Kind) (a r : List ℕ) (c : ℕ) → Spells k a → (¬ IsUnmatchedQuote a) → ends_before k a c ≡ true → Longest IsSpelling (a ++ c ∷ r) (length a)
longest_here k a r c t lone e = record {
  fits = let l = length-append a (c ∷ r) in omega arith;
  prefix = (k, subst (Spells k) (sym (whole_front a (c ∷ r))) t);
  longest = λ m lt fits s. token_ends k a (take (m - length a - 1) r) c t lone e (take m (a ++ c ∷ r)) s.0 s.1 (cut_longer a r c m lt);
}

-- ---- two tokens

word_no_outside : (c : ℕ) → not (is_outside c) ≡ true → not (is_ident_byte c || is_quote c) ≡ true
word_no_outside c t = grind (arith, nat_tests)

number_no_outside : (c : ℕ) → not (is_outside c) ≡ true → c == 46 || (c == 43 || c == 45) ≡ false → not (is_word_byte c) ≡ true
number_no_outside c t u = grind (arith, nat_tests)

digit_outside : (c : ℕ) → is_digit c ≡ true → is_outside c ≡ true
digit_outside c t = grind (arith, nat_tests)

literal_outside : (c : ℕ) → is_literal_head c ≡ true → is_outside c ≡ true
literal_outside c t = grind (arith, nat_tests)

head_no_digit : (c : ℕ) → is_ident_head c ≡ true → is_digit c ≡ false
head_no_digit c t = grind (arith, nat_tests)

literal_no_digit : (c : ℕ) → is_literal_head c ≡ true → is_digit c ≡ false
literal_no_digit c t = grind (arith, nat_tests)

first_inside : (c : ℕ) (b : List ℕ) → IsPunct (c ∷ b) → not (is_outside c) ≡ true
first_inside c b t = (and_parts (not (is_outside c)) (list_all (λ d. not (is_outside d)) b) (punct_inside.at (c ∷ b) t)).0

-- Joints have no character from outside the punctuators.
abbrev all_inside : List ℕ → Bool
all_inside s = list_all (λ d. not (is_outside d)) s

begun_inside : (text joint : List ℕ) → take (length text) joint ≡ text → all_inside joint ≡ true → all_inside text ≡ true
begun_inside text joint e t = subst (λ z. all_inside z ≡ true) e (front (λ d. not (is_outside d)) (take (length text) joint) (drop (length text) joint) (subst (λ z. all_inside z ≡ true) (sym (take-append-drop (length text) joint)) t))

joints_inside : (ps : List (List ℕ)) (text : List ℕ) → list_all all_inside ps ≡ true → list_any (λ p. bytes_eq (take (length text) p) text) ps ≡ true → all_inside text ≡ true
joints_inside [] text t e = absurd (false≢true e)
joints_inside (p ∷ ps) text t e = go (bytes_eq (take (length text) p) text) refl e (joints_inside ps text (and_parts (all_inside p) (list_all all_inside ps) t).1)
  where
    go : (x : Bool)
        → bytes_eq (take (length text) p) text ≡ x
        → (x || list_any (λ q. bytes_eq (take (length text) q) text) ps) ≡ true
        → (list_any (λ q. bytes_eq (take (length text) q) text) ps ≡ true → all_inside text ≡ true)
        → all_inside text ≡ true
    go true f e later = begun_inside text p ((bytes_eq-Decides (take (length text) p) text).0 f) (and_parts (all_inside p) (list_all all_inside ps) t).0
    go false f e later = later e

outside_apart : (a : List ℕ) (c : ℕ) → is_outside c ≡ true → not (is_joint_start (a ++ c ∷ [])) ≡ true
unfolding is_joint_start
outside_apart a c out = go (is_joint_start (a ++ c ∷ [])) refl
  where
    go : (x : Bool) → is_joint_start (a ++ c ∷ []) ≡ x → not x ≡ true
    go true e = absurd (not_true (is_outside c) (middle (λ d. not (is_outside d)) a [] c (joints_inside joints (a ++ c ∷ []) refl e)) out)
    go false e = refl

not_both : (x y : Bool) → y ≡ false → not (x && y) ≡ true
not_both true y e = ap not e
not_both false y e = refl

not_left : (x y : Bool) → x ≡ false → not (x && y) ≡ true
not_left true y e = absurd (false≢true (sym e))
not_left false y e = refl

negated : (x : Bool) → x ≡ false → not x ≡ true
negated x e = ap not e

-- A period goes on no punctuator but itself.
period_apart : (a : List ℕ) → IsPunct a → bytes_eq a (codes ".") ≡ false → not (is_joint_start (a ++ 46 ∷ [])) ≡ true
unfolding is_joint_start
period_apart a t e =
    or_other (bytes_eq a (codes ".")) (not (is_joint_start (a ++ 46 ∷ []))) e (punct_passes (λ p. bytes_eq p (codes ".") || not (is_joint_start (p ++ 46 ∷ []))) refl a t)
  where
    or_other : (x y : Bool) → x ≡ false → (x || y) ≡ true → y ≡ true
    or_other true y f g = absurd (false≢true (sym f))
    or_other false y f g = g

number_start : (a : List ℕ) (c : ℕ) → IsPunct a → bytes_eq a (codes ".") ≡ false → is_number_head c ≡ true → not (is_joint_start (a ++ c ∷ [])) ≡ true
number_start a c t e h = go (is_digit c) refl h
  where
    go : (x : Bool) → is_digit c ≡ x → (x || c == 46) ≡ true → not (is_joint_start (a ++ c ∷ [])) ≡ true
    go true f h = outside_apart a c (digit_outside c f)
    go false f h = let same : c ≡ 46 = grind (arith, nat_tests) in subst (λ (z : ℕ). not (is_joint_start (a ++ z ∷ [])) ≡ true) (sym same) (period_apart a t e)

before_outside : (a : List ℕ) (c : ℕ) → is_outside c ≡ true → is_digit c ≡ false → (not (is_joint_start (a ++ c ∷ [])) && not (bytes_eq a (codes ".") && is_digit c)) ≡ true
before_outside a c out other = and_from (not (is_joint_start (a ++ c ∷ []))) (not (bytes_eq a (codes ".") && is_digit c)) (outside_apart a c out) (not_both (bytes_eq a (codes ".")) (is_digit c) other)

inside_no_digit : (c : ℕ) → not (is_outside c) ≡ true → is_digit c ≡ false
inside_no_digit c t = grind (arith, nat_tests)

-- Two tokens that are not kept apart: the first ends before the second.
pub ends_before_next : (j k : Kind) (a b : List ℕ) (c : ℕ) → Spells j a → Spells k (c ∷ b) → must_part j k a (c ∷ b) ≡ false → ends_before j a c ≡ true
ends_before_next Ident Punct a b c t u e = word_no_outside c (first_inside c b u)
ends_before_next Number Punct a b c t u e = number_no_outside c (first_inside c b u) e
ends_before_next CharConst Punct a b c t u e = refl
ends_before_next Str Punct a b c t u e = refl
ends_before_next Punct Punct a b c t u e =
    and_from (not (is_joint_start (a ++ c ∷ []))) (not (bytes_eq a (codes ".") && is_digit c)) (negated (is_joint_start (a ++ c ∷ [])) e)
    (not_both (bytes_eq a (codes ".")) (is_digit c) (inside_no_digit c (first_inside c b u)))
ends_before_next Punct Number a b c t u e =
    and_from (not (is_joint_start (a ++ c ∷ []))) (not (bytes_eq a (codes ".") && is_digit c))
    (number_start a c t e (number_head (c ∷ b) (number_begins (c ∷ b) u))) (not_left (bytes_eq a (codes ".")) (is_digit c) e)
ends_before_next Punct Ident a b c t u e = let h = ident_begins (c ∷ b) u in before_outside a c (word_outside c h) (head_no_digit c h)
ends_before_next Punct CharConst a b c t u e = let h = char_headed (c ∷ b) u in before_outside a c (literal_outside c h) (literal_no_digit c h)
ends_before_next Punct Str a b c t u e = let h = str_headed (c ∷ b) u in before_outside a c (literal_outside c h) (literal_no_digit c h)
ends_before_next Header k a b c t u e = absurd t
ends_before_next j Header a b c t u e = absurd u
ends_before_next j k a b c t u e = absurd (false≢true (sym e))

-- Each token ends before white space and before a new-line.
pub ends_before_blank : (k : Kind) (a : List ℕ) (c : ℕ) → Spells k a → is_blank c || c == 10 ≡ true → ends_before k a c ≡ true
ends_before_blank Ident a c t e = negated (is_ident_byte c || is_quote c) (blank_no_ident c e)
ends_before_blank Number a c t e = go (is_word_byte c) refl
  where
    go : (x : Bool) → is_word_byte c ≡ x → not x ≡ true
    go true f = absurd (blank_no_word c e f)
    go false f = refl
ends_before_blank CharConst a c t e = refl
ends_before_blank Str a c t e = refl
ends_before_blank Punct a c t e = before_outside a c (blank_outside c e) (grind (arith, nat_tests))
ends_before_blank Header a c t e = absurd t
ends_before_blank Other a c t e = e
