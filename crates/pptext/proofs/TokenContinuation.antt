-- A text that continues an identifier or a number forms one token with it; how a text ends.
use Rattle.std.proofs.Common.{◌≡◌, ℕ, ◌==◌, ◌<◌, ◌≤◌, ◌-◌, ◌+◌, suc, zero, Bool, true, false, List, [], ◌∷◌, ◌++◌, length, take, drop, get_or, refl, sym, ap, ◌∙◌, subst, inl, inr, ◌⊎◌, arith}
use Rattle.std.proofs.Common.{length-append, nat_eq, ◌||◌, append_assoc, append-nil}
use Rattle.std.specs.Prelude.{IsTrue, not}
use Rattle.std.proofs.lemmas.Bool.{false≢true}
use Rattle.std.proofs.lemmas.Bool.Decides.{nat_tests}
use Rattle.std.proofs.lemmas.List.{take_all, drop_at, take-append-drop}
use Rattle.std.specs.List.{AllByRecursion, flat_map}
use Rattle.pptext.specs.code.Scanning.{OnlyPart}
use Rattle.pptext.specs.Spellings.{is_sign, is_exponent, IsUniversal, is_digit, IsNumberPart, Spells}
use Rattle.pptext.specs.Continuations.{IsNumberRest, IsSignedRest, last_of, EndsInUniversal, EndsInExponent, ContinuesToken}
use Rattle.pptext.specs.declared.tokens.Kind.{Kind}
use Rattle.pptext.specs.declared.tokens.Kind.TheVariants.{Ident, Number, CharConst, Str, Punct, Header, Other}
use Rattle.pptext.specs.Languages.{Then, Repeated}
use Rattle.pptext.specs.Lexemes.{OpensBlock, OpensLine}
use Rattle.pptext.specs.Sources.{IsOneToken, IsUnmatchedQuote}
use Rattle.pptext.proofs.KindUniqueness.{begins, begins_apart, begins_also, is_ident_head, is_number_head, ident_begins, number_begins, number_head}
use Rattle.pptext.proofs.TokenizationUniqueness.{opening_begins}
use Rattle.pptext.proofs.WordParts.{NumberStart}
use Rattle.pptext.proofs.TextKinds.{plain_token, spelled_whole}

-- ---- how a text ends: in a universal character name or an exponent letter; and texts that begin with a sign

abbrev pub Iff : Type 0 → Type 0 → Type 0
Iff A B = (A → B) × (B → A)

pub positive : (n : ℕ) (none : Bool) → none ≡ (n == 0) → none ≡ false → 0 < n
positive n none is f = grind (arith, nat_tests)

-- ---- texts that begin with a sign

pub signed_is : (text : List ℕ) → 0 < length text → is_sign (get_or text 0 0) ≡ true → Iff (IsNumberRest (drop 1 text)) (IsSignedRest text)
signed_is [] l t = absurd (omega arith)
signed_is (c ∷ cs) l t = (
  λ rest. (c ∷ [], cs, refl, (c, refl, t), rest),
  λ s. (let same : c ∷ cs ≡ s.3.0 ∷ s.1 = s.2 ∙ ap (λ z. z ++ s.1) s.3.1 in
      let behind : s.1 ≡ cs = cc in
      subst IsNumberRest behind s.4),
)

-- ---- texts that end in a universal character name

eq_from : (n m : ℕ) → nat_eq n m ≡ true → n ≡ m
eq_from n m e = grind (arith, nat_tests)

eq_to : (n m : ℕ) → n ≡ m → nat_eq n m ≡ true
eq_to n m e = grind (arith, nat_tests)

pub name_is : (s : List ℕ) (n len : ℕ) → OnlyPart IsUniversal s n → 0 < len → length s ≡ len → Iff (IsTrue (nat_eq n len)) (IsUniversal s)
name_is s n len only some is =
    (λ e. (let same : n ≡ len = eq_from n len e in subst IsUniversal (take_all n s (omega arith)) (only.1 (omega arith)).part), to n only)
  where
    to : (m : ℕ) → OnlyPart IsUniversal s m → IsUniversal s → nat_eq m len ≡ true
    to zero o u = absurd (o.0 refl (length s) (omega arith) (subst IsUniversal (sym (take_all (length s) s (omega arith))) u))
    to (suc m) o u =
        let same : length s ≡ suc m = (o.1 (omega arith)).only (length s) (omega arith) (subst IsUniversal (sym (take_all (length s) s (omega arith))) u) in
        eq_to (suc m) len (sym same ∙ is)

-- a universal character name of this length ends the text
abbrev pub EndsInNameOf : List ℕ → ℕ → Type 0
EndsInNameOf text len = (len ≤ length text) × IsUniversal (drop (length text - len) text)

name_length : (s : List ℕ) → IsUniversal s → (length s ≡ 6) ⊎ (length s ≡ 10)
name_length s (inl (a, b, e, is, (l, all))) =
    let whole : length s ≡ length (92 ∷ 117 ∷ b) = ap length (e ∙ ap (λ z. z ++ b) is) in
    inl (omega arith)
name_length s (inr (a, b, e, is, (l, all))) =
    let whole : length s ≡ length (92 ∷ 85 ∷ b) = ap length (e ∙ ap (λ z. z ++ b) is) in
    inr (omega arith)

pub ends_by : (text : List ℕ) (len : ℕ) → EndsInNameOf text len → EndsInUniversal text
ends_by text len (fits, u) = (take (length text - len) text, drop (length text - len) text, sym (take-append-drop (length text - len) text), u)

name_behind : (text prefix name : List ℕ) (len : ℕ) → text ≡ prefix ++ name → length name ≡ len → IsUniversal name → EndsInNameOf text len
name_behind text prefix name len e l u =
    let both : length text ≡ length prefix + length name = ap length e ∙ length-append prefix name in
    let behind : drop (length text - len) text ≡ name = ap (drop (length text - len)) e ∙ drop_at prefix name (length text - len) (omega arith) in
    (omega arith, subst IsUniversal (sym behind) u)

pub ends_as : (text : List ℕ) → EndsInUniversal text → EndsInNameOf text 6 ⊎ EndsInNameOf text 10
ends_as text (prefix, name, e, u) = go (name_length name u)
  where
    go : (length name ≡ 6) ⊎ (length name ≡ 10) → EndsInNameOf text 6 ⊎ EndsInNameOf text 10
    go (inl l) = inl (name_behind text prefix name 6 e l u)
    go (inr l) = inr (name_behind text prefix name 10 e l u)

pub ends_first : (text : List ℕ) (first : Bool) → first ≡ true → Iff (IsTrue first) (EndsInNameOf text 6) → Iff (IsTrue first) (EndsInUniversal text)
ends_first text first t six = (λ e. ends_by text 6 (six.0 e), λ u. t)

pub ends_second : (text : List ℕ) (first second : Bool) → first ≡ false → Iff (IsTrue first) (EndsInNameOf text 6) → Iff (IsTrue second) (EndsInNameOf text 10)
    → Iff (IsTrue second) (EndsInUniversal text)
ends_second text first second f six ten = (λ e. ends_by text 10 (ten.0 e), λ u. go (ends_as text u))
  where
    go : EndsInNameOf text 6 ⊎ EndsInNameOf text 10 → IsTrue second
    go (inl h) = absurd (false≢true (sym f ∙ six.1 h))
    go (inr h) = ten.1 h

-- ---- texts that end in an exponent letter

pub last_at : (text : List ℕ) (i : ℕ) → suc i ≡ length text → get_or text i 0 ≡ last_of text
last_at [] i e = absurd (omega arith)
last_at (c ∷ []) zero e = refl
last_at (c ∷ []) (suc i) e = absurd (omega arith)
last_at (c ∷ d ∷ cs) zero e = absurd (omega arith)
last_at (c ∷ d ∷ cs) (suc i) e = last_at (d ∷ cs) i (omega arith)

pub last_is : (text : List ℕ) → 0 < length text → get_or text (length text - 1) 0 ≡ last_of text
last_is text l = last_at text (length text - 1) (omega arith)

pub letter_last : (text : List ℕ) (named : Bool) → is_exponent (last_of text) ≡ true → Iff (IsTrue named) (EndsInUniversal text) → Iff (IsTrue (not named)) (EndsInExponent text)
letter_last text true t is = (λ f. absurd (false≢true f), λ ends. absurd (ends.1 (is.0 refl)))
letter_last text false t is = (λ f. (t, λ u. false≢true (is.1 u)), λ ends. refl)

pub no_letter_last : (text : List ℕ) (letter : Bool) → letter ≡ is_exponent (last_of text) → letter ≡ false → Iff (IsTrue letter) (EndsInExponent text)
no_letter_last text letter is f = (λ t. absurd (false≢true (sym f ∙ t)), λ ends. is ∙ ends.0)

-- ---- a text that continues an identifier or a number forms one token with it

-- Repeated parts followed by repeated parts are repeated parts.
pub more_parts : (P : List ℕ → Type 0) (ps : List (List ℕ)) (b : List ℕ) → AllByRecursion P ps → Repeated P b → Repeated P (flat_map (λ p. p) ps ++ b)
more_parts P [] b all second = second
more_parts P (p ∷ ps) b all second =
    let rest = more_parts P ps b all.1 second in
    (p ∷ rest.0, (all.0, rest.1), append_assoc p (flat_map (λ q. q) ps) b ∙ ap (λ z. p ++ z) rest.2)

carried : (P Q : List ℕ → Type 0) → (text more : List ℕ) → Then P (Repeated Q) text → Repeated Q more → Then P (Repeated Q) (text ++ more)
carried P Q text more (a, b, e, x, (ps, all, f)) rest =
    (a, b ++ more, ap (λ z. z ++ more) e ∙ append_assoc a b more, x, subst (λ z. Repeated Q (z ++ more)) (sym f) (more_parts Q ps more all rest))

-- ---- a sign after an exponent letter

-- The last character of a concatenation is that of its non-empty second part.
pub last_behind : (prefix : List ℕ) (c : ℕ) (cs : List ℕ) → last_of (prefix ++ c ∷ cs) ≡ last_of (c ∷ cs)
last_behind [] c cs = refl
last_behind (d ∷ []) c cs = refl
last_behind (d ∷ e ∷ prefix) c cs = last_behind (e ∷ prefix) c cs

digit_apart : (c : ℕ) → is_exponent c ≡ true → is_digit c || c == 46 ≡ true → ⊥
digit_apart c e t = grind (arith, nat_tests)

plain_digit_apart : (c : ℕ) → is_exponent c ≡ true → is_digit c ≡ true → ⊥
plain_digit_apart c e t = grind (arith, nat_tests)

sign_apart : (c : ℕ) → is_exponent c ≡ true → is_sign c ≡ true → ⊥
sign_apart c e t = grind (arith, nat_tests)

no_exponent_alone : is_exponent 0 ≡ true → ⊥
no_exponent_alone e = false≢true e

-- An exponent letter and a sign after it are one part of a number.
exponent_signed : (c s : ℕ) (rest : List ℕ) → is_exponent c ≡ true → is_sign s ≡ true → Repeated IsNumberPart rest → Repeated IsNumberPart (c ∷ s ∷ rest)
exponent_signed c s rest e t (ps, all, f) =
    ((c ∷ s ∷ []) ∷ ps, (inr (inr (c ∷ [], s ∷ [], refl, (c, refl, e), (s, refl, t))), all), ap (λ z. c ∷ s ∷ z) f)

-- A part that ends in an exponent letter may be followed by a sign and more parts.
part_signed : (p : List ℕ) (s : ℕ) (rest : List ℕ) → IsNumberPart p → EndsInExponent p → is_sign s ≡ true → Repeated IsNumberPart rest → Repeated IsNumberPart (p ++ s ∷ rest)
part_signed p s rest (inl (inl (c, is, h))) ends t more =
    subst (λ z. Repeated IsNumberPart (z ++ s ∷ rest)) (sym is) (exponent_signed c s rest (subst (λ z. is_exponent (last_of z) ≡ true) is ends.0) t more)
part_signed p s rest (inl (inr name)) ends t more = absurd (ends.1 ([], p, refl, name))
part_signed p s rest (inr (inl (c, is, h))) ends t more = absurd (digit_apart c (subst (λ z. is_exponent (last_of z) ≡ true) is ends.0) h)
part_signed p s rest (inr (inr (a, b, is, (c, is_a, h), (d, is_b, g)))) ends t more =
    let whole : p ≡ c ∷ d ∷ [] = is ∙ ap (λ z. z ++ b) is_a ∙ ap (λ z. c ∷ z) is_b in
    absurd (sign_apart d (subst (λ z. is_exponent (last_of z) ≡ true) whole ends.0) g)

-- If a text ends in an exponent letter, so does each non-empty suffix of the text.
ends_behind : (prefix : List ℕ) (c : ℕ) (cs : List ℕ) → EndsInExponent (prefix ++ c ∷ cs) → EndsInExponent (c ∷ cs)
ends_behind prefix c cs ends = (
  subst (λ z. is_exponent z ≡ true) (last_behind prefix c cs) ends.0,
  λ u. ends.1 (prefix ++ u.0, u.1, ap (λ z. prefix ++ z) u.2 ∙ sym (append_assoc prefix u.0 u.1), u.3),
)

parts_signed : (ps : List (List ℕ)) (s : ℕ) (rest : List ℕ) → AllByRecursion IsNumberPart ps → EndsInExponent (flat_map (λ p. p) ps) → is_sign s ≡ true → Repeated IsNumberPart rest
    → Repeated IsNumberPart (flat_map (λ p. p) ps ++ s ∷ rest)
parts_signed [] s rest all ends t more = absurd (no_exponent_alone ends.0)
parts_signed (p ∷ ps) s rest all ends t more = go (flat_map (λ q. q) ps) refl (λ behind. parts_signed ps s rest all.1 behind t more)
  where
    go : (r : List ℕ) → flat_map (λ q. q) ps ≡ r → (EndsInExponent (flat_map (λ q. q) ps) → Repeated IsNumberPart (flat_map (λ q. q) ps ++ s ∷ rest))
        → Repeated IsNumberPart ((p ++ flat_map (λ q. q) ps) ++ s ∷ rest)
    go [] e later =
        let alone : p ++ flat_map (λ q. q) ps ≡ p = ap (λ z. p ++ z) e ∙ append-nil p in
        subst (λ z. Repeated IsNumberPart (z ++ s ∷ rest)) (sym alone) (part_signed p s rest all.0 (subst EndsInExponent alone ends) t more)
    go (c ∷ cs) e later =
        let behind : EndsInExponent (flat_map (λ q. q) ps) = subst EndsInExponent (sym e) (ends_behind p c cs (subst (λ z. EndsInExponent (p ++ z)) e ends)) in
        let signed = later behind in
        (p ∷ signed.0, (all.0, signed.1), append_assoc p (flat_map (λ q. q) ps) (s ∷ rest) ∙ ap (λ z. p ++ z) signed.2)

-- The start of a number does not end in an exponent letter.
start_apart : (a : List ℕ) → NumberStart a → is_exponent (last_of a) ≡ true → ⊥
start_apart a (inl (c, is, h)) e = plain_digit_apart c (subst (λ z. is_exponent (last_of z) ≡ true) is e) h
start_apart a (inr (p, b, is, is_p, (c, is_b, h))) e =
    let whole : a ≡ 46 ∷ c ∷ [] = is ∙ ap (λ z. z ++ b) is_p ∙ ap (λ z. 46 ∷ z) is_b in
    plain_digit_apart c (subst (λ z. is_exponent (last_of z) ≡ true) whole e) h

number_signed : (text : List ℕ) (s : ℕ) (rest : List ℕ) → Spells Number text → EndsInExponent text → is_sign s ≡ true → IsNumberRest rest → Spells Number (text ++ s ∷ rest)
number_signed text s rest (a, b, e, x, (ps, all, f)) ends t more = go b refl
  where
    go : (r : List ℕ) → b ≡ r → Spells Number (text ++ s ∷ rest)
    go [] is =
        let alone : text ≡ a = e ∙ ap (λ z. a ++ z) is ∙ append-nil a in
        absurd (start_apart a x (subst (λ z. is_exponent (last_of z) ≡ true) alone ends.0))
    go (c ∷ cs) is =
        let behind : EndsInExponent b = subst EndsInExponent (sym is) (ends_behind a c cs (subst EndsInExponent (e ∙ ap (λ z. a ++ z) is) ends)) in
        let signed = parts_signed ps s rest all (subst EndsInExponent f behind) t more in
        (a, b ++ s ∷ rest, ap (λ z. z ++ s ∷ rest) e ∙ append_assoc a b (s ∷ rest), x, subst (λ z. Repeated IsNumberPart (z ++ s ∷ rest)) (sym f) signed)

carried_spelling : (text more : List ℕ) (k : Kind) → Spells k text → ContinuesToken k text more → Spells k (text ++ more)
carried_spelling text more Ident h rest = carried _ _ text more h rest
carried_spelling text more Number h (inl rest) = carried _ IsNumberPart text more h rest
carried_spelling text more Number h (inr (ends, (a, b, e, (s, is, t), rest))) =
    let whole : more ≡ s ∷ b = e ∙ ap (λ z. z ++ b) is in
    subst (λ z. Spells Number (text ++ z)) (sym whole) (number_signed text s b h ends t rest)
carried_spelling text more CharConst h none = absurd none
carried_spelling text more Str h none = absurd none
carried_spelling text more Punct h none = absurd none
carried_spelling text more Header h none = absurd none
carried_spelling text more Other h none = absurd none

word_of : (text more : List ℕ) (k : Kind) → ContinuesToken k text more → (k ≡ Ident) ⊎ (k ≡ Number)
word_of text more Ident rest = inl refl
word_of text more Number rest = inr refl
word_of text more CharConst none = absurd none
word_of text more Str none = absurd none
word_of text more Punct none = absurd none
word_of text more Header none = absurd none
word_of text more Other none = absurd none

-- ---- an identifier or a number opens no comment and is no unmatched quote

abbrev is_word_head : ℕ → Bool
is_word_head c = is_ident_head c || is_number_head c

ident_word : (c : ℕ) → is_ident_head c ≡ true → is_word_head c ≡ true
ident_word c t = grind (arith, nat_tests)

number_word : (c : ℕ) → is_number_head c ≡ true → is_word_head c ≡ true
number_word c t = grind (arith, nat_tests)

begins_word : (s : List ℕ) (k : Kind) → (k ≡ Ident) ⊎ (k ≡ Number) → Spells k s → begins is_word_head s ≡ true
begins_word s k (inl is) h = begins_also is_ident_head is_word_head ident_word s (ident_begins s (subst (λ z. Spells z s) is h))
begins_word s k (inr is) h = begins_also is_number_head is_word_head number_word s (number_head s (number_begins s (subst (λ z. Spells z s) is h)))

slash_apart : (c : ℕ) → (c == 47) ≡ true → is_word_head c ≡ true → ⊥
slash_apart c e f = grind (arith, nat_tests)

no_comment : (s : List ℕ) → begins is_word_head s ≡ true → ¬ (OpensBlock s ⊎ OpensLine s)
no_comment s t opens = begins_apart (λ c. c == 47) is_word_head slash_apart s (opening_begins (λ c. c == 47) refl s opens) t

no_quote : (s : List ℕ) → begins is_word_head s ≡ true → ¬ IsUnmatchedQuote s
no_quote s t (inl e) = false≢true (subst (λ z. begins is_word_head z ≡ true) e t)
no_quote s t (inr e) = false≢true (subst (λ z. begins is_word_head z ≡ true) e t)

-- ---- the theorem

pub spelled_by : (text : List ℕ) (k : Kind) → IsOneToken text k → Spells k text
spelled_by text k one = subst (Spells k) (take_all (length text) text (omega arith)) (plain_token text k one).spelled

pub continued_token : (text more : List ℕ) (k : Kind) → IsOneToken text k → ContinuesToken k text more → IsOneToken (text ++ more) k × (¬ IsUnmatchedQuote (text ++ more))
continued_token text more k one rest =
    let whole : Spells k (text ++ more) = carried_spelling text more k (spelled_by text k one) rest in
    let head : begins is_word_head (text ++ more) ≡ true = begins_word (text ++ more) k (word_of text more k rest) whole in
    (spelled_whole (text ++ more) k (no_comment (text ++ more) head) whole, no_quote (text ++ more) head)
