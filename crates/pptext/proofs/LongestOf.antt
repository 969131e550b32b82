-- The longest spelling that begins a text, from the longest of each kind.
use Rattle.std.proofs.Common.{◌≡◌, ℕ, zero, suc, ◌-◌, ◌<◌, ◌≤◌, Bool, true, false, not, ◌||◌, ◌&&◌, ◌==◌, List, [], ◌∷◌, length, take}
use Rattle.std.proofs.Common.{drop, refl, sym, ap, ◌∙◌, subst, inl, inr, ◌⊎◌, arith, length-drop, get_or, Contains}
use Rattle.std.proofs.lemmas.Bool.{false≢true}
use Rattle.std.proofs.lemmas.Bool.Decides.{nat_tests}
use Rattle.pptext.specs.declared.tokens.Kind.{Kind}
use Rattle.pptext.specs.declared.tokens.Kind.TheVariants.{Ident, Number, CharConst, Str, Punct, Header, Other}
use Rattle.pptext.specs.Languages.{Exactly, One, Then, Repeated, Longest}
use Rattle.pptext.specs.code.Scanning.{NoPrefix, IsNext, IsOnly, IsQuoted}
use Rattle.pptext.specs.Spellings.{is_digit, is_nondigit, is_blank, IsNondigit, IsIdent, IsNumber, IsNumberPart, IsCharConst, IsStr, IsPunct, IsOther, Spells, IsSpelling, punctuators, char_prefixes, str_prefixes}
use Rattle.pptext.proofs.LanguagePrefixes.{front_of, front_length, none_repeated, more_repeated, then_longest, one_front, one_lacks, either_lacks, nondigit_here, then_lacks, exactly_lacks, head_behind, then_left, one_begins, begins_one}
use Rattle.pptext.proofs.LongestPunctuator.{any_passes}
use Rattle.pptext.proofs.KindUniqueness.{is_ident_head, is_number_head}
use Rattle.pptext.proofs.WordParts.{lacks_nondigit, Fraction, NumberStart, period_front, IdentPart, ident_byte}
use Rattle.pptext.proofs.Literals.{CharRest, CharOpening, StrOpening, CharOpens, StrOpens, IsLetter, char_opens, str_opens, letter-no_quote}

-- no prefix longer than n is in the language
abbrev pub NoLonger : (List ℕ → Type 0) → List ℕ → ℕ → Type 0
NoLonger P text n = (m : ℕ) → n < m → m ≤ length text → P (take m text) → ⊥

pub none_longer : (P : List ℕ → Type 0) (text : List ℕ) (n : ℕ) → NoPrefix P text → NoLonger P text n
none_longer P text n none m more fits p = none m fits p

pub only_longer : (P : List ℕ → Type 0) (text : List ℕ) (n : ℕ) → IsOnly P text n → NoLonger P text n
only_longer P text n only m more fits p = let e = only.only m fits p in omega arith

other_longer : (text : List ℕ) (n : ℕ) → 0 < n → NoLonger IsOther text n
other_longer text n some m more fits o = let f = one_front (λ c. not (is_blank c || c == 10)) text m fits o.0 in omega (arith, f.0)

-- no identifier, number, literal or punctuator is a prefix longer than n
pub record NoneLonger (text : List ℕ) (n : ℕ) : Type 0 where
  pub ident : NoLonger IsIdent text n
  pub number : NoLonger IsNumber text n
  pub char_const : NoLonger IsCharConst text n
  pub string : NoLonger IsStr text n
  pub punct : NoLonger IsPunct text n

pub longest_spelling : (text : List ℕ) (n : ℕ) (k : Kind) → 0 < n → n ≤ length text → Spells k (take n text) → NoneLonger text n → Longest IsSpelling text n
longest_spelling text n k some fits spelled none = record {
  fits = fits;
  prefix = (k, spelled);
  longest = λ m more within s. longer m more within s.0 s.1;
}
  where
    longer : (m : ℕ) → n < m → m ≤ length text → (l : Kind) → Spells l (take m text) → ⊥
    longer m more within Ident s = none.ident m more within s
    longer m more within Number s = none.number m more within s
    longer m more within CharConst s = none.char_const m more within s
    longer m more within Str s = none.string m more within s
    longer m more within Punct s = none.punct m more within s
    longer m more within Header s = s
    longer m more within Other s = other_longer text n some m more within s

-- Kinds that are excluded by the first byte.
abbrev is_quote : ℕ → Bool
is_quote c = c == 39 || c == 34

ident_head-nondigit : (c : ℕ) → is_ident_head c ≡ false → is_nondigit c ≡ false
ident_head-nondigit c e = grind (arith, nat_tests)

ident_head-backslash : (c : ℕ) → is_ident_head c ≡ false → c ≡ 92 → ⊥
ident_head-backslash c e f = grind (arith, nat_tests)

pub ident_lacks : (text : List ℕ) → is_ident_head (get_or text 0 0) ≡ false → NoPrefix IsIdent text
ident_lacks text e =
    then_lacks IsNondigit (Repeated IdentPart) text (lacks_nondigit text (ident_head-nondigit (get_or text 0 0) e) (ident_head-backslash (get_or text 0 0) e))

number_head-digit : (c : ℕ) → is_number_head c ≡ false → is_digit c ≡ false
number_head-digit c e = grind (arith, nat_tests)

number_head-period : (c : ℕ) → is_number_head c ≡ false → c ≡ 46 → ⊥
number_head-period c e f = grind (arith, nat_tests)

pub number_lacks : (text : List ℕ) → is_number_head (get_or text 0 0) ≡ false → NoPrefix IsNumber text
number_lacks text e =
    then_lacks NumberStart (Repeated IsNumberPart) text
    (either_lacks (One is_digit) Fraction text (one_lacks is_digit text (number_head-digit (get_or text 0 0) e))
    (then_lacks (Exactly (46 ∷ [])) (One is_digit) text (exactly_lacks 46 [] text (number_head-period (get_or text 0 0) e))))

-- No punctuator begins with a character that begins an identifier, or with a quote.
abbrev pub begins_word : ℕ → Bool
begins_word c = is_ident_head c || is_quote c

abbrev begins_sign : List ℕ → Bool
begins_sign [] = false
begins_sign (c ∷ cs) = not (begins_word c)

word-no_sign : (c : ℕ) → begins_word c ≡ true → not (begins_word c) ≡ true → ⊥
word-no_sign c e f = grind (arith, nat_tests)

pub punct_lacks : (text : List ℕ) → begins_word (get_or text 0 0) ≡ true → NoPrefix IsPunct text
punct_lacks text e m fits p = cases text m e (any_passes begins_sign punctuators (take m text) refl p)
  where
    cases : (cs : List ℕ) (j : ℕ) → begins_word (get_or cs 0 0) ≡ true → begins_sign (take j cs) ≡ true → ⊥
    cases [] zero e f = false≢true f
    cases [] (suc j) e f = false≢true f
    cases (c ∷ cs) zero e f = false≢true f
    cases (c ∷ cs) (suc j) e f = word-no_sign c e f

word-no_number : (c : ℕ) → begins_word c ≡ true → is_number_head c ≡ false
word-no_number c e = grind (arith, nat_tests)

pub word_lacks_number : (text : List ℕ) → begins_word (get_or text 0 0) ≡ true → NoPrefix IsNumber text
word_lacks_number text e = number_lacks text (word-no_number (get_or text 0 0) e)

-- An identifier as the longest spelling.
ident_head-word : (c : ℕ) → is_ident_head c ≡ true → begins_word c ≡ true
ident_head-word c e = grind (arith, nat_tests)

ident_head : (text : List ℕ) (n : ℕ) → n ≤ length text → IsIdent (take n text) → is_ident_head (get_or text 0 0) ≡ true
ident_head text n fits p = cases (is_ident_head (get_or text 0 0)) refl
  where
    cases : (b : Bool) → is_ident_head (get_or text 0 0) ≡ b → is_ident_head (get_or text 0 0) ≡ true
    cases true e = e
    cases false e = absurd (ident_lacks text e n fits p)

pub ident_longest : (text : List ℕ) (n : ℕ) → 0 < n → Longest IsIdent text n → NoPrefix IsCharConst text → NoPrefix IsStr text → Longest IsSpelling text n
ident_longest text n some p char_const string =
    let word : begins_word (get_or text 0 0) ≡ true = ident_head-word (get_or text 0 0) (ident_head text n p.fits p.prefix) in
    longest_spelling text n Ident some p.fits p.prefix (record {
      ident = p.longest;
      number = none_longer IsNumber text n (word_lacks_number text word);
      char_const = none_longer IsCharConst text n char_const;
      string = none_longer IsStr text n string;
      punct = none_longer IsPunct text n (punct_lacks text word);
    })

-- A number as the longest spelling.
abbrev NumberHead : List ℕ → Type 0
NumberHead text = (is_digit (get_or text 0 0) ≡ true) ⊎ ((2 ≤ length text) × (get_or text 0 0 ≡ 46) × (is_digit (get_or text 1 0) ≡ true))

number_start : (text : List ℕ) (m : ℕ) → m ≤ length text → NumberStart (take m text) → NumberHead text
number_start text m fits (inl d) =
    let f = one_front is_digit text m fits d in
    inl (ap is_digit (begins_one text f.1 [] f.2).1 ∙ f.3)
number_start text m fits (inr f) = inr (period_front text m fits f)

number_begins : (text : List ℕ) (n : ℕ) → n ≤ length text → IsNumber (take n text) → NumberHead text
number_begins text n fits (a, b, e, start, rest) =
    let l = front_length text a b n fits e in
    number_start text (length a) (omega arith) (subst NumberStart (front_of text a b n fits e) start)

-- no punctuator begins with a digit, or a period and a digit
abbrev begins_no_number : List ℕ → Bool
begins_no_number [] = false
begins_no_number (c ∷ []) = not (is_digit c)
begins_no_number (c ∷ d ∷ cs) = not (is_digit c || (c == 46 && is_digit d))

digit_begins : (c d : ℕ) → is_digit c ≡ true → not (is_digit c || (c == 46 && is_digit d)) ≡ true → ⊥
digit_begins c d e f = grind (arith, nat_tests)

period_begins : (c d : ℕ) → c ≡ 46 → is_digit d ≡ true → not (is_digit c || (c == 46 && is_digit d)) ≡ true → ⊥
period_begins c d e f g = grind (arith, nat_tests)

pub number_punct : (text : List ℕ) (n : ℕ) → 0 < n → NumberHead text → NoLonger IsPunct text n
number_punct text n some head m more fits p = cases text m (omega arith) fits head (any_passes begins_no_number punctuators (take m text) refl p)
  where
    cases : (cs : List ℕ) (j : ℕ) → 2 ≤ j → j ≤ length cs → NumberHead cs → begins_no_number (take j cs) ≡ true → ⊥
    cases [] j two fits h f = omega arith
    cases (c ∷ []) j two fits h f = omega arith
    cases (c ∷ d ∷ cs) zero two fits h f = omega arith
    cases (c ∷ d ∷ cs) (suc zero) two fits h f = omega arith
    cases (c ∷ d ∷ cs) (suc (suc j)) two fits (inl e) f = digit_begins c d e f
    cases (c ∷ d ∷ cs) (suc (suc j)) two fits (inr e) f = period_begins c d e.1 e.2 f

pub number_longest : (text : List ℕ) (n : ℕ) → 0 < n → Longest IsNumber text n → NoPrefix IsCharConst text → NoPrefix IsStr text → NoPrefix IsIdent text → Longest IsSpelling text n
number_longest text n some p char_const string ident =
    longest_spelling text n Number some p.fits p.prefix (record {
      ident = none_longer IsIdent text n ident;
      number = p.longest;
      char_const = none_longer IsCharConst text n char_const;
      string = none_longer IsStr text n string;
      punct = number_punct text n some (number_begins text n p.fits p.prefix);
    })

pub punct_longest : (text : List ℕ) (n : ℕ) → 0 < n → Longest IsPunct text n → NoPrefix IsCharConst text → NoPrefix IsStr text → NoPrefix IsIdent text → NoPrefix IsNumber text → Longest IsSpelling text n
punct_longest text n some p char_const string ident number =
    longest_spelling text n Punct some p.fits p.prefix (record {
      ident = none_longer IsIdent text n ident;
      number = none_longer IsNumber text n number;
      char_const = none_longer IsCharConst text n char_const;
      string = none_longer IsStr text n string;
      punct = p.longest;
    })

-- Any other character as the longest spelling.
visible : (c : ℕ) → is_blank c ≡ false → (c ≡ 10 → ⊥) → not (is_blank c || c == 10) ≡ true
visible c e f = grind (arith, nat_tests)

pub other_here : (text : List ℕ) → 0 < length text → is_blank (get_or text 0 0) ≡ false → (get_or text 0 0 ≡ 10 → ⊥) → NoPrefix IsIdent text → NoPrefix IsNumber text → NoPrefix IsPunct text → IsOther (take 1 text)
other_here text l e f ident number punct =
    ((get_or text 0 0, one_begins text (get_or text 0 0) l refl, visible (get_or text 0 0) e f), ident 1 (omega arith), number 1 (omega arith), punct 1 (omega arith))

pub other_longest : (text : List ℕ)
    → 0 < length text
    → IsOther (take 1 text)
    → NoPrefix IsCharConst text
    → NoPrefix IsStr text
    → NoPrefix IsIdent text
    → NoPrefix IsNumber text
    → NoPrefix IsPunct text
    → Longest IsSpelling text 1
other_longest text l p char_const string ident number punct =
    longest_spelling text 1 Other (omega arith) (omega arith) p (record {
      ident = none_longer IsIdent text 1 ident;
      number = none_longer IsNumber text 1 number;
      char_const = none_longer IsCharConst text 1 char_const;
      string = none_longer IsStr text 1 string;
      punct = none_longer IsPunct text 1 punct;
    })

-- Literals: an identifier that begins a literal ends before its quote.
quote-no_nondigit : (c : ℕ) → is_quote c ≡ true → is_nondigit c ≡ false
quote-no_nondigit c e = grind (arith, nat_tests)

quote-no_backslash : (c : ℕ) → is_quote c ≡ true → c ≡ 92 → ⊥
quote-no_backslash c e f = grind (arith, nat_tests)

quote-no_digit : (c : ℕ) → is_quote c ≡ true → is_digit c ≡ false
quote-no_digit c e = grind (arith, nat_tests)

letter-nondigit : (c : ℕ) → IsLetter c → is_nondigit c ≡ true
letter-nondigit c (inl e) = ap is_nondigit e
letter-nondigit c (inr (inl e)) = ap is_nondigit e
letter-nondigit c (inr (inr e)) = ap is_nondigit e

letter-word : (c : ℕ) → IsLetter c → begins_word c ≡ true
letter-word c (inl e) = ap begins_word e
letter-word c (inr (inl e)) = ap begins_word e
letter-word c (inr (inr e)) = ap begins_word e

quote_ends_ident : (text : List ℕ) → is_quote (get_or text 0 0) ≡ true → NoPrefix IdentPart text
quote_ends_ident text e =
    let c : ℕ = get_or text 0 0 in
    either_lacks IsNondigit (One is_digit) text (lacks_nondigit text (quote-no_nondigit c e) (quote-no_backslash c e)) (one_lacks is_digit text (quote-no_digit c e))

ident_one : (text : List ℕ) → 0 < length text → is_nondigit (get_or text 0 0) ≡ true → is_quote (get_or text 1 0) ≡ true → Longest IsIdent text 1
ident_one text l e f =
    then_longest IsNondigit (Repeated IdentPart) text 1 0 ((nondigit_here text l e).1 (omega arith)) (none_repeated IdentPart (drop 1 text) (quote_ends_ident (drop 1 text) (ap is_quote (head_behind text) ∙ f)))

ident_two : (text : List ℕ) → 3 ≤ length text → is_nondigit (get_or text 0 0) ≡ true → is_nondigit (get_or text 1 0) || is_digit (get_or text 1 0) ≡ true → is_quote (get_or text 2 0) ≡ true → Longest IsIdent text 2
ident_two text l e g f =
    let d : length (drop 1 text) ≡ length text - 1 = length-drop 1 text in
    let second : IsNext IdentPart (drop 1 text) 1 = ident_byte (drop 1 text) (omega arith) (ap (λ c. is_nondigit c || is_digit c) (head_behind text) ∙ g) in
    let none : NoPrefix IdentPart (drop 1 (drop 1 text)) = quote_ends_ident (drop 1 (drop 1 text)) (ap is_quote (head_behind_two text) ∙ f) in
    then_longest IsNondigit (Repeated IdentPart) text 1 1 ((nondigit_here text (omega arith) e).1 (omega arith)) (more_repeated IdentPart (drop 1 text) 1 0 second (none_repeated IdentPart (drop 1 (drop 1 text)) none))
  where
    head_behind_two : (cs : List ℕ) → get_or (drop 1 (drop 1 cs)) 0 0 ≡ get_or cs 2 0
    head_behind_two [] = refl
    head_behind_two (x ∷ []) = refl
    head_behind_two (x ∷ y ∷ cs) = refl

shorter : (P : List ℕ → Type 0) (text : List ℕ) (j n : ℕ) → j ≤ n → Longest P text j → NoLonger P text n
shorter P text j n le p m more fits q = p.longest m (omega arith) fits q

-- The opening of a literal that begins the text.
opened_by : (P Q : List ℕ → Type 0) (text : List ℕ) (n : ℕ) → n ≤ length text → Then P Q (take n text) → (o : ℕ) × (o ≤ n) × P (take o text)
opened_by P Q text n fits (a, b, e, p, q) =
    let l = front_length text a b n fits e in
    (length a, omega arith, subst P (front_of text a b n fits e) p)

char_opened : (text : List ℕ) (n : ℕ) → n ≤ length text → IsCharConst (take n text) → (o : ℕ) × (o ≤ n) × CharOpens text o
char_opened text n fits p =
    let o = opened_by CharOpening CharRest text n fits (then_left (Contains char_prefixes) (Exactly (39 ∷ [])) CharRest (take n text) p) in
    (o.0, o.1, char_opens text o.0 (omega (arith, o.1)) o.2)

str_opened : (text : List ℕ) (n : ℕ) → n ≤ length text → IsStr (take n text) → (o : ℕ) × (o ≤ n) × StrOpens text o
str_opened text n fits p =
    let o = opened_by StrOpening (IsQuoted 34) text n fits (then_left (Contains str_prefixes) (Exactly (34 ∷ [])) (IsQuoted 34) (take n text) p) in
    (o.0, o.1, str_opens text o.0 (omega (arith, o.1)) o.2)

-- A text that begins with neither a quote nor a prefix letter begins no literal.
abbrev pub LiteralHead : ℕ → Type 0
LiteralHead c = (c ≡ 39) ⊎ ((c ≡ 34) ⊎ IsLetter c)

char_head : (text : List ℕ) (o : ℕ) → CharOpens text o → LiteralHead (get_or text 0 0)
char_head text o (inl a) = inl a.1
char_head text o (inr a) = inr (inr a.1)

str_head : (text : List ℕ) (o : ℕ) → StrOpens text o → LiteralHead (get_or text 0 0)
str_head text o (inl a) = inr (inl a.1)
str_head text o (inr (inl a)) = inr (inr a.1)
str_head text o (inr (inr a)) = inr (inr (inl a.1))

pub literal_lacks : (text : List ℕ) → (LiteralHead (get_or text 0 0) → ⊥) → NoPrefix IsCharConst text × NoPrefix IsStr text
literal_lacks text h = (
  λ m fits p. let o = char_opened text m fits p in h (char_head text o.0 o.2),
  λ m fits p. let o = str_opened text m fits p in h (str_head text o.0 o.2),
)

opens_apart : (text : List ℕ) (o r : ℕ) → CharOpens text o → StrOpens text r → ⊥
opens_apart text o r (inl a) (inl b) = let e : ◌≡◌ {A = ℕ} 39 34 = sym a.1 ∙ b.1 in omega arith
opens_apart text o r (inl a) (inr (inl b)) = letter-no_quote (get_or text 0 0) 39 b.1 a.1 (omega arith)
opens_apart text o r (inl a) (inr (inr b)) = let e : ◌≡◌ {A = ℕ} 39 117 = sym a.1 ∙ b.1 in omega arith
opens_apart text o r (inr a) (inl b) = letter-no_quote (get_or text 0 0) 34 a.1 b.1 (omega arith)
opens_apart text o r (inr a) (inr (inl b)) = let e : ◌≡◌ {A = ℕ} 39 34 = sym a.2 ∙ b.2 in omega arith
opens_apart text o r (inr a) (inr (inr b)) = let e : ◌≡◌ {A = ℕ} 39 56 = sym a.2 ∙ b.2 in omega arith

char_word : (text : List ℕ) (o : ℕ) → CharOpens text o → begins_word (get_or text 0 0) ≡ true
char_word text o (inl a) = ap begins_word a.1
char_word text o (inr a) = letter-word (get_or text 0 0) a.1

str_word : (text : List ℕ) (o : ℕ) → StrOpens text o → begins_word (get_or text 0 0) ≡ true
str_word text o (inl a) = ap begins_word a.1
str_word text o (inr (inl a)) = letter-word (get_or text 0 0) a.1
str_word text o (inr (inr a)) = ap begins_word a.1

char_ident : (text : List ℕ) (o n : ℕ) → CharOpens text o → o ≤ n → n ≤ length text → NoLonger IsIdent text n
char_ident text o n (inl a) le fits = none_longer IsIdent text n (ident_lacks text (ap is_ident_head a.1))
char_ident text o n (inr a) le fits = shorter IsIdent text 1 n (omega (arith, a.0)) (ident_one text (omega (arith, a.0)) (letter-nondigit (get_or text 0 0) a.1) (ap is_quote a.2))

str_ident : (text : List ℕ) (o n : ℕ) → StrOpens text o → o ≤ n → n ≤ length text → NoLonger IsIdent text n
str_ident text o n (inl a) le fits = none_longer IsIdent text n (ident_lacks text (ap is_ident_head a.1))
str_ident text o n (inr (inl a)) le fits = shorter IsIdent text 1 n (omega (arith, a.0)) (ident_one text (omega (arith, a.0)) (letter-nondigit (get_or text 0 0) a.1) (ap is_quote a.2))
str_ident text o n (inr (inr a)) le fits = shorter IsIdent text 2 n (omega (arith, a.0)) (ident_two text (omega (arith, a.0)) (ap is_nondigit a.1) (ap (λ c. is_nondigit c || is_digit c) a.2) (ap is_quote a.3))

pub char_longest : (text : List ℕ) (n : ℕ) → IsOnly IsCharConst text n → Longest IsSpelling text n
char_longest text n p =
    let o = char_opened text n p.fits p.part in
    let word = char_word text o.0 o.2 in
    longest_spelling text n CharConst p.positive p.fits p.part (record {
      ident = char_ident text o.0 n o.2 o.1 p.fits;
      number = none_longer IsNumber text n (word_lacks_number text word);
      char_const = only_longer IsCharConst text n p;
      string = none_longer IsStr text n (λ m fits s. let r = str_opened text m fits s in opens_apart text o.0 r.0 o.2 r.2);
      punct = none_longer IsPunct text n (punct_lacks text word);
    })

pub str_longest : (text : List ℕ) (n : ℕ) → IsOnly IsStr text n → NoPrefix IsCharConst text → Longest IsSpelling text n
str_longest text n p char_const =
    let o = str_opened text n p.fits p.part in
    let word = str_word text o.0 o.2 in
    longest_spelling text n Str p.positive p.fits p.part (record {
      ident = str_ident text o.0 n o.2 o.1 p.fits;
      number = none_longer IsNumber text n (word_lacks_number text word);
      char_const = none_longer IsCharConst text n char_const;
      string = only_longer IsStr text n p;
      punct = none_longer IsPunct text n (punct_lacks text word);
    })
