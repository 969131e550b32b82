-- No two kinds share a spelling, and no spelling begins with white space.
use Rattle.std.proofs.Common.{◌≡◌, ℕ, ◌<◌, Bool, true, false, not, ◌||◌, ◌&&◌, ◌==◌, List, [], ◌∷◌, ◌++◌, length, drop}
use Rattle.std.proofs.Common.{refl, sym, ap, ◌∙◌, subst, inl, inr, arith, append_assoc, length-append}
use Rattle.std.specs.List.{list_all}
use Rattle.std.proofs.lemmas.Bool.{false≢true, and_parts}
use Rattle.std.proofs.lemmas.Bool.Decides.{nat_tests}
use Rattle.std.proofs.lemmas.List.{drop_at}
use Rattle.pptext.specs.declared.tokens.Kind.{Kind}
use Rattle.pptext.specs.declared.tokens.Kind.TheVariants.{Ident, Number, CharConst, Str, Punct, Header, Other}
use Rattle.pptext.specs.Continuations.{last_of}
use Rattle.pptext.specs.Languages.{One}
use Rattle.pptext.specs.Spellings.{is_digit, is_nondigit, is_blank, IsUniversal, IsNondigit, IsIdent, IsNumber, IsCharConst, IsStr, IsPunct, Spells, char_prefixes, str_prefixes}
use Rattle.pptext.proofs.CharacterTests.{Throughout, contains_passes, punct_passes, is_word_byte, ident_passes, number_passes}

-- the first character passes the test
abbrev pub begins : (ℕ → Bool) → List ℕ → Bool
begins test [] = false
begins test (c ∷ cs) = test c

pub begins-append : (test : ℕ → Bool) (a b : List ℕ) → begins test a ≡ true → begins test (a ++ b) ≡ true
begins-append test [] b e = absurd (false≢true e)
begins-append test (c ∷ cs) b e = e

pub begins_also : (test other : ℕ → Bool) → ((c : ℕ) → test c ≡ true → other c ≡ true) → (s : List ℕ) → begins test s ≡ true → begins other s ≡ true
begins_also test other more [] e = e
begins_also test other more (c ∷ cs) e = more c e

pub begins_apart : (test other : ℕ → Bool) → ((c : ℕ) → test c ≡ true → other c ≡ true → ⊥) → (s : List ℕ) → begins test s ≡ true → begins other s ≡ true → ⊥
begins_apart test other apart [] e f = false≢true e
begins_apart test other apart (c ∷ cs) e f = apart c e f

begins_one : (test : ℕ → Bool) (s : List ℕ) → One test s → begins test s ≡ true
begins_one test s (c, e, t) = subst (λ z. begins test z ≡ true) (sym e) t

-- the character is neither a quote nor a new-line
is_plain : ℕ → Bool
is_plain c = not (c == 39 || (c == 34 || c == 10))

abbrev plain : List ℕ → Bool
plain s = list_all is_plain s

plain_behind : (a b : List ℕ) → plain (a ++ b) ≡ true → plain b ≡ true
plain_behind [] b e = e
plain_behind (c ∷ a) b e = plain_behind a b (and_parts (is_plain c) (plain (a ++ b)) e).1

word_plain : (c : ℕ) → is_word_byte c ≡ true → is_plain c ≡ true
unfolding is_plain
word_plain c t = grind (arith, nat_tests)

ident_plain : Throughout is_plain IsIdent
ident_plain = ident_passes is_plain word_plain

number_plain : Throughout is_plain IsNumber
number_plain = number_passes is_plain word_plain

punct_plain : Throughout is_plain IsPunct
unfolding is_plain
punct_plain = record { at = punct_passes plain refl }

-- the text has at least two characters and ends in q
abbrev EndsIn : ℕ → List ℕ → Type 0
EndsIn q s = (x : List ℕ) × (0 < length x) × (s ≡ x ++ q ∷ [])

ends_one : (q r : ℕ) (s : List ℕ) → EndsIn q s → EndsIn r s → q ≡ r
ends_one q r s (x, l, e) (y, m, f) =
    let lx = length-append x (q ∷ []) in
    let ly = length-append y (r ∷ []) in
    let same : length x ≡ length y = (let h = ap length (sym e ∙ f) in omega arith) in
    let last : q ∷ [] ≡ r ∷ [] = sym (drop_at x (q ∷ []) (length y) same) ∙ ap (drop (length y)) (sym e ∙ f) ∙ drop_at y (r ∷ []) (length y) refl in
    cc

ends_long : (q : ℕ) (s : List ℕ) (test : ℕ → Bool) → EndsIn q s → One test s → ⊥
ends_long q s test (x, l, e) (c, f, t) =
    let lx = length-append x (q ∷ []) in
    let h = ap length (sym e ∙ f) in
    omega arith

not_plain : (q : ℕ) (s : List ℕ) → is_plain q ≡ false → EndsIn q s → plain s ≡ true → ⊥
not_plain q s quote (x, l, e) p =
    false≢true (sym quote ∙ (and_parts (is_plain q) true (plain_behind x (q ∷ []) (subst (λ z. plain z ≡ true) e p))).0)

char_ends : (s : List ℕ) → IsCharConst s → EndsIn 39 s
char_ends s (a, b, e, p, (c, d, f, q, (g, h, i, el, (j, k, l, r, m)))) = (a ++ (c ++ (g ++ j)), long, whole)
  where
    long : 0 < length (a ++ (c ++ (g ++ j)))
    long = let u = length-append a (c ++ (g ++ j)) in let v = length-append c (g ++ j) in let w = ap length q in omega arith

    whole : s ≡ (a ++ (c ++ (g ++ j))) ++ 39 ∷ []
    whole = e
        ∙ ap (λ z. a ++ z)
        (f ∙ ap (λ z. c ++ z) (i ∙ ap (λ z. g ++ z) (l ∙ ap (λ z. j ++ z) m) ∙ sym (append_assoc g j (39 ∷ []))) ∙ sym (append_assoc c (g ++ j) (39 ∷ [])))
        ∙ sym (append_assoc a (c ++ (g ++ j)) (39 ∷ []))

str_ends : (s : List ℕ) → IsStr s → EndsIn 34 s
str_ends s (a, b, e, p, (c, d, f, q, (j, k, l, r, m))) = (a ++ (c ++ j), long, whole)
  where
    long : 0 < length (a ++ (c ++ j))
    long = let u = length-append a (c ++ j) in let v = length-append c j in let w = ap length q in omega arith

    whole : s ≡ (a ++ (c ++ j)) ++ 34 ∷ []
    whole = e ∙ ap (λ z. a ++ z) (f ∙ ap (λ z. c ++ z) (l ∙ ap (λ z. j ++ z) m) ∙ sym (append_assoc c j (34 ∷ []))) ∙ sym (append_assoc a (c ++ j) (34 ∷ []))

-- the first characters of identifiers and numbers
abbrev pub is_ident_head : ℕ → Bool
is_ident_head c = is_nondigit c || c == 92

abbrev pub begins_number : List ℕ → Bool
begins_number [] = false
begins_number (c ∷ []) = is_digit c
begins_number (c ∷ d ∷ cs) = is_digit c || (c == 46 && is_digit d)

universal_begins : (s : List ℕ) → IsUniversal s → begins (λ c. c == 92) s ≡ true
universal_begins s (inl (a, b, e, x, y)) = subst (λ z. begins (λ c. c == 92) z ≡ true) (sym (e ∙ ap (λ z. z ++ b) x)) refl
universal_begins s (inr (a, b, e, x, y)) = subst (λ z. begins (λ c. c == 92) z ≡ true) (sym (e ∙ ap (λ z. z ++ b) x)) refl

nondigit_head : (c : ℕ) → is_nondigit c ≡ true → is_ident_head c ≡ true
nondigit_head c t = grind (arith, nat_tests)

backslash_head : (c : ℕ) → c == 92 ≡ true → is_ident_head c ≡ true
backslash_head c t = grind (arith, nat_tests)

nondigit_begins : (s : List ℕ) → IsNondigit s → begins is_ident_head s ≡ true
nondigit_begins s (inl a) = begins_also is_nondigit is_ident_head nondigit_head s (begins_one is_nondigit s a)
nondigit_begins s (inr b) = begins_also (λ c. c == 92) is_ident_head backslash_head s (universal_begins s b)

pub ident_begins : (s : List ℕ) → IsIdent s → begins is_ident_head s ≡ true
ident_begins s (a, b, e, x, y) = subst (λ z. begins is_ident_head z ≡ true) (sym e) (begins-append is_ident_head a b (nondigit_begins a x))

digit_first : (c : ℕ) (b : List ℕ) → is_digit c ≡ true → begins_number (c ∷ b) ≡ true
digit_first c [] t = t
digit_first c (d ∷ b) t = grind (arith, nat_tests)

pub number_begins : (s : List ℕ) → IsNumber s → begins_number s ≡ true
number_begins s (a, b, e, inl (c, f, t), y) = subst (λ z. begins_number z ≡ true) (sym (e ∙ ap (λ z. z ++ b) f)) (digit_first c b t)
number_begins s (a, b, e, inr (v, w, f, x, (d, g, t)), y) =
    subst (λ z. begins_number z ≡ true) (sym (e ∙ ap (λ z. z ++ b) (f ∙ ap (λ z. z ++ w) x ∙ ap (λ z. 46 ∷ z) g))) t

abbrev pub is_number_head : ℕ → Bool
is_number_head c = is_digit c || c == 46

pub number_head : (s : List ℕ) → begins_number s ≡ true → begins is_number_head s ≡ true
number_head [] t = t
number_head (c ∷ []) t = grind (arith, nat_tests)
number_head (c ∷ d ∷ cs) t = grind (arith, nat_tests)

heads_apart : (c : ℕ) → is_ident_head c ≡ true → is_number_head c ≡ true → ⊥
heads_apart c t u = grind (arith, nat_tests)

not_true : (b : Bool) → not b ≡ true → b ≡ true → ⊥
not_true true e f = false≢true e
not_true false e f = false≢true f

-- No text is of two kinds: each pair of kinds.
ident_number : (s : List ℕ) → IsIdent s → IsNumber s → ⊥
ident_number s a b = begins_apart is_ident_head is_number_head heads_apart s (ident_begins s a) (number_head s (number_begins s b))

ident_punct : (s : List ℕ) → IsIdent s → IsPunct s → ⊥
ident_punct s a b = not_true (begins is_ident_head s) (punct_passes (λ p. not (begins is_ident_head p)) refl s b) (ident_begins s a)

number_punct : (s : List ℕ) → IsNumber s → IsPunct s → ⊥
number_punct s a b = not_true (begins_number s) (punct_passes (λ p. not (begins_number p)) refl s b) (number_begins s a)

char_not_plain : (s : List ℕ) → IsCharConst s → plain s ≡ true → ⊥
unfolding is_plain
char_not_plain s a p = not_plain 39 s refl (char_ends s a) p

str_not_plain : (s : List ℕ) → IsStr s → plain s ≡ true → ⊥
unfolding is_plain
str_not_plain s a p = not_plain 34 s refl (str_ends s a) p

char_str : (s : List ℕ) → IsCharConst s → IsStr s → ⊥
char_str s a b = let e : ◌≡◌ {A = ℕ} 39 34 = ends_one 39 34 s (char_ends s a) (str_ends s b) in absurd (omega arith)

pub one_kind : (s : List ℕ) (k l : Kind) → Spells k s → Spells l s → k ≡ l
one_kind s Ident Ident a b = refl
one_kind s Ident Number a b = absurd (ident_number s a b)
one_kind s Ident CharConst a b = absurd (char_not_plain s b (ident_plain.at s a))
one_kind s Ident Str a b = absurd (str_not_plain s b (ident_plain.at s a))
one_kind s Ident Punct a b = absurd (ident_punct s a b)
one_kind s Ident Header a b = absurd b
one_kind s Ident Other a b = absurd (b.1 a)
one_kind s Number Ident a b = absurd (ident_number s b a)
one_kind s Number Number a b = refl
one_kind s Number CharConst a b = absurd (char_not_plain s b (number_plain.at s a))
one_kind s Number Str a b = absurd (str_not_plain s b (number_plain.at s a))
one_kind s Number Punct a b = absurd (number_punct s a b)
one_kind s Number Header a b = absurd b
one_kind s Number Other a b = absurd (b.2 a)
one_kind s CharConst Ident a b = absurd (char_not_plain s a (ident_plain.at s b))
one_kind s CharConst Number a b = absurd (char_not_plain s a (number_plain.at s b))
one_kind s CharConst CharConst a b = refl
one_kind s CharConst Str a b = absurd (char_str s a b)
one_kind s CharConst Punct a b = absurd (char_not_plain s a (punct_plain.at s b))
one_kind s CharConst Header a b = absurd b
one_kind s CharConst Other a b = absurd (ends_long 39 s _ (char_ends s a) b.0)
one_kind s Str Ident a b = absurd (str_not_plain s a (ident_plain.at s b))
one_kind s Str Number a b = absurd (str_not_plain s a (number_plain.at s b))
one_kind s Str CharConst a b = absurd (char_str s b a)
one_kind s Str Str a b = refl
one_kind s Str Punct a b = absurd (str_not_plain s a (punct_plain.at s b))
one_kind s Str Header a b = absurd b
one_kind s Str Other a b = absurd (ends_long 34 s _ (str_ends s a) b.0)
one_kind s Punct Ident a b = absurd (ident_punct s b a)
one_kind s Punct Number a b = absurd (number_punct s b a)
one_kind s Punct CharConst a b = absurd (char_not_plain s b (punct_plain.at s a))
one_kind s Punct Str a b = absurd (str_not_plain s b (punct_plain.at s a))
one_kind s Punct Punct a b = refl
one_kind s Punct Header a b = absurd b
one_kind s Punct Other a b = absurd (b.3 a)
one_kind s Header l a b = absurd a
one_kind s Other Ident a b = absurd (a.1 b)
one_kind s Other Number a b = absurd (a.2 b)
one_kind s Other CharConst a b = absurd (ends_long 39 s _ (char_ends s b) a.0)
one_kind s Other Str a b = absurd (ends_long 34 s _ (str_ends s b) a.0)
one_kind s Other Punct a b = absurd (a.3 b)
one_kind s Other Header a b = absurd b
one_kind s Other Other a b = refl

-- the character is no white space
abbrev pub is_visible : ℕ → Bool
is_visible c = not (is_blank c || c == 10)

abbrev empty_or_visible : List ℕ → Bool
empty_or_visible [] = true
empty_or_visible (c ∷ cs) = is_visible c

prefixed_visible : (a b : List ℕ) → empty_or_visible a ≡ true → begins is_visible b ≡ true → begins is_visible (a ++ b) ≡ true
prefixed_visible [] b e f = f
prefixed_visible (c ∷ a) b e f = e

ident_visible : (c : ℕ) → is_ident_head c ≡ true → is_visible c ≡ true
ident_visible c t = grind (arith, nat_tests)

number_visible : (c : ℕ) → is_number_head c ≡ true → is_visible c ≡ true
number_visible c t = grind (arith, nat_tests)

pub spelling_visible : (s : List ℕ) (k : Kind) → Spells k s → begins is_visible s ≡ true
spelling_visible s Ident a = begins_also is_ident_head is_visible ident_visible s (ident_begins s a)
spelling_visible s Number a = begins_also is_number_head is_visible number_visible s (number_head s (number_begins s a))
spelling_visible s CharConst (a, b, e, p, (c, d, f, q, r)) =
    subst (λ z. begins is_visible z ≡ true) (sym e)
    (prefixed_visible a b (contains_passes empty_or_visible char_prefixes refl a p)
    (subst (λ z. begins is_visible z ≡ true) (sym (f ∙ ap (λ z. z ++ d) q)) refl))
spelling_visible s Str (a, b, e, p, (c, d, f, q, r)) =
    subst (λ z. begins is_visible z ≡ true) (sym e)
    (prefixed_visible a b (contains_passes empty_or_visible str_prefixes refl a p)
    (subst (λ z. begins is_visible z ≡ true) (sym (f ∙ ap (λ z. z ++ d) q)) refl))
spelling_visible s Punct a = punct_passes (λ p. begins is_visible p) refl s a
spelling_visible s Header a = absurd a
spelling_visible s Other a = begins_one is_visible s a.0

last_cons : (c : ℕ) (s : List ℕ) → 0 < length s → last_of (c ∷ s) ≡ last_of s
last_cons c [] some = absurd (omega arith)
last_cons c (d ∷ s) some = refl

pub last-append : (a b : List ℕ) → 0 < length b → last_of (a ++ b) ≡ last_of b
last-append [] b some = refl
last-append (c ∷ a) b some =
    let l = length-append a b in
    last_cons c (a ++ b) (omega arith) ∙ last-append a b some

plain_last : (s : List ℕ) → plain s ≡ true → last_of s ≡ 10 → ⊥
unfolding is_plain
plain_last [] p e = absurd (omega arith)
plain_last (c ∷ []) p e = false≢true (ap is_plain (sym e) ∙ (and_parts (is_plain c) true p).0)
plain_last (c ∷ d ∷ s) p e = plain_last (d ∷ s) (and_parts (is_plain c) (plain (d ∷ s)) p).1 e

ends_last : (q : ℕ) (s : List ℕ) → EndsIn q s → last_of s ≡ q
ends_last q s (x, l, e) = ap last_of e ∙ last-append x (q ∷ []) (omega arith)

quote_last : (q : ℕ) (s : List ℕ) → (q ≡ 10 → ⊥) → EndsIn q s → last_of s ≡ 10 → ⊥
quote_last q s apart a e = apart (sym (ends_last q s a) ∙ e)

-- no spelling ends in a new-line
pub spelling_last : (s : List ℕ) (k : Kind) → Spells k s → last_of s ≡ 10 → ⊥
spelling_last s Ident a e = plain_last s (ident_plain.at s a) e
spelling_last s Number a e = plain_last s (number_plain.at s a) e
spelling_last s CharConst a e = quote_last 39 s (λ ten. absurd (omega arith)) (char_ends s a) e
spelling_last s Str a e = quote_last 34 s (λ ten. absurd (omega arith)) (str_ends s a) e
spelling_last s Punct a e = plain_last s (punct_plain.at s a) e
spelling_last s Header a e = a
spelling_last s Other a e =
    let newline : a.0.0 ≡ 10 = sym (ap last_of a.0.1) ∙ e in
    false≢true (ap is_visible (sym newline) ∙ a.0.2)
