-- What forms one token with an identifier or a number continues it.
use Rattle.std.proofs.Common.{◌≡◌, ℕ, suc, Bool, true, false, ◌||◌, ◌==◌, List, [], ◌∷◌, ◌++◌, length, refl, sym, ap, ◌∙◌, subst, inl, inr, ◌⊎◌, arith, append_assoc, append-nil}
use Rattle.std.specs.List.{AllByRecursion, AllPass, flat_map}
use Rattle.std.proofs.lemmas.Bool.{false≢true}
use Rattle.std.proofs.lemmas.Bool.Decides.{nat_tests}
use Rattle.std.proofs.lemmas.List.{append_cancel_left}
use Rattle.pptext.specs.declared.tokens.Kind.{Kind}
use Rattle.pptext.specs.declared.tokens.Kind.TheVariants.{Ident, Number, CharConst, Str, Punct, Header, Other}
use Rattle.pptext.specs.Languages.{One, Either, Repeated}
use Rattle.pptext.specs.Spellings.{is_digit, is_hex, is_nondigit, is_exponent, is_sign, IsUniversal, IsNondigit, IsNumberPart, Spells}
use Rattle.pptext.specs.Continuations.{IsIdentRest, IsNumberRest, IsSignedRest, last_of, EndsInUniversal, EndsInExponent, ContinuesToken}
use Rattle.pptext.specs.Sources.{IsOneToken}
use Rattle.pptext.proofs.WordParts.{NumberStart}
use Rattle.pptext.proofs.TokenContinuation.{more_parts, last_behind, spelled_by}

-- ---- universal character names

abbrev NoBackslash : List ℕ → Type 0
NoBackslash = AllByRecursion (λ c. c ≡ 92 → ⊥)

hex_apart : (c : ℕ) → is_hex c ≡ true → c ≡ 92 → ⊥
hex_apart c t e = false≢true (ap is_hex (sym e) ∙ t)

hex_plain : (cs : List ℕ) → AllPass is_hex cs → NoBackslash cs
hex_plain [] all = tt
hex_plain (c ∷ cs) all = (hex_apart c (all 0 c (omega arith)), hex_plain cs (λ k d lt. all (suc k) d (omega arith)))

-- A universal character name begins with a backslash, and has no other.
name_head : (p : List ℕ) → IsUniversal p → (t : List ℕ) × (p ≡ 92 ∷ t) × NoBackslash t
name_head p (inl (a, b, is, is_a, run)) = (117 ∷ b, is ∙ ap (λ z. z ++ b) is_a, ((λ e. omega arith), hex_plain b run.1))
name_head p (inr (a, b, is, is_a, run)) = (85 ∷ b, is ∙ ap (λ z. z ++ b) is_a, ((λ e. omega arith), hex_plain b run.1))

same_front : (a b x y : List ℕ) → a ++ x ≡ b ++ y → length a ≡ length b → a ≡ b
same_front [] [] x y e l = refl
same_front [] (d ∷ b) x y e l = absurd (omega arith)
same_front (c ∷ a) [] x y e l = absurd (omega arith)
same_front (c ∷ a) (d ∷ b) x y e l =
    let heads : c ≡ d = cc in
    let tails : a ++ x ≡ b ++ y = cc in
    let rest : a ≡ b = same_front a b x y tails (omega arith) in
    cc

letters_apart : ◌≡◌ {A = ℕ} 117 85 → ⊥
letters_apart e = omega arith

second_same : (c d : ℕ) (a b x y p q : List ℕ) → p ≡ 92 ∷ c ∷ a → q ≡ 92 ∷ d ∷ b → p ++ x ≡ q ++ y → c ≡ d
second_same c d a b x y p q is is' e =
    let both : (92 ∷ c ∷ a) ++ x ≡ (92 ∷ d ∷ b) ++ y = sym (ap (λ z. z ++ x) is) ∙ e ∙ ap (λ z. z ++ y) is' in
    cc

same_name : (p q x y : List ℕ) → p ++ x ≡ q ++ y → IsUniversal p → IsUniversal q → p ≡ q
same_name p q x y e (inl (a, b, is, is_a, run)) (inl (c, d, is', is_c, run')) =
    let first : length p ≡ length (92 ∷ 117 ∷ b) = ap length (is ∙ ap (λ z. z ++ b) is_a) in
    let second : length q ≡ length (92 ∷ 117 ∷ d) = ap length (is' ∙ ap (λ z. z ++ d) is_c) in
    same_front p q x y e (omega (arith, run.0, run'.0))
same_name p q x y e (inr (a, b, is, is_a, run)) (inr (c, d, is', is_c, run')) =
    let first : length p ≡ length (92 ∷ 85 ∷ b) = ap length (is ∙ ap (λ z. z ++ b) is_a) in
    let second : length q ≡ length (92 ∷ 85 ∷ d) = ap length (is' ∙ ap (λ z. z ++ d) is_c) in
    same_front p q x y e (omega (arith, run.0, run'.0))
same_name p q x y e (inl (a, b, is, is_a, run)) (inr (c, d, is', is_c, run')) =
    absurd (letters_apart (second_same 117 85 b d x y p q (is ∙ ap (λ z. z ++ b) is_a) (is' ∙ ap (λ z. z ++ d) is_c) e))
same_name p q x y e (inr (a, b, is, is_a, run)) (inl (c, d, is', is_c, run')) =
    absurd (letters_apart (sym (second_same 85 117 b d x y p q (is ∙ ap (λ z. z ++ b) is_a) (is' ∙ ap (λ z. z ++ d) is_c) e)))

-- ---- parts of one character, and universal character names

abbrev Plain : (ℕ → Bool) → List ℕ → Type 0
Plain test = Either (One test) IsUniversal

head_same : (c d : ℕ) (s t p q x y : List ℕ) → p ≡ c ∷ s → q ≡ d ∷ t → p ++ x ≡ q ++ y → c ≡ d
head_same c d s t p q x y is is' e =
    let both : (c ∷ s) ++ x ≡ (d ∷ t) ++ y = sym (ap (λ z. z ++ x) is) ∙ e ∙ ap (λ z. z ++ y) is' in
    cc

-- Two such parts that begin the same text are the same.
plain_same : (test : ℕ → Bool) → test 92 ≡ false → (p q x y : List ℕ) → p ++ x ≡ q ++ y → Plain test p → Plain test q → p ≡ q
plain_same test f p q x y e (inl (c, is, h)) (inl (d, is', g)) = is ∙ ap (λ z. z ∷ []) (head_same c d [] [] p q x y is is' e) ∙ sym is'
plain_same test f p q x y e (inl (c, is, h)) (inr v) =
    let w = name_head q v in
    absurd (false≢true (sym f ∙ ap test (sym (head_same c 92 [] w.0 p q x y is w.1 e)) ∙ h))
plain_same test f p q x y e (inr u) (inl (d, is', g)) =
    let w = name_head p u in
    absurd (false≢true (sym f ∙ ap test (head_same 92 d w.0 [] p q x y w.1 is' e) ∙ g))
plain_same test f p q x y e (inr u) (inr v) = same_name p q x y e u v

plain_some : (test : ℕ → Bool) (p : List ℕ) → Plain test p → (c : ℕ) × (t : List ℕ) × (p ≡ c ∷ t) × NoBackslash t
plain_some test p (inl (c, is, h)) = (c, [], is, tt)
plain_some test p (inr u) = let w = name_head p u in (92, w.0, w.1, w.2)

none_left : (c : ℕ) (t p x : List ℕ) → p ≡ c ∷ t → p ++ x ≡ [] → ⊥
none_left c t p x is e =
    let both : (c ∷ t) ++ x ≡ [] = sym (ap (λ z. z ++ x) is) ∙ e in
    cc

-- ---- identifiers

abbrev is_word : ℕ → Bool
is_word c = is_nondigit c || is_digit c

word_nondigit : (c : ℕ) → is_nondigit c ≡ true → is_word c ≡ true
word_nondigit c t = grind (arith, nat_tests)

word_digit : (c : ℕ) → is_digit c ≡ true → is_word c ≡ true
word_digit c t = grind (arith, nat_tests)

no_word : is_word 92 ≡ false
no_word = refl

abbrev IdentPart : List ℕ → Type 0
IdentPart = Either IsNondigit (One is_digit)

ident_plain : (p : List ℕ) → IdentPart p → Plain is_word p
ident_plain p (inl (inl (c, is, h))) = inl (c, is, word_nondigit c h)
ident_plain p (inl (inr u)) = inr u
ident_plain p (inr (c, is, h)) = inl (c, is, word_digit c h)

ident_rest : (ps qs : List (List ℕ)) (more : List ℕ)
    → AllByRecursion IdentPart ps
    → AllByRecursion IdentPart qs
    → flat_map (λ p. p) ps ++ more ≡ flat_map (λ p. p) qs
    → Repeated IdentPart more
ident_rest [] qs more all others e = (qs, others, e)
ident_rest (p ∷ ps) [] more all others e =
    let w = plain_some is_word p (ident_plain p all.0) in
    absurd (none_left w.0 w.1 p (flat_map (λ z. z) ps ++ more) w.2 (sym (append_assoc p (flat_map (λ z. z) ps) more) ∙ e))
ident_rest (p ∷ ps) (q ∷ qs) more all others e =
    let split : p ++ (flat_map (λ z. z) ps ++ more) ≡ q ++ flat_map (λ z. z) qs = sym (append_assoc p (flat_map (λ z. z) ps) more) ∙ e in
    let same : p ≡ q = plain_same is_word no_word p q _ _ split (ident_plain p all.0) (ident_plain q others.0) in
    ident_rest ps qs more all.1 others.1 (append_cancel_left p _ _ (split ∙ ap (λ z. z ++ flat_map (λ r. r) qs) (sym same)))

ident_continued : (text more : List ℕ) → Spells Ident text → Spells Ident (text ++ more) → IsIdentRest more
ident_continued text more (a, b, e, x, (ps, all, f)) (c, d, g, y, (qs, others, h)) =
    ident_rest (a ∷ ps) (c ∷ qs) more (inl x, all) (inl y, others) (ap (λ z. (a ++ z) ++ more) (sym f) ∙ ap (λ z. z ++ more) (sym e) ∙ g ∙ ap (λ z. c ++ z) h)

-- ---- numbers

abbrev is_plain_part : ℕ → Bool
is_plain_part c = is_nondigit c || (is_digit c || c == 46)

plain_nondigit : (c : ℕ) → is_nondigit c ≡ true → is_plain_part c ≡ true
plain_nondigit c t = grind (arith, nat_tests)

plain_digit : (c : ℕ) → is_digit c || c == 46 ≡ true → is_plain_part c ≡ true
plain_digit c t = grind (arith, nat_tests)

no_plain_part : is_plain_part 92 ≡ false
no_plain_part = refl

plain_no_sign : (c : ℕ) → is_plain_part c ≡ true → is_sign c ≡ true → ⊥
plain_no_sign c t s = grind (arith, nat_tests)

exponent_no_sign : (c : ℕ) → is_exponent c ≡ true → is_sign c ≡ true → ⊥
exponent_no_sign c t s = grind (arith, nat_tests)

-- an exponent letter and a sign
record Signed (p : List ℕ) : Type 0 where
  letter : ℕ
  sign : ℕ
  whole : p ≡ letter ∷ sign ∷ []
  exponent : is_exponent letter ≡ true
  signs : is_sign sign ≡ true

abbrev NumberForm : List ℕ → Type 0
NumberForm p = Plain is_plain_part p ⊎ Signed p

number_form : (p : List ℕ) → IsNumberPart p → NumberForm p
number_form p (inl (inl (c, is, h))) = inl (inl (c, is, plain_nondigit c h))
number_form p (inl (inr u)) = inl (inr u)
number_form p (inr (inl (c, is, h))) = inl (inl (c, is, plain_digit c h))
number_form p (inr (inr (a, b, is, (c, is_a, h), (s, is_b, t)))) =
    inr (record { letter = c; sign = s; whole = is ∙ ap (λ z. z ++ b) is_a ∙ ap (λ z. c ∷ z) is_b; exponent = h; signs = t })

form_some : (p : List ℕ) → NumberForm p → (c : ℕ) × (t : List ℕ) × (p ≡ c ∷ t) × NoBackslash t
form_some p (inl v) = plain_some is_plain_part p v
form_some p (inr s) = (s.letter, s.sign ∷ [], s.whole, ((λ e. false≢true (ap is_sign (sym e) ∙ s.signs)), tt))

-- No part begins with a sign.
form_no_sign : (p : List ℕ) → NumberForm p → (s : ℕ) (x y : List ℕ) → is_sign s ≡ true → p ++ x ≡ s ∷ y → ⊥
form_no_sign p (inl (inl (c, is, h))) s x y t e = plain_no_sign c h (ap is_sign (head_same c s [] [] p (s ∷ []) x y is refl e) ∙ t)
form_no_sign p (inl (inr u)) s x y t e =
    let w = name_head p u in
    false≢true (ap is_sign (head_same 92 s w.0 [] p (s ∷ []) x y w.1 refl e) ∙ t)
form_no_sign p (inr g) s x y t e = exponent_no_sign g.letter g.exponent (ap is_sign (head_same g.letter s (g.sign ∷ []) [] p (s ∷ []) x y g.whole refl e) ∙ t)

parts_no_sign : (ps : List (List ℕ)) (s : ℕ) (x y : List ℕ) → AllByRecursion IsNumberPart ps → is_sign s ≡ true → flat_map (λ p. p) ps ++ x ≡ s ∷ y → ps ≡ []
parts_no_sign [] s x y all t e = refl
parts_no_sign (p ∷ ps) s x y all t e =
    absurd (form_no_sign p (number_form p all.0) s (flat_map (λ z. z) ps ++ x) y t (sym (append_assoc p (flat_map (λ z. z) ps) x) ∙ e))

-- An exponent letter that is the first part, and a sign that comes next.
record Letter (p x y : List ℕ) : Type 0 where
  letter : ℕ
  sign : ℕ
  alone : p ≡ letter ∷ []
  exponent : is_exponent letter ≡ true
  signs : is_sign sign ≡ true
  next : x ≡ sign ∷ y

letter_first : (c : ℕ) (p q x y : List ℕ) → p ≡ c ∷ [] → (g : Signed q) → p ++ x ≡ q ++ y → Letter p x y
letter_first c p q x y is g e =
    let both : (c ∷ []) ++ x ≡ (g.letter ∷ g.sign ∷ []) ++ y = sym (ap (λ z. z ++ x) is) ∙ e ∙ ap (λ z. z ++ y) g.whole in
    let head : c ≡ g.letter = cc in
    let tail : x ≡ g.sign ∷ y = cc in
    record { letter = c; sign = g.sign; alone = is; exponent = ap is_exponent head ∙ g.exponent; signs = g.signs; next = tail }

no_exponent : is_exponent 92 ≡ true → ⊥
no_exponent e = false≢true e

-- Two parts that begin the same text are the same, or one has a sign after the other's exponent letter.
forms_meet : (p q x y : List ℕ) → p ++ x ≡ q ++ y → NumberForm p → NumberForm q → (p ≡ q) ⊎ (Letter p x y ⊎ Letter q y x)
forms_meet p q x y e (inl v) (inl w) = inl (plain_same is_plain_part no_plain_part p q x y e v w)
forms_meet p q x y e (inl (inl (c, is, h))) (inr g) = inr (inl (letter_first c p q x y is g e))
forms_meet p q x y e (inl (inr u)) (inr g) =
    let w = name_head p u in
    absurd (no_exponent (ap is_exponent (head_same 92 g.letter w.0 (g.sign ∷ []) p q x y w.1 g.whole e) ∙ g.exponent))
forms_meet p q x y e (inr g) (inl (inl (c, is, h))) = inr (inr (letter_first c q p y x is g (sym e)))
forms_meet p q x y e (inr g) (inl (inr u)) =
    let w = name_head q u in
    absurd (no_exponent (ap is_exponent (head_same 92 g.letter w.0 (g.sign ∷ []) q p y x w.1 g.whole (sym e)) ∙ g.exponent))
forms_meet p q x y e (inr g) (inr k) =
    let both : (g.letter ∷ g.sign ∷ []) ++ x ≡ (k.letter ∷ k.sign ∷ []) ++ y = sym (ap (λ z. z ++ x) g.whole) ∙ e ∙ ap (λ z. z ++ y) k.whole in
    let head : g.letter ≡ k.letter = cc in
    let second : g.sign ≡ k.sign = cc in
    inl (g.whole ∙ ap (λ z. z ∷ g.sign ∷ []) head ∙ ap (λ z. k.letter ∷ z ∷ []) second ∙ sym k.whole)

no_letter : is_exponent 0 ≡ true → ⊥
no_letter e = false≢true e

last_more : (p x : List ℕ) → is_exponent (last_of x) ≡ true → is_exponent (last_of (p ++ x)) ≡ true
last_more p [] t = absurd (no_letter t)
last_more p (c ∷ cs) t = ap is_exponent (last_behind p c cs) ∙ t

abbrev Rest : List ℕ → List ℕ → Type 0
Rest text more = IsNumberRest more ⊎ ((is_exponent (last_of text) ≡ true) × IsSignedRest more)

cons_some : (c : ℕ) (cs : List ℕ) → [] ≡ c ∷ cs → ⊥
cons_some c cs e = cc

number_rest : (ps qs : List (List ℕ)) (more : List ℕ)
    → AllByRecursion IsNumberPart ps
    → AllByRecursion IsNumberPart qs
    → flat_map (λ p. p) ps ++ more ≡ flat_map (λ p. p) qs
    → Rest (flat_map (λ p. p) ps) more
number_rest [] qs more all others e = inl (qs, others, e)
number_rest (p ∷ ps) [] more all others e =
    let w = form_some p (number_form p all.0) in
    absurd (none_left w.0 w.1 p (flat_map (λ z. z) ps ++ more) w.2 (sym (append_assoc p (flat_map (λ z. z) ps) more) ∙ e))
number_rest (p ∷ ps) (q ∷ qs) more all others e =
    meet (λ same. number_rest ps qs more all.1 others.1 (append_cancel_left p _ _ (split ∙ ap (λ z. z ++ flat_map (λ r. r) qs) (sym same)))) (forms_meet p q _ _ split (number_form p all.0) (number_form q others.0))
  where
    split : p ++ (flat_map (λ z. z) ps ++ more) ≡ q ++ flat_map (λ z. z) qs
    split = sym (append_assoc p (flat_map (λ z. z) ps) more) ∙ e

    longer : Rest (flat_map (λ z. z) ps) more → Rest (p ++ flat_map (λ z. z) ps) more
    longer (inl r) = inl r
    longer (inr (t, r)) = inr (last_more p (flat_map (λ z. z) ps) t, r)

    meet : (p ≡ q → Rest (flat_map (λ z. z) ps) more) → (p ≡ q) ⊎ (Letter p (flat_map (λ z. z) ps ++ more) (flat_map (λ z. z) qs) ⊎ Letter q (flat_map (λ z. z) qs) (flat_map (λ z. z) ps ++ more))
        → Rest (p ++ flat_map (λ z. z) ps) more
    meet later (inl same) = longer (later same)
    meet later (inr (inl l)) =
        let none : ps ≡ [] = parts_no_sign ps l.sign more (flat_map (λ z. z) qs) all.1 l.signs l.next in
        let empty : flat_map (λ (z : List ℕ). z) ps ≡ [] = ap (λ (z : List (List ℕ)). flat_map (λ r. r) z) none in
        let tail : more ≡ l.sign ∷ flat_map (λ z. z) qs = sym (ap (λ z. z ++ more) empty) ∙ l.next in
        let whole : p ++ flat_map (λ z. z) ps ≡ l.letter ∷ [] = ap (λ z. p ++ z) empty ∙ append-nil p ∙ l.alone in
        inr (ap (λ z. is_exponent (last_of z)) whole ∙ l.exponent, (l.sign ∷ [], flat_map (λ z. z) qs, tail, (l.sign, refl, l.signs), (qs, others.1, refl)))
    meet later (inr (inr l)) =
        let none : qs ≡ [] = parts_no_sign qs l.sign [] (flat_map (λ z. z) ps ++ more) others.1 l.signs (append-nil (flat_map (λ z. z) qs) ∙ l.next) in
        let empty : flat_map (λ (z : List ℕ). z) qs ≡ [] = ap (λ (z : List (List ℕ)). flat_map (λ r. r) z) none in
        let wrong : [] ≡ l.sign ∷ (flat_map (λ z. z) ps ++ more) = sym empty ∙ l.next in
        absurd (cons_some _ _ wrong)

-- ---- a universal character name in a number is a part of it

past : (t z r w : List ℕ) → NoBackslash t → z ++ 92 ∷ w ≡ t ++ r → (rest : List ℕ) × (rest ++ 92 ∷ w ≡ r)
past [] z r w all e = (z, e)
past (x ∷ t) [] r w all e =
    let head : x ≡ 92 = cc in
    absurd (all.0 head)
past (x ∷ t) (y ∷ z) r w all e =
    let tail : z ++ 92 ∷ w ≡ t ++ r = cc in
    past t z r w all.1 tail

form_name : (q name x y : List ℕ) → NumberForm q → IsUniversal name → q ++ x ≡ name ++ y → q ≡ name
form_name q name x y (inl v) u e = plain_same is_plain_part no_plain_part q name x y e v (inr u)
form_name q name x y (inr g) u e =
    let w = name_head name u in
    absurd (no_exponent (ap is_exponent (head_same 92 g.letter w.0 (g.sign ∷ []) name q y x w.1 g.whole (sym e)) ∙ g.exponent))

after_name : (qs : List (List ℕ)) (prefix name rest : List ℕ)
    → AllByRecursion IsNumberPart qs
    → IsUniversal name
    → flat_map (λ q. q) qs ≡ prefix ++ (name ++ rest)
    → Repeated IsNumberPart rest
after_name [] [] name rest all u e = absurd (none_left 92 (name_head name u).0 name rest (name_head name u).1 (sym e))
after_name [] (d ∷ prefix) name rest all u e = absurd (none_left d prefix (d ∷ prefix) (name ++ rest) refl (sym e))
after_name (q ∷ qs) [] name rest all u e =
    let same : q ≡ name = form_name q name _ _ (number_form q all.0) u e in
    (qs, all.1, sym (append_cancel_left q _ _ (e ∙ ap (λ z. z ++ rest) (sym same))))
after_name (q ∷ qs) (d ∷ prefix) name rest all u e =
    let w = form_some q (number_form q all.0) in
    let n = name_head name u in
    let both : (w.0 ∷ w.1) ++ flat_map (λ z. z) qs ≡ d ∷ (prefix ++ (name ++ rest)) = sym (ap (λ z. z ++ flat_map (λ r. r) qs) w.2) ∙ e in
    let tail : w.1 ++ flat_map (λ z. z) qs ≡ prefix ++ (name ++ rest) = cc in
    let named : name ++ rest ≡ 92 ∷ (n.0 ++ rest) = ap (λ z. z ++ rest) n.1 in
    let s = past w.1 prefix (flat_map (λ z. z) qs) (n.0 ++ rest) w.3 (ap (λ z. prefix ++ z) (sym named) ∙ sym tail) in
    after_name qs s.0 name rest all.1 u (sym s.1 ∙ ap (λ z. s.0 ++ z) (sym named))

start_parts : (a : List ℕ) → NumberStart a → Repeated IsNumberPart a
start_parts a (inl (c, is, h)) = (a ∷ [], (inr (inl (c, is, digit_first c h)), tt), sym (append-nil a))
  where
    digit_first : (d : ℕ) → is_digit d ≡ true → is_digit d || d == 46 ≡ true
    digit_first d t = grind (arith, nat_tests)
start_parts a (inr (p, b, is, is_p, (c, is_b, h))) =
    ((46 ∷ []) ∷ (c ∷ []) ∷ [], (inr (inl (46, refl, refl)), (inr (inl (c, refl, digit_first c h)), tt)), is ∙ ap (λ z. z ++ b) is_p ∙ ap (λ z. 46 ∷ z) is_b)
  where
    digit_first : (d : ℕ) → is_digit d ≡ true → is_digit d || d == 46 ≡ true
    digit_first d t = grind (arith, nat_tests)

number_parts : (text : List ℕ) → Spells Number text → Repeated IsNumberPart text
number_parts text (a, b, e, x, parts) =
    let s = start_parts a x in
    subst (Repeated IsNumberPart) (sym (e ∙ ap (λ z. z ++ b) s.2)) (more_parts IsNumberPart s.0 b s.1 parts)

number_continued : (text more : List ℕ) → Spells Number text → Spells Number (text ++ more) → IsNumberRest more ⊎ (EndsInExponent text × IsSignedRest more)
number_continued text more one whole = go (number_rest p.0 q.0 more p.1 q.1 (ap (λ z. z ++ more) (sym p.2) ∙ q.2))
  where
    p : Repeated IsNumberPart text
    p = number_parts text one

    q : Repeated IsNumberPart (text ++ more)
    q = number_parts (text ++ more) whole

    no_name : IsSignedRest more → EndsInUniversal text → ⊥
    no_name (a, b, e, (s, is, t), rest) (prefix, name, whole_is, u) =
        let split : flat_map (λ z. z) q.0 ≡ prefix ++ (name ++ more) = sym q.2 ∙ ap (λ z. z ++ more) whole_is ∙ append_assoc prefix name more in
        let r = after_name q.0 prefix name more q.1 u split in
        let signed : more ≡ s ∷ b = e ∙ ap (λ z. z ++ b) is in
        let none : r.0 ≡ [] = parts_no_sign r.0 s [] b r.1 t (append-nil (flat_map (λ z. z) r.0) ∙ sym r.2 ∙ signed) in
        let empty : more ≡ [] = r.2 ∙ ap (λ (z : List (List ℕ)). flat_map (λ x. x) z) none in
        cc

    go : Rest (flat_map (λ z. z) p.0) more → IsNumberRest more ⊎ (EndsInExponent text × IsSignedRest more)
    go (inl r) = inl r
    go (inr (t, r)) = inr ((ap (λ z. is_exponent (last_of z)) p.2 ∙ t, no_name r), r)

pub continues_token : (text more : List ℕ) (k : Kind) → IsOneToken text k → (k ≡ Ident) ⊎ (k ≡ Number) → IsOneToken (text ++ more) k → ContinuesToken k text more
continues_token text more k one word whole = go k (spelled_by text k one) (spelled_by (text ++ more) k whole) word
  where
    go : (l : Kind) → Spells l text → Spells l (text ++ more) → (l ≡ Ident) ⊎ (l ≡ Number) → ContinuesToken l text more
    go Ident h g is = ident_continued text more h g
    go Number h g is = number_continued text more h g
    go CharConst h g (inl is) = cc
    go CharConst h g (inr is) = cc
    go Str h g (inl is) = cc
    go Str h g (inr is) = cc
    go Punct h g (inl is) = cc
    go Punct h g (inr is) = cc
    go Header h g is = absurd h
    go Other h g (inl is) = cc
    go Other h g (inr is) = cc
