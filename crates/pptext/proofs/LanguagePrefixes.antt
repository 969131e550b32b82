-- Prefixes of a text that are in a language: in one, in composed ones, and the longest repetition of parts.
use Rattle.std.proofs.Common.{◌≡◌, ℕ, ◌+◌, ◌-◌, ◌<◌, ◌≤◌, List, [], ◌∷◌, ◌++◌, length, take, drop, refl, sym, ap, ◌∙◌, subst, inl, inr, ◌⊎◌, arith, length-append, length-drop, append_assoc, Bool, true, false, IsTrue, get_or, zero, suc}
use Rattle.std.specs.List.{AllByRecursion, flat_map, AllPass}
use Rattle.std.proofs.lemmas.List.{length-take-le, take-append-drop, take_at, drop_at, append-nil, drop-drop, get_or-drop}
use Rattle.std.proofs.Math.Seq.{take-add}
use Rattle.std.proofs.lemmas.Bool.{false≢true}
use Rattle.std.proofs.lemmas.Bool.Decides.{nat_tests}
use Rattle.pptext.specs.Languages.{Repeated, Then, Longest, Exactly, One, Either, IsRun}
use Rattle.pptext.specs.code.Scanning.{NoPrefix, IsNext, IsOnly, OnlyPart, LongestOrNone, NextPart}
use Rattle.pptext.specs.Spellings.{is_digit, is_hex, is_nondigit, IsUniversal, IsNondigit}
use Rattle.pptext.specs.Lexemes.{BeginsWith}

-- ---- the longest prefix that is a repetition of parts

abbrev joined : List (List ℕ) → List ℕ
joined ps = flat_map (λ p. p) ps

-- If a prefix of the text begins with y, so does the text.
pub front_of : (text y rest : List ℕ) (M : ℕ) → M ≤ length text → take M text ≡ y ++ rest → y ≡ take (length y) text
front_of text y rest M fits e =
    let split : text ≡ (y ++ rest) ++ drop M text = sym (take-append-drop M text) ∙ ap (λ z. z ++ drop M text) e in
    sym (ap (take (length y)) (split ∙ append_assoc y rest (drop M text)) ∙ take_at y (rest ++ drop M text) (length y) refl)

pub front_length : (text y rest : List ℕ) (M : ℕ) → M ≤ length text → take M text ≡ y ++ rest → length y + length rest ≡ M
front_length text y rest M fits e = sym (length-append y rest) ∙ sym (ap length e) ∙ length-take-le M text fits

-- The rest of a prefix after y, in terms of the text.
pub behind_front : (text y rest : List ℕ) (M : ℕ) → M ≤ length text → take M text ≡ y ++ rest → rest ≡ take (M - length y) (drop (length y) text)
behind_front text y rest M fits e =
    let split : text ≡ (y ++ rest) ++ drop M text = sym (take-append-drop M text) ∙ ap (λ z. z ++ drop M text) e in
    let whole : text ≡ y ++ (rest ++ drop M text) = split ∙ append_assoc y rest (drop M text) in
    let dropped : drop (length y) text ≡ rest ++ drop M text = ap (drop (length y)) whole ∙ drop_at y (rest ++ drop M text) (length y) refl in
    let n : length rest ≡ M - length y = (let l = front_length text y rest M fits e in omega arith) in
    sym (ap (take (M - length y)) dropped ∙ take_at rest (drop M text) (M - length y) n)

-- If no part begins the text, no non-empty prefix is a repetition of parts.
no_longer_none : (P : List ℕ → Type 0) (text : List ℕ) → NoPrefix P text → (m : ℕ) → 0 < m → m ≤ length text → (parts : List (List ℕ)) → AllByRecursion P parts → take m text ≡ joined parts → ⊥
no_longer_none P text none m some fits [] all e =
    let l : length (take m text) ≡ m = length-take-le m text fits in
    let z : length (take m text) ≡ 0 = ap length e in
    omega arith
no_longer_none P text none m some fits (y ∷ ys) all e =
    let l = front_length text y (joined ys) m fits e in
    none (length y) (omega (arith, l)) (subst P (front_of text y (joined ys) m fits e) all.0)

pub none_repeated : (P : List ℕ → Type 0) (text : List ℕ) → NoPrefix P text → Longest (Repeated P) text 0
none_repeated P text none = record {
  fits = omega arith;
  prefix = ([], tt, refl);
  longest = λ m some fits r. no_longer_none P text none m some fits r.0 r.1 r.2;
}

-- The next part and the longest repetition in the rest together are the longest repetition.
no_longer_more : (P : List ℕ → Type 0) (text : List ℕ) (n k : ℕ)
    → IsNext P text n
    → Longest (Repeated P) (drop n text) k
    → (m : ℕ)
    → n + k < m
    → m ≤ length text
    → (parts : List (List ℕ))
    → AllByRecursion P parts
    → take m text ≡ joined parts
    → ⊥
no_longer_more P text n k next rest m more fits [] all e =
    let l : length (take m text) ≡ m = length-take-le m text fits in
    let z : length (take m text) ≡ 0 = ap length e in
    omega arith
no_longer_more P text n k next rest m more fits (y ∷ ys) all e =
    let l = front_length text y (joined ys) m fits e in
    let behind = behind_front text y (joined ys) m fits e in
    by_case ys all.1 l behind (next.others (length y) (omega (arith, l)) (subst P (front_of text y (joined ys) m fits e) all.0))
  where
    by_case : (zs : List (List ℕ))
        → AllByRecursion P zs
        → length y + length (joined zs) ≡ m
        → joined zs ≡ take (m - length y) (drop (length y) text)
        → (length y ≡ n) ⊎ ((length y < n) × NoPrefix P (drop (length y) text))
        → ⊥
    by_case zs each l behind (inl same) =
        let d : length (drop n text) ≡ length text - n = length-drop n text in
        rest.longest (m - n) (omega (arith, next.fits)) (omega (arith, d)) (zs, each, sym (rw (← same) behind))
    by_case [] each l behind (inr shorter) = absurd (omega (arith, shorter.0))
    by_case (z ∷ zs) each l behind (inr shorter) =
        let d : length (drop (length y) text) ≡ length text - length y = length-drop (length y) text in
        let ll = length-append z (joined zs) in
        shorter.1 (length z) (omega arith) (subst P (front_of (drop (length y) text) z (joined zs) (m - length y) (omega arith) (sym behind)) each.0)

pub more_repeated : (P : List ℕ → Type 0) (text : List ℕ) (n k : ℕ) → IsNext P text n → Longest (Repeated P) (drop n text) k → Longest (Repeated P) text (n + k)
more_repeated P text n k next rest =
    let d : length (drop n text) ≡ length text - n = length-drop n text in
    record {
      fits = omega (arith, rest.fits, next.fits);
      prefix = (take n text ∷ rest.prefix.0, (next.part, rest.prefix.1), split ∙ ap (λ z. take n text ++ z) rest.prefix.2);
      longest = λ m more fits r. no_longer_more P text n k next rest m more fits r.0 r.1 r.2;
    }
  where
    split : take (n + k) text ≡ take n text ++ take k (drop n text)
    split = take-add n k text

-- The only prefix in P, and then the longest in Q, are the longest prefix in `Then P Q`.
pub then_longest : (P Q : List ℕ → Type 0) (text : List ℕ) (n k : ℕ) → IsOnly P text n → Longest Q (drop n text) k → Longest (Then P Q) text (n + k)
then_longest P Q text n k p q =
    let d : length (drop n text) ≡ length text - n = length-drop n text in
    record {
      fits = omega (arith, q.fits, p.fits);
      prefix = (take n text, take k (drop n text), take-add n k text, p.part, q.prefix);
      longest = λ m more fits r. longer m more fits r.0 r.1 r.2 r.3 r.4;
    }
  where
    longer : (m : ℕ) → n + k < m → m ≤ length text → (a b : List ℕ) → take m text ≡ a ++ b → P a → Q b → ⊥
    longer m more fits a b e pa qb =
        let l = front_length text a b m fits e in
        let same : length a ≡ n = p.only (length a) (omega (arith, l)) (subst P (front_of text a b m fits e) pa) in
        let d : length (drop n text) ≡ length text - n = length-drop n text in
        q.longest (m - n) (omega (arith, p.fits)) (omega (arith, d)) (subst Q (behind_front text a b m fits e ∙ ap (λ j. take (m - j) (drop j text)) same) qb)

-- ---- prefixes of a text that are in a language

-- If A implies that the test is true, and the test is false, A does not hold.
pub lacks : {A : Type 0} (b : Bool) → b ≡ false → (A → b ≡ true) → A → ⊥
lacks b e f a = false≢true (sym e ∙ f a)

pub next_from_only : (P : List ℕ → Type 0) (text : List ℕ) (n : ℕ) → IsOnly P text n → IsNext P text n
next_from_only P text n o = record { positive = o.positive; fits = o.fits; part = o.part; others = λ m fits p. inl (o.only m fits p) }

-- A prefix in `Then (Exactly w) Q` is w, and then a prefix in Q of the rest.
pub exactly_then : (Q : List ℕ → Type 0) (w text : List ℕ) (m : ℕ) → m ≤ length text → Then (Exactly w) Q (take m text) → (length w ≤ m) × BeginsWith text w × Q (take (m - length w) (drop (length w) text))
exactly_then Q w text m fits (a, b, e, is, q) =
    let e' : take m text ≡ w ++ b = e ∙ ap (λ z. z ++ b) is in
    let l : length w + length b ≡ m = front_length text w b m fits e' in
    (omega arith, sym (front_of text w b m fits e'), subst Q (behind_front text w b m fits e') q)

pub then_exactly : (Q : List ℕ → Type 0) (w text : List ℕ) (k : ℕ) → BeginsWith text w → Q (take k (drop (length w) text)) → Then (Exactly w) Q (take (length w + k) text)
then_exactly Q w text k begins q =
    (take (length w) text, take k (drop (length w) text), take-add (length w) k text, begins, q)

-- A prefix in `One test` is one character, which passes the test.
pub one_front : (test : ℕ → Bool) (text : List ℕ) (m : ℕ) → m ≤ length text → One test (take m text) → (m ≡ 1) × (c : ℕ) × BeginsWith text (c ∷ []) × IsTrue (test c)
one_front test text m fits (c, e, t) =
    let l : length (c ∷ []) + 0 ≡ m = front_length text (c ∷ []) [] m fits e in
    (omega arith, c, sym (front_of text (c ∷ []) [] m fits e), t)

-- A universal character name that begins a text has 6 characters (`\u`) or 10 (`\U`).
pub universal_fronts : (text : List ℕ) (m : ℕ)
    → m ≤ length text
    → IsUniversal (take m text)
    → (BeginsWith text (92 ∷ 117 ∷ []) × (m ≡ 6) × AllPass is_hex (take 4 (drop 2 text)))
    ⊎ (BeginsWith text (92 ∷ 85 ∷ []) × (m ≡ 10) × AllPass is_hex (take 8 (drop 2 text)))
universal_fronts text m fits (inl t) =
    let f = exactly_then (IsRun 4 is_hex) (92 ∷ 117 ∷ []) text m fits t in
    let d : length (drop 2 text) ≡ length text - 2 = length-drop 2 text in
    let l : length (take (m - 2) (drop 2 text)) ≡ m - 2 = length-take-le (m - 2) (drop 2 text) (omega arith) in
    let four : m - 2 ≡ 4 = sym l ∙ f.2.0 in
    inl (f.1, omega (arith, f.0), rw four at f.2.1)
universal_fronts text m fits (inr t) =
    let f = exactly_then (IsRun 8 is_hex) (92 ∷ 85 ∷ []) text m fits t in
    let d : length (drop 2 text) ≡ length text - 2 = length-drop 2 text in
    let l : length (take (m - 2) (drop 2 text)) ≡ m - 2 = length-take-le (m - 2) (drop 2 text) (omega arith) in
    let eight : m - 2 ≡ 8 = sym l ∙ f.2.0 in
    inr (f.1, omega (arith, f.0), rw eight at f.2.1)

pub no_universal : (text : List ℕ) → (¬ BeginsWith text (92 ∷ 117 ∷ [])) × (¬ BeginsWith text (92 ∷ 85 ∷ [])) → NoPrefix IsUniversal text
no_universal text none m fits u = cases (universal_fronts text m fits u)
  where
    cases : (BeginsWith text (92 ∷ 117 ∷ []) × (m ≡ 6) × AllPass is_hex (take 4 (drop 2 text))) ⊎ (BeginsWith text (92 ∷ 85 ∷ []) × (m ≡ 10) × AllPass is_hex (take 8 (drop 2 text))) → ⊥
    cases (inl a) = none.0 a.0
    cases (inr b) = none.1 b.0

pub only_zero : (P : List ℕ → Type 0) (text : List ℕ) → NoPrefix P text → OnlyPart P text 0
only_zero P text none = (λ _. none, λ l. absurd (omega arith))

-- If a text begins with two texts of equal length, they are equal.
pub one_beginning : (text a b : List ℕ) → length a ≡ length b → BeginsWith text a → BeginsWith text b → a ≡ b
one_beginning text a b same p q = sym p ∙ ap (λ n. take n text) same ∙ q

-- the text begins with `\u` or `\U`, and `digits` is the result of `universal_digits`
pub record Begun (text : List ℕ) (digits : ℕ) : Type 0 where
  pub short : digits ≡ 4 → BeginsWith text (92 ∷ 117 ∷ [])
  pub long : digits ≡ 8 → BeginsWith text (92 ∷ 85 ∷ [])
  pub values : (digits ≡ 4) ⊎ (digits ≡ 8)

universal_is : (text : List ℕ) (digits m : ℕ) → Begun text digits → m ≤ length text → IsUniversal (take m text) → (m ≡ digits + 2) × AllPass is_hex (take digits (drop 2 text))
universal_is text digits m b fits u = cases b.values (universal_fronts text m fits u)
  where
    cases : (digits ≡ 4) ⊎ (digits ≡ 8)
        → (BeginsWith text (92 ∷ 117 ∷ []) × (m ≡ 6) × AllPass is_hex (take 4 (drop 2 text)))
        ⊎ (BeginsWith text (92 ∷ 85 ∷ []) × (m ≡ 10) × AllPass is_hex (take 8 (drop 2 text)))
        → (m ≡ digits + 2) × AllPass is_hex (take digits (drop 2 text))
    cases (inl four) (inl a) = (omega (arith, a.1), rw four a.2)
    cases (inr eight) (inr a) = (omega (arith, a.1), rw eight a.2)
    cases (inl four) (inr a) =
        let e : ◌≡◌ {A = List ℕ} (92 ∷ 117 ∷ []) (92 ∷ 85 ∷ []) = one_beginning text (92 ∷ 117 ∷ []) (92 ∷ 85 ∷ []) refl (b.short four) a.0 in
        let f : ◌≡◌ {A = ℕ} 117 85 = cc in
        absurd (omega arith)
    cases (inr eight) (inl a) =
        let e : ◌≡◌ {A = List ℕ} (92 ∷ 117 ∷ []) (92 ∷ 85 ∷ []) = one_beginning text (92 ∷ 117 ∷ []) (92 ∷ 85 ∷ []) refl a.0 (b.long eight) in
        let f : ◌≡◌ {A = ℕ} 117 85 = cc in
        absurd (omega arith)

pub universal_unless : (text : List ℕ) (digits : ℕ) → Begun text digits → ((digits ≤ length (drop 2 text)) × AllPass is_hex (take digits (drop 2 text)) → ⊥) → OnlyPart IsUniversal text 0
universal_unless text digits b lacks = only_zero IsUniversal text none
  where
    none : NoPrefix IsUniversal text
    none m fits u =
        let k = universal_is text digits m b fits u in
        let d : length (drop 2 text) ≡ length text - 2 = length-drop 2 text in
        lacks (omega (arith, k.0), k.1)

is_universal : (text : List ℕ) (digits : ℕ) → Begun text digits → (digits ≤ length (drop 2 text)) × AllPass is_hex (take digits (drop 2 text)) → IsUniversal (take (digits + 2) text)
is_universal text digits b here = cases b.values
  where
    cases : (digits ≡ 4) ⊎ (digits ≡ 8) → IsUniversal (take (digits + 2) text)
    cases (inl four) = inl (rw four (then_exactly (IsRun 4 is_hex) (92 ∷ 117 ∷ []) text 4 (b.short four) (length-take-le 4 (drop 2 text) (omega (arith, here.0)), rw four at here.1)))
    cases (inr eight) = inr (rw eight (then_exactly (IsRun 8 is_hex) (92 ∷ 85 ∷ []) text 8 (b.long eight) (length-take-le 8 (drop 2 text) (omega (arith, here.0)), rw eight at here.1)))

pub universal_of : (text : List ℕ) (digits : ℕ) → Begun text digits → (digits ≤ length (drop 2 text)) × AllPass is_hex (take digits (drop 2 text)) → 2 ≤ length text → OnlyPart IsUniversal text (digits + 2)
universal_of text digits b here in_bounds =
    let d : length (drop 2 text) ≡ length text - 2 = length-drop 2 text in (
      λ z. absurd (omega arith),
      λ _. record {
        positive = omega arith;
        fits = omega (arith, here.0);
        part = is_universal text digits b here;
        only = λ m fits u. (universal_is text digits m b fits u).0;
      },
    )

begins_head : (text : List ℕ) (c : ℕ) (w : List ℕ) → BeginsWith text (c ∷ w) → get_or text 0 0 ≡ c
begins_head [] c w e = cc
begins_head (x ∷ text) c w e = cc

begins_length : (text : List ℕ) (c : ℕ) (w : List ℕ) → BeginsWith text (c ∷ w) → 0 < length text
begins_length [] c w e = cc
begins_length (x ∷ text) c w e = omega arith

head_begins : (text : List ℕ) → 0 < length text → BeginsWith text (get_or text 0 0 ∷ [])
head_begins [] l = absurd (omega arith)
head_begins (x ∷ []) l = refl
head_begins (x ∷ y ∷ text) l = refl

pub one_here : (test : ℕ → Bool) (text : List ℕ) → 0 < length text → test (get_or text 0 0) ≡ true → IsOnly (One test) text 1
one_here test text l t = record {
  positive = omega arith;
  fits = omega arith;
  part = (get_or text 0 0, head_begins text l, t);
  only = λ m fits p. (one_front test text m fits p).0;
}

pub one_lacks : (test : ℕ → Bool) (text : List ℕ) → test (get_or text 0 0) ≡ false → NoPrefix (One test) text
one_lacks test text f m fits p =
    let o = one_front test text m fits p in
    let e : get_or text 0 0 ≡ o.1 = begins_head text o.1 [] o.2 in
    false≢true (sym f ∙ ap test e ∙ o.3)

pub one_empty : (test : ℕ → Bool) (text : List ℕ) → length text ≡ 0 → NoPrefix (One test) text
one_empty test text l m fits p =
    let o = one_front test text m fits p in
    let k = begins_length text o.1 [] o.2 in
    omega arith

-- No universal character name begins a text that does not begin with a backslash.
pub universal_lacks : (text : List ℕ) → (get_or text 0 0 ≡ 92 → ⊥) → NoPrefix IsUniversal text
universal_lacks text h = no_universal text (λ b. h (begins_head text 92 (117 ∷ []) b), λ b. h (begins_head text 92 (85 ∷ []) b))

pub either_lacks : (P Q : List ℕ → Type 0) (text : List ℕ) → NoPrefix P text → NoPrefix Q text → NoPrefix (Either P Q) text
either_lacks P Q text p q m fits (inl a) = p m fits a
either_lacks P Q text p q m fits (inr b) = q m fits b

pub either_left : (P Q : List ℕ → Type 0) (text : List ℕ) (n : ℕ) → IsOnly P text n → NoPrefix Q text → IsOnly (Either P Q) text n
either_left P Q text n p q = record { positive = p.positive; fits = p.fits; part = inl p.part; only = λ m fits e. cases m fits e }
  where
    cases : (m : ℕ) → m ≤ length text → Either P Q (take m text) → m ≡ n
    cases m fits (inl a) = p.only m fits a
    cases m fits (inr b) = absurd (q m fits b)

pub either_right : (P Q : List ℕ → Type 0) (text : List ℕ) (n : ℕ) → NoPrefix P text → OnlyPart Q text n → OnlyPart (Either P Q) text n
either_right P Q text n p q = (λ z. either_lacks P Q text p (q.0 z), λ s. record { positive = s; fits = (q.1 s).fits; part = inr (q.1 s).part; only = λ m fits e. cases s m fits e })
  where
    cases : 0 < n → (m : ℕ) → m ≤ length text → Either P Q (take m text) → m ≡ n
    cases s m fits (inl a) = absurd (p m fits a)
    cases s m fits (inr b) = (q.1 s).only m fits b

pub either_left_part : (P Q : List ℕ → Type 0) (text : List ℕ) (n : ℕ) → OnlyPart P text n → NoPrefix Q text → OnlyPart (Either P Q) text n
either_left_part P Q text n p q = (λ z. either_lacks P Q text (p.0 z) q, λ s. either_left P Q text n (p.1 s) q)

pub only_some : (P : List ℕ → Type 0) (text : List ℕ) (n : ℕ) → IsOnly P text n → OnlyPart P text n
only_some P text n p = (λ z. absurd (omega (arith, p.positive)), λ _. p)

-- The three cases of a nondigit: a character, a universal character name, or the end of the text.
pub nondigit_here : (text : List ℕ) → 0 < length text → is_nondigit (get_or text 0 0) ≡ true → OnlyPart IsNondigit text 1
nondigit_here text l t =
    only_some IsNondigit text 1 (either_left (One is_nondigit) IsUniversal text 1 (one_here is_nondigit text l t) (universal_lacks text (λ e. false≢true (ap is_nondigit (sym e) ∙ t))))

pub nondigit_later : (text : List ℕ) (n : ℕ) → is_nondigit (get_or text 0 0) ≡ false → OnlyPart IsUniversal text n → OnlyPart IsNondigit text n
nondigit_later text n f u = either_right (One is_nondigit) IsUniversal text n (one_lacks is_nondigit text f) u

pub nondigit_none : (text : List ℕ) → length text ≡ 0 → OnlyPart IsNondigit text 0
nondigit_none text l =
    only_zero IsNondigit text
    (either_lacks (One is_nondigit) IsUniversal text (one_empty is_nondigit text l)
    (no_universal text (λ b. let k = begins_length text 92 (117 ∷ []) b in omega arith, λ b. let k = begins_length text 92 (85 ∷ []) b in omega arith)))

digit_no_nondigit : (x : ℕ) → is_digit x ≡ true → is_nondigit x ≡ false
digit_no_nondigit x t = grind (arith, nat_tests)

digit_no_backslash : (x : ℕ) → is_digit x ≡ true → x ≡ 92 → ⊥
digit_no_backslash x t e = false≢true (ap is_digit (sym e) ∙ t)

digit_lacks_nondigit : (text : List ℕ) → is_digit (get_or text 0 0) ≡ true → NoPrefix IsNondigit text
digit_lacks_nondigit text t =
    either_lacks (One is_nondigit) IsUniversal text (one_lacks is_nondigit text (digit_no_nondigit (get_or text 0 0) t)) (universal_lacks text (digit_no_backslash (get_or text 0 0) t))

-- The cases of a part of an identifier: a digit or a nondigit.
pub ident_part_here : (text : List ℕ) → 0 < length text → is_digit (get_or text 0 0) ≡ true → OnlyPart (Either IsNondigit (One is_digit)) text 1
ident_part_here text l t =
    either_right IsNondigit (One is_digit) text 1 (digit_lacks_nondigit text t) (only_some (One is_digit) text 1 (one_here is_digit text l t))

pub ident_part_later : (text : List ℕ) (n : ℕ) → is_digit (get_or text 0 0) ≡ false → OnlyPart IsNondigit text n → OnlyPart (Either IsNondigit (One is_digit)) text n
ident_part_later text n f p = either_left_part IsNondigit (One is_digit) text n p (one_lacks is_digit text f)

-- ---- prefixes of a text in composed languages

pub then_lacks : (P Q : List ℕ → Type 0) (text : List ℕ) → NoPrefix P text → NoPrefix (Then P Q) text
then_lacks P Q text none m fits (a, b, e, pa, qb) =
    let l = front_length text a b m fits e in
    none (length a) (omega (arith, l)) (subst P (front_of text a b m fits e) pa)

-- A prefix in `Then P Q` is the only prefix in P, and then a prefix in Q of the rest.
after_only : (P Q : List ℕ → Type 0) (text : List ℕ) (n : ℕ) → IsOnly P text n → (m : ℕ) → m ≤ length text → Then P Q (take m text) → (n ≤ m) × (m - n ≤ length (drop n text)) × Q (take (m - n) (drop n text))
after_only P Q text n p m fits (a, b, e, pa, qb) =
    let l = front_length text a b m fits e in
    let same : length a ≡ n = p.only (length a) (omega (arith, l)) (subst P (front_of text a b m fits e) pa) in
    let d : length (drop n text) ≡ length text - n = length-drop n text in
    (omega arith, omega (arith, d), subst Q (behind_front text a b m fits e ∙ ap (λ j. take (m - j) (drop j text)) same) qb)

pub then_only : (P Q : List ℕ → Type 0) (text : List ℕ) (n k : ℕ) → IsOnly P text n → IsOnly Q (drop n text) k → IsOnly (Then P Q) text (n + k)
then_only P Q text n k p q =
    let d : length (drop n text) ≡ length text - n = length-drop n text in
    record {
      positive = omega (arith, p.positive);
      fits = omega (arith, q.fits, p.fits);
      part = (take n text, take k (drop n text), take-add n k text, p.part, q.part);
      only = λ m fits t. same m (after_only P Q text n p m fits t);
    }
  where
    same : (m : ℕ) → (n ≤ m) × (m - n ≤ length (drop n text)) × Q (take (m - n) (drop n text)) → m ≡ n + k
    same m (le, fits, t) = let e : m - n ≡ k = q.only (m - n) fits t in omega arith

pub then_lacks_rest : (P Q : List ℕ → Type 0) (text : List ℕ) (n : ℕ) → IsOnly P text n → NoPrefix Q (drop n text) → NoPrefix (Then P Q) text
then_lacks_rest P Q text n p none m fits t = let h = after_only P Q text n p m fits t in none (m - n) h.1 h.2

pub next_some : (P : List ℕ → Type 0) (text : List ℕ) (n : ℕ) → IsNext P text n → NextPart P text n
next_some P text n p = (λ z. absurd (omega (arith, p.positive)), λ _. p)

-- Results for a language carry over to another one with the same texts.
pub lacks_along : (P Q : List ℕ → Type 0) (text : List ℕ) → ((s : List ℕ) → Q s → P s) → NoPrefix P text → NoPrefix Q text
lacks_along P Q text back none m fits q = none m fits (back (take m text) q)

pub only_along : (P Q : List ℕ → Type 0) (text : List ℕ) (n : ℕ) → ((s : List ℕ) → P s → Q s) → ((s : List ℕ) → Q s → P s) → IsOnly P text n → IsOnly Q text n
only_along P Q text n forth back p =
    record { positive = p.positive; fits = p.fits; part = forth (take n text) p.part; only = λ m fits q. p.only m fits (back (take m text) q) }

pub then_left : (P Q R : List ℕ → Type 0) (s : List ℕ) → Then P (Then Q R) s → Then (Then P Q) R s
then_left P Q R s (a, b, e, pa, (c, d, f, qc, rd)) = (a ++ c, d, e ∙ ap (λ z. a ++ z) f ∙ sym (append_assoc a c d), (a, c, refl, pa, qc), rd)

pub then_right : (P Q R : List ℕ → Type 0) (s : List ℕ) → Then (Then P Q) R s → Then P (Then Q R) s
then_right P Q R s (a, b, e, (c, d, f, pc, qd), rb) = (c, d ++ b, e ∙ ap (λ z. z ++ b) f ∙ append_assoc c d b, pc, (d, b, refl, qd, rb))

-- `BeginsWith` one, two or three bytes, in terms of the bytes.
pub begins_one : (text : List ℕ) (c : ℕ) (w : List ℕ) → BeginsWith text (c ∷ w) → (0 < length text) × (get_or text 0 0 ≡ c)
begins_one [] c w e = absurd (cc)
begins_one (x ∷ text) c w e = (omega arith, cc)

pub begins_two : (text : List ℕ) (c d : ℕ) (w : List ℕ) → BeginsWith text (c ∷ d ∷ w) → (2 ≤ length text) × (get_or text 0 0 ≡ c) × (get_or text 1 0 ≡ d)
begins_two [] c d w e = absurd (cc)
begins_two (x ∷ []) c d w e = absurd (cc)
begins_two (x ∷ y ∷ text) c d w e = (omega arith, cc, cc)

pub begins_three : (text : List ℕ) (c d f : ℕ) (w : List ℕ) → BeginsWith text (c ∷ d ∷ f ∷ w) → (3 ≤ length text) × (get_or text 0 0 ≡ c) × (get_or text 1 0 ≡ d) × (get_or text 2 0 ≡ f)
begins_three [] c d f w e = absurd (cc)
begins_three (x ∷ []) c d f w e = absurd (cc)
begins_three (x ∷ y ∷ []) c d f w e = absurd (cc)
begins_three (x ∷ y ∷ z ∷ text) c d f w e = (omega arith, cc, cc, cc)

pub one_begins : (text : List ℕ) (c : ℕ) → 0 < length text → get_or text 0 0 ≡ c → BeginsWith text (c ∷ [])
one_begins [] c l e = absurd (omega arith)
one_begins (x ∷ text) c l e = cc

pub three_begins : (text : List ℕ) (c d f : ℕ) → 3 ≤ length text → get_or text 0 0 ≡ c → get_or text 1 0 ≡ d → get_or text 2 0 ≡ f → BeginsWith text (c ∷ d ∷ f ∷ [])
three_begins [] c d f l e g h = absurd (omega arith)
three_begins (x ∷ []) c d f l e g h = absurd (omega arith)
three_begins (x ∷ y ∷ []) c d f l e g h = absurd (omega arith)
three_begins (x ∷ y ∷ z ∷ text) c d f l e g h = cc

pub head_behind : (text : List ℕ) → get_or (drop 1 text) 0 0 ≡ get_or text 1 0
head_behind [] = refl
head_behind (x ∷ text) = refl

-- A prefix of two characters, in terms of its bytes.
pub two_front : (f g : ℕ → Bool) (text : List ℕ) (m : ℕ) → m ≤ length text → Then (One f) (One g) (take m text) → (m ≡ 2) × (2 ≤ length text) × (f (get_or text 0 0) ≡ true) × (g (get_or text 1 0) ≡ true)
two_front f g text m fits (a, b, e, (c, ac, fc), (d, bd, gd)) =
    let e' : take m text ≡ (c ∷ d ∷ []) ++ [] = cc in
    let l : length (c ∷ d ∷ []) + 0 ≡ m = front_length text (c ∷ d ∷ []) [] m fits e' in
    let h = begins_two text c d [] (sym (front_of text (c ∷ d ∷ []) [] m fits e')) in
    (omega arith, h.0, ap f h.1 ∙ fc, ap g h.2 ∙ gd)

pub two_here : (f g : ℕ → Bool) (text : List ℕ) → 2 ≤ length text → f (get_or text 0 0) ≡ true → g (get_or text 1 0) ≡ true → IsOnly (Then (One f) (One g)) text 2
two_here f g text l p q =
    let d : length (drop 1 text) ≡ length text - 1 = length-drop 1 text in
    then_only (One f) (One g) text 1 1 (one_here f text (omega arith) p) (one_here g (drop 1 text) (omega arith) (ap g (head_behind text) ∙ q))

-- If a text begins with w, its only prefix in `Exactly w` is w.
pub exactly_here : (w text : List ℕ) → 0 < length w → BeginsWith text w → length w ≤ length text → IsOnly (Exactly w) text (length w)
exactly_here w text some begins fits = record {
  positive = some;
  fits = fits;
  part = begins;
  only = λ m le e. let l = front_length text w [] m le (e ∙ sym (append-nil w)) in omega arith;
}

-- The longest prefix in `Then P Q` is the part in P, and then the longest prefix in Q.
pub first_longest : (P Q : List ℕ → Type 0) (text : List ℕ) (n k : ℕ) → OnlyPart P text n → (n ≡ 0 → ⊥) → Longest Q (drop n text) k → LongestOrNone (Then P Q) text (n + k)
first_longest P Q text n k p some q =
    let s : 0 < n = grind arith in
    (λ z. absurd (omega arith), λ _. then_longest P Q text n k (p.1 s) q)

pub first_lacks : (P Q : List ℕ → Type 0) (text : List ℕ) → NoPrefix P text → LongestOrNone (Then P Q) text 0
first_lacks P Q text none = (λ _. then_lacks P Q text none, λ s. absurd (omega arith))

-- One more part preserves the loop invariant: the longest prefix from `at` on completes the longest.
pub completed : (P : List ℕ → Type 0) (text : List ℕ) (at n : ℕ) → at ≤ length text → ((k : ℕ) → Longest (Repeated P) (drop at text) k → Longest (Repeated P) text (at + k)) → IsNext P (drop at text) n
    → (at + n ≤ length text) × ((k : ℕ) → Longest (Repeated P) (drop (at + n) text) k → Longest (Repeated P) text ((at + n) + k))
completed P text at n within h p =
    let d = length-drop at text in (
      omega (arith, p.fits, d),
      λ k rest.
          let e : (at + n) + k ≡ at + (n + k) = omega arith in
          rw e (h (n + k) (more_repeated P (drop at text) n k p (rw drop-drop rest))),
    )

-- As `completed`, from the result of a call that returns the length of the next part.
pub completed_next : (P : List ℕ → Type 0) (text : List ℕ) (at n : ℕ)
    → at ≤ length text
    → ((k : ℕ) → Longest (Repeated P) (drop at text) k → Longest (Repeated P) text (at + k))
    → NextPart P (drop at text) n
    → (n ≡ 0 → ⊥)
    → (at + n ≤ length text) × ((k : ℕ) → Longest (Repeated P) (drop (at + n) text) k → Longest (Repeated P) text ((at + n) + k))
completed_next P text at n within h p some = let s : 0 < n = grind arith in completed P text at n within h (p.1 s)

-- If no part begins at `at`, the longest prefix ends there.
pub completed_all : (P : List ℕ → Type 0) (text : List ℕ) (at : ℕ) → ((k : ℕ) → Longest (Repeated P) (drop at text) k → Longest (Repeated P) text (at + k)) → NoPrefix P (drop at text) → Longest (Repeated P) text at
completed_all P text at h none = let e : at + 0 ≡ at = omega arith in rw e at (h 0 (none_repeated P (drop at text) none))

pub lacks_nothing : (P : List ℕ → Type 0) (text : List ℕ) → (P [] → ⊥) → length text ≡ 0 → NoPrefix P text
lacks_nothing P [] none l zero fits p = none p
lacks_nothing P [] none l (suc m) fits p = absurd (omega arith)
lacks_nothing P (x ∷ text) none l m fits p = absurd (omega arith)

-- The text from a position on: its first byte, and whether it is empty.
pub head_at : (text : List ℕ) (at : ℕ) → get_or (drop at text) 0 0 ≡ get_or text at 0
head_at text at = let e : at + 0 ≡ at = omega arith in get_or-drop at text 0 0 ∙ ap (λ i. get_or text i 0) e

pub room_at : (text : List ℕ) (at : ℕ) → at < length text → 0 < length (drop at text)
room_at text at l = let d : length (drop at text) ≡ length text - at = length-drop at text in omega arith

pub end_at : (text : List ℕ) (at : ℕ) → length text ≤ at → length (drop at text) ≡ 0
end_at text at l = let d : length (drop at text) ≡ length text - at = length-drop at text in omega arith

-- If no part in P begins the text, no part in `Then P Q` does.
pub then_none_first : (P Q : List ℕ → Type 0) (text : List ℕ) (n : ℕ) → OnlyPart P text n → n ≡ 0 → OnlyPart (Then P Q) text 0
then_none_first P Q text n p z = only_zero (Then P Q) text (then_lacks P Q text (p.0 z))

pub part_along : (P Q : List ℕ → Type 0) (text : List ℕ) (n : ℕ) → ((s : List ℕ) → P s → Q s) → ((s : List ℕ) → Q s → P s) → OnlyPart P text n → OnlyPart Q text n
part_along P Q text n forth back p = (λ z. lacks_along P Q text back (p.0 z), λ s. only_along P Q text n forth back (p.1 s))

pub exactly_lacks : (c : ℕ) (w text : List ℕ) → (get_or text 0 0 ≡ c → ⊥) → NoPrefix (Exactly (c ∷ w)) text
exactly_lacks c w text h m fits e =
    h (begins_one text c w (sym (front_of text (c ∷ w) [] m fits (e ∙ sym (append-nil (c ∷ w)))))).1

-- The only part in `Then P Q`: a first part of known length, and then the result of a search after it.
pub then_found : (P Q : List ℕ → Type 0) (text : List ℕ) (n k : ℕ)
    → OnlyPart P text n
    → (n ≡ 0 → ⊥)
    → (k ≡ 0 → NoPrefix Q (drop n text))
    → (0 < k → (n < k) × IsOnly Q (drop n text) (k - n))
    → OnlyPart (Then P Q) text k
then_found P Q text n k p some none found = (λ z. then_lacks_rest P Q text n first (none z), λ s. whole (found s))
  where
    first : IsOnly P text n
    first = p.1 (grind arith)

    whole : (n < k) × IsOnly Q (drop n text) (k - n) → IsOnly (Then P Q) text k
    whole (lt, q) = let e : n + (k - n) ≡ k = omega arith in subst (λ i. IsOnly (Then P Q) text i) e (then_only P Q text n (k - n) first q)
