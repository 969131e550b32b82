-- Character constants and string literals: their opening, their elements, their end, and unmatched quotes.
use Rattle.std.proofs.Common.{◌≡◌, ℕ, ◌+◌, ◌-◌, ◌<◌, ◌≤◌, Bool, true, false, not, ◌||◌, ◌==◌, List, [], ◌∷◌, ◌++◌, length, take, drop, refl, sym, ap, ◌∙◌, subst, inl, inr, ◌⊎◌, arith, length-drop, append_assoc, get_or, zero, suc, Contains}
use Rattle.std.specs.List.{flat_map}
use Rattle.std.proofs.lemmas.List.{drop-drop, append-nil, get_or-drop}
use Rattle.std.proofs.Math.Seq.{take-add}
use Rattle.std.proofs.lemmas.Bool.Decides.{nat_tests}
use Rattle.std.proofs.lemmas.Bool.{false≢true, cases_lt}
use Rattle.pptext.specs.Languages.{Exactly, One, Then, Repeated}
use Rattle.pptext.specs.code.Scanning.{NoPrefix, IsOnly, OnlyPart, IsQuoted, AreUnmatched, KnowsUnmatched}
use Rattle.pptext.specs.Spellings.{IsBetween, IsHeader, IsElement, IsCharConst, IsStr, char_prefixes, str_prefixes}
use Rattle.pptext.proofs.LanguagePrefixes.{front_of, front_length, behind_front, one_here, one_lacks, one_empty, only_zero, exactly_then, either_left, either_right, only_some, begins_one}
use Rattle.pptext.proofs.LanguagePrefixes.{one_begins, then_only, then_lacks, then_lacks_rest, exactly_here, exactly_lacks, head_behind, either_lacks, begins_two, begins_three, three_begins}
use Rattle.pptext.proofs.LanguagePrefixes.{part_along, then_left, then_right, one_front}

-- ---- repeated parts up to a closing character, which begins no part

-- any number of these parts, and then this character
abbrev pub Closed : (List ℕ → Type 0) → ℕ → List ℕ → Type 0
Closed P q = Then (Repeated P) (Exactly (q ∷ []))

-- an inner character: neither the closing one nor a new-line
abbrev pub Inner : ℕ → List ℕ → Type 0
Inner q = One (λ c. not (c == q || c == 10))

-- A closed prefix is the closing character alone, or begins with a part.
pub closed_front : (P : List ℕ → Type 0) (q : ℕ) (text : List ℕ) (m : ℕ)
    → m ≤ length text
    → Closed P q (take m text)
    → ((m ≡ 1) × (0 < length text) × (get_or text 0 0 ≡ q)) ⊎ ((j : ℕ) × (j ≤ m) × P (take j text) × Closed P q (take (m - j) (drop j text)))
closed_front P q text m fits (a, b, e, ([], all, ea), eb) =
    let e' : take m text ≡ (q ∷ []) ++ [] = cc in
    let l : length (q ∷ []) + 0 ≡ m = front_length text (q ∷ []) [] m fits e' in
    let h = begins_one text q [] (sym (front_of text (q ∷ []) [] m fits e')) in
    inl (omega arith, h.0, h.1)
closed_front P q text m fits (a, b, e, (y ∷ ys, all, ea), eb) =
    let rest : List ℕ = flat_map (λ p. p) ys ++ b in
    let e' : take m text ≡ y ++ rest = e ∙ ap (λ z. z ++ b) ea ∙ append_assoc y (flat_map (λ p. p) ys) b in
    let l : length y + length rest ≡ m = front_length text y rest m fits e' in
    inr (length y, omega arith, subst P (front_of text y rest m fits e') all.0, (flat_map (λ p. p) ys, b, sym (behind_front text y rest m fits e'), (ys, all.1, refl), eb))

pub closes_here : (P : List ℕ → Type 0) (q : ℕ) (text : List ℕ) → 0 < length text → get_or text 0 0 ≡ q → NoPrefix P text → IsOnly (Closed P q) text 1
closes_here P q text l h none = record {
  positive = omega arith;
  fits = omega arith;
  part = ([], q ∷ [], one_begins text q l h, ([], tt, refl), refl);
  only = λ m fits t. cases m fits (closed_front P q text m fits t);
}
  where
    cases : (m : ℕ) → m ≤ length text → ((m ≡ 1) × (0 < length text) × (get_or text 0 0 ≡ q)) ⊎ ((j : ℕ) × (j ≤ m) × P (take j text) × Closed P q (take (m - j) (drop j text))) → m ≡ 1
    cases m fits (inl a) = a.0
    cases m fits (inr (j, le, p, t)) = absurd (none j (omega arith) p)

pub closes_nowhere : (P : List ℕ → Type 0) (q : ℕ) (text : List ℕ) → ((0 < length text) × (get_or text 0 0 ≡ q) → ⊥) → NoPrefix P text → NoPrefix (Closed P q) text
closes_nowhere P q text h none m fits t = cases (closed_front P q text m fits t)
  where
    cases : ((m ≡ 1) × (0 < length text) × (get_or text 0 0 ≡ q)) ⊎ ((j : ℕ) × (j ≤ m) × P (take j text) × Closed P q (take (m - j) (drop j text))) → ⊥
    cases (inl a) = h (a.1, a.2)
    cases (inr (j, le, p, u)) = none j (omega arith) p

-- If the text does not begin with the closing character, each closed prefix begins with the only part.
closed_behind : (P : List ℕ → Type 0) (q : ℕ) (text : List ℕ) (n : ℕ)
    → (get_or text 0 0 ≡ q → ⊥)
    → IsOnly P text n
    → (m : ℕ)
    → m ≤ length text
    → Closed P q (take m text)
    → (n ≤ m) × (m - n ≤ length (drop n text)) × Closed P q (take (m - n) (drop n text))
closed_behind P q text n h p m fits t = cases (closed_front P q text m fits t)
  where
    cases : ((m ≡ 1) × (0 < length text) × (get_or text 0 0 ≡ q)) ⊎ ((j : ℕ) × (j ≤ m) × P (take j text) × Closed P q (take (m - j) (drop j text)))
        → (n ≤ m) × (m - n ≤ length (drop n text)) × Closed P q (take (m - n) (drop n text))
    cases (inl a) = absurd (h a.2)
    cases (inr (j, le, r, u)) =
        let same : j ≡ n = p.only j (omega arith) r in
        let d : length (drop n text) ≡ length text - n = length-drop n text in
        (omega arith, omega (arith, d), subst (λ i. Closed P q (take (m - i) (drop i text))) same u)

pub closes_later : (P : List ℕ → Type 0) (q : ℕ) (text : List ℕ) (n k : ℕ) → (get_or text 0 0 ≡ q → ⊥) → IsOnly P text n → IsOnly (Closed P q) (drop n text) k → IsOnly (Closed P q) text (n + k)
closes_later P q text n k h p c =
    let d : length (drop n text) ≡ length text - n = length-drop n text in
    record {
      positive = omega (arith, p.positive);
      fits = omega (arith, c.fits, p.fits);
      part = more c.part;
      only = λ m fits t. same m (closed_behind P q text n h p m fits t);
    }
  where
    more : Closed P q (take k (drop n text)) → Closed P q (take (n + k) text)
    more (a, b, e, (parts, all, ea), eb) =
        (take n text ++ a, b, take-add n k text ∙ ap (λ z. take n text ++ z) e ∙ sym (append_assoc (take n text) a b), (take n text ∷ parts, (p.part, all), ap (λ z. take n text ++ z) ea), eb)

    same : (m : ℕ) → (n ≤ m) × (m - n ≤ length (drop n text)) × Closed P q (take (m - n) (drop n text)) → m ≡ n + k
    same m (le, fits, t) = let e : m - n ≡ k = c.only (m - n) fits t in omega arith

pub lacks_later : (P : List ℕ → Type 0) (q : ℕ) (text : List ℕ) (n : ℕ) → (get_or text 0 0 ≡ q → ⊥) → IsOnly P text n → NoPrefix (Closed P q) (drop n text) → NoPrefix (Closed P q) text
lacks_later P q text n h p none m fits t = let c = closed_behind P q text n h p m fits t in none (m - n) c.1 c.2

-- One more part preserves the invariant of a loop over the parts.
pub one_more : (P : List ℕ → Type 0) (q : ℕ) (text : List ℕ) (at n : ℕ)
    → at ≤ length text
    → (get_or (drop at text) 0 0 ≡ q → ⊥)
    → IsOnly P (drop at text) n
    → ((k : ℕ) → IsOnly (Closed P q) (drop at text) k → IsOnly (Closed P q) text (at + k))
    → (NoPrefix (Closed P q) (drop at text) → NoPrefix (Closed P q) text)
    → (at + n ≤ length text) × ((k : ℕ) → IsOnly (Closed P q) (drop (at + n) text) k → IsOnly (Closed P q) text ((at + n) + k)) × (NoPrefix (Closed P q) (drop (at + n) text) → NoPrefix (Closed P q) text)
one_more P q text at n within h p closes lacks =
    let d = length-drop at text in (
      omega (arith, p.fits, d),
      λ k c.
          let e : (at + n) + k ≡ at + (n + k) = omega arith in
          rw e (closes (n + k) (closes_later P q (drop at text) n k h p (rw drop-drop c))),
      λ none. lacks (lacks_later P q (drop at text) n h p (rw drop-drop none)),
    )

abbrev inner : ℕ → ℕ → Bool
inner q c = not (c == q || c == 10)

inner-no_closing : (q c : ℕ) → c ≡ q → inner q c ≡ false
inner-no_closing q c e = grind (arith, nat_tests)

inner-no_newline : (q c : ℕ) → c ≡ 10 → inner q c ≡ false
inner-no_newline q c e = grind (arith, nat_tests)

inner-other : (q c : ℕ) → (c ≡ q → ⊥) → (c ≡ 10 → ⊥) → inner q c ≡ true
inner-other q c h g = grind (arith, nat_tests)

pub closing_lacks : (q : ℕ) (text : List ℕ) → get_or text 0 0 ≡ q → NoPrefix (Inner q) text
closing_lacks q text e = one_lacks (inner q) text (inner-no_closing q (get_or text 0 0) e)

pub newline_lacks : (q : ℕ) (text : List ℕ) → get_or text 0 0 ≡ 10 → NoPrefix (Inner q) text
newline_lacks q text e = one_lacks (inner q) text (inner-no_newline q (get_or text 0 0) e)

pub inner_here : (q : ℕ) (text : List ℕ) → 0 < length text → (get_or text 0 0 ≡ q → ⊥) → (get_or text 0 0 ≡ 10 → ⊥) → IsOnly (Inner q) text 1
inner_here q text l h g = one_here (inner q) text l (inner-other q (get_or text 0 0) h g)

pub inner_empty : (q : ℕ) (text : List ℕ) → length text ≡ 0 → NoPrefix (Inner q) text
inner_empty q text l = one_empty (inner q) text l

-- an opening character, an inner character, and then the rest up to the closing character
abbrev Between : ℕ → ℕ → List ℕ → Type 0
Between p q = Then (Exactly (p ∷ [])) (Then (Inner q) (Closed (Inner q) q))

opens_between : (p q : ℕ) (text : List ℕ)
    → 2 ≤ length text
    → get_or text 0 0 ≡ p
    → (get_or text 1 0 ≡ q → ⊥)
    → (get_or text 1 0 ≡ 10 → ⊥)
    → IsOnly (Exactly (p ∷ [])) text 1 × IsOnly (Inner q) (drop 1 text) 1
opens_between p q text l e h g =
    let d : length (drop 1 text) ≡ length text - 1 = length-drop 1 text in
    (exactly_here (p ∷ []) text (omega arith) (one_begins text p (omega arith) e) (omega arith), inner_here q (drop 1 text) (omega arith) (λ f. h (sym (head_behind text) ∙ f)) (λ f. g (sym (head_behind text) ∙ f)))

twice : (text : List ℕ) → drop 1 (drop 1 text) ≡ drop 2 text
twice [] = refl
twice (x ∷ []) = refl
twice (x ∷ y ∷ text) = refl

pub between_none : (p q : ℕ) (text : List ℕ) (k : ℕ)
    → 2 ≤ length text
    → get_or text 0 0 ≡ p
    → (get_or text 1 0 ≡ q → ⊥)
    → (get_or text 1 0 ≡ 10 → ⊥)
    → OnlyPart (Closed (Inner q) q) (drop 2 text) k
    → k ≡ 0
    → OnlyPart (Between p q) text 0
between_none p q text k l e h g c z =
    let o = opens_between p q text l e h g in
    let none : NoPrefix (Closed (Inner q) q) (drop 1 (drop 1 text)) = subst (λ t. NoPrefix (Closed (Inner q) q) t) (sym (twice text)) (c.0 z) in
    only_zero (Between p q) text (then_lacks_rest (Exactly (p ∷ [])) (Then (Inner q) (Closed (Inner q) q)) text 1 o.0 (then_lacks_rest (Inner q) (Closed (Inner q) q) (drop 1 text) 1 o.1 none))

pub between_some : (p q : ℕ) (text : List ℕ) (k : ℕ)
    → 2 ≤ length text
    → get_or text 0 0 ≡ p
    → (get_or text 1 0 ≡ q → ⊥)
    → (get_or text 1 0 ≡ 10 → ⊥)
    → OnlyPart (Closed (Inner q) q) (drop 2 text) k
    → (k ≡ 0 → ⊥)
    → OnlyPart (Between p q) text (k + 2)
between_some p q text k l e h g c z =
    let o = opens_between p q text l e h g in
    let s : 0 < k = grind arith in
    let rest : IsOnly (Closed (Inner q) q) (drop 1 (drop 1 text)) k = subst (λ t. IsOnly (Closed (Inner q) q) t k) (sym (twice text)) (c.1 s) in
    let n : 1 + (1 + k) ≡ k + 2 = omega arith in
    let whole : IsOnly (Between p q) text (1 + (1 + k)) = then_only (Exactly (p ∷ [])) (Then (Inner q) (Closed (Inner q) q)) text 1 (1 + k) o.0 (then_only (Inner q) (Closed (Inner q) q) (drop 1 text) 1 k o.1 rest) in
    only_some (Between p q) text (k + 2) (subst (λ i. IsOnly (Between p q) text i) n whole)

-- The two kinds of header name begin with different characters, so a prefix is at most one of them.
pub between_head : (p q : ℕ) (text : List ℕ) (n : ℕ) → IsOnly (Between p q) text n → get_or text 0 0 ≡ p
between_head p q text n o = (begins_one text p [] (exactly_then (Then (Inner q) (Closed (Inner q) q)) (p ∷ []) text n o.fits o.part).1).1

pub angled_header : (text : List ℕ) (n : ℕ) → OnlyPart (IsBetween 60 62) text n → 0 < n → OnlyPart IsHeader text n
angled_header text n p some =
    let e : get_or text 0 0 ≡ 60 = between_head 60 62 text n (p.1 some) in
    only_some IsHeader text n (either_left (IsBetween 60 62) (IsBetween 34 34) text n (p.1 some) (then_lacks (Exactly (34 ∷ [])) (Then (Inner 34) (Closed (Inner 34) 34)) text (exactly_lacks 34 [] text (λ f. omega arith))))

pub quoted_header : (text : List ℕ) (n k : ℕ) → OnlyPart (IsBetween 60 62) text n → (0 < n → ⊥) → OnlyPart (IsBetween 34 34) text k → OnlyPart IsHeader text k
quoted_header text n k p none q = let z : n ≡ 0 = grind arith in either_right (IsBetween 60 62) (IsBetween 34 34) text k (p.0 z) q

-- ---- character constants and string literals: their opening, their elements and their end

abbrev pub plain : ℕ → ℕ → Bool
plain quote c = not (c == quote || (c == 92 || c == 10))

abbrev pub escaped : ℕ → Bool
escaped c = not (c == 10)

abbrev pub Escape : List ℕ → Type 0
Escape = Then (Exactly (92 ∷ [])) (One escaped)

pub plain-no_quote : (quote c : ℕ) → c ≡ quote → plain quote c ≡ false
plain-no_quote quote c e = grind (arith, nat_tests)

pub quote_lacks : (quote : ℕ) (text : List ℕ) → (quote ≡ 92 → ⊥) → get_or text 0 0 ≡ quote → NoPrefix (IsElement quote) text
quote_lacks quote text h e =
    either_lacks (One (plain quote)) Escape text (one_lacks (plain quote) text (plain-no_quote quote (get_or text 0 0) e)) (then_lacks (Exactly (92 ∷ [])) (One escaped) text (exactly_lacks 92 [] text (λ f. h (sym e ∙ f))))

pub empty_lacks : (quote : ℕ) → IsElement quote [] → ⊥
empty_lacks quote (inl (c, e, t)) = cc
empty_lacks quote (inr (a, b, e, x, (c, f, t))) = cc

plain-no_backslash : (quote c : ℕ) → c ≡ 92 → plain quote c ≡ false
plain-no_backslash quote c e = grind (arith, nat_tests)

escaped-no_newline : (c : ℕ) → c ≡ 10 → escaped c ≡ false
escaped-no_newline c e = grind (arith, nat_tests)

escaped-other : (c : ℕ) → (c ≡ 10 → ⊥) → escaped c ≡ true
escaped-other c h = grind (arith, nat_tests)

backslash_here : (text : List ℕ) → 2 ≤ length text → get_or text 0 0 ≡ 92 → IsOnly (Exactly (92 ∷ [])) text 1
backslash_here text l e = exactly_here (92 ∷ []) text (omega arith) (one_begins text 92 (omega arith) e) (omega arith)

-- A `\` before a new-line begins no element.
pub escape_lacks : (quote : ℕ) (text : List ℕ) → 2 ≤ length text → get_or text 0 0 ≡ 92 → get_or text 1 0 ≡ 10 → OnlyPart (IsElement quote) text 0
escape_lacks quote text l e f =
    only_zero (IsElement quote) text
    (either_lacks (One (plain quote)) Escape text (one_lacks (plain quote) text (plain-no_backslash quote (get_or text 0 0) e))
    (then_lacks_rest (Exactly (92 ∷ [])) (One escaped) text 1 (backslash_here text l e)
    (one_lacks escaped (drop 1 text) (escaped-no_newline (get_or (drop 1 text) 0 0) (head_behind text ∙ f)))))

pub escape_here : (quote : ℕ) (text : List ℕ) → 2 ≤ length text → get_or text 0 0 ≡ 92 → (get_or text 1 0 ≡ 10 → ⊥) → OnlyPart (IsElement quote) text 2
escape_here quote text l e f =
    let d : length (drop 1 text) ≡ length text - 1 = length-drop 1 text in
    let second : IsOnly (One escaped) (drop 1 text) 1 = one_here escaped (drop 1 text) (omega arith) (escaped-other (get_or (drop 1 text) 0 0) (λ g. f (sym (head_behind text) ∙ g))) in
    either_right (One (plain quote)) Escape text 2 (one_lacks (plain quote) text (plain-no_backslash quote (get_or text 0 0) e))
    (only_some Escape text 2 (then_only (Exactly (92 ∷ [])) (One escaped) text 1 1 (backslash_here text l e) second))

abbrev pub IsLetter : ℕ → Type 0
IsLetter c = (c ≡ 117) ⊎ ((c ≡ 85) ⊎ (c ≡ 76))

abbrev pub CharOpening : List ℕ → Type 0
CharOpening = Then (Contains char_prefixes) (Exactly (39 ∷ []))

abbrev pub StrOpening : List ℕ → Type 0
StrOpening = Then (Contains str_prefixes) (Exactly (34 ∷ []))

-- the bytes that open a character constant
abbrev pub CharOpens : List ℕ → ℕ → Type 0
CharOpens text m = ((m ≡ 1) × (get_or text 0 0 ≡ 39)) ⊎ ((m ≡ 2) × IsLetter (get_or text 0 0) × (get_or text 1 0 ≡ 39))

abbrev pub StrOpens : List ℕ → ℕ → Type 0
StrOpens text m =
    ((m ≡ 1) × (get_or text 0 0 ≡ 34)) ⊎ (((m ≡ 2) × IsLetter (get_or text 0 0) × (get_or text 1 0 ≡ 34)) ⊎ ((m ≡ 3) × (get_or text 0 0 ≡ 117) × (get_or text 1 0 ≡ 56) × (get_or text 2 0 ≡ 34)))

-- If a prefix equals w, it has the length of w, and the text begins with w.
front_is : (w text : List ℕ) (m : ℕ) → m ≤ length text → take m text ≡ w → (length w ≡ m) × (take (length w) text ≡ w)
front_is w text m fits e =
    let e' : take m text ≡ w ++ [] = e ∙ sym (append-nil w) in
    let l : length w + 0 ≡ m = front_length text w [] m fits e' in
    (omega arith, sym (front_of text w [] m fits e'))

one_letter : (c q : ℕ) (text : List ℕ) (m : ℕ) → m ≤ length text → take m text ≡ c ∷ q ∷ [] → (m ≡ 2) × (get_or text 0 0 ≡ c) × (get_or text 1 0 ≡ q)
one_letter c q text m fits e =
    let f = front_is (c ∷ q ∷ []) text m fits e in
    let h = begins_two text c q [] f.1 in
    (sym f.0, h.1, h.2)

pub char_opens : (text : List ℕ) (m : ℕ) → m ≤ length text → CharOpening (take m text) → CharOpens text m
char_opens text m fits (a, b, e, (zero, l, p), q) =
    let f = front_is (39 ∷ []) text m fits cc in
    inl (sym f.0, (begins_one text 39 [] f.1).1)
char_opens text m fits (a, b, e, (suc zero, l, p), q) = let f = one_letter 117 39 text m fits cc in inr (f.0, inl f.1, f.2)
char_opens text m fits (a, b, e, (suc (suc zero), l, p), q) = let f = one_letter 85 39 text m fits cc in inr (f.0, inr (inl f.1), f.2)
char_opens text m fits (a, b, e, (suc (suc (suc zero)), l, p), q) = let f = one_letter 76 39 text m fits cc in inr (f.0, inr (inr f.1), f.2)
char_opens text m fits (a, b, e, (suc (suc (suc (suc k))), l, p), q) = absurd (omega arith)

pub str_opens : (text : List ℕ) (m : ℕ) → m ≤ length text → StrOpening (take m text) → StrOpens text m
str_opens text m fits (a, b, e, (zero, l, p), q) =
    let f = front_is (34 ∷ []) text m fits cc in
    inl (sym f.0, (begins_one text 34 [] f.1).1)
str_opens text m fits (a, b, e, (suc zero, l, p), q) =
    let f = front_is (117 ∷ 56 ∷ 34 ∷ []) text m fits cc in
    let h = begins_three text 117 56 34 [] f.1 in
    inr (inr (sym f.0, h.1, h.2, h.3))
str_opens text m fits (a, b, e, (suc (suc zero), l, p), q) = let f = one_letter 117 34 text m fits cc in inr (inl (f.0, inl f.1, f.2))
str_opens text m fits (a, b, e, (suc (suc (suc zero)), l, p), q) = let f = one_letter 85 34 text m fits cc in inr (inl (f.0, inr (inl f.1), f.2))
str_opens text m fits (a, b, e, (suc (suc (suc (suc zero))), l, p), q) = let f = one_letter 76 34 text m fits cc in inr (inl (f.0, inr (inr f.1), f.2))
str_opens text m fits (a, b, e, (suc (suc (suc (suc (suc k)))), l, p), q) = absurd (omega arith)

pub letter-no_quote : (c q : ℕ) → IsLetter c → c ≡ q → q < 76 → ⊥
letter-no_quote c q (inl e) f l = absurd (omega arith)
letter-no_quote c q (inr (inl e)) f l = absurd (omega arith)
letter-no_quote c q (inr (inr e)) f l = absurd (omega arith)

-- A prefix letter and the quote open a literal.
letter_opening : (prefixes : List (List ℕ)) (q : ℕ) (text : List ℕ)
    → ((c : ℕ) → IsLetter c → Contains prefixes (c ∷ []))
    → 2 ≤ length text
    → IsLetter (get_or text 0 0)
    → get_or text 1 0 ≡ q
    → Then (Contains prefixes) (Exactly (q ∷ [])) (take 2 text)
letter_opening prefixes q [] h l p e = absurd (omega arith)
letter_opening prefixes q (x ∷ []) h l p e = absurd (omega arith)
letter_opening prefixes q (x ∷ y ∷ text) h l p e = (x ∷ [], y ∷ [], refl, h x p, ap (λ z. z ∷ []) e)

char_letters : (c : ℕ) → IsLetter c → Contains char_prefixes (c ∷ [])
char_letters c (inl e) = (1, omega arith, ap (λ z. z ∷ []) (sym e))
char_letters c (inr (inl e)) = (2, omega arith, ap (λ z. z ∷ []) (sym e))
char_letters c (inr (inr e)) = (3, omega arith, ap (λ z. z ∷ []) (sym e))

str_letters : (c : ℕ) → IsLetter c → Contains str_prefixes (c ∷ [])
str_letters c (inl e) = (2, omega arith, ap (λ z. z ∷ []) (sym e))
str_letters c (inr (inl e)) = (3, omega arith, ap (λ z. z ∷ []) (sym e))
str_letters c (inr (inr e)) = (4, omega arith, ap (λ z. z ∷ []) (sym e))

pub char_letter_opens : (text : List ℕ) → 2 ≤ length text → IsLetter (get_or text 0 0) → get_or text 1 0 ≡ 39 → OnlyPart CharOpening text 2
char_letter_opens text l p e =
    only_some CharOpening text 2 (record {
      positive = omega arith;
      fits = l;
      part = letter_opening char_prefixes 39 text char_letters l p e;
      only = λ m fits o. same m (char_opens text m fits o);
    })
  where
    same : (m : ℕ) → CharOpens text m → m ≡ 2
    same m (inl a) = absurd (letter-no_quote (get_or text 0 0) 39 p a.1 (omega arith))
    same m (inr a) = a.0

pub str_letter_opens : (text : List ℕ) → 2 ≤ length text → IsLetter (get_or text 0 0) → get_or text 1 0 ≡ 34 → OnlyPart StrOpening text 2
str_letter_opens text l p e =
    only_some StrOpening text 2 (record {
      positive = omega arith;
      fits = l;
      part = letter_opening str_prefixes 34 text str_letters l p e;
      only = λ m fits o. same m (str_opens text m fits o);
    })
  where
    same : (m : ℕ) → StrOpens text m → m ≡ 2
    same m (inl a) = absurd (letter-no_quote (get_or text 0 0) 34 p a.1 (omega arith))
    same m (inr (inl a)) = a.0
    same m (inr (inr a)) = let f : ◌≡◌ {A = ℕ} 34 56 = sym e ∙ a.2 in absurd (omega arith)

pub u8_opens : (text : List ℕ) → 3 ≤ length text → get_or text 0 0 ≡ 117 → get_or text 1 0 ≡ 56 → get_or text 2 0 ≡ 34 → OnlyPart StrOpening text 3
u8_opens text l e f g =
    only_some StrOpening text 3 (record {
      positive = omega arith;
      fits = l;
      part = (117 ∷ 56 ∷ [], 34 ∷ [], three_begins text 117 56 34 l e f g, (1, omega arith, refl), refl);
      only = λ m fits o. same m (str_opens text m fits o);
    })
  where
    same : (m : ℕ) → StrOpens text m → m ≡ 3
    same m (inl a) = let x : ◌≡◌ {A = ℕ} 117 34 = sym e ∙ a.1 in absurd (omega arith)
    same m (inr (inl a)) = let x : ◌≡◌ {A = ℕ} 56 34 = sym f ∙ a.2 in absurd (omega arith)
    same m (inr (inr a)) = a.0

-- a literal: a prefix, the quote, and the rest
abbrev Opened : List (List ℕ) → ℕ → (List ℕ → Type 0) → List ℕ → Type 0
Opened prefixes q rest = Then (Contains prefixes) (Then (Exactly (q ∷ [])) rest)

opened_part : (prefixes : List (List ℕ)) (q : ℕ) (rest : List ℕ → Type 0) (text : List ℕ) (n : ℕ) → OnlyPart (Then (Then (Contains prefixes) (Exactly (q ∷ []))) rest) text n → OnlyPart (Opened prefixes q rest) text n
opened_part prefixes q rest text n p =
    part_along (Then (Then (Contains prefixes) (Exactly (q ∷ []))) rest) (Opened prefixes q rest) text n
    (λ s t. then_right (Contains prefixes) (Exactly (q ∷ [])) rest s t) (λ s t. then_left (Contains prefixes) (Exactly (q ∷ [])) rest s t) p

pub char_const_part : (text : List ℕ) (n : ℕ) → OnlyPart (Then CharOpening (Then (IsElement 39) (Then (Repeated (IsElement 39)) (Exactly (39 ∷ []))))) text n → OnlyPart IsCharConst text n
char_const_part text n p = opened_part char_prefixes 39 (Then (IsElement 39) (Then (Repeated (IsElement 39)) (Exactly (39 ∷ [])))) text n p

pub str_part : (text : List ℕ) (n : ℕ) → OnlyPart (Then StrOpening (Then (Repeated (IsElement 34)) (Exactly (34 ∷ [])))) text n → OnlyPart IsStr text n
str_part text n p = opened_part str_prefixes 34 (Then (Repeated (IsElement 34)) (Exactly (34 ∷ []))) text n p

-- ---- unmatched quotes: the search for one closing quote also shows that other quotes are unmatched

-- Initially, no quote is known to be unmatched.
pub knows_nothing : (text : List ℕ) (n : ℕ) → n ≡ length text → KnowsUnmatched text n n
knows_nothing text n e = record { single = λ r lt q. absurd (omega arith); double = λ r lt q. absurd (omega arith) }

-- Unmatched quotes of a text are also unmatched in its suffixes.
lone_behind : (quote : ℕ) (text : List ℕ) (n unknown_len : ℕ) → AreUnmatched quote text (length text - unknown_len) → AreUnmatched quote (drop n text) (length (drop n text) - unknown_len)
lone_behind quote text n unknown_len h r lt e =
    let d : length (drop n text) ≡ length text - n = length-drop n text in
    let same : (n + r) + 1 ≡ n + (r + 1) = omega arith in
    subst (λ t. NoPrefix (IsQuoted quote) t) (ap (λ i. drop i text) same ∙ sym (drop-drop (r + 1) n text)) (h (n + r) (omega (arith, d)) (sym (get_or-drop n text r 0) ∙ e))

pub knows_behind : (text : List ℕ) (n : ℕ) (single double : ℕ) → KnowsUnmatched text single double → KnowsUnmatched (drop n text) single double
knows_behind text n single double h = record { single = lone_behind 39 text n single h.single; double = lone_behind 34 text n double h.double }

pub knows_later : (text : List ℕ) (at n : ℕ) (single double : ℕ) → KnowsUnmatched (drop at text) single double → KnowsUnmatched (drop (at + n) text) single double
knows_later text at n single double h = subst (λ t. KnowsUnmatched t single double) (drop-drop n at text) (knows_behind (drop at text) n single double h)

-- A quote occurs only at the end of an element.
element_quote : (quote : ℕ) (text : List ℕ) (n : ℕ) → (quote ≡ 92 → ⊥) → IsOnly (IsElement quote) text n → (j : ℕ) → j < n → get_or text j 0 ≡ quote → j + 1 ≡ n
element_quote quote text n h p j lt e = cases p.part
  where
    at : (i : ℕ) → i < 2 → n ≡ 2 → get_or text 0 0 ≡ 92 → get_or text i 0 ≡ quote → i + 1 ≡ n
    at zero l two b q = absurd (h (sym q ∙ b))
    at (suc zero) l two b q = omega arith
    at (suc (suc i)) l two b q = absurd (omega arith)

    cases : IsElement quote (take n text) → j + 1 ≡ n
    cases (inl one) =
        let f = one_front (plain quote) text n p.fits one in
        let here = begins_one text f.1 [] f.2 in
        let zero_is : j ≡ 0 = omega (arith, f.0) in
        let same : f.1 ≡ quote = sym here.1 ∙ ap (λ i. get_or text i 0) (sym zero_is) ∙ e in
        absurd (false≢true (sym (plain-no_quote quote f.1 same) ∙ f.3))
    cases (inr both) =
        let f = exactly_then (One escaped) (92 ∷ []) text n p.fits both in
        let d : length (drop 1 text) ≡ length text - 1 = length-drop 1 text in
        let second = one_front escaped (drop 1 text) (n - 1) (omega (arith, p.fits, d)) f.2 in
        let two : n ≡ 2 = omega (arith, f.0, second.0) in
        at j (omega arith) two (begins_one text 92 [] f.1).1 e

-- each quote before `at` is unmatched if nothing closes from `at` on
abbrev pub Passed : ℕ → List ℕ → ℕ → Type 0
Passed quote text at = (r : ℕ) → r < at → get_or text r 0 ≡ quote → NoPrefix (IsQuoted quote) (drop at text) → NoPrefix (IsQuoted quote) (drop (r + 1) text)

pub passed_more : (quote : ℕ) (text : List ℕ) (at n : ℕ)
    → (quote ≡ 92 → ⊥)
    → (get_or (drop at text) 0 0 ≡ quote → ⊥)
    → IsOnly (IsElement quote) (drop at text) n
    → Passed quote text at
    → Passed quote text (at + n)
passed_more quote text at n h apart p consumed r lt e none = cases (cases_lt r at)
  where
    cases : (r < at) ⊎ (at ≤ r) → NoPrefix (IsQuoted quote) (drop (r + 1) text)
    cases (inl below) = consumed r below e (lacks_later (IsElement quote) quote (drop at text) n apart p (rw drop-drop none))
    cases (inr above) =
        let j : at + (r - at) ≡ r = omega arith in
        let here : get_or (drop at text) (r - at) 0 ≡ quote = get_or-drop at text (r - at) 0 ∙ ap (λ i. get_or text i 0) j ∙ e in
        let last = element_quote quote (drop at text) n h p (r - at) (omega arith) here in
        let same : at + n ≡ r + 1 = omega (arith, last) in
        subst (λ i. NoPrefix (IsQuoted quote) (drop i text)) same none

pub lone_opening : (quote : ℕ) (text : List ℕ) (opening n : ℕ) → 0 < opening → opening - 1 < n → get_or text (opening - 1) 0 ≡ quote → AreUnmatched quote text n → NoPrefix (IsQuoted quote) (drop opening text)
lone_opening quote text opening n some le e h =
    let same : (opening - 1) + 1 ≡ opening = omega arith in
    subst (λ i. NoPrefix (IsQuoted quote) (drop i text)) same (h (opening - 1) le e)

-- If a literal is not closed, the quotes of its opening and of the searched text are unmatched.
pub lone_literal : (quote : ℕ) (text : List ℕ) (opening n : ℕ)
    → ((r : ℕ) → r + 1 < opening → get_or text r 0 ≡ quote → ⊥)
    → NoPrefix (IsQuoted quote) (drop opening text)
    → AreUnmatched quote (drop opening text) n
    → AreUnmatched quote text (opening + n)
lone_literal quote text opening n first none unmatched r lt e = cases (cases_lt r opening)
  where
    cases : (r < opening) ⊎ (opening ≤ r) → NoPrefix (IsQuoted quote) (drop (r + 1) text)
    cases (inl below) = last (cases_lt (r + 1) opening)
      where
        last : (r + 1 < opening) ⊎ (opening ≤ r + 1) → NoPrefix (IsQuoted quote) (drop (r + 1) text)
        last (inl l) = absurd (first r l e)
        last (inr l) = let same : opening ≡ r + 1 = omega arith in subst (λ i. NoPrefix (IsQuoted quote) (drop i text)) same none
    cases (inr above) =
        let j : opening + (r - opening) ≡ r = omega arith in
        let here : get_or (drop opening text) (r - opening) 0 ≡ quote = get_or-drop opening text (r - opening) 0 ∙ ap (λ i. get_or text i 0) j ∙ e in
        let k : opening + ((r - opening) + 1) ≡ r + 1 = omega arith in
        subst (λ t. NoPrefix (IsQuoted quote) t) (drop-drop ((r - opening) + 1) opening text ∙ ap (λ i. drop i text) k) (unmatched (r - opening) (omega arith) here)

-- at least one element and the closing quote
abbrev pub CharRest : List ℕ → Type 0
CharRest = Then (IsElement 39) (IsQuoted 39)

char_rest-quoted : (s : List ℕ) → CharRest s → IsQuoted 39 s
char_rest-quoted s (a, b, e, ea, (c, d, f, (parts, all, g), h)) =
    (a ++ c, d, e ∙ ap (λ z. a ++ z) f ∙ sym (append_assoc a c d), (a ∷ parts, (ea, all), ap (λ z. a ++ z) g), h)

pub char_rest_lacks : (text : List ℕ) → NoPrefix (IsQuoted 39) text → NoPrefix CharRest text
char_rest_lacks text none m fits p = none m fits (char_rest-quoted (take m text) p)

pub char_rest_only : (text : List ℕ) (n : ℕ) → ((0 < length text) × (get_or text 0 0 ≡ 39) → ⊥) → IsOnly (IsQuoted 39) text n → IsOnly CharRest text n
char_rest_only text n h p = record {
  positive = p.positive;
  fits = p.fits;
  part = split (closed_front (IsElement 39) 39 text n p.fits p.part);
  only = λ m fits r. p.only m fits (char_rest-quoted (take m text) r);
}
  where
    split : ((n ≡ 1) × (0 < length text) × (get_or text 0 0 ≡ 39)) ⊎ ((j : ℕ) × (j ≤ n) × IsElement 39 (take j text) × IsQuoted 39 (take (n - j) (drop j text))) → CharRest (take n text)
    split (inl a) = absurd (h (a.1, a.2))
    split (inr (j, le, e, q)) =
        let same : j + (n - j) ≡ n = omega arith in
        (take j text, take (n - j) (drop j text), ap (λ i. take i text) (sym same) ∙ take-add j (n - j) text, e, q)

-- A closing quote directly after the opening makes no character constant.
pub char_rest_empty : (text : List ℕ) → get_or text 0 0 ≡ 39 → NoPrefix CharRest text
char_rest_empty text e = then_lacks (IsElement 39) (IsQuoted 39) text (quote_lacks 39 text (λ f. omega arith) e)
