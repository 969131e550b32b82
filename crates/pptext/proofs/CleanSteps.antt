-- One step of phases 1 and 2 in a single pass agrees with the three passes of the specification.
use Rattle.std.proofs.Common.{◌≡◌, ℕ, zero, suc, ◌+◌, ◌<◌, ◌≤◌, Bool, true, false, ◌==◌, ◌&&◌, if◌then◌else◌, List, [], ◌∷◌, ◌++◌, length, take}
use Rattle.std.proofs.Common.{drop, refl, sym, ap, ◌∙◌, subst, arith, Option, None, Some, length-append, length-drop}
use Rattle.std.proofs.lemmas.Bool.{false≢true, and_parts, eqb-true, ne_eqb}
use Rattle.std.proofs.Math.Bool.{and-false}
use Rattle.std.proofs.lemmas.Bool.Decides.{nat_tests}
use Rattle.std.proofs.lemmas.List.{drop-map, drop-drop, drop_all, length-map}
use Rattle.pptext.specs.declared.sources.Profile.{Profile}
use Rattle.pptext.specs.declared.sources.Profile.TheVariants.{C11, Later, Gnu}
use Rattle.pptext.specs.declared.tokens.Place.{Place}
use Rattle.pptext.specs.declared.characters.Char.{Char}
use Rattle.pptext.specs.Clean.{codes_of, head_code, is_return_at, without_returns, trigraph, trigraph_at, trigraphs_after, trigraphs, splices, splice_at_end}
use Rattle.pptext.specs.Profiles.{is_gnu}
use Rattle.pptext.specs.code.Steps.{CharStep, Code, Removed, lacks_newline, trigraph_of, leading_trigraph, leading_crlf, leading_newline, spliced, coded, step_of}
use Rattle.pptext.specs.code.CleanedText.{supply, unspliced}

-- The tests on bytes equal the tests on characters.
pub return_same : (cs : List Char) → leading_crlf (codes_of cs) ≡ is_return_at cs
return_same [] = refl
return_same (c ∷ []) = sym (and-false (c.code == 13))
return_same (c ∷ d ∷ cs) = refl

any_trigraph_same : (cs : List Char) → trigraph_of (codes_of cs) ≡ trigraph_at cs
any_trigraph_same [] = refl
any_trigraph_same (a ∷ []) = refl
any_trigraph_same (a ∷ b ∷ []) = refl
any_trigraph_same (a ∷ b ∷ c ∷ cs) = refl

-- the character of the trigraph that is replaced here, or 0
abbrev replaced_at : Profile → List Char → ℕ
replaced_at profile cs = if is_gnu profile then 0 else trigraph_at cs

pub trigraph_same : (profile : Profile) (cs : List Char) → leading_trigraph profile (codes_of cs) ≡ replaced_at profile cs
trigraph_same profile cs = ap (λ n. if is_gnu profile then 0 else n) (any_trigraph_same cs)

-- One step of `trigraphs`.
trigraphs_own : (profile : Profile) (c : Char) (cs : List Char) → replaced_at profile (c ∷ cs) ≡ 0 → trigraphs profile (c ∷ cs) ≡ c ∷ trigraphs profile cs
trigraphs_own C11 c cs none = let plain : trigraph_at (c ∷ cs) ≡ 0 = none in rw plain refl
trigraphs_own Later c cs none = let plain : trigraph_at (c ∷ cs) ≡ 0 = none in rw plain refl
trigraphs_own Gnu c cs none = refl

-- After the last byte there is only the new-line, if it is supplied.
pub after_all : (profile : Profile) (s : Bool) (e : Place) → unspliced profile s e [] ≡ supply s e
after_all C11 true e = refl
after_all C11 false e = refl
after_all Later true e = refl
after_all Later false e = refl
after_all Gnu s e = refl

-- the properties of a CR directly before an LF
record Return (a : Char) (cs : List Char) : Type 0 where
  cr : a.code ≡ 13
  lf : head_code cs ≡ 10
  in_bounds : 0 < length cs
  kept : is_return_at cs ≡ false

lf_kept : (c : Char) (cs : List Char) → c.code ≡ 10 → is_return_at (c ∷ cs) ≡ false
lf_kept c cs e = rw e refl

return_is : (a : Char) (cs : List Char) → is_return_at (a ∷ cs) ≡ true → Return a cs
return_is a [] h = absurd (false≢true (sym (and-false (a.code == 13)) ∙ h))
return_is a (b ∷ cs) h =
    let parts = and_parts (a.code == 13) (b.code == 10) h in
    record { cr = eqb-true a.code 13 parts.0; lf = eqb-true b.code 10 parts.1; in_bounds = omega arith; kept = lf_kept b cs (eqb-true b.code 10 parts.1) }

pub kept : (c : Char) (cs : List Char) → is_return_at (c ∷ cs) ≡ false → without_returns (c ∷ cs) ≡ c ∷ without_returns cs
kept c cs h = rw h refl

pub dropped : (c : Char) (cs : List Char) → is_return_at (c ∷ cs) ≡ true → without_returns (c ∷ cs) ≡ without_returns cs
dropped c cs h = rw h refl

-- Removing CRs preserves the first character, unless it is a CR before an LF.
lf_head : (cs tail : List Char) → 0 < length cs → is_return_at cs ≡ false → head_code (without_returns cs ++ tail) ≡ head_code cs
lf_head [] tail lt h = absurd (omega arith)
lf_head (c ∷ cs) tail lt h = rw (kept c cs h) refl

-- No trigraph begins unless the second character is `?`.
third : (c a : Char) (xs : List Char) → trigraph_at (c ∷ a ∷ xs) ≡ (if c.code == 63 && a.code == 63 then trigraph (head_code xs) else 0)
third c a [] = elim (c.code == 63 && a.code == 63) as (λ t. zero ≡ (if t then zero else zero)) [ true ↦ refl | false ↦ refl ]
third c a (x ∷ xs) = refl

no_second : (c : Char) (xs : List Char) → (head_code xs ≡ 63 → ⊥) → trigraph_at (c ∷ xs) ≡ 0
no_second c [] h = refl
no_second c (a ∷ xs) h = third c a xs ∙ rw (ne_eqb a.code 63 h, and-false (c.code == 63)) refl

third_same : (s : Bool) (e : Place) (cs : List Char) → trigraph (head_code (without_returns cs ++ supply s e)) ≡ trigraph (head_code cs)
third_same true e [] = refl
third_same false e [] = refl
third_same s e (c ∷ cs) = by (is_return_at (c ∷ cs)) refl
  where
    by : (t : Bool) → is_return_at (c ∷ cs) ≡ t → trigraph (head_code (without_returns (c ∷ cs) ++ supply s e)) ≡ trigraph c.code
    by true h =
        let r = return_is c cs h in
        rw (dropped c cs h, lf_head cs (supply s e) r.in_bounds r.kept, r.lf, r.cr) refl
    by false h = rw (kept c cs h) refl

lf_no_mark : (n : ℕ) → n ≡ 10 → n ≡ 63 → ⊥
lf_no_mark n e q = omega arith

cr_no_mark : (n : ℕ) → n ≡ 13 → n ≡ 63 → ⊥
cr_no_mark n e q = omega arith

-- Removing CRs and supplying the last new-line do not change which trigraph begins here.
pub trigraph_kept : (s : Bool) (e : Place) (c : Char) (cs : List Char) → trigraph_at (c ∷ (without_returns cs ++ supply s e)) ≡ trigraph_at (c ∷ cs)
trigraph_kept true e c [] = refl
trigraph_kept false e c [] = refl
trigraph_kept s e c (a ∷ cs) = by (is_return_at (a ∷ cs)) refl
  where
    by : (t : Bool) → is_return_at (a ∷ cs) ≡ t → trigraph_at (c ∷ (without_returns (a ∷ cs) ++ supply s e)) ≡ trigraph_at (c ∷ a ∷ cs)
    by true h =
        let r = return_is a cs h in
        let lf = lf_head cs (supply s e) r.in_bounds r.kept ∙ r.lf in
        ap (λ z. trigraph_at (c ∷ (z ++ supply s e))) (dropped a cs h)
        ∙ no_second c (without_returns cs ++ supply s e) (lf_no_mark (head_code (without_returns cs ++ supply s e)) lf)
        ∙ sym (no_second c (a ∷ cs) (cr_no_mark a.code r.cr))
    by false h =
        ap (λ z. trigraph_at (c ∷ (z ++ supply s e))) (kept a cs h)
        ∙ third c a (without_returns cs ++ supply s e)
        ∙ ap (λ n. if c.code == 63 && a.code == 63 then n else 0) (third_same s e cs)
        ∙ sym (third c a cs)

-- One step of `unspliced`: a CR that is removed, or a character that is kept.
pub return_step : (profile : Profile) (s : Bool) (e : Place) (c : Char) (cs : List Char) → is_return_at (c ∷ cs) ≡ true → unspliced profile s e (c ∷ cs) ≡ unspliced profile s e cs
return_step profile s e c cs h = ap (λ z. trigraphs profile (z ++ supply s e)) (dropped c cs h)

pub own_step : (profile : Profile) (s : Bool) (e : Place) (c : Char) (cs : List Char) → is_return_at (c ∷ cs) ≡ false → replaced_at profile (c ∷ cs) ≡ 0 → unspliced profile s e (c ∷ cs) ≡ c ∷ unspliced profile s e cs
own_step profile s e c cs h t =
    let k = ap (λ n. if is_gnu profile then 0 else n) (trigraph_kept s e c cs) ∙ t in
    ap (λ z. trigraphs profile (z ++ supply s e)) (kept c cs h) ∙ trigraphs_own profile c (without_returns cs ++ supply s e) k

-- The three characters of a trigraph are present, and none of them is removed as a CR.
record Three (c : Char) (cs : List Char) : Type 0 where
  in_bounds : 2 ≤ length cs
  kept : without_returns (c ∷ cs) ≡ c ∷ take 2 cs ++ without_returns (drop 2 cs)

no_return : (c : Char) (cs : List Char) → (c.code ≡ 13 → ⊥) → is_return_at (c ∷ cs) ≡ false
no_return c cs h = rw (ne_eqb c.code 13 h) refl

mark_kept : (c : Char) (cs : List Char) → c.code ≡ 63 → without_returns (c ∷ cs) ≡ c ∷ without_returns cs
mark_kept c cs h = kept c cs (no_return c cs (λ q. cc))

no_trigraph_cr : (n : ℕ) → (trigraph n ≡ 0 → ⊥) → n ≡ 13 → ⊥
no_trigraph_cr n h e = h (ap trigraph e)

marks : (t : Bool) (n : ℕ) → ((if t then n else 0) ≡ 0 → ⊥) → (t ≡ true) × (n ≡ 0 → ⊥)
marks true n h = (refl, h)
marks false n h = absurd (h refl)

three : (a : Char) (cs : List Char) → (trigraph_at (a ∷ cs) ≡ 0 → ⊥) → Three a cs
three a [] h = absurd (h refl)
three a (b ∷ []) h = absurd (h refl)
three a (b ∷ c ∷ cs) h =
    let m = marks (a.code == 63 && b.code == 63) (trigraph c.code) h in
    let q = and_parts (a.code == 63) (b.code == 63) m.0 in
    record {
      in_bounds = omega arith;
      kept = mark_kept a (b ∷ c ∷ cs) (eqb-true a.code 63 q.0) ∙ ap (λ z. a ∷ z) (mark_kept b (c ∷ cs) (eqb-true b.code 63 q.1) ∙ ap (λ z. b ∷ z) (kept c cs (no_return c cs (no_trigraph_cr c.code m.1))));
    }

replaced : (s : Bool) (e : Place) (a : Char) (cs : List Char) → (trigraph_at (a ∷ cs) ≡ 0 → ⊥) → unspliced C11 s e (a ∷ cs) ≡ record { code = trigraph_at (a ∷ cs); at = a.at } ∷ unspliced C11 s e (drop 2 cs)
replaced s e a [] h = absurd (h refl)
replaced s e a (b ∷ []) h = absurd (h refl)
replaced s e a (b ∷ c ∷ cs) h =
    let t = three a (b ∷ c ∷ cs) h in
    ap (λ z. trigraphs_after 0 (z ++ supply s e)) t.kept ∙ rw (ne_eqb (trigraph_at (a ∷ b ∷ c ∷ cs)) 0 h) refl

trigraph_step : (profile : Profile) (s : Bool) (e : Place) (a : Char) (cs : List Char)
    → (replaced_at profile (a ∷ cs) ≡ 0 → ⊥)
    → unspliced profile s e (a ∷ cs) ≡ record { code = replaced_at profile (a ∷ cs); at = a.at } ∷ unspliced profile s e (drop 2 cs)
trigraph_step C11 s e a cs h = replaced s e a cs h
trigraph_step Later s e a cs h = replaced s e a cs h
trigraph_step Gnu s e a cs h = absurd (h refl)

-- A trigraph that is replaced begins here.
begins : (profile : Profile) (cs : List Char) → (replaced_at profile cs ≡ 0 → ⊥) → trigraph_at cs ≡ 0 → ⊥
begins C11 cs h = h
begins Later cs h = h
begins Gnu cs h = absurd (h refl)

not_replaced : (profile : Profile) (cs : List Char) → trigraph_at cs ≡ 0 → replaced_at profile cs ≡ 0
not_replaced C11 cs h = h
not_replaced Later cs h = h
not_replaced Gnu cs h = refl

-- The text begins with a new-line of m bytes. If m is 0, the text is empty and the new-line is supplied.
record NewLine (profile : Profile) (s : Bool) (e : Place) (cs : List Char) (m : ℕ) : Type 0 where
  fits : m ≤ length cs
  more : 0 < m → (nl : Char) × (nl.code ≡ 10) × (unspliced profile s e cs ≡ nl ∷ unspliced profile s e (drop m cs))
  none : m ≡ 0 → (cs ≡ []) × (s ≡ true)
  last : 0 < m → m ≡ length cs → lacks_newline (codes_of cs) ≡ false

some_is : (m n : ℕ) → Some m ≡ Some n → m ≡ n
some_is m n e = cc

plain_lf : (profile : Profile) (s : Bool) (e : Place) (c : Char) (cs : List Char) → c.code ≡ 10 → unspliced profile s e (c ∷ cs) ≡ c ∷ unspliced profile s e cs
plain_lf profile s e c cs h = own_step profile s e c cs (lf_kept c cs h) (not_replaced profile (c ∷ cs) (no_mark c cs (λ q. cc)))
  where
    no_mark : (a : Char) (xs : List Char) → (a.code ≡ 63 → ⊥) → trigraph_at (a ∷ xs) ≡ 0
    no_mark a [] k = refl
    no_mark a (b ∷ []) k = refl
    no_mark a (b ∷ x ∷ xs) k = rw (ne_eqb a.code 63 k) refl

last_lf : (y : Char) (ys : List Char) → y.code ≡ 10 → length ys ≡ 0 → lacks_newline (codes_of (y ∷ ys)) ≡ false
last_lf y [] p l0 = rw p refl
last_lf y (w ∷ ys) p l0 = absurd (omega arith)

newline_at : (profile : Profile) (s : Bool) (e : Place) (cs : List Char) (m : ℕ) → leading_newline s (codes_of cs) ≡ Some m → NewLine profile s e cs m
newline_at profile true e [] m h =
    let z = some_is 0 m h in
    record { fits = omega arith; more = λ lt. absurd (omega arith); none = λ q. (refl, refl); last = λ lt. absurd (omega arith) }
newline_at profile false e [] m h = cc
newline_at profile s e (c ∷ cs) m h = by (c.code == 10) refl
  where
    two : (t : Bool) → leading_crlf (codes_of (c ∷ cs)) ≡ t → (if t then Some 2 else None) ≡ Some m → NewLine profile s e (c ∷ cs) m
    two false q k = cc
    two true q k =
        let z = some_is 2 m k in
        crlf cs z (sym (return_same (c ∷ cs)) ∙ q)
      where
        crlf : (xs : List Char) → 2 ≡ m → is_return_at (c ∷ xs) ≡ true → NewLine profile s e (c ∷ xs) m
        crlf [] z r = absurd (false≢true (sym (and-false (c.code == 13)) ∙ r))
        crlf (b ∷ xs) z r =
            let lf = (return_is c (b ∷ xs) r).lf in
            record {
              fits = omega arith;
              more = λ lt. (b, lf, return_step profile s e c (b ∷ xs) r ∙ plain_lf profile s e b xs lf ∙ ap (λ n. b ∷ unspliced profile s e (drop n (c ∷ b ∷ xs))) z);
              none = λ q2. absurd (omega arith);
              last = λ lt. λ l. last_lf b xs lf (omega arith);
            }

    by : (t : Bool) → (c.code == 10) ≡ t → NewLine profile s e (c ∷ cs) m
    by true q =
        let lf = eqb-true c.code 10 q in
        let z = some_is 1 m (rw q at h) in
        record {
          fits = omega arith;
          more = λ lt. (c, lf, plain_lf profile s e c cs lf ∙ ap (λ n. c ∷ unspliced profile s e (drop n (c ∷ cs))) z);
          none = λ r. absurd (omega arith);
          last = λ lt. λ l. last_lf c cs lf (omega arith);
        }
    by false q = two (leading_crlf (codes_of (c ∷ cs))) refl (rw q at h)

if_not : (b : Bool) (x y : ℕ) → (x == 10) ≡ false → (y == 10) ≡ false → ((if b then x else y) == 10) ≡ false
if_not true x y p q = p
if_not false x y p q = q

trigraph_not : (n : ℕ) → (trigraph n == 10) ≡ false
trigraph_not n =
    if_not (n == 61) 35 _ refl
    (if_not (n == 40) 91 _ refl
    (if_not (n == 47) 92 _ refl
    (if_not (n == 41) 93 _ refl
    (if_not (n == 39) 94 _ refl
    (if_not (n == 60) 123 _ refl (if_not (n == 33) 124 _ refl (if_not (n == 62) 125 _ refl (if_not (n == 45) 126 0 refl refl))))))))

trigraph_at_not : (cs : List Char) → (trigraph_at cs == 10) ≡ false
trigraph_at_not [] = refl
trigraph_at_not (a ∷ []) = refl
trigraph_at_not (a ∷ b ∷ []) = refl
trigraph_at_not (a ∷ b ∷ c ∷ cs) = if_not (a.code == 63 && b.code == 63) (trigraph c.code) 0 (trigraph_not c.code) refl

replaced_at_not : (profile : Profile) (cs : List Char) → (replaced_at profile cs == 10) ≡ false
replaced_at_not profile cs = if_not (is_gnu profile) 0 (trigraph_at cs) refl (trigraph_at_not cs)

some_not : (n : ℕ) → Some n ≡ None → ⊥
some_not n e = cc

abbrev two_bytes : Option ℕ
two_bytes = Some 2

no_newline : (profile : Profile) (s : Bool) (e : Place) (cs : List Char) → leading_newline s (codes_of cs) ≡ None → (head_code (unspliced profile s e cs) == 10) ≡ false
no_newline profile true e [] h = cc
no_newline profile false e [] h = ap (λ z. head_code z == 10) (after_all profile false e)
no_newline profile s e (c ∷ cs) h = by (c.code == 10) refl
  where
    own : (n : ℕ) → replaced_at profile (c ∷ cs) ≡ n → (n == 0) ≡ true → (c.code == 10) ≡ false → is_return_at (c ∷ cs) ≡ false → (head_code (unspliced profile s e (c ∷ cs)) == 10) ≡ false
    own n t z q r = rw (own_step profile s e c cs r (t ∙ eqb-true n 0 z)) q

    three_bytes : (replaced_at profile (c ∷ cs) == 0) ≡ false → (head_code (unspliced profile s e (c ∷ cs)) == 10) ≡ false
    three_bytes z = rw (trigraph_step profile s e c cs (λ k. false≢true (sym z ∙ rw k refl))) (replaced_at_not profile (c ∷ cs))

    kinds : (t : Bool) → (replaced_at profile (c ∷ cs) == 0) ≡ t → (c.code == 10) ≡ false → is_return_at (c ∷ cs) ≡ false → (head_code (unspliced profile s e (c ∷ cs)) == 10) ≡ false
    kinds true z q r = own (replaced_at profile (c ∷ cs)) refl z q r
    kinds false z q r = three_bytes z

    two : (t : Bool) → leading_crlf (codes_of (c ∷ cs)) ≡ t → (if t then two_bytes else None) ≡ None → (c.code == 10) ≡ false → (head_code (unspliced profile s e (c ∷ cs)) == 10) ≡ false
    two true r k q = absurd (some_not 2 k)
    two false r k q = kinds (replaced_at profile (c ∷ cs) == 0) refl q (sym (return_same (c ∷ cs)) ∙ r)

    by : (t : Bool) → (c.code == 10) ≡ t → (head_code (unspliced profile s e (c ∷ cs)) == 10) ≡ false
    by true q =
        absurd (some_not 1 (rw q at h))
    by false q = two (leading_crlf (codes_of (c ∷ cs))) refl (rw q at h) q

-- The effect of `splices` and `splice_at_end` on the first character.
splice_yes : (x nl : Char) (ys : List Char) → x.code ≡ 92 → nl.code ≡ 10 → splices (x ∷ nl ∷ ys) ≡ splices ys
splice_yes x nl ys p q = rw (p, q) refl

not_one : (n : ℕ) → 0 < n → (suc n == 1) ≡ false
not_one n h = grind (arith, nat_tests)

end_more : (x nl : Char) (ys : List Char) → nl.code ≡ 10 → 0 < length ys → splice_at_end (x ∷ nl ∷ ys) ≡ splice_at_end ys
end_more x nl ys q lt = rw (not_one (length ys) lt, q, and-false (length ys == 1)) refl

end_here : (x nl : Char) → x.code ≡ 92 → nl.code ≡ 10 → splice_at_end (x ∷ nl ∷ []) ≡ Some x.at
end_here x nl p q = rw (p, q) refl

not_splice : (x : Char) (ys : List Char) → (x.code == 92 && head_code ys == 10) ≡ false → splices (x ∷ ys) ≡ x ∷ splices ys
not_splice x ys h = rw h refl

not_end : (x : Char) (ys : List Char) → (x.code == 92 && head_code ys == 10) ≡ false → splice_at_end (x ∷ ys) ≡ splice_at_end ys
not_end x ys h = rw (h, and-false (length ys == 1)) refl

-- The result of a step: a character and the rest of the text, or only the rest.
pub record CodeStep (profile : Profile) (s : Bool) (e : Place) (c : Char) (cs : List Char) (code n : ℕ) : Type 0 where
  pub some : 0 < n
  pub fits : n ≤ suc (length cs)
  pub text : splices (unspliced profile s e (c ∷ cs)) ≡ record { code = code; at = c.at } ∷ splices (unspliced profile s e (drop n (c ∷ cs)))
  pub ends : splice_at_end (unspliced profile s e (c ∷ cs)) ≡ splice_at_end (unspliced profile s e (drop n (c ∷ cs)))

pub record RemovedStep (profile : Profile) (s : Bool) (e : Place) (c : Char) (cs : List Char) (n : ℕ) : Type 0 where
  pub some : 0 < n
  pub fits : n ≤ suc (length cs)
  pub text : n < suc (length cs) → splices (unspliced profile s e (c ∷ cs)) ≡ splices (unspliced profile s e (drop n (c ∷ cs)))
  pub ends : n < suc (length cs) → splice_at_end (unspliced profile s e (c ∷ cs)) ≡ splice_at_end (unspliced profile s e (drop n (c ∷ cs)))
  pub last : n ≡ suc (length cs) → s ≡ lacks_newline (codes_of (c ∷ cs)) → splice_at_end (unspliced profile s e (c ∷ cs)) ≡ Some c.at

abbrev pub Outcome : Profile → Bool → Place → Char → List Char → CharStep → Type 0
Outcome profile s e c cs (Code code n) = CodeStep profile s e c cs code n
Outcome profile s e c cs (Removed n) = RemovedStep profile s e c cs n

-- The passes before splicing do not make a non-empty text empty.
pub returns_some : (cs : List Char) → 0 < length cs → 0 < length (without_returns cs)
returns_some [] lt = absurd (omega arith)
returns_some (c ∷ cs) lt = by (λ k. returns_some cs k) (is_return_at (c ∷ cs)) refl
  where
    by : (0 < length cs → 0 < length (without_returns cs)) → (t : Bool) → is_return_at (c ∷ cs) ≡ t → 0 < length (without_returns (c ∷ cs))
    by more true h = rw (dropped c cs h) (more (return_is c cs h).in_bounds)
    by more false h = rw (kept c cs h) (omega arith)

replaced_some : (cs : List Char) → 0 < length cs → 0 < length (trigraphs_after 0 cs)
replaced_some [] lt = absurd (omega arith)
replaced_some (c ∷ cs) lt =
    elim (trigraph_at (c ∷ cs) == 0) as (λ t. 0 < length (if t then c ∷ trigraphs_after 0 cs else record { code = trigraph_at (c ∷ cs); at = c.at } ∷ trigraphs_after 2 cs)) [ true ↦ omega arith | false ↦ omega arith ]

trigraphs_some : (profile : Profile) (cs : List Char) → 0 < length cs → 0 < length (trigraphs profile cs)
trigraphs_some C11 cs lt = replaced_some cs lt
trigraphs_some Later cs lt = replaced_some cs lt
trigraphs_some Gnu cs lt = lt

logical_some : (profile : Profile) (s : Bool) (e : Place) (cs : List Char) → 0 < length cs → 0 < length (unspliced profile s e cs)
logical_some profile s e cs lt =
    let w = returns_some cs lt in
    trigraphs_some profile (without_returns cs ++ supply s e) (omega (arith, length-append (without_returns cs) (supply s e)))

-- Each non-empty suffix of the bytes lacks a final new-line exactly if the whole does.
pub open_end_drop : (n : ℕ) (bs : List ℕ) → n < length bs → lacks_newline (drop n bs) ≡ lacks_newline bs
open_end_drop n [] lt = absurd (omega arith)
open_end_drop zero (b ∷ bs) lt = refl
open_end_drop (suc n) (b ∷ []) lt = absurd (omega arith)
open_end_drop (suc n) (b ∷ c ∷ bs) lt = open_end_drop n (c ∷ bs) (omega arith)

no_code : (x : Char) (ys : List Char) → (x.code == 92) ≡ false → (x.code == 92 && head_code ys == 10) ≡ false
no_code x ys h = rw h refl

no_line : (x : Char) (ys : List Char) → (head_code ys == 10) ≡ false → (x.code == 92 && head_code ys == 10) ≡ false
no_line x ys h = rw (h, and-false (x.code == 92)) refl

-- A character that does not begin a splice is kept.
as_code : (profile : Profile) (s : Bool) (e : Place) (c : Char) (cs : List Char) (code k : ℕ) → 0 < k → k ≤ suc (length cs) → unspliced profile s e (c ∷ cs) ≡ record { code = code; at = c.at } ∷ unspliced profile s e (drop k (c ∷ cs))
    → (code == 92 && head_code (unspliced profile s e (drop k (c ∷ cs))) == 10) ≡ false → CodeStep profile s e c cs code k
as_code profile s e c cs code k lt fits is other =
    let x : Char = record { code = code; at = c.at } in
    let ys = unspliced profile s e (drop k (c ∷ cs)) in
    record {
      some = lt;
      fits = fits;
      text = ap splices is ∙ not_splice x ys other;
      ends = ap splice_at_end is ∙ not_end x ys other;
    }

-- A backslash and a new-line after it are removed. The new-line may be the supplied one.
splice_more : (profile : Profile) (s : Bool) (e : Place) (c : Char) (cs : List Char) (code k m : ℕ)
    → k ≤ suc (length cs)
    → unspliced profile s e (c ∷ cs) ≡ record { code = code; at = c.at } ∷ unspliced profile s e (drop k (c ∷ cs))
    → code ≡ 92
    → NewLine profile s e (drop k (c ∷ cs)) m
    → k + m < suc (length cs)
    → (splices (unspliced profile s e (c ∷ cs)) ≡ splices (unspliced profile s e (drop (k + m) (c ∷ cs)))) × (splice_at_end (unspliced profile s e (c ∷ cs)) ≡ splice_at_end (unspliced profile s e (drop (k + m) (c ∷ cs))))
splice_more profile s e c cs code k zero fits is p line lt =
    let l = length-drop k (c ∷ cs) in
    let z : length (drop k (c ∷ cs)) ≡ 0 = ap length (line.none refl).0 in
    absurd (omega arith)
splice_more profile s e c cs code k (suc m) fits is p line lt =
    let x : Char = record { code = code; at = c.at } in
    let rest = drop k (c ∷ cs) in
    let l = length-drop k (c ∷ cs) in
    let l2 = length-drop (suc m) rest in
    let f = line.more (omega arith) in
    let ys = unspliced profile s e (drop (suc m) rest) in
    let same = drop-drop (suc m) k (c ∷ cs) in (
      ap splices (is ∙ ap (λ z. x ∷ z) f.2) ∙ splice_yes x f.0 ys p f.1 ∙ ap (λ z. splices (unspliced profile s e z)) same,
      ap splice_at_end (is ∙ ap (λ z. x ∷ z) f.2) ∙ end_more x f.0 ys f.1 (logical_some profile s e (drop (suc m) rest) (omega arith)) ∙ ap (λ z. splice_at_end (unspliced profile s e z)) same,
    )

splice_last : (profile : Profile) (s : Bool) (e : Place) (c : Char) (cs : List Char) (code k m : ℕ)
    → k ≤ suc (length cs)
    → unspliced profile s e (c ∷ cs) ≡ record { code = code; at = c.at } ∷ unspliced profile s e (drop k (c ∷ cs))
    → code ≡ 92
    → NewLine profile s e (drop k (c ∷ cs)) m
    → k + m ≡ suc (length cs)
    → s ≡ lacks_newline (codes_of (c ∷ cs))
    → splice_at_end (unspliced profile s e (c ∷ cs)) ≡ Some c.at
splice_last profile s e c cs code k zero fits is p line lt o =
    let x : Char = record { code = code; at = c.at } in
    let nl : Char = record { code = 10; at = e } in
    let n = line.none refl in
    ap splice_at_end (is ∙ ap (λ z. x ∷ unspliced profile s e z) n.0 ∙ ap (λ t. x ∷ unspliced profile t e []) n.1 ∙ ap (λ z. x ∷ z) (after_all profile true e)) ∙ end_here x nl p refl
splice_last profile s e c cs code k (suc m) fits is p line lt o =
    let x : Char = record { code = code; at = c.at } in
    let rest = drop k (c ∷ cs) in
    let l = length-drop k (c ∷ cs) in
    let f = line.more (omega arith) in
    let lf = line.last (omega arith) (omega arith) in
    let in_bounds : k < length (codes_of (c ∷ cs)) = rw (length-map (c ∷ cs) (λ (y : Char). y.code)) (omega arith) in
    let closed : s ≡ false = o ∙ sym (open_end_drop k (codes_of (c ∷ cs)) in_bounds) ∙ ap lacks_newline (drop-map (λ (y : Char). y.code) k (c ∷ cs)) ∙ lf in
    let none = drop_all (suc m) rest (omega arith) in
    ap splice_at_end (is ∙ ap (λ z. x ∷ z) f.2 ∙ ap (λ z. x ∷ f.0 ∷ unspliced profile s e z) none ∙ ap (λ t. x ∷ f.0 ∷ unspliced profile t e []) closed ∙ ap (λ z. x ∷ f.0 ∷ z) (after_all profile false e)) ∙ end_here x f.0 p f.1

as_splice : (profile : Profile) (s : Bool) (e : Place) (c : Char) (cs : List Char) (code k m : ℕ)
    → 0 < k
    → k ≤ suc (length cs)
    → unspliced profile s e (c ∷ cs) ≡ record { code = code; at = c.at } ∷ unspliced profile s e (drop k (c ∷ cs))
    → code ≡ 92
    → NewLine profile s e (drop k (c ∷ cs)) m
    → RemovedStep profile s e c cs (k + m)
as_splice profile s e c cs code k m lt fits is p line =
    let l = length-drop k (c ∷ cs) in
    let f = line.fits in
    record {
      some = omega arith;
      fits = omega arith;
      text = λ h. (splice_more profile s e c cs code k m fits is p line h).0;
      ends = λ h. (splice_more profile s e c cs code k m fits is p line h).1;
      last = λ h o. splice_last profile s e c cs code k m fits is p line h o;
    }

-- At a character, spliced or not, `coded` is the step of the three passes.
as_coded : (profile : Profile) (s : Bool) (e : Place) (c : Char) (cs : List Char) (code k : ℕ)
    → 0 < k
    → k ≤ suc (length cs)
    → unspliced profile s e (c ∷ cs) ≡ record { code = code; at = c.at } ∷ unspliced profile s e (drop k (c ∷ cs))
    → Outcome profile s e c cs (coded s (codes_of (c ∷ cs)) code k)
as_coded profile s e c cs code k lt fits is = by (code == 92) refl
  where
    rest : List Char
    rest = drop k (c ∷ cs)

    x : Char
    x = record { code = code; at = c.at }

    line : code ≡ 92 → (found : Option ℕ) → leading_newline s (drop k (codes_of (c ∷ cs))) ≡ found → Outcome profile s e c cs (spliced found code k)
    line p None h =
        as_code profile s e c cs code k lt fits is (no_line x (unspliced profile s e rest) (no_newline profile s e rest (ap (leading_newline s) (sym (drop-map (λ (y : Char). y.code) k (c ∷ cs))) ∙ h)))
    line p (Some m) h = as_splice profile s e c cs code k m lt fits is p (newline_at profile s e rest m (ap (leading_newline s) (sym (drop-map (λ (y : Char). y.code) k (c ∷ cs))) ∙ h))

    by : (t : Bool) → (code == 92) ≡ t → Outcome profile s e c cs (if t then spliced (leading_newline s (drop k (codes_of (c ∷ cs)))) code k else Code code k)
    by true h = line (eqb-true code 92 h) (leading_newline s (drop k (codes_of (c ∷ cs)))) refl
    by false h = as_code profile s e c cs code k lt fits is (no_code x (unspliced profile s e rest) h)

-- A CR directly before an LF is removed.
as_return : (profile : Profile) (s : Bool) (e : Place) (c : Char) (cs : List Char) → is_return_at (c ∷ cs) ≡ true → RemovedStep profile s e c cs 1
as_return profile s e c cs h =
    let r = return_is c cs h in
    let in_bounds = r.in_bounds in
    let same = return_step profile s e c cs h in
    record {
      some = omega arith;
      fits = omega arith;
      text = λ lt. ap splices same;
      ends = λ lt. ap splice_at_end same;
      last = λ q o. absurd (omega arith);
    }

-- The step computed from the bytes, `step_of`, is the step of the three passes.
pub outcome : (profile : Profile) (s : Bool) (e : Place) (c : Char) (cs : List Char) → Outcome profile s e c cs (step_of profile s (codes_of (c ∷ cs)))
outcome profile s e c cs = first (leading_crlf (codes_of (c ∷ cs))) refl
  where
    one : is_return_at (c ∷ cs) ≡ false → (replaced_at profile (c ∷ cs) == 0) ≡ true → Outcome profile s e c cs (coded s (codes_of (c ∷ cs)) c.code 1)
    one r z = as_coded profile s e c cs c.code 1 (omega arith) (omega arith) (own_step profile s e c cs r (eqb-true (replaced_at profile (c ∷ cs)) 0 z))

    three_bytes : (replaced_at profile (c ∷ cs) == 0) ≡ false → Outcome profile s e c cs (coded s (codes_of (c ∷ cs)) (replaced_at profile (c ∷ cs)) 3)
    three_bytes z =
        let some : replaced_at profile (c ∷ cs) ≡ 0 → ⊥ = λ k. false≢true (sym z ∙ rw k refl) in
        let in_bounds = (three c cs (begins profile (c ∷ cs) some)).in_bounds in
        as_coded profile s e c cs (replaced_at profile (c ∷ cs)) 3 (omega arith) (omega arith) (trigraph_step profile s e c cs some)

    second : is_return_at (c ∷ cs) ≡ false → (t : Bool) → (replaced_at profile (c ∷ cs) == 0) ≡ t → Outcome profile s e c cs (if t then coded s (codes_of (c ∷ cs)) c.code 1 else coded s (codes_of (c ∷ cs)) (replaced_at profile (c ∷ cs)) 3)
    second r true z = one r z
    second r false z = three_bytes z

    first : (t : Bool)
        → leading_crlf (codes_of (c ∷ cs)) ≡ t
        → Outcome profile s e c cs
        (if t then Removed 1
        else (if leading_trigraph profile (codes_of (c ∷ cs)) == 0 then coded s (codes_of (c ∷ cs)) c.code 1
        else coded s (codes_of (c ∷ cs)) (leading_trigraph profile (codes_of (c ∷ cs))) 3))
    first true h = as_return profile s e c cs (sym (return_same (c ∷ cs)) ∙ h)
    first false h =
        subst (λ n. Outcome profile s e c cs (if n == 0 then coded s (codes_of (c ∷ cs)) c.code 1 else coded s (codes_of (c ∷ cs)) n 3)) (sym (trigraph_same profile (c ∷ cs)))
        (second (sym (return_same (c ∷ cs)) ∙ h) (replaced_at profile (c ∷ cs) == 0) refl)
