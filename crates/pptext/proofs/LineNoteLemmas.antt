-- Runs of bytes that are characters of their own, and tables of the line notes between them.
use Rattle.std.proofs.Common.{◌≡◌, ℕ, zero, suc, ◌⊎◌, inl, inr, ◌+◌, ◌-◌, ◌<◌, ◌≤◌, Bool, true, false, ◌==◌, ◌||◌, if◌then◌else◌, List, [], ◌∷◌, ◌++◌, length}
use Rattle.std.proofs.Common.{drop, get_or, refl, sym, ap, ◌∙◌, subst, arith, Option, None, Some, length-drop, append_assoc, add-zero}
use Rattle.std.proofs.lemmas.Bool.{false≢true, cases_lt}
use Rattle.std.proofs.lemmas.List.{drop_more, drop-drop, drop_all, get_or-drop, get_or_past, append-nil}
use Rattle.pptext.specs.declared.sources.Profile.{Profile}
use Rattle.pptext.specs.declared.sources.Profile.TheVariants.{C11, Later, Gnu}
use Rattle.pptext.specs.Clean.{backslash}
use Rattle.pptext.specs.code.LineNotes.{IsTable, OwnPrefix, PlainRun, after_note, step_len}
use Rattle.pptext.specs.code.Steps.{Code, Removed, IsChanged, PlainPrefix, coded, is_special, leading_newline, leading_crlf, spliced, step_of, trigraph_of, leading_trigraph}

-- A byte that is not special is a character of its own.
no_trigraph : (b : ℕ) (bs : List ℕ) → (b == 63) ≡ false → trigraph_of (b ∷ bs) ≡ 0
no_trigraph b [] h = refl
no_trigraph b (c ∷ []) h = refl
no_trigraph b (c ∷ d ∷ bs) h = rw h refl

no_mark : (profile : Profile) (b : ℕ) (bs : List ℕ) → (b == 63) ≡ false → leading_trigraph profile (b ∷ bs) ≡ 0
no_mark C11 b bs h = no_trigraph b bs h
no_mark Later b bs h = no_trigraph b bs h
no_mark Gnu b bs h = refl

no_cr : (b : ℕ) (bs : List ℕ) → (b == 13) ≡ false → leading_crlf (b ∷ bs) ≡ false
no_cr b [] h = refl
no_cr b (c ∷ bs) h = rw h refl

neither : (a b c : Bool) → (a || b || c) ≡ false → (a ≡ false) × (b ≡ false) × (c ≡ false)
neither false false false h = (refl, refl, refl)
neither true b c h = absurd (false≢true (sym h))
neither false true c h = absurd (false≢true (sym h))
neither false false true h = absurd (false≢true (sym h))

plain_step : (profile : Profile) (s : Bool) (b : ℕ) (bs : List ℕ) → is_special b ≡ false → step_of profile s (b ∷ bs) ≡ Code b 1
plain_step profile s b bs h =
    let n = neither (b == 92) (b == 63) (b == 13) h in
    rw (no_cr b bs n.2, no_mark profile b bs n.1, n.0) refl

one_byte : (profile : Profile) (s : Bool) (bs : List ℕ) (code : ℕ) → step_of profile s bs ≡ Code code 1 → code ≡ get_or bs 0 0
one_byte profile s bs code h = first (leading_crlf bs) h
  where
    codes : (a b m n : ℕ) → Code a m ≡ Code b n → (a ≡ b) × (m ≡ n)
    codes a b m n e = (cc, cc)

    none : (found : Option ℕ) (a m : ℕ) → spliced found a m ≡ Code code 1 → (a ≡ code) × (m ≡ 1)
    none None a m e = codes a code m 1 e
    none (Some k) a m e = cc

    third : (t : Bool) (a m : ℕ) → (if t then spliced (leading_newline s (drop m bs)) a m else Code a m) ≡ Code code 1 → (a ≡ code) × (m ≡ 1)
    third true a m e = none (leading_newline s (drop m bs)) a m e
    third false a m e = codes a code m 1 e

    second : (t : Bool) → (if t then coded s bs (get_or bs 0 0) 1 else coded s bs (leading_trigraph profile bs) 3) ≡ Code code 1 → code ≡ get_or bs 0 0
    second true e = sym (third (get_or bs 0 0 == backslash) (get_or bs 0 0) 1 e).0
    second false e = absurd (omega (arith, (third (leading_trigraph profile bs == backslash) (leading_trigraph profile bs) 3 e).1))

    first : (t : Bool) → (if t then Removed 1 else (if leading_trigraph profile bs == 0 then coded s bs (get_or bs 0 0) 1 else coded s bs (leading_trigraph profile bs) 3)) ≡ Code code 1 → code ≡ get_or bs 0 0
    first true e = cc
    first false e = second (leading_trigraph profile bs == 0) e

-- A character of more than one byte, and removed bytes, are line notes.
pub long_code : (profile : Profile) (s : Bool) (bs : List ℕ) (a n : ℕ) → step_of profile s bs ≡ Code a n → (n ≡ 1 → ⊥) → IsChanged profile s bs
long_code profile s bs a n is long = λ code e. long (same code (sym is ∙ e))
  where
    same : (code : ℕ) → Code a n ≡ Code code 1 → n ≡ 1
    same code e = cc

pub removed_bytes : (profile : Profile) (s : Bool) (bs : List ℕ) (n : ℕ) → step_of profile s bs ≡ Removed n → IsChanged profile s bs
removed_bytes profile s bs n is = λ code e. none code (sym is ∙ e)
  where
    none : (code : ℕ) → Removed n ≡ Code code 1 → ⊥
    none code e = cc

pub stretch_all : (profile : Profile) (s : Bool) (bs : List ℕ) → OwnPrefix profile s bs (length bs) → PlainRun profile s bs (length bs)
stretch_all profile s bs h = record { prefix = h; stops = λ lt. absurd (omega arith) }

-- A prefix of bytes that are characters of their own grows byte by byte.
pub own_none : (profile : Profile) (s : Bool) (bs : List ℕ) → OwnPrefix profile s bs 0
own_none profile s bs = record { fits = omega arith; own = λ k lt. absurd (omega arith) }

pub own_plain : (profile : Profile) (s : Bool) (bs : List ℕ) (at n : ℕ) → OwnPrefix profile s bs at → PlainPrefix (drop at bs) n → OwnPrefix profile s bs (at + n)
own_plain profile s bs at n h prefix =
    let l = length-drop at bs in
    let more = prefix.0 in
    let before = h.fits in
    record { fits = omega arith; own = λ k lt. by k lt (cases_lt k at) }
  where
    plain : (k : ℕ) → at ≤ k → k < at + n → is_special (get_or bs k 0) ≡ false
    plain k le lt = ap is_special (ap (λ i. get_or bs i 0) (omega arith) ∙ sym (get_or-drop at bs (k - at) 0)) ∙ prefix.1 (k - at) (omega arith)

    by : (k : ℕ) → k < at + n → (k < at) ⊎ (at ≤ k) → step_of profile s (drop k bs) ≡ Code (get_or bs k 0) 1
    by k lt (inl below) = h.own k below
    by k lt (inr le) =
        let l = length-drop at bs in
        let more = prefix.0 in
        let before = h.fits in
        ap (step_of profile s) (drop_more bs k 0 (omega arith)) ∙ plain_step profile s (get_or bs k 0) (drop (k + 1) bs) (plain k le lt)

pub own_code : (profile : Profile) (s : Bool) (bs : List ℕ) (at code : ℕ) → OwnPrefix profile s bs at → at < length bs → step_of profile s (drop at bs) ≡ Code code 1 → OwnPrefix profile s bs (at + 1)
own_code profile s bs at code h in_bounds is = record { fits = omega arith; own = λ k lt. by k lt (cases_lt k at) }
  where
    this : step_of profile s (drop at bs) ≡ Code (get_or bs at 0) 1
    this = is ∙ ap (λ c. Code c 1) (one_byte profile s (drop at bs) code is ∙ get_or-drop at bs 0 0 ∙ ap (λ k. get_or bs k 0) (add-zero at))

    by : (k : ℕ) → k < at + 1 → (k < at) ⊎ (at ≤ k) → step_of profile s (drop k bs) ≡ Code (get_or bs k 0) 1
    by k lt (inl below) = h.own k below
    by k lt (inr le) =
        let e : at ≡ k = omega arith in
        subst (λ i. step_of profile s (drop i bs) ≡ Code (get_or bs i 0) 1) e this

-- A shorter prefix of own bytes, and the rest of a plain run.
pub own_less : (profile : Profile) (s : Bool) (bs : List ℕ) (n m : ℕ) → n ≤ m → OwnPrefix profile s bs m → OwnPrefix profile s bs n
own_less profile s bs n m le h =
    let fits = h.fits in
    record { fits = omega arith; own = λ k lt. h.own k (omega arith) }

pub stretch_rest : (profile : Profile) (s : Bool) (raw : List ℕ) (o n m : ℕ) → n ≤ m → PlainRun profile s (drop o raw) m → PlainRun profile s (drop (o + n) raw) (m - n)
stretch_rest profile s raw o n m le h =
    let l = length-drop o raw in
    let l2 = length-drop (o + n) raw in
    let fits = h.prefix.fits in
    record {
      prefix = record {
        fits = omega arith;
        own = λ k lt. ap (step_of profile s) (sym (rest k)) ∙ h.prefix.own (n + k) (omega arith) ∙ ap (λ b. Code b 1) (byte k);
      };
      stops = λ lt. subst (IsChanged profile s) (ap (λ k. drop k (drop o raw)) (omega arith) ∙ rest (m - n)) (h.stops (omega arith));
    }
  where
    rest : (k : ℕ) → drop (n + k) (drop o raw) ≡ drop k (drop (o + n) raw)
    rest k = drop-drop (n + k) o raw ∙ ap (λ i. drop i raw) (omega arith) ∙ sym (drop-drop k (o + n) raw)

    byte : (k : ℕ) → get_or (drop o raw) (n + k) 0 ≡ get_or (drop (o + n) raw) k 0
    byte k = get_or-drop o raw (n + k) 0 ∙ ap (λ i. get_or raw i 0) (omega arith) ∙ sym (get_or-drop (o + n) raw k 0)

-- The entries so far, followed by a table of the bytes from `start` on, are a table of the whole.
pub record Begun (profile : Profile) (s : Bool) (raw : List ℕ) (start : ℕ) (done : List ℕ) : Type 0 where
  pub fits : start ≤ length raw
  pub table : (ns : List ℕ) → IsTable profile s (drop start raw) ns → IsTable profile s raw (done ++ ns)

-- the bytes after a line note at an offset
pub behind_at : (profile : Profile) (s : Bool) (raw : List ℕ) (offset len : ℕ) → step_len (step_of profile s (drop offset raw)) ≡ len → after_note profile s (drop offset raw) ≡ drop (offset + len) raw
behind_at profile s raw offset len is = ap (λ k. drop k (drop offset raw)) is ∙ drop-drop len offset raw

pub begun_more : (profile : Profile) (s : Bool) (raw : List ℕ) (start n len : ℕ) (done : List ℕ)
    → Begun profile s raw start done
    → n < length (drop start raw)
    → PlainRun profile s (drop start raw) n
    → step_len (step_of profile s (drop (start + n) raw)) ≡ len
    → start + n + len ≤ length raw
    → Begun profile s raw (start + n + len) (done ++ n ∷ [])
begun_more profile s raw start n len done h in_bounds plain_run is fits = record {
  fits = fits;
  table = λ ns rest. subst (IsTable profile s raw) (sym (append_assoc done (n ∷ []) ns)) (h.table (n ∷ ns) (in_bounds, plain_run, subst (λ z. IsTable profile s z ns) behind rest));
}
  where
    behind : drop (start + n + len) raw ≡ after_note profile s (drop n (drop start raw))
    behind = sym (behind_at profile s raw (start + n) len is) ∙ ap (after_note profile s) (sym (drop-drop n start raw))

pub begun_all : (profile : Profile) (s : Bool) (raw : List ℕ) (start : ℕ) (done : List ℕ) → Begun profile s raw start done → PlainRun profile s (drop start raw) (length (drop start raw)) → IsTable profile s raw done
begun_all profile s raw start done h last = subst (IsTable profile s raw) (append-nil done) (h.table [] last)

-- The table is read from its start: the next plain run, and the entries after its line note.
drop_nil : (n : ℕ) → drop {A = ℕ} n [] ≡ []
drop_nil zero = refl
drop_nil (suc n) = refl

nothing : (profile : Profile) (s : Bool) → PlainRun profile s [] 0
nothing profile s = record { prefix = record { fits = omega arith; own = λ k lt. absurd (omega arith) }; stops = λ lt. absurd (omega arith) }

pub table_next : (profile : Profile) (s : Bool) (bs line_notes : List ℕ) (next : ℕ)
    → IsTable profile s bs (drop next line_notes)
    → PlainRun profile s bs (get_or line_notes next (length bs)) × IsTable profile s (after_note profile s (drop (get_or line_notes next (length bs)) bs)) (drop (next + 1) line_notes)
table_next profile s bs line_notes next h = by (cases_lt next (length line_notes))
  where
    by : (next < length line_notes) ⊎ (length line_notes ≤ next) → PlainRun profile s bs (get_or line_notes next (length bs)) × IsTable profile s (after_note profile s (drop (get_or line_notes next (length bs)) bs)) (drop (next + 1) line_notes)
    by (inl more) =
        let entry = subst (IsTable profile s bs) (drop_more line_notes next (length bs) more) h in
        (entry.1, entry.2)
    by (inr past) =
        let last : get_or line_notes next (length bs) ≡ length bs = get_or_past line_notes next (length bs) past in
        let none : drop next line_notes ≡ [] = drop_all next line_notes past in
        let after : drop (next + 1) line_notes ≡ [] = drop_all (next + 1) line_notes (omega arith) in
        let end : drop (length bs) bs ≡ [] = drop_all (length bs) bs (omega arith) in
        (subst (PlainRun profile s bs) (sym last) (subst (IsTable profile s bs) none h), rw (after, last, end, drop_nil) (nothing profile s))
