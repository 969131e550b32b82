-- A file's text from an offset on, one step at a time, and its cleaned copy.
use Rattle.std.proofs.Common.{◌≡◌, ℕ, zero, suc, ◌+◌, ◌<◌, ◌≤◌, Bool, true, false, not, ◌==◌, if◌then◌else◌, List, [], ◌∷◌, ◌++◌, length, take, drop, get_or}
use Rattle.std.proofs.Common.{refl, sym, ap, ◌∙◌, subst, arith, None, Some, Ok, Err, length-drop, append_assoc, length-append, add-zero, zero-add}
use Rattle.std.proofs.Math.Bool.{and-false}
use Rattle.std.proofs.lemmas.List.{drop_more, drop-drop, drop_all, take_all, length-map, append-nil}
use Rattle.pptext.specs.declared.sources.Profile.{Profile}
use Rattle.pptext.specs.declared.tokens.Place.{Place}
use Rattle.pptext.specs.declared.characters.Char.{Char}
use Rattle.pptext.specs.Clean.{cleaned, codes_of, newline, with_locations, place, next_col, without_returns, is_return_at, missing_newline, splices, splice_at_end, trigraphs, unless_at, without_bom}
use Rattle.pptext.specs.code.LineNotes.{IsTable, OwnPrefix, PlainRun, step_len}
use Rattle.pptext.specs.code.Steps.{CharStep, Code, Removed, lacks_newline, step_of, after_byte, place_after}
use Rattle.pptext.specs.code.CleanedText.{supply, unspliced, start, unspliced_from, text_from, end_from, EndsAt, HasLineNotes, IsChangedText}
use Rattle.pptext.proofs.CleanSteps.{CodeStep, RemovedStep, Outcome, outcome, after_all, open_end_drop, dropped, kept, returns_some}
use Rattle.pptext.proofs.LineNoteLemmas.{Begun, begun_all, begun_more}
use Rattle.pptext.proofs.Locations.{Here, here, placed_at, placed_codes, placed_tail}

-- `done` holds the codes of the cleaned text before this offset.
pub record Copied (profile : Profile) (raw : List ℕ) (offset : ℕ) (done : List ℕ) : Type 0 where
  pub codes : (file : ℕ) → codes_of (text_from profile file raw 0) ≡ done ++ codes_of (text_from profile file raw offset)
  pub ends : (file : ℕ) → end_from profile file raw 0 ≡ end_from profile file raw offset

-- At this offset, n bytes spell a character (`CodeAt`) or are removed (`RemovedAt`).
pub record CodeAt (profile : Profile) (file : ℕ) (raw : List ℕ) (offset code n : ℕ) : Type 0 where
  pub some : 0 < n
  pub fits : offset + n ≤ length raw
  pub text : text_from profile file raw offset ≡ record { code = code; at = place_after (start file) (take offset raw) } ∷ text_from profile file raw (offset + n)
  pub ends : end_from profile file raw offset ≡ end_from profile file raw (offset + n)

pub record RemovedAt (profile : Profile) (file : ℕ) (raw : List ℕ) (offset n : ℕ) : Type 0 where
  pub some : 0 < n
  pub fits : offset + n ≤ length raw
  pub text : offset + n < length raw → text_from profile file raw offset ≡ text_from profile file raw (offset + n)
  pub ends : offset + n < length raw → end_from profile file raw offset ≡ end_from profile file raw (offset + n)
  pub last : offset + n ≡ length raw → end_from profile file raw offset ≡ Some (place_after (start file) (take offset raw))

abbrev end_place : ℕ → List ℕ → Place
end_place file raw = place_after (start file) raw

step_here : (profile : Profile) (file : ℕ) (raw : List ℕ) (offset : ℕ) (h : Here file raw offset) (step : CharStep) → step_of profile (lacks_newline raw) (drop offset raw) ≡ step → Outcome profile (lacks_newline raw) (end_place file raw) h.head h.rest step
step_here profile file raw offset h step is =
    let same : step_of profile (lacks_newline raw) (codes_of (h.head ∷ h.rest)) ≡ step = ap (step_of profile (lacks_newline raw)) h.codes ∙ is in
    subst (Outcome profile (lacks_newline raw) (end_place file raw) h.head h.rest) same (outcome profile (lacks_newline raw) (end_place file raw) h.head h.rest)

behind : (profile : Profile) (file : ℕ) (raw : List ℕ) (offset : ℕ) (h : Here file raw offset) (n : ℕ) → unspliced profile (lacks_newline raw) (end_place file raw) (drop n (h.head ∷ h.rest)) ≡ unspliced_from profile file raw (offset + n)
behind profile file raw offset h n = ap (λ z. unspliced profile (lacks_newline raw) (end_place file raw) z) (ap (drop n) (sym h.is) ∙ drop-drop n offset (with_locations file 1 1 raw))

prefix : (profile : Profile) (file : ℕ) (raw : List ℕ) (offset : ℕ) (h : Here file raw offset) → unspliced_from profile file raw offset ≡ unspliced profile (lacks_newline raw) (end_place file raw) (h.head ∷ h.rest)
prefix profile file raw offset h = ap (λ z. unspliced profile (lacks_newline raw) (end_place file raw) z) h.is

pub code_at : (profile : Profile) (file : ℕ) (raw : List ℕ) (offset code n : ℕ) → offset < length raw → step_of profile (lacks_newline raw) (drop offset raw) ≡ Code code n → CodeAt profile file raw offset code n
code_at profile file raw offset code n lt is =
    let h = here file raw offset lt in
    let o : CodeStep profile (lacks_newline raw) (end_place file raw) h.head h.rest code n = step_here profile file raw offset h (Code code n) is in
    let in_bounds = h.in_bounds in
    record {
      some = o.some;
      fits = omega (arith, o.fits);
      text = ap splices (prefix profile file raw offset h)
          ∙ o.text
          ∙ ap (λ (p : Place). record { code = code; at = p } ∷ splices (unspliced profile (lacks_newline raw) (end_place file raw) (drop n (h.head ∷ h.rest)))) h.at
          ∙ ap (λ z. record { code = code; at = place_after (start file) (take offset raw) } ∷ splices z) (behind profile file raw offset h n);
      ends = ap splice_at_end (prefix profile file raw offset h) ∙ o.ends ∙ ap splice_at_end (behind profile file raw offset h n);
    }

pub removed_at : (profile : Profile) (file : ℕ) (raw : List ℕ) (offset n : ℕ) → offset < length raw → step_of profile (lacks_newline raw) (drop offset raw) ≡ Removed n → RemovedAt profile file raw offset n
removed_at profile file raw offset n lt is =
    let h = here file raw offset lt in
    let o : RemovedStep profile (lacks_newline raw) (end_place file raw) h.head h.rest n = step_here profile file raw offset h (Removed n) is in
    let in_bounds = h.in_bounds in
    let same : lacks_newline raw ≡ lacks_newline (codes_of (h.head ∷ h.rest)) = sym (open_end_drop offset raw lt) ∙ ap lacks_newline (sym h.codes) in
    record {
      some = o.some;
      fits = omega (arith, o.fits);
      text = λ l. ap splices (prefix profile file raw offset h) ∙ o.text (omega arith) ∙ ap splices (behind profile file raw offset h n);
      ends = λ l. ap splice_at_end (prefix profile file raw offset h) ∙ o.ends (omega arith) ∙ ap splice_at_end (behind profile file raw offset h n);
      last = λ l. ap splice_at_end (prefix profile file raw offset h) ∙ o.last (omega arith) same ∙ ap (λ (p : Place). Some p) h.at;
    }

-- After the last byte there is only the new-line, if it is supplied.
pub at_end : (profile : Profile) (file : ℕ) (raw : List ℕ) → unspliced_from profile file raw (length raw) ≡ supply (lacks_newline raw) (end_place file raw)
at_end profile file raw =
    let l : length (with_locations file 1 1 raw) ≡ length raw = sym (length-map (with_locations file 1 1 raw) (λ (y : Char). y.code)) ∙ ap length (placed_codes raw (start file)) in
    ap (λ z. unspliced profile (lacks_newline raw) (end_place file raw) z) (drop_all (length raw) (with_locations file 1 1 raw) (omega arith)) ∙ after_all profile (lacks_newline raw) (end_place file raw)

-- The copy grows by a character, by a plain run, or not at all.
pub copied_code : (profile : Profile) (raw : List ℕ) (offset : ℕ) (done : List ℕ) (code n : ℕ)
    → Copied profile raw offset done
    → offset < length raw
    → step_of profile (lacks_newline raw) (drop offset raw) ≡ Code code n
    → Copied profile raw (offset + n) (done ++ code ∷ [])
copied_code profile raw offset done code n h lt is = record {
  codes = λ file. h.codes file ∙ ap (λ z. done ++ codes_of z) (code_at profile file raw offset code n lt is).text ∙ sym (append_assoc done (code ∷ []) (codes_of (text_from profile file raw (offset + n))));
  ends = λ file. h.ends file ∙ (code_at profile file raw offset code n lt is).ends;
}

pub copied_removed : (profile : Profile) (raw : List ℕ) (offset : ℕ) (done : List ℕ) (n : ℕ)
    → Copied profile raw offset done
    → offset < length raw
    → step_of profile (lacks_newline raw) (drop offset raw) ≡ Removed n
    → offset + n < length raw
    → Copied profile raw (offset + n) done
copied_removed profile raw offset done n h lt is more = record {
  codes = λ file. h.codes file ∙ ap (λ z. done ++ codes_of z) ((removed_at profile file raw offset n lt is).text more);
  ends = λ file. h.ends file ∙ (removed_at profile file raw offset n lt is).ends more;
}

-- The byte at this offset and the n bytes after it are characters of their own.
pub record OwnAt (profile : Profile) (raw : List ℕ) (offset n : ℕ) : Type 0 where
  pub in_bounds : offset < length raw
  pub step : step_of profile (lacks_newline raw) (drop offset raw) ≡ Code (get_or raw offset 0) 1
  pub more : OwnPrefix profile (lacks_newline raw) (drop (offset + 1) raw) n

pub own_at : (profile : Profile) (raw : List ℕ) (offset n : ℕ) → OwnPrefix profile (lacks_newline raw) (drop offset raw) (suc n) → OwnAt profile raw offset n
own_at profile raw offset n prefix =
    let l = length-drop offset raw in
    let l2 = length-drop (offset + 1) raw in
    let fits = prefix.fits in
    let lt : offset < length raw = omega arith in
    let is : drop offset raw ≡ get_or raw offset 0 ∷ drop (offset + 1) raw = drop_more raw offset 0 lt in
    record {
      in_bounds = lt;
      step = prefix.own 0 (omega arith) ∙ ap (λ z. Code (get_or z 0 0) 1) is;
      more = record {
        fits = omega arith;
        own = λ k lk. sym (ap (λ z. step_of profile (lacks_newline raw) (drop (suc k) z)) is) ∙ prefix.own (suc k) (omega arith) ∙ ap (λ z. Code (get_or z (suc k) 0) 1) is;
      };
    }

pub own_from : (profile : Profile) (n : ℕ) (file : ℕ) (raw : List ℕ) (offset : ℕ)
    → OwnPrefix profile (lacks_newline raw) (drop offset raw) n
    → (drop n (text_from profile file raw offset) ≡ text_from profile file raw (offset + n)) × (end_from profile file raw offset ≡ end_from profile file raw (offset + n))
own_from profile zero file raw offset prefix = (ap (text_from profile file raw) (sym (add-zero offset)), ap (end_from profile file raw) (sym (add-zero offset)))
own_from profile (suc n) file raw offset prefix =
    let one = own_at profile raw offset n prefix in
    let c = code_at profile file raw offset (get_or raw offset 0) 1 one.in_bounds one.step in
    let more = own_from profile n file raw (offset + 1) one.more in
    let e : offset + 1 + n ≡ offset + suc n = omega arith in
    (ap (drop (suc n)) c.text ∙ more.0 ∙ ap (text_from profile file raw) e, c.ends ∙ more.1 ∙ ap (end_from profile file raw) e)

pub copied_own : (profile : Profile) (n : ℕ) (raw : List ℕ) (offset : ℕ) (done : List ℕ) → Copied profile raw offset done → OwnPrefix profile (lacks_newline raw) (drop offset raw) n → Copied profile raw (offset + n) (done ++ take n (drop offset raw))
copied_own profile zero raw offset done h prefix = rw (add-zero, append-nil) h
copied_own profile (suc n) raw offset done h prefix =
    let one = own_at profile raw offset n prefix in
    let b = get_or raw offset 0 in
    let rest = drop (offset + 1) raw in
    let e : offset + 1 + n ≡ offset + suc n = omega arith in
    subst (λ k. Copied profile raw k (done ++ take (suc n) (drop offset raw))) e
    (subst (λ z. Copied profile raw (offset + 1 + n) z)
    (append_assoc done (b ∷ []) (take n rest) ∙ ap (λ z. done ++ take (suc n) z) (sym (drop_more raw offset 0 one.in_bounds)))
    (copied_own profile n raw (offset + 1) (done ++ b ∷ []) (copied_code profile raw offset done b 1 h one.in_bounds one.step) one.more))

-- After the last byte there is no splice.
pub no_splice : (profile : Profile) (file : ℕ) (raw : List ℕ) → end_from profile file raw (length raw) ≡ None
no_splice profile file raw = ap splice_at_end (at_end profile file raw) ∙ elim (lacks_newline raw) as (λ t. splice_at_end (supply t (end_place file raw)) ≡ None) [ true ↦ refl | false ↦ refl ]

-- If the file does not end in a splice, bytes follow the removed bytes.
pub removed_inside : (profile : Profile) (file : ℕ) (raw : List ℕ) (offset n : ℕ) → offset < length raw → step_of profile (lacks_newline raw) (drop offset raw) ≡ Removed n → end_from profile file raw offset ≡ None → offset + n < length raw
removed_inside profile file raw offset n lt is ends = inside (removed_at profile file raw offset n lt is)
  where
    some_none : (p : Place) → Some p ≡ None → ⊥
    some_none p e = cc

    inside : RemovedAt profile file raw offset n → offset + n < length raw
    inside r =
        let f = r.fits in
        let no_end : offset + n ≡ length raw → ⊥ = λ e. some_none (place_after (start file) (take offset raw)) (sym (r.last e) ∙ ends) in
        omega (arith, no_end)

-- At the end of the file the copy is complete, after a missing new-line is added.
pub whole_closed : (profile : Profile) (raw codes line_notes : List ℕ) → Copied profile raw (length raw) codes → IsTable profile (lacks_newline raw) raw line_notes → lacks_newline raw ≡ false → IsChangedText profile raw codes line_notes
whole_closed profile raw codes line_notes h table o = record {
  codes = λ file. sym (h.codes file ∙ ap (λ z. codes ++ codes_of (splices z)) (at_end profile file raw ∙ ap (λ t. supply t (end_place file raw)) o) ∙ append-nil codes);
  ends = λ file. h.ends file ∙ no_splice profile file raw;
  table = table;
}

pub whole_open : (profile : Profile) (raw codes line_notes : List ℕ) → Copied profile raw (length raw) codes → IsTable profile (lacks_newline raw) raw line_notes → lacks_newline raw ≡ true → IsChangedText profile raw (codes ++ 10 ∷ []) line_notes
whole_open profile raw codes line_notes h table o = record {
  codes = λ file. sym (h.codes file ∙ ap (λ z. codes ++ codes_of (splices z)) (at_end profile file raw ∙ ap (λ t. supply t (end_place file raw)) o));
  ends = λ file. h.ends file ∙ no_splice profile file raw;
  table = table;
}

-- The missing new-line is supplied after the last byte.
missing_more : (c : Char) (cs : List Char) → 0 < length cs → missing_newline (c ∷ cs) ≡ missing_newline cs
missing_more c [] lt = absurd (omega arith)
missing_more c (d ∷ cs) lt = refl

missing_is : (bs : List ℕ) (p : Place) → missing_newline (without_returns (placed_at p bs)) ≡ supply (lacks_newline bs) (place_after p bs)
missing_is [] p = refl
missing_is (b ∷ []) p =
    ap (λ z. missing_newline (without_returns z)) (placed_tail p b [])
    ∙ ap missing_newline (kept (record { code = b; at = p }) [] (and-false (b == 13)))
    ∙ elim (b == newline) as (λ t. (if t then [] else record { code = newline; at = next_col p } ∷ []) ≡ supply (not t) (if t then place p.file (p.line + 1) 1 else next_col p)) [ true ↦ refl | false ↦ refl ]
missing_is (b ∷ d ∷ bs) p =
    let q = after_byte b p in
    let c : Char = record { code = b; at = p } in
    let xs = placed_at q (d ∷ bs) in
    let in_bounds : 0 < length xs = omega arith in
    ap (λ z. missing_newline (without_returns z)) (placed_tail p b (d ∷ bs)) ∙ longer c xs in_bounds ∙ missing_is (d ∷ bs) q
  where
    longer : (c : Char) (xs : List Char) → 0 < length xs → missing_newline (without_returns (c ∷ xs)) ≡ missing_newline (without_returns xs)
    longer c xs in_bounds = by (is_return_at (c ∷ xs)) refl
      where
        by : (t : Bool) → is_return_at (c ∷ xs) ≡ t → missing_newline (without_returns (c ∷ xs)) ≡ missing_newline (without_returns xs)
        by true h = ap missing_newline (dropped c xs h)
        by false h = ap missing_newline (kept c xs h) ∙ missing_more c (without_returns xs) (returns_some xs in_bounds)

pub clean_is : (profile : Profile) (file : ℕ) (bytes : List ℕ) → cleaned profile file bytes ≡ unless_at (end_from profile file (without_bom bytes) 0) (text_from profile file (without_bom bytes) 0)
clean_is profile file bytes =
    let raw = without_bom bytes in
    ap (λ z. unless_at (splice_at_end (trigraphs profile (without_returns (with_locations file 1 1 raw) ++ z))) (splices (trigraphs profile (without_returns (with_locations file 1 1 raw) ++ z)))) (missing_is raw (start file))

pub clean_ok : (profile : Profile) (file : ℕ) (bytes raw : List ℕ) → raw ≡ without_bom bytes → end_from profile file raw 0 ≡ None → cleaned profile file bytes ≡ Ok (text_from profile file raw 0)
clean_ok profile file bytes raw same h = clean_is profile file bytes ∙ ap (λ z. unless_at (end_from profile file z 0) (text_from profile file z 0)) (sym same) ∙ ap (λ z. unless_at z (text_from profile file raw 0)) h

pub clean_err : (profile : Profile) (file : ℕ) (bytes raw : List ℕ) (p : Place) → raw ≡ without_bom bytes → end_from profile file raw 0 ≡ Some p → cleaned profile file bytes ≡ Err p
clean_err profile file bytes raw p same h = clean_is profile file bytes ∙ ap (λ z. unless_at (end_from profile file z 0) (text_from profile file z 0)) (sym same) ∙ ap (λ z. unless_at z (text_from profile file raw 0)) h

-- The state after `count` line notes have been counted, up to the offset `start`.
pub record Counted (profile : Profile) (raw : List ℕ) (start count : ℕ) : Type 0 where
  pub line_notes : List ℕ
  pub length : length line_notes ≡ count
  pub below : count ≤ start
  pub begun : Begun profile (lacks_newline raw) raw start line_notes
  pub ends : (file : ℕ) → end_from profile file raw 0 ≡ end_from profile file raw start

-- Counting one more line note preserves `Counted`, if its step does not change `end_from`.
pub counted_more : (profile : Profile) (raw : List ℕ) (start count n : ℕ) (step : CharStep)
    → Counted profile raw start count
    → n < length (drop start raw)
    → PlainRun profile (lacks_newline raw) (drop start raw) n
    → step_of profile (lacks_newline raw) (drop (start + n) raw) ≡ step
    → 0 < step_len step
    → start + n + step_len step ≤ length raw
    → ((file : ℕ) → end_from profile file raw (start + n) ≡ end_from profile file raw (start + n + step_len step))
    → Counted profile raw (start + n + step_len step) (count + 1)
counted_more profile raw start count n step h in_bounds plain_run is some fits ends = record {
  line_notes = h.line_notes ++ n ∷ [];
  length = omega (arith, length-append h.line_notes (n ∷ []), h.length);
  below = omega (arith, h.below);
  begun = begun_more profile (lacks_newline raw) raw start n (step_len step) h.line_notes h.begun in_bounds plain_run (ap step_len is) fits;
  ends = λ file. h.ends file ∙ (own_from profile n file raw start plain_run.prefix).1 ∙ ends file;
}

pub counted_code : (profile : Profile) (raw : List ℕ) (start count n code len : ℕ)
    → Counted profile raw start count
    → n < length (drop start raw)
    → PlainRun profile (lacks_newline raw) (drop start raw) n
    → step_of profile (lacks_newline raw) (drop (start + n) raw) ≡ Code code len
    → Counted profile raw (start + n + len) (count + 1)
counted_code profile raw start count n code len h in_bounds plain_run is =
    let l = length-drop start raw in
    let here : start + n < length raw = omega arith in
    let one = code_at profile 0 raw (start + n) code len here is in
    counted_more profile raw start count n (Code code len) h in_bounds plain_run is one.some one.fits (λ file. (code_at profile file raw (start + n) code len here is).ends)

pub counted_removed : (profile : Profile) (raw : List ℕ) (start count n len : ℕ)
    → Counted profile raw start count
    → n < length (drop start raw)
    → PlainRun profile (lacks_newline raw) (drop start raw) n
    → step_of profile (lacks_newline raw) (drop (start + n) raw) ≡ Removed len
    → (start + n + len ≡ length raw → ⊥)
    → Counted profile raw (start + n + len) (count + 1)
counted_removed profile raw start count n len h in_bounds plain_run is no_end =
    let l = length-drop start raw in
    let here : start + n < length raw = omega arith in
    let one = removed_at profile 0 raw (start + n) len here is in
    let more : start + n + len < length raw = omega (arith, one.fits, no_end) in
    counted_more profile raw start count n (Removed len) h in_bounds plain_run is one.some one.fits (λ file. (removed_at profile file raw (start + n) len here is).ends more)

pub counted_last : (profile : Profile) (raw : List ℕ) (start count n len : ℕ)
    → Counted profile raw start count
    → n < length (drop start raw)
    → PlainRun profile (lacks_newline raw) (drop start raw) n
    → step_of profile (lacks_newline raw) (drop (start + n) raw) ≡ Removed len
    → start + n + len ≡ length raw
    → EndsAt profile raw (start + n)
counted_last profile raw start count n len h in_bounds plain_run is end =
    let l = length-drop start raw in
    let here : start + n < length raw = omega arith in
    record {
      within = here;
      ends = λ file. h.ends file ∙ (own_from profile n file raw start plain_run.prefix).1 ∙ (removed_at profile file raw (start + n) len here is).last end;
    }

pub counted_all : (profile : Profile) (raw : List ℕ) (start count : ℕ) → Counted profile raw start count → PlainRun profile (lacks_newline raw) (drop start raw) (length (drop start raw)) → HasLineNotes profile raw count
counted_all profile raw start count h last =
    let l = length-drop start raw in
    let fits = h.begun.fits in
    let end : start + length (drop start raw) ≡ length raw = omega arith in
    record {
      ends = λ file. h.ends file ∙ (own_from profile (length (drop start raw)) file raw start last.prefix).1 ∙ ap (end_from profile file raw) end ∙ no_splice profile file raw;
      line_notes = h.line_notes;
      table = begun_all profile (lacks_newline raw) raw start h.line_notes h.begun last;
      length = h.length;
    }

-- nothing is copied yet
pub copied_none : (profile : Profile) (raw : List ℕ) → Copied profile raw 0 []
copied_none profile raw = record { codes = λ file. refl; ends = λ file. refl }

-- the copy and the table of line notes for the bytes before `start`
pub record Copies (profile : Profile) (raw : List ℕ) (start : ℕ) (codes line_notes : List ℕ) : Type 0 where
  pub copied : Copied profile raw start codes
  pub begun : Begun profile (lacks_newline raw) raw start line_notes

pub copies_code : (profile : Profile) (raw : List ℕ) (start n code len : ℕ) (codes line_notes : List ℕ)
    → Copies profile raw start codes line_notes
    → n < length (drop start raw)
    → PlainRun profile (lacks_newline raw) (drop start raw) n
    → step_of profile (lacks_newline raw) (drop (start + n) raw) ≡ Code code len
    → Copies profile raw (start + n + len) (codes ++ take n (drop start raw) ++ code ∷ []) (line_notes ++ n ∷ [])
copies_code profile raw start n code len codes line_notes h in_bounds plain_run is =
    let l = length-drop start raw in
    let here : start + n < length raw = omega arith in
    let at = copied_own profile n raw start codes h.copied plain_run.prefix in
    record {
      copied = copied_code profile raw (start + n) (codes ++ take n (drop start raw)) code len at here is;
      begun = begun_more profile (lacks_newline raw) raw start n len line_notes h.begun in_bounds plain_run (ap step_len is) (code_at profile 0 raw (start + n) code len here is).fits;
    }

pub copies_removed : (profile : Profile) (raw : List ℕ) (start n len : ℕ) (codes line_notes : List ℕ)
    → Copies profile raw start codes line_notes
    → end_from profile 0 raw 0 ≡ None
    → n < length (drop start raw)
    → PlainRun profile (lacks_newline raw) (drop start raw) n
    → step_of profile (lacks_newline raw) (drop (start + n) raw) ≡ Removed len
    → Copies profile raw (start + n + len) (codes ++ take n (drop start raw)) (line_notes ++ n ∷ [])
copies_removed profile raw start n len codes line_notes h ends in_bounds plain_run is =
    let l = length-drop start raw in
    let here : start + n < length raw = omega arith in
    let at = copied_own profile n raw start codes h.copied plain_run.prefix in
    let more = removed_inside profile 0 raw (start + n) len here is (sym (at.ends 0) ∙ ends) in
    record {
      copied = copied_removed profile raw (start + n) (codes ++ take n (drop start raw)) len at here is more;
      begun = begun_more profile (lacks_newline raw) raw start n len line_notes h.begun in_bounds plain_run (ap step_len is) (removed_at profile 0 raw (start + n) len here is).fits;
    }

-- the copy and the table of line notes at the end of the file
pub copies_all : (profile : Profile) (raw : List ℕ) (start : ℕ) (codes line_notes : List ℕ)
    → Copies profile raw start codes line_notes
    → PlainRun profile (lacks_newline raw) (drop start raw) (length (drop start raw))
    → Copied profile raw (length raw) (codes ++ drop start raw) × IsTable profile (lacks_newline raw) raw line_notes
copies_all profile raw start codes line_notes h last =
    let l = length-drop start raw in
    let fits = h.begun.fits in
    let end : start + length (drop start raw) ≡ length raw = omega arith in
    let all = take_all (length (drop start raw)) (drop start raw) (omega arith) in (
      subst (λ z. Copied profile raw (length raw) (codes ++ z)) all (subst (λ k. Copied profile raw k (codes ++ take (length (drop start raw)) (drop start raw))) end (copied_own profile (length (drop start raw)) raw start codes h.copied last.prefix)),
      begun_all profile (lacks_newline raw) raw start line_notes h.begun last,
    )

-- A file without line notes that ends in a new-line is its own cleaned text.
pub own_whole : (profile : Profile) (raw : List ℕ) → HasLineNotes profile raw 0 → lacks_newline raw ≡ false → IsChangedText profile raw raw []
own_whole profile raw h closed = by h.line_notes h.table h.length
  where
    by : (line_notes : List ℕ) → IsTable profile (lacks_newline raw) raw line_notes → length line_notes ≡ 0 → IsChangedText profile raw raw []
    by (n ∷ ns) table none = absurd (omega arith)
    by [] table none =
        let all : Copied profile raw (length raw) (take (length raw) raw) = subst (λ k. Copied profile raw k (take (length raw) raw)) (zero-add (length raw)) (copied_own profile (length raw) raw 0 [] (copied_none profile raw) table.prefix) in
        whole_closed profile raw raw [] (subst (Copied profile raw (length raw)) (take_all (length raw) raw (omega arith)) all) table closed
