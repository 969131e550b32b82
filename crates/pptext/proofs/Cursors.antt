-- A cursor over a file's bytes that moves from character to character.
use Rattle.std.proofs.Common.{◌≡◌, ℕ, suc, ◌+◌, ◌-◌, ◌<◌, ◌≤◌, Bool, true, false, List, [], ◌∷◌, length, take, drop, get_or, sym, ap, ◌∙◌, arith, None, length-drop, add-zero, zero-add, refl, subst}
use Rattle.std.proofs.lemmas.List.{drop-drop, drop-map, get_or-drop, get_or-take, take_all, length-take-le}
use Rattle.pptext.specs.declared.sources.Profile.{Profile}
use Rattle.pptext.specs.declared.tokens.Place.{Place}
use Rattle.pptext.specs.declared.characters.Char.{Char}
use Rattle.pptext.specs.declared.cleaned_text.TextCursor.TheInside.{Inside}
use Rattle.pptext.specs.Clean.{codes_of, place, splices}
use Rattle.pptext.specs.code.LineNotes.{IsTable, PlainRun, after_note, step_len}
use Rattle.pptext.specs.code.Steps.{Code, Removed, lacks_newline, step_of, place_after}
use Rattle.pptext.specs.code.CleanedText.{InLine, TextCursor, supply, start, end_from, text_from, IsCursorAt}
use Rattle.pptext.proofs.Locations.{no_line_passed, behind_append, behind_bounds, take_add}
use Rattle.pptext.proofs.LineNoteLemmas.{behind_at, own_less, stretch_rest, table_next}
use Rattle.pptext.proofs.CleanedCopies.{code_at, removed_at, removed_inside, at_end, own_at, own_from}

-- The fields of the code's cursor equal the fields of the `TextCursor` in contracts.
pub record Opened (a : Inside) (c : TextCursor) : Type 0 where
  pub consumed : a.consumed ≡ c.consumed
  pub offset : a.offset ≡ c.offset
  pub plain : a.plain ≡ c.plain

pub after_line : (a : Inside) (c : TextCursor) → record { consumed = a.consumed; offset = a.offset; plain = a.plain; next = a.next; at = a.at } ≡ c → Opened a c
after_line a c e = record { consumed = ap (λ (x : TextCursor). x.consumed) e; offset = ap (λ (x : TextCursor). x.offset) e; plain = ap (λ (x : TextCursor). x.plain) e }

-- the bounds of a cursor's location
pub record Bounds (file : ℕ) (c : TextCursor) : Type 0 where
  pub same_file : c.at.file ≡ file
  pub line : c.at.line ≤ c.offset + 1
  pub col : c.at.col ≤ c.offset + 1

pub bounds : (profile : Profile) (file : ℕ) (raw line_notes : List ℕ) (c : TextCursor) → IsCursorAt profile file raw line_notes c → Bounds file c
bounds profile file raw line_notes c s =
    let b = behind_bounds (take c.offset raw) (start file) (omega arith) in
    let l = length-take-le c.offset raw s.within in
    let f = ap (λ (p : Place). p.file) s.at in
    let m = ap (λ (p : Place). p.line) s.at in
    let n = ap (λ (p : Place). p.col) s.at in
    record { same_file = f ∙ b.file; line = omega (arith, b.line); col = omega (arith, b.col) }

moved : (profile : Profile) (file : ℕ) (raw line_notes : List ℕ) (c : TextCursor) (n : ℕ) → IsCursorAt profile file raw line_notes c → place_after c.at (take n (drop c.offset raw)) ≡ place_after (start file) (take (c.offset + n) raw)
moved profile file raw line_notes c n s = ap (λ p. place_after p (take n (drop c.offset raw))) s.at
    ∙ sym (behind_append (take c.offset raw) (take n (drop c.offset raw)) (start file))
    ∙ ap (place_after (start file)) (sym (take_add c.offset n raw))

-- the cursor after it has passed the n bytes of a line note
abbrev pub behind : List ℕ → List ℕ → TextCursor → ℕ → ℕ → TextCursor
behind raw line_notes c consumed n = record { consumed = consumed; offset = c.offset + n; plain = get_or line_notes c.next (length raw - (c.offset + n)); next = c.next + 1; at = place_after c.at (take n (drop c.offset raw)) }

-- the plain bytes after a line note, and the rest of the table
pub record Onward (profile : Profile) (raw line_notes : List ℕ) (offset next n : ℕ) : Type 0 where
  pub plain_run : PlainRun profile (lacks_newline raw) (drop (offset + n) raw) (get_or line_notes next (length raw - (offset + n)))
  pub table : IsTable profile (lacks_newline raw) (after_note profile (lacks_newline raw) (drop (offset + n + get_or line_notes next (length raw - (offset + n))) raw)) (drop (next + 1) line_notes)

abbrev Reads : Profile → List ℕ → List ℕ → ℕ → ℕ → ℕ → Type 0
Reads profile raw line_notes offset next last =
    PlainRun profile (lacks_newline raw) (drop offset raw) (get_or line_notes next last)
    × IsTable profile (lacks_newline raw) (after_note profile (lacks_newline raw) (drop (get_or line_notes next last) (drop offset raw))) (drop (next + 1) line_notes)

onward : (profile : Profile) (file : ℕ) (raw line_notes : List ℕ) (c : TextCursor) (n : ℕ) → IsCursorAt profile file raw line_notes c → c.plain ≡ 0 → step_len (step_of profile (lacks_newline raw) (drop c.offset raw)) ≡ n → Onward profile raw line_notes c.offset c.next n
onward profile file raw line_notes c n s none is = record { plain_run = read.0; table = subst (λ z. IsTable profile (lacks_newline raw) (after_note profile (lacks_newline raw) z) (drop (c.next + 1) line_notes)) (drop-drop _ (c.offset + n) raw) read.1 }
  where
    here : drop (c.offset + c.plain) raw ≡ drop c.offset raw
    here = ap (λ k. drop k raw) (omega arith)

    rest : IsTable profile (lacks_newline raw) (drop (c.offset + n) raw) (drop c.next line_notes)
    rest = subst (λ z. IsTable profile (lacks_newline raw) z (drop c.next line_notes)) (ap (after_note profile (lacks_newline raw)) here ∙ behind_at profile (lacks_newline raw) raw c.offset n is) s.table

    read : Reads profile raw line_notes (c.offset + n) c.next (length raw - (c.offset + n))
    read = subst (Reads profile raw line_notes (c.offset + n) c.next) (length-drop (c.offset + n) raw) (table_next profile (lacks_newline raw) (drop (c.offset + n) raw) line_notes c.next rest)

pub skip_removed : (profile : Profile) (file : ℕ) (raw line_notes : List ℕ) (c : TextCursor) (n : ℕ)
    → IsCursorAt profile file raw line_notes c
    → c.plain ≡ 0
    → c.offset < length raw
    → step_of profile (lacks_newline raw) (drop c.offset raw) ≡ Removed n
    → (c.offset < c.offset + n) × (c.offset + n ≤ length raw) × IsCursorAt profile file raw line_notes (behind raw line_notes c c.consumed n)
skip_removed profile file raw line_notes c n s none lt is =
    let r = removed_at profile file raw c.offset n lt is in
    let inner = removed_inside profile file raw c.offset n lt is s.ends in
    let o = onward profile file raw line_notes c n s none (ap step_len is) in
    let before = s.next in (
      omega (arith, r.some),
      r.fits,
      record {
        within = r.fits;
        at = moved profile file raw line_notes c n s;
        rest = s.rest ∙ r.text inner;
        ends = sym (r.ends inner) ∙ s.ends;
        plain_run = o.plain_run;
        next = omega (arith, r.some);
        table = o.table;
      },
    )

pub pass_code : (profile : Profile) (file : ℕ) (raw line_notes : List ℕ) (c : TextCursor) (code n : ℕ)
    → IsCursorAt profile file raw line_notes c
    → c.plain ≡ 0
    → c.offset < length raw
    → step_of profile (lacks_newline raw) (drop c.offset raw) ≡ Code code n
    → (c.offset < c.offset + n) × (c.offset + n ≤ length raw) × IsCursorAt profile file raw line_notes (behind raw line_notes c (c.consumed + 1) n)
pass_code profile file raw line_notes c code n s none lt is =
    let r = code_at profile file raw c.offset code n lt is in
    let o = onward profile file raw line_notes c n s none (ap step_len is) in
    let before = s.next in (
      omega (arith, r.some),
      r.fits,
      record {
        within = r.fits;
        at = moved profile file raw line_notes c n s;
        rest = sym (drop-drop 1 c.consumed (text_from profile file raw 0)) ∙ ap (drop 1) (s.rest ∙ r.text);
        ends = sym r.ends ∙ s.ends;
        plain_run = o.plain_run;
        next = omega (arith, r.some);
        table = o.table;
      },
    )

pub pass_plain : (profile : Profile) (file : ℕ) (raw line_notes : List ℕ) (c : TextCursor) (n : ℕ)
    → IsCursorAt profile file raw line_notes c
    → n ≤ c.plain
    → (c.offset + n ≤ length raw)
    × IsCursorAt profile file raw line_notes
    (record { consumed = c.consumed + n; offset = c.offset + n; plain = c.plain - n; next = c.next; at = place_after c.at (take n (drop c.offset raw)) })
pass_plain profile file raw line_notes c n s le =
    let prefix = own_less profile (lacks_newline raw) (drop c.offset raw) n c.plain le s.plain_run.prefix in
    let p = own_from profile n file raw c.offset prefix in
    let l = length-drop c.offset raw in
    let w = s.within in
    let before = s.next in
    let fits : c.offset + n ≤ length raw = omega (arith, prefix.fits) in
    let same : c.offset + c.plain ≡ c.offset + n + (c.plain - n) = omega arith in (
      fits,
      record {
        within = fits;
        at = moved profile file raw line_notes c n s;
        rest = sym (drop-drop n c.consumed (text_from profile file raw 0)) ∙ ap (drop n) s.rest ∙ p.0;
        ends = sym p.1 ∙ s.ends;
        plain_run = stretch_rest profile (lacks_newline raw) raw c.offset n c.plain le s.plain_run;
        next = omega arith;
        table = subst (λ k. IsTable profile (lacks_newline raw) (after_note profile (lacks_newline raw) (drop k raw)) (drop c.next line_notes)) same s.table;
      },
    )

pub stands_first : (profile : Profile) (file : ℕ) (raw line_notes : List ℕ)
    → end_from profile file raw 0 ≡ None
    → IsTable profile (lacks_newline raw) raw line_notes
    → IsCursorAt profile file raw line_notes (record { consumed = 0; offset = 0; plain = get_or line_notes 0 (length raw); next = 1; at = start file })
stands_first profile file raw line_notes ends table =
    let read = table_next profile (lacks_newline raw) raw line_notes 0 table in
    record { within = omega arith; at = refl; rest = refl; ends = ends; plain_run = read.0; next = omega arith; table = rw zero-add read.1 }

head_at : (cs : List Char) (n : ℕ) (d x : Char) (xs : List Char) → drop n cs ≡ x ∷ xs → get_or cs n d ≡ x
head_at cs n d x xs e = sym (get_or-drop n cs 0 d ∙ ap (λ k. get_or cs k d) (add-zero n)) ∙ ap (λ z. get_or z 0 d) e

pub stands_at_code : (profile : Profile) (file : ℕ) (raw line_notes : List ℕ) (c : TextCursor) (code n : ℕ) (d : Char)
    → IsCursorAt profile file raw line_notes c
    → c.offset < length raw
    → step_of profile (lacks_newline raw) (drop c.offset raw) ≡ Code code n
    → c.at ≡ (get_or (text_from profile file raw 0) c.consumed d).at
stands_at_code profile file raw line_notes c code n d s lt is =
    let r = code_at profile file raw c.offset code n lt is in
    s.at ∙ sym (ap (λ (x : Char). x.at) (head_at (text_from profile file raw 0) c.consumed d _ _ (s.rest ∙ r.text)))

-- If plain bytes follow, the cursor's location is the location of its next character.
stands_at_plain : (profile : Profile) (file : ℕ) (raw line_notes : List ℕ) (c : TextCursor) (d : Char) → IsCursorAt profile file raw line_notes c → 0 < c.plain → c.at ≡ (get_or (text_from profile file raw 0) c.consumed d).at
stands_at_plain profile file raw line_notes c d s some =
    let one = own_at profile raw c.offset (c.plain - 1) (own_less profile (lacks_newline raw) (drop c.offset raw) (suc (c.plain - 1)) c.plain (omega arith) s.plain_run.prefix) in
    stands_at_code profile file raw line_notes c (get_or raw c.offset 0) 1 d s one.in_bounds one.step

-- the cursor is directly before the character with index `to`
pub record InFront (profile : Profile) (file : ℕ) (raw line_notes : List ℕ) (to : ℕ) (c : TextCursor) : Type 0 where
  pub is_there : IsCursorAt profile file raw line_notes c
  pub consumed : c.consumed ≡ to
  pub same_file : c.at.file ≡ file
  pub place : (d : Char) → c.at ≡ (get_or (text_from profile file raw 0) to d).at

in_front : (profile : Profile) (file : ℕ) (raw line_notes : List ℕ) (to : ℕ) (c : TextCursor) → IsCursorAt profile file raw line_notes c → 0 < c.plain → c.consumed ≡ to → InFront profile file raw line_notes to c
in_front profile file raw line_notes to c is_there some consumed = record {
  is_there = is_there;
  consumed = consumed;
  same_file = (bounds profile file raw line_notes c is_there).same_file;
  place = λ d. stands_at_plain profile file raw line_notes c d is_there some ∙ ap (λ k. (get_or (text_from profile file raw 0) k d).at) consumed;
}

-- A cursor that is moved over plain bytes to the character with index `to` is directly before it.
pub arrives : (profile : Profile) (file : ℕ) (raw line_notes : List ℕ) (c after : TextCursor) (to : ℕ)
    → IsCursorAt profile file raw line_notes c
    → c.consumed ≤ to
    → to - c.consumed < c.plain
    → after ≡ record {
      consumed = c.consumed + (to - c.consumed);
      offset = c.offset + (to - c.consumed);
      plain = c.plain - (to - c.consumed);
      next = c.next;
      at = place_after c.at (take (to - c.consumed) (drop c.offset raw));
    }
    → InFront profile file raw line_notes to after
arrives profile file raw line_notes c after to is_there forward near is =
    let s = pass_plain profile file raw line_notes c (to - c.consumed) is_there (omega arith) in
    let some : after.plain ≡ c.plain - (to - c.consumed) = ap (λ (x : TextCursor). x.plain) is in
    let consumed : after.consumed ≡ c.consumed + (to - c.consumed) = ap (λ (x : TextCursor). x.consumed) is in
    in_front profile file raw line_notes to after (subst (IsCursorAt profile file raw line_notes) (sym is) s.1) (omega arith) (omega arith)

code_of_head : (cs : List Char) (n : ℕ) (x : Char) (xs : List Char) → drop n cs ≡ x ∷ xs → get_or (codes_of cs) n 0 ≡ x.code
code_of_head cs n x xs e =
    sym (get_or-drop n (codes_of cs) 0 0 ∙ ap (λ k. get_or (codes_of cs) k 0) (add-zero n))
    ∙ ap (λ (z : List ℕ). get_or z 0 0) (drop-map (λ (c : Char). c.code) n cs ∙ ap codes_of e)

-- If plain bytes follow, the code of the next character is the byte at the cursor's offset.
code_at_plain : (profile : Profile) (file : ℕ) (raw line_notes : List ℕ) (c : TextCursor) → IsCursorAt profile file raw line_notes c → 0 < c.plain → get_or (codes_of (text_from profile file raw 0)) c.consumed 0 ≡ get_or raw c.offset 0
code_at_plain profile file raw line_notes c s some =
    let one = own_at profile raw c.offset (c.plain - 1) (own_less profile (lacks_newline raw) (drop c.offset raw) (suc (c.plain - 1)) c.plain (omega arith) s.plain_run.prefix) in
    let r = code_at profile file raw c.offset (get_or raw c.offset 0) 1 one.in_bounds one.step in
    code_of_head (text_from profile file raw 0) c.consumed _ _ (s.rest ∙ r.text)

-- The bytes that a cursor passes are no new-lines if no line ends before `to`.
bytes_in_line : (profile : Profile) (file : ℕ) (raw line_notes : List ℕ) (c : TextCursor) (line to k : ℕ)
    → IsCursorAt profile file raw line_notes c
    → to - c.consumed < c.plain
    → line ≤ c.consumed
    → InLine (codes_of (text_from profile file raw 0)) line to
    → k < to - c.consumed
    → get_or (take (to - c.consumed) (drop c.offset raw)) k 0 ≡ 10 → ⊥
bytes_in_line profile file raw line_notes c line to k s near behind in_line lt e =
    let there = pass_plain profile file raw line_notes c k s (omega arith) in
    let code = code_at_plain profile file raw line_notes (record { consumed = c.consumed + k; offset = c.offset + k; plain = c.plain - k; next = c.next; at = place_after c.at (take k (drop c.offset raw)) }) there.1 (omega arith) in
    in_line (c.consumed + k) (omega arith) (omega arith)
    (code ∙ sym (get_or-drop c.offset raw k 0) ∙ sym (get_or-take (to - c.consumed) (drop c.offset raw) k 0 lt) ∙ e)

-- As `arrives`, if no line ends among the bytes: only the column grows.
pub arrives_along : (profile : Profile) (file : ℕ) (raw line_notes : List ℕ) (c after : TextCursor) (to line : ℕ)
    → IsCursorAt profile file raw line_notes c
    → c.consumed ≤ to
    → to - c.consumed < c.plain
    → line ≤ c.consumed
    → InLine (codes_of (text_from profile file raw 0)) line to
    → after ≡ record {
      consumed = c.consumed + (to - c.consumed);
      offset = c.offset + (to - c.consumed);
      plain = c.plain - (to - c.consumed);
      next = c.next;
      at = place c.at.file c.at.line (c.at.col + (to - c.consumed));
    }
    → InFront profile file raw line_notes to after
arrives_along profile file raw line_notes c after to line s forward near behind in_line is =
    let n = to - c.consumed in
    let bytes = take n (drop c.offset raw) in
    let in_bounds = (pass_plain profile file raw line_notes c n s (omega arith)).0 in
    let l = length-drop c.offset raw in
    let long : length bytes ≡ n = length-take-le n (drop c.offset raw) (omega arith) in
    let moved : place_after c.at bytes ≡ place c.at.file c.at.line (c.at.col + n) =
    no_line_passed bytes c.at (λ k lt. bytes_in_line profile file raw line_notes c line to k s near behind in_line (omega (arith, long)))
    ∙ ap (λ m. place c.at.file c.at.line (c.at.col + m)) long in
    arrives profile file raw line_notes c after to s forward near
    (is ∙ ap (λ (p : Place). record { consumed = c.consumed + n; offset = c.offset + n; plain = c.plain - n; next = c.next; at = p }) (sym moved))

-- At the end of the bytes there is only the supplied new-line.
abbrev end_text : ℕ → List ℕ → Bool → List Char
end_text file raw t = splices (supply t (place_after (start file) raw))

pub stands_at_end : (profile : Profile) (file : ℕ) (raw line_notes : List ℕ) (c : TextCursor) (to : ℕ)
    → IsCursorAt profile file raw line_notes c
    → length raw ≤ c.offset
    → c.consumed ≤ to
    → to < length (text_from profile file raw 0)
    → (c.consumed ≡ to) × ((d : Char) → c.at ≡ (get_or (text_from profile file raw 0) to d).at)
stands_at_end profile file raw line_notes c to s past forward within =
    let w = s.within in
    let e : c.offset ≡ length raw = omega arith in
    let rest : drop c.consumed (text_from profile file raw 0) ≡ end_text file raw (lacks_newline raw) = s.rest ∙ ap (text_from profile file raw) e ∙ ap splices (at_end profile file raw) in
    let at : c.at ≡ place_after (start file) raw = s.at ∙ ap (λ k. place_after (start file) (take k raw)) e ∙ ap (place_after (start file)) (take_all (length raw) raw (omega arith)) in
    by (lacks_newline raw) rest at
  where
    by : (t : Bool) → drop c.consumed (text_from profile file raw 0) ≡ end_text file raw t → c.at ≡ place_after (start file) raw → (c.consumed ≡ to) × ((d : Char) → c.at ≡ (get_or (text_from profile file raw 0) to d).at)
    by false rest at =
        let l = length-drop c.consumed (text_from profile file raw 0) in
        let z : length (drop c.consumed (text_from profile file raw 0)) ≡ 0 = ap length rest in
        absurd (omega arith)
    by true rest at =
        let l = length-drop c.consumed (text_from profile file raw 0) in
        let z : length (drop c.consumed (text_from profile file raw 0)) ≡ 1 = ap length rest in
        let same : c.consumed ≡ to = omega arith in
        (same, λ d. at ∙ sym (ap (λ (x : Char). x.at) (ap (λ k. get_or (text_from profile file raw 0) k d) (sym same) ∙ head_at (text_from profile file raw 0) c.consumed d (record { code = 10; at = place_after (start file) raw }) [] rest)))
