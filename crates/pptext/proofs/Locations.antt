-- A file's characters from an offset on: their locations, their columns and their number.
use Rattle.std.proofs.Common.{◌≡◌, ℕ, zero, suc, ◌+◌, ◌<◌, ◌==◌, Bool, true, false, List, [], ◌∷◌, length, drop, get_or, if◌then◌else◌, refl, ap, ◌∙◌, arith, ◌≤◌, ◌&&◌, length-append, None, Some}
use Rattle.std.proofs.Common.{Ok, Err, ◌-◌, not, ◌++◌, take, sym, length-drop}
use Rattle.std.proofs.lemmas.Bool.Decides.{nat_tests}
use Rattle.std.specs.Prelude.{Option, Result}
use Rattle.std.proofs.lemmas.List.{drop_more, take-append-drop, take-take, drop-take, length-map}
use Rattle.pptext.specs.declared.sources.Profile.{Profile}
use Rattle.pptext.specs.declared.sources.Profile.TheVariants.{C11, Later, Gnu}
use Rattle.pptext.specs.declared.tokens.Place.{Place}
use Rattle.pptext.specs.Clean.{newline, place, next_col, with_locations, without_bom, without_returns, is_return_at, missing_newline, terminated, trigraph_at, trigraphs_after, trigraphs, splice_at}
use Rattle.pptext.specs.Clean.{splices_after, splices, splice_at_end, unless_at, cleaned, codes_of}
use Rattle.pptext.specs.code.Steps.{place_after, lacks_newline, after_byte}
use Rattle.pptext.specs.declared.characters.Char.{Char}
use Rattle.pptext.specs.code.CleanedText.{start}

-- ---- the location after bytes, by the lines that end among them

along_byte : (t : Bool) (p : Place) → ¬ (t ≡ true) → (if t then place p.file (p.line + 1) 1 else next_col p) ≡ next_col p
along_byte true p h = absurd (h refl)
along_byte false p h = refl

pub along_line : (bs : List ℕ) (p : Place) → ((k : ℕ) → k < length bs → ¬ ((get_or bs k 0 == newline) ≡ true)) → place_after p bs ≡ place p.file p.line (p.col + length bs)
along_line [] p none = ap (place p.file p.line) (omega arith)
along_line (b ∷ bs) p none =
    ap (λ q. place_after q bs) (along_byte (b == newline) p (none 0 (omega arith)))
    ∙ along_line bs (next_col p) (λ k lt. none (suc k) (omega arith))
    ∙ ap (place p.file p.line) (omega arith)

pub line_passed : (n : ℕ) (bs : List ℕ) (p : Place) → n < length bs → ((k : ℕ) → k < n → ¬ ((get_or bs k 0 == newline) ≡ true)) → (get_or bs n 0 == newline) ≡ true
    → place_after p bs ≡ place_after (place p.file (p.line + 1) 1) (drop (suc n) bs)
line_passed n [] p lt none ends = absurd (omega arith)
line_passed zero (b ∷ bs) p lt none ends = ap (λ (t : Bool). place_after (if t then place p.file (p.line + 1) 1 else next_col p) bs) ends
line_passed (suc n) (b ∷ bs) p lt none ends =
    ap (λ q. place_after q bs) (along_byte (b == newline) p (none 0 (omega arith)))
    ∙ line_passed n bs (next_col p) (omega arith) (λ k below. none (suc k) (omega arith)) ends

not_newline : (c : ℕ) → (c ≡ 10 → ⊥) → (c == newline) ≡ true → ⊥
not_newline c none e = grind (arith, nat_tests)

pub no_line_passed : (bs : List ℕ) (p : Place) → ((k : ℕ) → k < length bs → get_or bs k 0 ≡ 10 → ⊥) → place_after p bs ≡ place p.file p.line (p.col + length bs)
no_line_passed bs p none = along_line bs p (λ k lt. not_newline (get_or bs k 0) (none k lt))

-- ---- the columns of a file's characters are at most one more than its length

pub unmarked_length : (bs : List ℕ) → length (without_bom bs) ≤ length bs
unmarked_length [] = omega arith
unmarked_length (a ∷ []) = omega arith
unmarked_length (a ∷ b ∷ []) = omega arith
unmarked_length (a ∷ b ∷ c ∷ bs) =
    elim (a == 0xef && (b == 0xbb && c == 0xbf)) as (λ t. length (if t then bs else a ∷ b ∷ c ∷ bs) ≤ length (a ∷ b ∷ c ∷ bs)) [ true ↦ omega arith | false ↦ omega arith ]

-- ---- phases 1 and 2 add at most one character

pub placed_length : (file line col : ℕ) (bs : List ℕ) → length (with_locations file line col bs) ≡ length bs
placed_length file line col [] = refl
placed_length file line col (b ∷ bs) =
    elim (b == newline) as (λ t. suc (length (if t then with_locations file (line + 1) 1 bs else with_locations file line (col + 1) bs)) ≡ suc (length bs)) [
      | true ↦ ap suc (placed_length file (line + 1) 1 bs)
      | false ↦ ap suc (placed_length file line (col + 1) bs)
    ]

returns_length : (cs : List Char) → length (without_returns cs) ≤ length cs
returns_length [] = omega arith
returns_length (c ∷ cs) =
    let more = returns_length cs in
    elim (is_return_at (c ∷ cs)) as (λ t. length (if t then without_returns cs else c ∷ without_returns cs) ≤ suc (length cs)) [ true ↦ omega arith | false ↦ omega arith ]

missing_length : (cs : List Char) → length (missing_newline cs) ≤ 1
missing_length [] = omega arith
missing_length (c ∷ []) =
    elim (c.code == newline) as (λ t. length {A = Char} (if t then [] else record { code = newline; at = next_col c.at } ∷ []) ≤ 1) [ true ↦ omega arith | false ↦ omega arith ]
missing_length (c ∷ d ∷ cs) = missing_length (d ∷ cs)

trigraphs_length : (skip : ℕ) (cs : List Char) → length (trigraphs_after skip cs) ≤ length cs
trigraphs_length zero [] = omega arith
trigraphs_length (suc skip) [] = omega arith
trigraphs_length (suc skip) (c ∷ cs) = let more = trigraphs_length skip cs in omega arith
trigraphs_length zero (c ∷ cs) =
    let plain = trigraphs_length 0 cs in
    let replaced = trigraphs_length 2 cs in
    elim (trigraph_at (c ∷ cs) == 0) as
    (λ t. length (if t then c ∷ trigraphs_after 0 cs else record { code = trigraph_at (c ∷ cs); at = c.at } ∷ trigraphs_after 2 cs) ≤ suc (length cs))
    [ true ↦ omega arith | false ↦ omega arith ]

replaced_length : (profile : Profile) (cs : List Char) → length (trigraphs profile cs) ≤ length cs
replaced_length C11 cs = trigraphs_length 0 cs
replaced_length Later cs = trigraphs_length 0 cs
replaced_length Gnu cs = omega arith

splices_length : (skip : ℕ) (cs : List Char) → length (splices_after skip cs) ≤ length cs
splices_length zero [] = omega arith
splices_length (suc skip) [] = omega arith
splices_length (suc skip) (c ∷ cs) = let more = splices_length skip cs in omega arith
splices_length zero (c ∷ cs) =
    let kept = splices_length 0 cs in
    let removed = splices_length 1 cs in
    elim (splice_at (c ∷ cs)) as (λ t. length (if t then splices_after 1 cs else c ∷ splices_after 0 cs) ≤ suc (length cs)) [ true ↦ omega arith | false ↦ omega arith ]

unless_ok : (o : Option Place) (cs chars : List Char) → unless_at o cs ≡ Ok chars → cs ≡ chars
unless_ok None cs chars e = let both : ◌≡◌ {A = Result (List Char) Place} (Ok cs) (Ok chars) = e in cc
unless_ok (Some p) cs chars e = let both : ◌≡◌ {A = Result (List Char) Place} (Err p) (Ok chars) = e in absurd cc

pub cleaned_length : (profile : Profile) (file : ℕ) (bytes : List ℕ) (chars : List Char) → cleaned profile file bytes ≡ Ok chars → length chars ≤ length bytes + 1
cleaned_length profile file bytes chars e =
    let raw = without_bom bytes in
    let kept = without_returns (with_locations file 1 1 raw) in
    let ended = terminated kept in
    let same : splices (trigraphs profile ended) ≡ chars = unless_ok (splice_at_end (trigraphs profile ended)) (splices (trigraphs profile ended)) chars e in
    omega (
      arith,
      ap length same,
      splices_length 0 (trigraphs profile ended),
      replaced_length profile ended,
      length-append kept (missing_newline kept),
      missing_length kept,
      returns_length (with_locations file 1 1 raw),
      placed_length file 1 1 raw,
      unmarked_length bytes,
    )

-- ---- a file's characters from an offset on, and their locations

pub open_end_is : (n : ℕ) (bs : List ℕ) → length bs ≡ suc n → lacks_newline bs ≡ not (get_or bs n 0 == 10)
open_end_is n [] e = absurd (omega arith)
open_end_is zero (b ∷ []) e = refl
open_end_is zero (b ∷ c ∷ bs) e = absurd (omega arith)
open_end_is (suc n) (b ∷ []) e = absurd (omega arith)
open_end_is (suc n) (b ∷ c ∷ bs) e = open_end_is n (c ∷ bs) (omega arith)

abbrev pub placed_at : Place → List ℕ → List Char
placed_at p bs = with_locations p.file p.line p.col bs

pub placed_tail : (p : Place) (b : ℕ) (bs : List ℕ) → placed_at p (b ∷ bs) ≡ record { code = b; at = p } ∷ placed_at (after_byte b p) bs
placed_tail p b bs =
    elim (b == newline) as (λ t. record { code = b; at = p } ∷ (if t then with_locations p.file (p.line + 1) 1 bs else with_locations p.file p.line (p.col + 1) bs)
    ≡ record { code = b; at = p } ∷ placed_at (if t then place p.file (p.line + 1) 1 else next_col p) bs) [
      | true ↦ refl
      | false ↦ refl
    ]

pub placed_codes : (bs : List ℕ) (p : Place) → codes_of (placed_at p bs) ≡ bs
placed_codes [] p = refl
placed_codes (b ∷ bs) p = ap codes_of (placed_tail p b bs) ∙ ap (λ z. b ∷ z) (placed_codes bs (after_byte b p))

pub placed_drop : (n : ℕ) (bs : List ℕ) (p : Place) → drop n (placed_at p bs) ≡ placed_at (place_after p (take n bs)) (drop n bs)
placed_drop zero bs p = refl
placed_drop (suc n) [] p = refl
placed_drop (suc n) (b ∷ bs) p = ap (drop (suc n)) (placed_tail p b bs) ∙ placed_drop n bs (after_byte b p)

pub behind_append : (xs ys : List ℕ) (p : Place) → place_after p (xs ++ ys) ≡ place_after (place_after p xs) ys
behind_append [] ys p = refl
behind_append (x ∷ xs) ys p = behind_append xs ys (after_byte x p)

-- the bounds of a location that is n bytes after another one
pub record Behind (p q : Place) (n : ℕ) : Type 0 where
  pub file : q.file ≡ p.file
  pub line : q.line ≤ p.line + n
  pub col : q.col ≤ p.col + n
  pub one : 1 ≤ q.col

grown : (p q r : Place) (n : ℕ) → q.file ≡ p.file → q.line ≤ p.line + 1 → q.col ≤ p.col + 1 → Behind q r n → Behind p r (suc n)
grown p q r n f l c h = record { file = h.file ∙ f; line = omega (arith, h.line); col = omega (arith, h.col); one = h.one }

pub behind_bounds : (bs : List ℕ) (p : Place) → 1 ≤ p.col → Behind p (place_after p bs) (length bs)
behind_bounds [] p h = record { file = refl; line = omega arith; col = omega arith; one = h }
behind_bounds (b ∷ bs) p h =
    elim (b == newline) as (λ t. Behind p (place_after (if t then place p.file (p.line + 1) 1 else next_col p) bs) (suc (length bs))) [
      | true ↦ grown p (place p.file (p.line + 1) 1) _ (length bs) refl (omega arith) (omega arith) (behind_bounds bs (place p.file (p.line + 1) 1) (omega arith))
      | false ↦ grown p (next_col p) _ (length bs) refl (omega arith) (omega arith) (behind_bounds bs (next_col p) (omega arith))
    ]

pub take_add : {X : Type 0} (n m : ℕ) (xs : List X) → take (n + m) xs ≡ take n xs ++ take m (drop n xs)
take_add n m xs = sym (take-append-drop n (take (n + m) xs)) ∙ ap (λ z. z ++ drop n (take (n + m) xs)) (take-take n (n + m) xs (omega arith)) ∙ ap (λ z. take n xs ++ z) (drop-take n m xs)

-- the character at an offset, and those after it
pub record Here (file : ℕ) (raw : List ℕ) (offset : ℕ) : Type 0 where
  pub head : Char
  pub rest : List Char
  pub is : drop offset (with_locations file 1 1 raw) ≡ head ∷ rest
  pub codes : codes_of (head ∷ rest) ≡ drop offset raw
  pub at : head.at ≡ place_after (start file) (take offset raw)
  pub in_bounds : suc (length rest) ≡ length raw - offset

pub here : (file : ℕ) (raw : List ℕ) (offset : ℕ) → offset < length raw → Here file raw offset
here file raw offset lt =
    let q = place_after (start file) (take offset raw) in
    let b = get_or raw offset 0 in
    let c : Char = record { code = b; at = q } in
    let cs = placed_at (after_byte b q) (drop (offset + 1) raw) in
    let is : drop offset (with_locations file 1 1 raw) ≡ c ∷ cs = placed_drop offset raw (start file) ∙ ap (placed_at q) (drop_more raw offset 0 lt) ∙ placed_tail q b (drop (offset + 1) raw) in
    let codes : codes_of (c ∷ cs) ≡ drop offset raw = ap (λ z. b ∷ z) (placed_codes (drop (offset + 1) raw) (after_byte b q)) ∙ sym (drop_more raw offset 0 lt) in
    record {
      head = c;
      rest = cs;
      is = is;
      codes = codes;
      at = refl;
      in_bounds = sym (length-map (c ∷ cs) (λ (y : Char). y.code)) ∙ ap length codes ∙ length-drop offset raw;
    }
