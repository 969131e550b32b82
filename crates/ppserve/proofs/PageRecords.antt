-- Pages that are filled and written.
use Rattle.std.proofs.Common.{◌≡◌, ℕ, zero, suc, ◌+◌, ◌<◌, List, [], ◌∷◌, ◌++◌, length, get_or, take, drop, flat_map, refl, sym, ap, ◌∙◌, arith}
use Rattle.std.proofs.lemmas.Grind.{flat_map-append}
use Rattle.std.proofs.lemmas.List.{take_more, drop_more}
use Rattle.ppserve.specs.declared.rounds.Page.{Page}
use Rattle.std.specs.Prelude.{Bool, false, Option, Some, All}
use Rattle.std.proofs.lemmas.List.Elements.{All-weaker}
use Rattle.ppserve.specs.declared.line_cursor.LineCursor.{LineCursor}
use Rattle.ppserve.specs.declared.output.Output.{Output}
use Rattle.ppserve.specs.code.Printing.{Puts}
use Rattle.ppserve.specs.code.Records.{Record, Alike, IsOver}
use Rattle.ppserve.specs.code.Rounds.{page_records, IsAlike}
use Rattle.ppserve.proofs.BufferedPrinting.{more_of}
use Rattle.ppserve.proofs.KnownStreamBytes.{written_alone}

pub alike_then : {a b c : LineCursor} → Alike a b → Alike b c → Alike a c
alike_then p q = record { output = p.output ∙ q.output; flags = p.flags ∙ q.flags }

pub alike_back : {a b : LineCursor} → Alike a b → Alike b a
alike_back p = record { output = sym p.output; flags = sym p.flags }

-- Two positions in one output are alike.
both_over : {output : Output} {a b : LineCursor} → IsOver output a → IsOver output b → Alike a b
both_over p q = record { output = p.output ∙ sym q.output; flags = p.flags ∙ sym q.flags }

pub all_over : (output : Output) (c : LineCursor) (pages : List Page) → IsOver output c → All (λ page. IsOver output page.start) pages → All (IsAlike c) pages
all_over output c pages over all = All-weaker (λ page. IsOver output page.start) (IsAlike c) (λ page is. both_over is over) pages all

-- Pages that are alike one position are alike one that is alike it.
pub all_alike : (a b : LineCursor) (pages : List Page) → Alike a b → All (IsAlike a) pages → All (IsAlike b) pages
all_alike a b pages same all = All-weaker (IsAlike a) (IsAlike b) (λ page is. alike_then is same) pages all

-- If nothing is written and no write failed, a buffer that was empty has the text.
pub kept_lines : {V : Type 0} {written : V → Option (List ℕ)} {has_failed : V → Bool} {w v : V} {p q text : List ℕ}
    → p ≡ [] → written w ≡ Some [] → written v ≡ Some [] → has_failed v ≡ false → Puts written has_failed w v p q text → q ≡ text
kept_lines {written = written} {w = w} {v = v} {text = text} empty before after fine a =
    let none : [] ≡ a.prefix = written_alone (written w) (written v) [] a.prefix before after a.appends in
    sym (ap (λ (l : List ℕ). l ++ text) (sym empty) ∙ (a.parts ∙ (ap (λ (l : List ℕ). l ++ a.rest) (sym none) ∙ a.unwritten fine)))

-- Lists of pages with equal records, page by page, have equal records in total.
pub same_records : (xs ys : List Page) → length ys ≡ length xs → ((i : ℕ) (d : Page) → i < length xs → page_records (get_or ys i d) ≡ page_records (get_or xs i d)) → flat_map page_records ys ≡ flat_map page_records xs
same_records [] [] e each = refl
same_records [] (y ∷ ys) e each = absurd (omega (arith, e))
same_records (x ∷ xs) [] e each = absurd (omega (arith, e))
same_records (x ∷ xs) (y ∷ ys) e each =
    let later = same_records xs ys (omega (arith, e)) (λ i d below. each (suc i) d (omega (arith, below))) in
    rw (each 0 x (omega arith), later) refl

-- Lists that are equal from index `i` on are equal at `i` and after it.
pub same_from : {A : Type 0} (i : ℕ) (xs ys : List A) (d : A) → i < length xs → drop i xs ≡ drop i ys
    → (i < length ys) × (get_or xs i d ≡ get_or ys i d) × (drop (suc i) xs ≡ drop (suc i) ys)
same_from i [] ys d below same = absurd (omega (arith, below))
same_from zero (x ∷ xs) [] d below same = absurd (cc same)
same_from (suc i) (x ∷ xs) [] d below same = absurd (cc (sym (drop_more xs i x (omega (arith, below))) ∙ same))
same_from zero (x ∷ xs) (y ∷ ys) d below same = let first : x ≡ y = cc same in let rest : xs ≡ ys = cc same in (omega arith, first, rest)
same_from (suc i) (x ∷ xs) (y ∷ ys) d below same = let later = same_from i xs ys d (omega (arith, below)) same in (omega (arith, later.0), later.1, later.2)

-- The lines of the first `i` pages, followed by the lines of page `i`, are those of the first `i + 1` pages.
pub one_more_page : (lines : Record → List ℕ) (pages : List Page) (i : ℕ) (d page : Page) → i < length pages → page ≡ get_or pages i d
    → flat_map lines (flat_map page_records (take i pages)) ++ flat_map lines (page_records page) ≡ flat_map lines (flat_map page_records (take (i + 1) pages))
one_more_page lines pages i d page below is =
    let more : take (i + 1) pages ≡ take i pages ++ page ∷ [] = take_more pages i d below ∙ ap (λ p. take i pages ++ p ∷ []) (sym is) in
    sym (flat_map-append lines _ _) ∙ ap (flat_map lines) (sym (ap (flat_map page_records) more ∙ more_of page_records (take i pages) page))
