-- A text begins anew at each mark: the text of items is that of their segments, one after another.
use Rattle.std.proofs.Common.{◌≡◌, ℕ, zero, suc, ◌+◌, ◌<◌, ◌≤◌, ◌==◌, Bool, true, false, List, [], ◌∷◌, ◌++◌, length, map, flat_map, set, replicate}
use Rattle.std.proofs.Common.{codes, decimal, Option, Some, None, is_some, if◌then◌else◌, refl, sym, ap, ◌∙◌, append_assoc, append-nil, arith}
use Rattle.std.proofs.lemmas.Grind.{flat_map-append}
use Rattle.std.proofs.lemmas.List.{set-set}
use Rattle.std.proofs.lemmas.List.Elements.{filter-append}
use Rattle.std.proofs.lemmas.Option.{none-some}
use Rattle.pptext.specs.declared.tokens.Token.{Token}
use Rattle.ppunit.specs.declared.units.Item.{Item}
use Rattle.ppunit.specs.declared.units.Item.TheVariants as item
use Rattle.ppunit.specs.BorrowedItems.{slice_items}
use Rattle.ppunit.specs.declared.items.ItemSlice.{ItemSlice}
use Rattle.ppunit.specs.declared.items.ItemSlice.TheVariants as slice
use Rattle.ppexpand.specs.Slices.{slice_tokens}
use Rattle.ppunit.specs.declared.units.Mark.{Mark}
use Rattle.ppprint.specs.Apart.{Written}
use Rattle.ppprint.specs.Located.{Numbering, located, location, numbered, pragma_token, renumbered, shown, turn_of, unnumbered}
use Rattle.ppprint.specs.Operators.{is_for_compilers, left_to_compilers, operator_at, with_operators}
use Rattle.ppprint.specs.Shown.{Location, Turn, Shown, ShowsToken, ShowsPragma, ShowsMark}
use Rattle.ppprint.specs.Text.{Line, empty_line, line_after, line_end, marker, own_line, pragma_text, pragma_tokens_text, system_flag, text_after, text_of, token_text, turn_flag, way_line, way_text, way_to}
use Rattle.ppserve.specs.Output.{barred}
use Rattle.ppserve.specs.code.Records.{OfSegment, before_mark, first_segment, flags_after, flags_after_slice, from_mark, record_lines, segment_of, segment_text, segments, systems_with}

-- ---- operators

-- No operator goes on behind a mark.
same_operator : (i : Shown) (xs : List Shown) (at : Location) (turn : Turn) (ys : List Shown) → operator_at (i ∷ (xs ++ ShowsMark at turn ∷ ys)) ≡ operator_at (i ∷ xs)
same_operator (ShowsToken l a) [] at turn ys = refl
same_operator (ShowsToken l a) (ShowsToken m b ∷ []) at turn ys = refl
same_operator (ShowsToken l a) (ShowsToken m b ∷ ShowsToken n c ∷ []) at turn ys = refl
same_operator (ShowsToken l a) (ShowsToken m b ∷ ShowsToken n c ∷ ShowsToken o d ∷ xs) at turn ys = refl
same_operator (ShowsToken l a) (ShowsToken m b ∷ ShowsToken n c ∷ ShowsPragma o ts ∷ xs) at turn ys = refl
same_operator (ShowsToken l a) (ShowsToken m b ∷ ShowsToken n c ∷ ShowsMark o t ∷ xs) at turn ys = refl
same_operator (ShowsToken l a) (ShowsToken m b ∷ ShowsPragma n ts ∷ xs) at turn ys = refl
same_operator (ShowsToken l a) (ShowsToken m b ∷ ShowsMark n t ∷ xs) at turn ys = refl
same_operator (ShowsToken l a) (ShowsPragma m ts ∷ xs) at turn ys = refl
same_operator (ShowsToken l a) (ShowsMark m t ∷ xs) at turn ys = refl
same_operator (ShowsPragma l ts) xs at turn ys = refl
same_operator (ShowsMark l t) xs at turn ys = refl

long_enough : (i : Shown) (xs : List Shown) (p : Shown) → operator_at (i ∷ xs) ≡ Some p → 3 ≤ length xs
long_enough (ShowsToken l a) [] p e = absurd (none-some p e)
long_enough (ShowsToken l a) (ShowsToken m b ∷ []) p e = absurd (none-some p e)
long_enough (ShowsToken l a) (ShowsToken m b ∷ ShowsToken n c ∷ []) p e = absurd (none-some p e)
long_enough (ShowsToken l a) (ShowsToken m b ∷ ShowsToken n c ∷ ShowsToken o d ∷ xs) p e = omega arith
long_enough (ShowsToken l a) (ShowsToken m b ∷ ShowsToken n c ∷ ShowsPragma o ts ∷ xs) p e = absurd (none-some p e)
long_enough (ShowsToken l a) (ShowsToken m b ∷ ShowsToken n c ∷ ShowsMark o t ∷ xs) p e = absurd (none-some p e)
long_enough (ShowsToken l a) (ShowsToken m b ∷ ShowsPragma n ts ∷ xs) p e = absurd (none-some p e)
long_enough (ShowsToken l a) (ShowsToken m b ∷ ShowsMark n t ∷ xs) p e = absurd (none-some p e)
long_enough (ShowsToken l a) (ShowsPragma m ts ∷ xs) p e = absurd (none-some p e)
long_enough (ShowsToken l a) (ShowsMark m t ∷ xs) p e = absurd (none-some p e)
long_enough (ShowsPragma l ts) xs p e = absurd (none-some p e)
long_enough (ShowsMark l t) xs p e = absurd (none-some p e)

-- the items from one on, by the operator that they begin
abbrev step : Option Shown → Shown → List Shown → List Shown
step (Some pragma) i xs = pragma ∷ with_operators 3 xs
step None i xs = i ∷ with_operators 0 xs

with_step : (i : Shown) (xs : List Shown) → with_operators 0 (i ∷ xs) ≡ step (operator_at (i ∷ xs)) i xs
with_step i xs = by (operator_at (i ∷ xs))
  where
    by : (o : Option Shown) → elim o [ Some pragma ↦ pragma ∷ with_operators 3 xs | None ↦ i ∷ with_operators 0 xs ] ≡ step o i xs
    by (Some pragma) = refl
    by None = refl

step_apart : (i : Shown) (xs : List Shown) (mark : Shown) (ys : List Shown) (o : Option Shown)
    → ((p : Shown) → o ≡ Some p → 3 ≤ length xs)
    → with_operators 0 (xs ++ mark ∷ ys) ≡ with_operators 0 xs ++ mark ∷ with_operators 0 ys
    → (3 ≤ length xs → with_operators 3 (xs ++ mark ∷ ys) ≡ with_operators 3 xs ++ mark ∷ with_operators 0 ys)
    → step o i (xs ++ mark ∷ ys) ≡ step o i xs ++ mark ∷ with_operators 0 ys
step_apart i xs mark ys (Some p) long here behind = ap (λ (l : List Shown). p ∷ l) (behind (long p refl))
step_apart i xs mark ys None long here behind = ap (λ (l : List Shown). i ∷ l) here

operators_apart : (skip : ℕ) (xs : List Shown) (at : Location) (turn : Turn) (ys : List Shown) → skip ≤ length xs
    → with_operators skip (xs ++ ShowsMark at turn ∷ ys) ≡ with_operators skip xs ++ ShowsMark at turn ∷ with_operators 0 ys
operators_apart zero [] at turn ys within = refl
operators_apart (suc skip) [] at turn ys within = absurd (omega (arith, within))
operators_apart (suc skip) (i ∷ xs) at turn ys within = operators_apart skip xs at turn ys (omega (arith, within))
operators_apart zero (i ∷ xs) at turn ys within =
    let mark = ShowsMark at turn in
    let here = operators_apart 0 xs at turn ys (omega arith) in
    with_step i (xs ++ mark ∷ ys)
    ∙ (ap (λ (o : Option Shown). step o i (xs ++ mark ∷ ys)) (same_operator i xs at turn ys)
    ∙ (step_apart i xs mark ys (operator_at (i ∷ xs)) (long_enough i xs) here (λ long. operators_apart 3 xs at turn ys long)
    ∙ ap (λ (l : List Shown). l ++ mark ∷ with_operators 0 ys) (sym (with_step i xs))))

-- what a compiler is to see
abbrev compiled : List Shown → List Shown
compiled xs = left_to_compilers (with_operators 0 xs)

compiled_apart : (xs : List Shown) (at : Location) (turn : Turn) (ys : List Shown) → compiled (xs ++ ShowsMark at turn ∷ ys) ≡ compiled xs ++ ShowsMark at turn ∷ compiled ys
compiled_apart xs at turn ys =
    ap left_to_compilers (operators_apart 0 xs at turn ys (omega arith)) ∙ filter-append is_for_compilers (with_operators 0 xs) (ShowsMark at turn ∷ with_operators 0 ys)

-- ---- the text

after_front : (front a b rest : List ℕ) → a ≡ b ++ rest → front ++ a ≡ (front ++ b) ++ rest
after_front front a b rest e = ap (λ (l : List ℕ). front ++ l) e ∙ sym (append_assoc front b rest)

text_apart : (l : Line) (xs : List Shown) (at : Location) (turn : Turn) (ys : List Shown)
    → text_after l (xs ++ ShowsMark at turn ∷ ys) ≡ text_after l xs ++ text_of (ShowsMark at turn ∷ ys)
text_apart l [] at turn ys = append_assoc (line_end l) (marker turn at) (text_after (empty_line at.line at.system) ys)
text_apart l (ShowsToken o t ∷ xs) at turn ys =
    let m = way_line l o (way_to l o) in
    after_front (way_text l o (way_to l o) ++ token_text m t) _ _ _ (text_apart (line_after m t) xs at turn ys)
text_apart l (ShowsPragma o ts ∷ xs) at turn ys =
    let m = way_line l o (way_to l o) in
    after_front (way_text l o (way_to l o) ++ own_line m o ++ pragma_text ts) _ _ _ (text_apart (empty_line (o.line + 1) o.system) xs at turn ys)
text_apart l (ShowsMark o t ∷ xs) at turn ys =
    after_front (line_end l ++ marker t o) _ _ _ (text_apart (empty_line o.line o.system) xs at turn ys)

-- ---- lines after a bar

-- whether a line begins after a text
abbrev begins_after : Bool → List ℕ → Bool
begins_after b [] = b
begins_after b (c ∷ cs) = begins_after (c == 10) cs

barred-append : (b : Bool) (xs ys : List ℕ) → barred b (xs ++ ys) ≡ barred b xs ++ barred (begins_after b xs) ys
barred-append b [] ys = refl
barred-append b (c ∷ cs) ys = after_front (if b then 124 ∷ [] else []) _ _ _ (ap (λ (l : List ℕ). c ∷ l) (barred-append (c == 10) cs ys))

begins_after-append : (b : Bool) (xs ys : List ℕ) → begins_after b (xs ++ ys) ≡ begins_after (begins_after b xs) ys
begins_after-append b [] ys = refl
begins_after-append b (c ∷ cs) ys = begins_after-append (c == 10) cs ys

after_line : (b : Bool) (xs : List ℕ) → begins_after b (xs ++ 10 ∷ []) ≡ true
after_line b xs = begins_after-append b xs (10 ∷ [])

after_end : (o : Option Written) (b : Bool) → (o ≡ None → b ≡ true) → begins_after b (if is_some o then 10 ∷ [] else []) ≡ true
after_end None b h = h refl
after_end (Some w) b h = refl

-- A text ends with its last line.
text_ends : (l : Line) (xs : List Shown) (b : Bool) → (l.last ≡ None → b ≡ true) → begins_after b (text_after l xs) ≡ true
text_ends l [] b h = after_end l.last b h
text_ends l (ShowsToken at t ∷ xs) b h =
    let m = way_line l at (way_to l at) in
    let front = way_text l at (way_to l at) ++ token_text m t in
    begins_after-append b front (text_after (line_after m t) xs) ∙ text_ends (line_after m t) xs (begins_after b front) (λ e. absurd (none-some _ (sym e)))
text_ends l (ShowsPragma at ts ∷ xs) b h =
    let m = way_line l at (way_to l at) in
    let before = way_text l at (way_to l at) ++ own_line m at in
    let ends = begins_after-append b before (pragma_text ts) ∙ after_line (begins_after b before) (codes "#pragma" ++ pragma_tokens_text None ts) in
    begins_after-append b (before ++ pragma_text ts) (text_after (empty_line (at.line + 1) at.system) xs)
    ∙ text_ends (empty_line (at.line + 1) at.system) xs (begins_after b (before ++ pragma_text ts)) (λ _. ends)
text_ends l (ShowsMark at turn ∷ xs) b h =
    let front = line_end l ++ marker turn at in
    let ends =
    begins_after-append b (line_end l) (marker turn at)
    ∙ after_line (begins_after b (line_end l)) (codes "# " ++ decimal at.line ++ codes " " ++ at.name ++ turn_flag turn ++ system_flag at.system) in
    begins_after-append b front (text_after (empty_line at.line at.system) xs) ∙ text_ends (empty_line at.line at.system) xs (begins_after b front) (λ _. ends)

barred_apart : (xs : List Shown) (text : List ℕ) → barred true (text_of xs ++ text) ≡ barred true (text_of xs) ++ barred true text
barred_apart xs text =
    barred-append true (text_of xs) text ∙ ap (λ (b : Bool). barred true (text_of xs) ++ barred b text) (text_ends (empty_line 0 false) xs true (λ _. refl))

-- ---- locations

-- what the marks among items say
abbrev after_items : Numbering → List Item → Numbering
after_items n [] = n
after_items n (item.Token t ∷ items) = after_items n items
after_items n (item.Pragma at ts ∷ items) = after_items n items
after_items n (item.Mark m ∷ items) = after_items (renumbered n m) items

after_items-append : (n : Numbering) (xs ys : List Item) → after_items n (xs ++ ys) ≡ after_items (after_items n xs) ys
after_items-append n [] ys = refl
after_items-append n (item.Token t ∷ xs) ys = after_items-append n xs ys
after_items-append n (item.Pragma at ts ∷ xs) ys = after_items-append n xs ys
after_items-append n (item.Mark m ∷ xs) ys = after_items-append (renumbered n m) xs ys

located-append : (n : Numbering) (xs ys : List Item) → located n (xs ++ ys) ≡ located n xs ++ located (after_items n xs) ys
located-append n [] ys = refl
located-append n (item.Token t ∷ xs) ys = ap (λ (l : List Shown). ShowsToken (location n t.used.line t.at.file) t ∷ l) (located-append n xs ys)
located-append n (item.Pragma at ts ∷ xs) ys = ap (λ (l : List Shown). ShowsPragma (location n at.line n.row) (map pragma_token ts) ∷ l) (located-append n xs ys)
located-append n (item.Mark m ∷ xs) ys =
    ap (λ (l : List Shown). ShowsMark (location (renumbered n m) m.physical m.row) (turn_of m.row m.sort) ∷ l) (located-append (renumbered n m) xs ys)

same_after_mark : (n k : Numbering) (m : Mark) (items : List Item) → renumbered n m ≡ renumbered k m → located n (item.Mark m ∷ items) ≡ located k (item.Mark m ∷ items)
same_after_mark n k m items e = ap (λ (after : Numbering). ShowsMark (location after m.physical m.row) (turn_of m.row m.sort) ∷ located after items) e

abbrev text_from : Numbering → List Item → List ℕ
text_from n items = text_of (compiled (located n items))

joined_text : (n : Numbering) (begun : List Item) (m : Mark) (items : List Item)
    → text_from n (begun ++ item.Mark m ∷ items) ≡ text_from n begun ++ text_from (after_items n begun) (item.Mark m ∷ items)
joined_text n begun m items =
    let after = renumbered (after_items n begun) m in
    let at = location after m.physical m.row in
    let turn = turn_of m.row m.sort in
    ap (λ (s : List Shown). text_of (compiled s)) (located-append n begun (item.Mark m ∷ items))
    ∙ (ap text_of (compiled_apart (located n begun) at turn (located after items))
    ∙ text_apart (empty_line 0 false) (compiled (located n begun)) at turn (compiled (located after items)))

-- ---- segments

abbrev with_flags : List Bool → Numbering
with_flags systems = record (unnumbered []) { systems = systems }

-- the flags are those after the mark that begins a segment
abbrev FirstFits : List Bool → List Item → Type 0
FirstFits systems [] = Unit {0}
FirstFits systems (item.Token t ∷ items) = Unit {0}
FirstFits systems (item.Pragma at ts ∷ items) = Unit {0}
FirstFits systems (item.Mark m ∷ items) = systems_with systems m ≡ systems

-- and those after the marks of a segment that has begun
record FitsFlags (systems : List Bool) (begun : List Item) : Type 0 where
  pub same : (after_items (with_flags systems) begun).systems ≡ systems
  pub first : FirstFits systems begun

first_more : (systems : List Bool) (begun : List Item) (i : Item) → FirstFits systems (i ∷ []) → FirstFits systems begun → FirstFits systems (begun ++ i ∷ [])
first_more systems [] i one first = one
first_more systems (item.Token t ∷ begun) i one first = tt
first_more systems (item.Pragma at ts ∷ begun) i one first = tt
first_more systems (item.Mark m ∷ begun) i one first = first

segment_is : (systems : List Bool) (begun : List Item) → FirstFits systems begun → segment_text systems begun ≡ text_from (with_flags systems) begun
segment_is systems [] first = refl
segment_is systems (item.Token t ∷ begun) first = refl
segment_is systems (item.Pragma at ts ∷ begun) first = refl
segment_is systems (item.Mark m ∷ begun) first =
    ap (λ (s : List Bool). let n = numbered s m in text_of (compiled (ShowsMark (location n m.physical m.row) (turn_of m.row m.sort) ∷ located n begun))) (sym first)

marked_once : (systems : List Bool) (m : Mark) → systems_with (systems_with systems m) m ≡ systems_with systems m
marked_once systems m = by m.system
  where
    by : (b : Bool) → (if b then set (if b then set systems m.row true else systems) m.row true else (if b then set systems m.row true else systems)) ≡ (if b then set systems m.row true else systems)
    by true = set-set systems m.row true true
    by false = refl

one_segment : (names : List (List ℕ)) (systems : List Bool) (begun : List Item) → FirstFits systems begun → flat_map (record_lines names) (segment_of systems begun) ≡ barred true (text_from (with_flags systems) begun)
one_segment names systems [] first = refl
one_segment names systems (i ∷ items) first = append-nil (barred true (segment_text systems (i ∷ items))) ∙ ap (barred true) (segment_is systems (i ∷ items) first)

fits_more : (systems : List Bool) (begun : List Item) (i : Item) → ((n : Numbering) → after_items n (i ∷ []) ≡ n) → FirstFits systems (i ∷ []) → FitsFlags systems begun → FitsFlags systems (begun ++ i ∷ [])
fits_more systems begun i same one fits = record {
  same = ap (λ (n : Numbering). n.systems) (after_items-append (with_flags systems) begun (i ∷ []) ∙ same (after_items (with_flags systems) begun)) ∙ fits.same;
  first = first_more systems begun i one fits.first;
}

segments_text : (names : List (List ℕ)) (systems : List Bool) (begun items : List Item) → FitsFlags systems begun
    → flat_map (record_lines names) (segments systems begun items) ≡ barred true (text_from (with_flags systems) (begun ++ items))
segments_text names systems begun [] fits = one_segment names systems begun fits.first ∙ ap (λ (is : List Item). barred true (text_from (with_flags systems) is)) (sym (append-nil begun))
segments_text names systems begun (item.Token t ∷ items) fits =
    segments_text names systems (begun ++ item.Token t ∷ []) items (fits_more systems begun (item.Token t) (λ _. refl) tt fits)
    ∙ ap (λ (is : List Item). barred true (text_from (with_flags systems) is)) (append_assoc begun (item.Token t ∷ []) items)
segments_text names systems begun (item.Pragma at ts ∷ items) fits =
    segments_text names systems (begun ++ item.Pragma at ts ∷ []) items (fits_more systems begun (item.Pragma at ts) (λ _. refl) tt fits)
    ∙ ap (λ (is : List Item). barred true (text_from (with_flags systems) is)) (append_assoc begun (item.Pragma at ts ∷ []) items)
segments_text names systems begun (item.Mark m ∷ items) fits =
    let flags = systems_with systems m in
    let n = with_flags systems in
    let once = marked_once systems m in
    let later = segments_text names flags (item.Mark m ∷ []) items (record { same = once; first = once }) in
    let after : renumbered (after_items n begun) m ≡ renumbered (with_flags flags) m =
    ap (λ (s : List Bool). numbered (systems_with s m) m) fits.same ∙ ap (λ (s : List Bool). numbered s m) (sym once) in
    let same = same_after_mark (after_items n begun) (with_flags flags) m items after in
    flat_map-append (record_lines names) (segment_of systems begun) (segments flags (item.Mark m ∷ []) items)
    ∙ (ap (λ (l : List ℕ). l ++ flat_map (record_lines names) (segments flags (item.Mark m ∷ []) items)) (one_segment names systems begun fits.first)
    ∙ (ap (λ (l : List ℕ). barred true (text_from (with_flags systems) begun) ++ l) later
    ∙ (sym (barred_apart (compiled (located n begun)) (text_from (with_flags flags) (item.Mark m ∷ items)))
    ∙ (ap (λ (s : List Shown). barred true (text_from n begun ++ text_of (compiled s))) (sym same)
    ∙ ap (barred true) (sym (joined_text n begun m items))))))

no_flags : (names : List (List ℕ)) → map (λ file. false) names ≡ replicate (length names) false
no_flags [] = refl
no_flags (name ∷ names) = ap (λ (l : List Bool). false ∷ l) (no_flags names)

-- The texts of all segments, one after another, are the text of the items.
pub text_of_segments : (names : List (List ℕ)) (items : List Item)
    → flat_map (record_lines names) (segments (replicate (length names) false) [] items) ≡ barred true (text_of (shown names items))
text_of_segments names items =
    segments_text names (replicate (length names) false) [] items (record { same = refl; first = tt })
    ∙ ap (λ (s : List Bool). barred true (text_from (with_flags s) items)) (sym (no_flags names))

-- ---- the first segment

-- The segment that has begun, and those after it.
first_cut : (systems : List Bool) (i : Item) (begun items : List Item)
    → segments systems (i ∷ begun) items ≡ OfSegment systems (i ∷ (begun ++ before_mark items)) ∷ segments systems [] (from_mark items)
first_cut systems i begun [] = ap (λ (is : List Item). OfSegment systems (i ∷ is) ∷ []) (sym (append-nil begun))
first_cut systems i begun (item.Token t ∷ items) =
    first_cut systems i (begun ++ item.Token t ∷ []) items
    ∙ ap (λ (is : List Item). OfSegment systems (i ∷ is) ∷ segments systems [] (from_mark items)) (append_assoc begun (item.Token t ∷ []) (before_mark items))
first_cut systems i begun (item.Pragma at ts ∷ items) =
    first_cut systems i (begun ++ item.Pragma at ts ∷ []) items
    ∙ ap (λ (is : List Item). OfSegment systems (i ∷ is) ∷ segments systems [] (from_mark items)) (append_assoc begun (item.Pragma at ts ∷ []) (before_mark items))
first_cut systems i begun (item.Mark m ∷ items) =
    ap (λ (is : List Item). OfSegment systems (i ∷ is) ∷ segments (systems_with systems m) (item.Mark m ∷ []) items) (sym (append-nil begun))

pub first_taken : (systems : List Bool) (i : Item) (items : List Item)
    → segments systems [] (i ∷ items)
    ≡ OfSegment (flags_after systems (i ∷ items)) (first_segment (i ∷ items)) ∷ segments (flags_after systems (i ∷ items)) [] (from_mark items)
first_taken systems (item.Token t) items = first_cut systems (item.Token t) [] items
first_taken systems (item.Pragma at ts) items = first_cut systems (item.Pragma at ts) [] items
first_taken systems (item.Mark m) items = first_cut (systems_with systems m) (item.Mark m) [] items

-- Tokens are passed on the way to the next mark.
pub mark_after : (ts : List Token) (rest : List Item) → from_mark (map item.Token ts ++ rest) ≡ from_mark rest
mark_after [] rest = refl
mark_after (t ∷ ts) rest = mark_after ts rest

-- ---- slices

token_flags : (systems : List Bool) (ts : List Token) (rest : List Item) → 0 < length (map item.Token ts) → systems ≡ flags_after systems (map item.Token ts ++ rest)
token_flags systems [] rest some = absurd (omega (arith, some))
token_flags systems (t ∷ ts) rest some = refl

pub slice_flags : (systems new : List Bool) (items : ItemSlice) (rest : List Item) → 0 < length (slice_items items) → new ≡ flags_after_slice systems items → new ≡ flags_after systems (slice_items items ++ rest)
slice_flags systems new (slice.Tokens ts) rest some is = is ∙ token_flags systems (slice_tokens ts) rest some
slice_flags systems new (slice.Pragma at ts) rest some is = is
slice_flags systems new (slice.Mark m) rest some is = is

tokens_taken : (systems : List Bool) (ts : List Token) (rest : List Item) → 0 < length (map item.Token ts)
    → segments systems [] (map item.Token ts ++ rest)
    ≡ OfSegment (flags_after systems (map item.Token ts ++ rest)) (first_segment (map item.Token ts ++ rest)) ∷ segments (flags_after systems (map item.Token ts ++ rest)) [] (from_mark rest)
tokens_taken systems [] rest some = absurd (omega (arith, some))
tokens_taken systems (t ∷ ts) rest some =
    first_taken systems (item.Token t) (map item.Token ts ++ rest)
    ∙ ap (λ (is : List Item). OfSegment systems (first_segment (item.Token t ∷ (map item.Token ts ++ rest))) ∷ segments systems [] is) (mark_after ts rest)

-- The segment that begins with a slice.
slice_taken : (systems : List Bool) (items : ItemSlice) (rest : List Item) → 0 < length (slice_items items)
    → segments systems [] (slice_items items ++ rest)
    ≡ OfSegment (flags_after systems (slice_items items ++ rest)) (first_segment (slice_items items ++ rest)) ∷ segments (flags_after systems (slice_items items ++ rest)) [] (from_mark rest)
slice_taken systems (slice.Tokens ts) rest some = tokens_taken systems (slice_tokens ts) rest some
slice_taken systems (slice.Pragma at ts) rest some = first_taken systems (item.Pragma at ts.now) rest
slice_taken systems (slice.Mark m) rest some = first_taken systems (item.Mark m.now) rest

pub segment_taken : (systems new : List Bool) (items : ItemSlice) (old start rest left : List Item)
    → 0 < length (slice_items items) → old ≡ slice_items items ++ rest → start ≡ old → new ≡ flags_after_slice systems items → left ≡ from_mark rest
    → segments systems [] old ≡ OfSegment new (first_segment start) ∷ segments new [] left
segment_taken systems new items old start rest left some is starts flags ends =
    let here = slice_flags systems new items rest some flags in
    rw (starts, is, ends, here) (slice_taken systems items rest some)
