-- Records of the output and their lines.
use Rattle.std.proofs.Common.{◌≡◌, ℕ, zero, suc, ◌+◌, ◌-◌, ◌<◌, ◌≤◌, List, [], ◌∷◌, ◌++◌, map, length, take, drop, flat_map, replicate, Bool, true, false, Option, Some, None, refl, sym, ap, ◌∙◌, append_assoc, append-nil, arith}
use Rattle.std.proofs.lemmas.Grind.{flat_map-append}
use Rattle.std.proofs.lemmas.List.{take-append-drop, map-append, drop-drop}
use Rattle.pptext.specs.declared.tokens.Token.{Token}
use Rattle.ppexpand.specs.Slices.{slice_tokens}
use Rattle.ppunit.specs.declared.units.Item.{Item}
use Rattle.ppunit.specs.declared.units.Item.TheVariants as item
use Rattle.ppunit.specs.declared.items.ItemSlices.{ItemSlices}
use Rattle.ppunit.specs.declared.units.UnitOut.{UnitOut}
use Rattle.ppunit.specs.declared.units.Unit.{Unit as UnitOfList}
use Rattle.ppserve.specs.Output.{item_lines, shown_item_lines, shows_items, lines_before_last, last_line, unit_lines, numbered}
use Rattle.ppserve.specs.declared.output.Mode.{Mode}
use Rattle.ppserve.specs.declared.output.Mode.TheVariants.{Dump, Deps, Faults, Text}
use Rattle.ppserve.specs.declared.output.Output.{Output}
use Rattle.ppserve.specs.declared.line_cursor.LineCursor.{LineCursor}
use Rattle.ppserve.specs.code.Records.{Record, OfItem, flags_of, items_of_slices, last_record, first_line, record_lines, records_of_items, record_of_token, records_of_slices, records_of_last, remaining_records, records_from, output_bytes}
use Rattle.ppserve.specs.code.LinePrefix.{token_line}
use Rattle.ppserve.proofs.Segments.{first_taken, text_of_segments}

pub lines_of_items : (names : List (List ℕ)) (items : List Item) → flat_map (record_lines names) (map OfItem items) ≡ flat_map item_lines items
lines_of_items names [] = refl
lines_of_items names (i ∷ is) = ap (λ l. item_lines i ++ l) (lines_of_items names is)

lines_of_mode : (mode : Mode) (names : List (List ℕ)) (items : List Item)
    → flat_map (record_lines names) (records_of_items mode (replicate (flags_of mode (length names)) false) items) ≡ shown_item_lines mode names items
lines_of_mode Dump names items = lines_of_items names items
lines_of_mode Deps names items = refl
lines_of_mode Faults names items = refl
lines_of_mode Text names items = text_of_segments names items

lines_of_last : (mode : Mode) (names : List (List ℕ)) (out : UnitOut) → record_lines names (last_record mode out) ≡ lines_before_last mode names out ++ last_line out.fault
lines_of_last Dump names out = refl
lines_of_last Deps names out = refl
lines_of_last Faults names out = refl
lines_of_last Text names out = refl

pub lines_of_tokens : (names : List (List ℕ)) (ts : List Token) → flat_map (record_lines names) (map record_of_token ts) ≡ flat_map token_line ts
lines_of_tokens names [] = refl
lines_of_tokens names (t ∷ ts) = ap (λ l. token_line t ++ l) (lines_of_tokens names ts)

joined : (first items deps last rest : List ℕ) → first ++ (items ++ ((deps ++ last) ++ rest)) ≡ (((first ++ items) ++ deps) ++ last) ++ rest
joined first items deps last rest =
    rw (append_assoc (first ++ items) deps last, append_assoc (first ++ items) (deps ++ last) rest, append_assoc first items ((deps ++ last) ++ rest)) refl

-- The lines of all records are the output.
pub lines_of_all : (mode : Mode) (names : List (List ℕ)) (n : ℕ) (units : List UnitOfList) (outs : List UnitOut)
    → flat_map (record_lines names) (records_from mode (flags_of mode (length names)) n units outs) ≡ numbered (unit_lines mode names) n units outs
lines_of_all mode names n [] outs = refl
lines_of_all mode names n (unit ∷ units) [] = refl
lines_of_all mode names n (unit ∷ units) (out ∷ outs) =
    let later = lines_of_all mode names (suc n) units outs in
    let items = flat_map-append (record_lines names) (records_of_items mode (replicate (flags_of mode (length names)) false) out.items)
    (last_record mode out ∷ records_from mode (flags_of mode (length names)) (suc n) units outs) in
    rw (items, lines_of_mode mode names out.items, lines_of_last mode names out, later)
    (joined (first_line names n unit) (shown_item_lines mode names out.items) (lines_before_last mode names out) (last_line out.fault) (numbered (unit_lines mode names) (suc n) units outs))

pub lines_of_output : (output : Output) → output_bytes output ≡ numbered (unit_lines output.mode output.names.now) 0 output.units.now output.outs.now
lines_of_output output = lines_of_all output.mode output.names.now 0 output.units.now output.outs.now

-- Splitting tokens after the first `n` splits their records.
pub split_tokens : (n : ℕ) (ts : List Token) (later : List Record) → map record_of_token ts ++ later ≡ map record_of_token (take n ts) ++ (map record_of_token (drop n ts) ++ later)
split_tokens n ts later =
    let both : map record_of_token ts ≡ map record_of_token (take n ts) ++ map record_of_token (drop n ts) = ap (map record_of_token) (sym (take-append-drop n ts)) ∙ map-append record_of_token (take n ts) (drop n ts) in
    ap (λ l. l ++ later) both ∙ append_assoc (map record_of_token (take n ts)) (map record_of_token (drop n ts)) later

pub items_of_tokens : (ts : List Token) → map OfItem (map item.Token ts) ≡ map record_of_token ts
items_of_tokens [] = refl
items_of_tokens (t ∷ ts) = ap (λ es. record_of_token t ∷ es) (items_of_tokens ts)

records_of_dump : (systems : List Bool) (items : Option ItemSlices) → records_of_slices Dump systems items ≡ map OfItem (items_of_slices items)
records_of_dump systems None = refl
records_of_dump systems (Some items) = refl

-- Moving the next items of a cursor into its tokens keeps its remaining records.
pub refilled : (old new : LineCursor)
    → old.output.mode ≡ Dump
    → slice_tokens old.tokens ≡ []
    → items_of_slices old.items ≡ map item.Token (slice_tokens new.tokens) ++ items_of_slices new.items
    → new.output ≡ old.output → new.systems ≡ old.systems → new.last ≡ old.last → new.next_unit ≡ old.next_unit
    → remaining_records old ≡ remaining_records new
refilled old new dumps none items output systems last next =
    let later = records_of_last Dump old.last
    ++ records_from Dump (length old.systems) old.next_unit (drop old.next_unit old.output.units.now) (drop old.next_unit old.output.outs.now) in
    let tokens = slice_tokens new.tokens in
    let here = map-append OfItem (map item.Token tokens) (items_of_slices new.items) in
    rw (output, systems, dumps, none, last, next, records_of_dump old.systems old.items, records_of_dump old.systems new.items, items, here, items_of_tokens tokens)
    (append_assoc (map record_of_token tokens) (map OfItem (items_of_slices new.items)) later)

-- ---- one step of a loop over records

-- The lines of finished elements and of the rest are the lines of the whole list.
pub lines_whole : {A : Type 0} (f : A → List ℕ) (done rest whole : List A) → done ++ rest ≡ whole → flat_map f done ++ flat_map f rest ≡ flat_map f whole
lines_whole f done rest whole is = sym (flat_map-append f done rest) ∙ ap (flat_map f) is

-- Moving elements from the start of the rest to the end of the finished ones keeps the whole list.
pub one_more : {A : Type 0} (done lines rest new whole : List A) → done ++ rest ≡ whole → rest ≡ lines ++ new → (done ++ lines) ++ new ≡ whole
one_more done lines rest new whole before is = append_assoc done lines new ∙ (ap (λ l. done ++ l) (sym is) ∙ before)

pub all_done : {A : Type 0} (done rest whole : List A) → done ++ rest ≡ whole → rest ≡ [] → done ≡ whole
all_done done rest whole before is = sym (append-nil done) ∙ (ap (λ l. done ++ l) (sym is) ∙ before)

-- The first `n` elements of `xs ++ ys`, if `n` is at least the length of `xs`.
pub take_more_of : {A : Type 0} (n : ℕ) (xs ys : List A) → length xs ≤ n → take n (xs ++ ys) ≡ xs ++ take (n - length xs) ys
take_more_of n [] ys within = let all : n - 0 ≡ n = omega arith in rw all refl
take_more_of zero (x ∷ xs) ys within = absurd (omega (arith, within))
take_more_of (suc n) (x ∷ xs) ys within =
    let same : suc n - suc (length xs) ≡ n - length xs = omega arith in
    rw same (ap (λ l. x ∷ l) (take_more_of n xs ys (omega (arith, within))))

pub drop_more_of : {A : Type 0} (n : ℕ) (xs ys : List A) → length xs ≤ n → drop n (xs ++ ys) ≡ drop (n - length xs) ys
drop_more_of n [] ys within = let all : n - 0 ≡ n = omega arith in rw all refl
drop_more_of zero (x ∷ xs) ys within = absurd (omega (arith, within))
drop_more_of (suc n) (x ∷ xs) ys within =
    let same : suc n - suc (length xs) ≡ n - length xs = omega arith in
    rw same (drop_more_of n xs ys (omega (arith, within)))

pub take_of_none : {A : Type 0} (n : ℕ) (none : List A) → none ≡ [] → take n none ≡ []
take_of_none zero none is = refl
take_of_none (suc n) none is = rw is refl

-- Moving over lines drops their records.
pub dropped_past : (n m : ℕ) (whole lines rest : List Record) → m ≡ length lines → drop n whole ≡ lines ++ rest → rest ≡ drop (n + m) whole
dropped_past n m whole lines rest count is =
    let all : length lines - length lines ≡ 0 = omega arith in
    sym (sym (drop-drop m n whole) ∙ (ap (drop m) is ∙ (ap (λ k. drop k (lines ++ rest)) count ∙ (drop_more_of (length lines) lines rest (omega arith) ∙ ap (λ k. drop k rest) all))))

-- A mode that shows items has records of them.
pub some_records : (mode : Mode) (systems : List Bool) (o : Option ItemSlices) (items : List Item) → o ≡ Some items → shows_items mode ≡ true → 0 < length items
    → 0 < length (records_of_slices mode systems o)
some_records mode systems o [] is shows some = absurd (omega (arith, some))
some_records Dump systems o (i ∷ items) is shows some = rw is (omega arith)
some_records Deps systems o (i ∷ items) is shows some = absurd (cc)
some_records Faults systems o (i ∷ items) is shows some = absurd (cc)
some_records Text systems o (i ∷ items) is shows some = rw (is, first_taken systems i items) (omega arith)
