-- Items of a unit, if they are kept, and items to which the pieces of an expansion are appended one after another.
use Rattle.std.proofs.Common.{◌≡◌, ℕ, Bool, true, false, List, [], ◌++◌, Option, None, Some, refl, append_assoc, append-nil, sym, subst, ◌∙◌, ◌∷◌, map, flat_map, ap}
use Rattle.pptext.specs.declared.tokens.Fault.{Fault}
use Rattle.pptext.specs.declared.tokens.Place.{Place}
use Rattle.ppunit.specs.declared.states.Resumption.{Resumption}
use Rattle.ppunit.specs.declared.units.MarkSort.TheVariants.{Enter, Leave}
use Rattle.ppexpand.specs.Laws.{IsPrefix}
use Rattle.ppunit.specs.declared.units.Item.{Item}
use Rattle.ppunit.specs.States.{State, Progress, kept, mark, emitted, running, stopped, resumed_by, resumed, Opening, with_system_row, in_file, begun, file_context, in_file_context, leaving}
use Rattle.ppmacro.specs.Substituting.{tokens_of}
use Rattle.ppmacro.specs.declared.hidden_token.Hidden.{Hidden}
use Rattle.ppexpand.specs.Slices.{piece_list}
use Rattle.ppexpand.specs.declared.emitted.Piece.{Piece}
use Rattle.ppunit.specs.declared.units.Item.TheVariants as item

pub kept-nothing : (keeps : Bool) (items : List Item) → kept keeps items [] ≡ items
kept-nothing true items = append-nil items
kept-nothing false items = refl

pub kept_true : (keeps : Bool) (items more : List Item) → keeps ≡ true → kept keeps items more ≡ items ++ more
kept_true keeps items more is = ap (λ (z : Bool). kept z items more) is

kept_false : (keeps : Bool) (items more : List Item) → keeps ≡ false → kept keeps items more ≡ items
kept_false keeps items more is = ap (λ (z : Bool). kept z items more) is

-- The items are a prefix of those after more were emitted.
pub kept-before : (keeps : Bool) (items more : List Item) → IsPrefix items (kept keeps items more)
kept-before true items more = (more, refl)
kept-before false items more = ([], sym (append-nil items))

-- What was emitted first is a prefix.
pub kept-first : (keeps : Bool) (items first more : List Item) → IsPrefix (kept keeps items first) (kept keeps items (first ++ more))
kept-first true items first more = (more, sym (append_assoc items first more))
kept-first false items first more = ([], sym (append-nil items))

-- the items of pieces
abbrev pub items_of : List Piece → List Item
items_of ps = map item.Token (tokens_of (flat_map piece_list ps))

joined : (hs gs : List Hidden) → map item.Token (tokens_of (hs ++ gs)) ≡ map item.Token (tokens_of hs) ++ map item.Token (tokens_of gs)
joined [] gs = refl
joined (h ∷ hs) gs = ap (λ is. item.Token h.token ∷ is) (joined hs gs)

one_more : (ps : List Piece) (p : Piece) → flat_map piece_list (ps ++ p ∷ []) ≡ flat_map piece_list ps ++ piece_list p
one_more [] p = append-nil (piece_list p)
one_more (q ∷ ps) p = ap (λ hs. piece_list q ++ hs) (one_more ps p) ∙ sym (append_assoc (piece_list q) (flat_map piece_list ps) (piece_list p))

-- One more piece is appended.
pub appended : (first before after : List Item) (ps : List Piece) (p : Piece)
    → before ≡ first ++ items_of ps
    → after ≡ before ++ map item.Token (tokens_of (piece_list p))
    → after ≡ first ++ items_of (ps ++ p ∷ [])
appended first before after ps p so_far more =
    let last = map item.Token (tokens_of (piece_list p)) in
    more
    ∙ ap (λ is. is ++ last) so_far
    ∙ append_assoc first (items_of ps) last
    ∙ ap (λ is. first ++ is) (sym (ap (λ hs. map item.Token (tokens_of hs)) (one_more ps p) ∙ joined (flat_map piece_list ps) (piece_list p)))

-- ---- after a file its includer goes on: that emits a mark or nothing, and changes nothing else

-- the progress after items were emitted
abbrev pub after_items : List Item → Progress → Progress
after_items items m = record { state = emitted m.state items; fault = m.fault }

nothing_after : (m : Progress) → m ≡ after_items [] m
nothing_after m = λ i. record { state = record m.state { items = sym (kept-nothing m.state.keeps m.state.items) i }; fault = m.fault }

by_fault : (r : Resumption) (s : State) (f : Option Fault) → (items : List Item) × (resumed_by r s f ≡ after_items items (record { state = s; fault = f }))
by_fault r s None = (item.Mark (mark s Leave r.row r.last) ∷ [], refl)
by_fault r s (Some f) = ([], nothing_after (stopped s f))

pub resumed_emits : (r : Option Resumption) (m : Progress) → (items : List Item) × (resumed r m ≡ after_items items m)
resumed_emits None m = ([], nothing_after m)
resumed_emits (Some r) m = by_fault r m.state m.fault

-- A unit that has stopped stays as it is.
pub resumed_stopped : (r : Option Resumption) (s : State) (f : Fault) → resumed r (stopped s f) ≡ stopped s f
resumed_stopped None s f = refl
resumed_stopped (Some r) s f = refl

-- What holds after a file, whatever its resumption emits, holds after it.
pub leaves_by : (P : Progress → Type 0) (s : State) (how : Opening) (m : Progress)
    → ((items : List Item) → P (after_items items (record m { state = in_file_context (file_context s) m.state })))
    → P (leaving s how m)
leaves_by P s how m each =
    let emits = resumed_emits how.resumption (record m { state = in_file_context (file_context s) m.state }) in
    subst P (sym emits.1) (each emits.0)

-- ---- a file that is entered and left at once

unkept_resumed : (r : Option Resumption) (s : State) → s.keeps ≡ false → resumed r (running s) ≡ running s
unkept_resumed None s is = refl
unkept_resumed (Some r) s is = λ i. running (record s { items = kept_false s.keeps s.items (item.Mark (mark s Leave r.row r.last) ∷ []) is i })

-- without items only its row is noted
pub unkept_visit : (at : Place) (s : State) (row : ℕ) (how : Opening) → s.keeps ≡ false
    → leaving s how (running (begun at s row how)) ≡ running (with_system_row how.system s row)
unkept_visit at s row how is =
    let first : List Item = item.Mark (mark (in_file s row how) (Enter at) row 0) ∷ [] in
    (λ i. resumed how.resumption (running (record (with_system_row how.system s row) { items = kept_false s.keeps s.items first is i })))
    ∙ unkept_resumed how.resumption (with_system_row how.system s row) is

pub kept_visit : (at : Place) (s : State) (row : ℕ) (how : Opening) → s.keeps ≡ true
    → leaving s how (running (begun at s row how))
    ≡ resumed how.resumption (running (record (with_system_row how.system s row) { items = s.items ++ item.Mark (mark (in_file s row how) (Enter at) row 0) ∷ [] }))
kept_visit at s row how is =
    let first : List Item = item.Mark (mark (in_file s row how) (Enter at) row 0) ∷ [] in
    λ i. resumed how.resumption (running (record (with_system_row how.system s row) { items = kept_true s.keeps s.items first is i }))
