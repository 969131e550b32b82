use Rattle.std.proofs.Common.{rules, ◌≡◌, ◌∙◌, ◌<◌, ◌≤◌, length, set, sym, ap, subst, List, ℕ, arith}
use Rattle.std.proofs.lemmas.Iterator.Adapters.{YieldsList-from_vec}
use Rattle.std.proofs.lemmas.Iterator.Consumers.{YieldsList-turn, YieldsList-end}
use Rattle.std.proofs.lemmas.List.{length_push}
use Rattle.ppshelf.specs.Content.{IsPermitted, readable}
use Rattle.ppshelf.specs.Names.{name_in}
use Rattle.ppshelf.specs.NamesView.{NamesView}
use Rattle.ppshelf.specs.Files.{ShelfView, bytes_at}
use Rattle.ppshelf.specs.code.ShelfRows.{FilledRow, file_in}
use Rattle.ppshelf.proofs.FillInvariant.{Turned, shelf_kept, fills_kept, full_kept, turned_set, filling_more, given, bytes_here, given_row}
use Rattle.ppshelf.proofs.shelf.Shelf.fill_with.Given.{Over}
use Rattle.ppshelf.proofs.shelf.Shelf.fill_with.Goals as goal
use Rattle.ppshelf.proofs.shelf.Shelf.fill_with.Goals.{In-Some, After-put}

-- The shelf has the current row, and the bytes are those of that row.
here : (g : Over) (c : In-Some g)
    → (c.loop-bytes.row < length c.args.self.now.names) × (c.loop-bytes.row < length c.self.inside.rows.items) × (c.in-Some.bytes ≡ bytes_at c.args.contents c.loop-bytes.row)
here g c =
    let moved = c.into_vec-bytes-items.result in
    let row = c.loop-bytes.row in
    let bytes = c.in-Some.bytes in
    let gives = c.into_iter-bytes-iterator.ensures.into_iter_gives in
    let yields = YieldsList-from_vec {s = c.into_iter-bytes-iterator.result} moved.items gives.0 (gives.1 ∙ moved.ok.0) in
    let P : List (List ℕ) → Type 0 = λ contents. (row < length contents) × (bytes ≡ bytes_at contents row) in
    let turn = subst P c.into_vec-bytes-items.ensures (bytes_here moved.items row (length c.loop-bytes.yielded) bytes c.loop-bytes.invariant.row_is
    (YieldsList-turn yields c.loop-bytes.yielded c.loop-bytes.bytes-iterator c.loop-bytes.yielded_by c.next.result c.next.new.self bytes c.in-Some.is
    c.next.ensures.steps)) in
    let below = turn.0 in
    let count = c.requires.count in
    let rows = c.self.invariant.count ∙ ap (λ (s : ShelfView). length s.names) c.self.view_is in
    (omega arith, omega arith, turn.1)

-- The name of the current row, as callers see it, and as the shelf had it before.
module _ (g : Over) (c : In-Some g) (name : List ℕ) (is : name ≡ name_in c.loop-bytes.self-inside.names.names c.loop-bytes.row) where
  named : name ≡ name_in c.self.inside.names.names c.loop-bytes.row
  named = is ∙ ap (λ (n : NamesView). name_in n.names c.loop-bytes.row) c.loop-bytes.invariant.names_is

  named_outside : name ≡ name_in c.args.self.now.names c.loop-bytes.row
  named_outside = named ∙ ap (λ (s : ShelfView). name_in s.names c.loop-bytes.row) c.self.view_is

-- The effect of `put` on the current row and on all rows, whether or not it succeeds.
module _ (g : Over) (c : After-put g) where
  put : c.into_vec.result.items ≡ bytes_at c.args.contents c.loop-bytes.row
      → c.get-name.result.now ≡ name_in c.self.inside.names.names c.loop-bytes.row
      → FilledRow (given c.args.contents c.loop-bytes.row) (file_in c.self.inside.profile c.self.inside.names.names c.loop-bytes.row) c.index_mut.result.now c.put.new.self
  put same is =
      let P : List ℕ → Type 0 = λ name. FilledRow (given c.args.contents c.loop-bytes.row)
      (record { row = c.loop-bytes.row; name = name; profile = c.self.inside.profile }) c.index_mut.result.now c.put.new.self in
      subst P is (given_row c.args.contents _ c.loop-bytes.row c.into_vec.result.items c.index_mut.result.now c.put.new.self same c.put.ensures.fill_effect)

  fill_effect : c.loop-bytes.row < length c.self.inside.rows.items
      → c.into_vec.result.items ≡ bytes_at c.args.contents c.loop-bytes.row
      → c.get-name.result.now ≡ name_in c.self.inside.names.names c.loop-bytes.row
      → Turned c.self.inside.profile c.self.inside.names.names (given c.args.contents) c.self.inside.rows.items (set c.loop-bytes.self-inside.rows.items c.loop-bytes.row c.put.new.self)
  fill_effect within same is =
      turned_set c.self.inside.profile c.self.inside.names.names (given c.args.contents) c.self.inside.rows.items _ c.loop-bytes.row c.index_mut.result.now c.put.new.self
      c.loop-bytes.invariant.filling within c.index_mut.ensures.value (put same is)

pub invariant_of-self : goal.invariant_of-self
invariant_of-self g c = shelf_kept c.loop-bytes.invariant.profile_is c.loop-bytes.invariant.names_is c.self.invariant c.loop-bytes.invariant.filling.fill_effect

pub put-requires-clause-contents_permitted : goal.put-requires-clause-contents_permitted
put-requires-clause-contents_permitted g c =
    let contents = c.args.contents in
    let row = c.loop-bytes.row in
    let some = (goal.at.put-requires-clause-contents_permitted g c).In-Some in
    let turn = here g some in
    let P : List ℕ → List ℕ → Type 0 = λ name bytes. IsPermitted g.D.Disk.may name (readable bytes) in
    subst (λ name. P name c.into_vec.result.items) (sym (named_outside g some c.get-name.result.now c.get-name.ensures))
    (subst (P (name_in c.args.self.now.names row)) (sym (c.into_vec.ensures ∙ turn.2)) (c.requires.contents_permitted row turn.0))

pub invariant_of-self-in_err-put : goal.invariant_of-self-in_err-put
invariant_of-self-in_err-put g c =
    let at = goal.at.invariant_of-self-in_err-put g c in
    let turn = here g at.In-Some in
    let is = named g at.In-Some c.get-name.result.now c.get-name.ensures in
    shelf_kept c.loop-bytes.invariant.profile_is c.loop-bytes.invariant.names_is c.self.invariant (fill_effect g at.After-put turn.1 (c.into_vec.ensures ∙ turn.2) is)

pub returns-in_err-put : goal.returns-in_err-put
returns-in_err-put g c =
    let at = goal.at.returns-in_err-put g c in
    let turn = here g at.In-Some in
    let is = named g at.In-Some c.get-name.result.now c.get-name.ensures in
    let fills = fills_kept c.loop-bytes.invariant.profile_is c.loop-bytes.invariant.names_is c.self.view_is c.self.invariant
    (fill_effect g at.After-put turn.1 (c.into_vec.ensures ∙ turn.2) is) in
    record { shelf = fills.shelf; hashing = fills.hashing; filled = fills.filled; len = fills.len; full = search rules }

pub loop-bytes-preserved : goal.loop-bytes-preserved
loop-bytes-preserved g c =
    let at = goal.at.loop-bytes-preserved g c in
    let turn = here g at.In-Some in
    let is = named g at.In-Some c.get-name.result.now c.get-name.ensures in
    record {
      row_is = let r = c.loop-bytes.invariant.row_is in let l = length_push c.loop-bytes.yielded c.in-Some.bytes in omega arith;
      profile_is = c.loop-bytes.invariant.profile_is;
      names_is = c.loop-bytes.invariant.names_is;
      filling = filling_more c.self.inside.profile c.self.inside.names.names (given c.args.contents) _ _ c.loop-bytes.row c.index_mut.result.now c.put.new.self
          c.loop-bytes.invariant.filling turn.1 c.index_mut.ensures.value (put g at.After-put (c.into_vec.ensures ∙ turn.2) is) c.in_ok-put.ensures.full;
    }

pub returns : goal.returns
returns g c =
    let moved = c.into_vec-bytes-items.result in
    let gives = c.into_iter-bytes-iterator.ensures.into_iter_gives in
    let yields = YieldsList-from_vec {s = c.into_iter-bytes-iterator.result} moved.items gives.0 (gives.1 ∙ moved.ok.0) in
    let all : length c.loop-bytes.yielded ≡ length moved.items =
    (YieldsList-end yields c.loop-bytes.yielded c.loop-bytes.bytes-iterator c.loop-bytes.yielded_by c.next.result c.next.new.self c.in-None.is c.next.ensures.steps).1 in
    let rows = c.self.invariant.count ∙ ap (λ (s : ShelfView). length s.names) c.self.view_is in
    let same = ap length c.into_vec-bytes-items.ensures in
    let done : length c.self.inside.rows.items ≤ c.loop-bytes.row = let m = c.requires.count in let r = c.loop-bytes.invariant.row_is in omega arith in
    let fills = fills_kept c.loop-bytes.invariant.profile_is c.loop-bytes.invariant.names_is c.self.view_is c.self.invariant c.loop-bytes.invariant.filling.fill_effect in
    record {
      shelf = fills.shelf;
      hashing = fills.hashing;
      filled = fills.filled;
      len = fills.len;
      full = full_kept c.loop-bytes.row c.loop-bytes.invariant.profile_is c.loop-bytes.invariant.names_is c.self.invariant.count done c.loop-bytes.invariant.filling;
    }
