use Rattle.std.proofs.Common.{rules, ◌≡◌, ◌<◌, ◌∙◌, ap, subst, ℕ, List, length, set, arith}
use Rattle.ppshelf.specs.Content.{IsPermitted}
use Rattle.ppshelf.specs.Names.{name_in}
use Rattle.ppshelf.specs.NamesView.{NamesView}
use Rattle.ppshelf.specs.Files.{ShelfView}
use Rattle.ppshelf.specs.code.ShelfRows.{FilledRow, file_in}
use Rattle.ppshelf.proofs.FillInvariant.{Gives, Turned, shelf_kept, fills_kept, fills_named, full_kept, turned_set, filling_more}
use Rattle.ppshelf.proofs.shelf.Shelf.fill.Given.{Over}
use Rattle.ppshelf.proofs.shelf.Shelf.fill.Goals as goal
use Rattle.ppshelf.proofs.shelf.Shelf.fill.Goals.{After-fill}

-- The effect of filling one row on it and on all rows, whether or not it succeeds.
module _ (g : Over) (c : After-fill g) where
  abbrev gives : Gives
  gives row = IsPermitted (g.D.Disk.may_return c.args.disk.now) (name_in c.self.inside.names.names row)

  within : c.loop-row.row < length c.self.inside.rows.items
  within = let l = c.loop-row.invariant.filling.fill_effect.len in omega arith

  named : c.get-name.result.now ≡ name_in c.self.inside.names.names c.loop-row.row
  named = c.get-name.ensures ∙ ap (λ (n : NamesView). name_in n.names c.loop-row.row) c.loop-row.invariant.names_is

  filled_row : FilledRow (gives c.loop-row.row) (file_in c.self.inside.profile c.self.inside.names.names c.loop-row.row) c.index_mut.result.now c.fill.new.self
  filled_row =
      let P : List ℕ → Type 0 = λ name. FilledRow (IsPermitted (g.D.Disk.may_return c.args.disk.now) name)
      (record { row = c.loop-row.row; name = name; profile = c.self.inside.profile }) c.index_mut.result.now c.fill.new.self in
      subst P named c.fill.ensures.fill_effect

  fill_effect : Turned c.self.inside.profile c.self.inside.names.names gives c.self.inside.rows.items (set c.loop-row.self-inside.rows.items c.loop-row.row c.fill.new.self)
  fill_effect =
      turned_set c.self.inside.profile c.self.inside.names.names gives c.self.inside.rows.items _ c.loop-row.row c.index_mut.result.now c.fill.new.self
      c.loop-row.invariant.filling within c.index_mut.ensures.value filled_row

pub invariant_of-self : goal.invariant_of-self
invariant_of-self g c = shelf_kept c.loop-row.invariant.profile_is c.loop-row.invariant.names_is c.self.invariant c.loop-row.invariant.filling.fill_effect

pub invariant_of-self-in_err-fill : goal.invariant_of-self-in_err-fill
invariant_of-self-in_err-fill g c =
    shelf_kept c.loop-row.invariant.profile_is c.loop-row.invariant.names_is c.self.invariant (fill_effect g (goal.at.invariant_of-self-in_err-fill g c).After-fill)

pub returns : goal.returns
returns g c =
    let puts = IsPermitted (g.D.Disk.may_return c.args.disk.now) in
    let fills = fills_named puts _ (ap (λ (s : ShelfView). s.names) c.self.view_is)
    (fills_kept c.loop-row.invariant.profile_is c.loop-row.invariant.names_is c.self.view_is c.self.invariant c.loop-row.invariant.filling.fill_effect) in
    record {
      shelf = fills.shelf;
      hashing = fills.hashing;
      filled = fills.filled;
      len = fills.len;
      full = full_kept c.loop-row.row c.loop-row.invariant.profile_is c.loop-row.invariant.names_is c.self.invariant.count (omega arith) c.loop-row.invariant.filling;
    }

pub returns-in_err-fill : goal.returns-in_err-fill
returns-in_err-fill g c =
    let puts = IsPermitted (g.D.Disk.may_return c.args.disk.now) in
    let fills = fills_named puts _ (ap (λ (s : ShelfView). s.names) c.self.view_is)
    (fills_kept c.loop-row.invariant.profile_is c.loop-row.invariant.names_is c.self.view_is c.self.invariant (fill_effect g (goal.at.returns-in_err-fill g c).After-fill)) in
    record { shelf = fills.shelf; hashing = fills.hashing; filled = fills.filled; len = fills.len; full = search rules }

pub loop-row-preserved : goal.loop-row-preserved
loop-row-preserved g c =
    let at = (goal.at.loop-row-preserved g c).After-fill in
    record {
      profile_is = c.loop-row.invariant.profile_is;
      names_is = c.loop-row.invariant.names_is;
      filling = filling_more c.self.inside.profile c.self.inside.names.names (gives g at) _ _ c.loop-row.row c.index_mut.result.now c.fill.new.self
          c.loop-row.invariant.filling (within g at) c.index_mut.ensures.value (filled_row g at) c.in_ok-fill.ensures.full;
    }
