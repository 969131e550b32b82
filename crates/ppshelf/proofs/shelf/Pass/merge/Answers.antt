use Rattle.std.proofs.Common.{rules, ◌≡◌, ◌<◌, ◌+◌, ap, sym, ◌∙◌, arith, length, ℕ, List, subst, get_or, set, vec_len}
use Rattle.std.proofs.lemmas.Option.{same_Some}
use Rattle.ppshelf.specs.Files.{PassView, Files, ShelfView, Agree, IsMerged}
use Rattle.ppshelf.specs.code.ShelfRows.{FileView, FitsRow, Observation, IsPass, files_of, row_state_at, no_observation}
use Rattle.ppshelf.proofs.ObservedContents.{SeenShelf, Met, state_is, fits_at, met_more, met_agree, met_joined, popped_last, popped_rest, fits_read}
use Rattle.ppshelf.proofs.shelf.Pass.merge.Given.{Over}
use Rattle.ppshelf.proofs.shelf.Pass.merge.Goals as goal
use Rattle.ppshelf.proofs.shelf.Pass.merge.Goals.{After-file}

-- The current row of the shelf, its file, and its observation by the other pass.
module _ (g : Over) (c : After-file g) where
  seen : SeenShelf c.shelf.inside.profile c.shelf.inside.names c.shelf.inside.rows.items c.args.shelf.now
  seen = record { shelf = c.shelf.invariant; same = sym c.shelf.view_is }

  theirs_pass : IsPass g.D.Disk.may c.args.shelf.now c.other.inside.rows.items
  theirs_pass =
      let P : ShelfView → Type 0 = λ s. IsPass g.D.Disk.may s c.other.inside.rows.items in
      subst P (ap (λ (x : PassView). x.shelf) c.other.view_is ∙ c.requires.theirs) c.other.invariant.0

  before : vec_len c.loop-theirs.rows ≡ c.len-row.result + 1
  before = let h = c.in-Some.ensures in let n = c.len-row.ensures in omega arith

  within : c.len-row.result < length c.args.shelf.now.names
  within = let k = c.loop-theirs.invariant in let b = before in omega arith

  last : c.in-Some.theirs ≡ get_or c.other.inside.rows.items c.len-row.result no_observation
  last =
      let h = c.in-Some.ensures in
      let b = before in
      popped_last c.other.inside.rows.items c.loop-theirs.rows.items (vec_len c.loop-theirs.rows) c.len-row.result c.in-Some.theirs
      c.loop-theirs.invariant.2 (same_Some _ _ (h.value no_observation (omega arith))) (omega arith)

  at_row : c.index.result.now ≡ row_state_at c.args.shelf.now c.len-row.result
  at_row = state_is c.shelf.inside.profile c.shelf.inside.names c.shelf.inside.rows.items c.args.shelf.now seen c.len-row.result c.index.result.now within c.index.ensures

pub merge-requires-clause-theirs : goal.merge-requires-clause-theirs
merge-requires-clause-theirs g c =
    let at = (goal.at.merge-requires-clause-theirs g c).After-file in
    let P : FileView → Type 0 = λ f. FitsRow g.D.Disk.may f c.index.result.now c.in-Some.theirs in
    subst P (sym c.file.ensures)
    (fits_read g.D.Disk.may c.args.shelf.now c.other.inside.rows.items c.len-row.result c.index.result.now c.in-Some.theirs (theirs_pass g at) (within g at) (at_row g at) (last g at))

pub merge-requires-clause-mine : goal.merge-requires-clause-mine
merge-requires-clause-mine g c =
    let at = (goal.at.merge-requires-clause-mine g c).After-file in
    let P : FileView → Type 0 = λ f. FitsRow g.D.Disk.may f c.index.result.now c.index_mut.result.now in
    subst P (sym c.file.ensures)
    (fits_at c.shelf.inside.profile c.shelf.inside.names c.shelf.inside.rows.items c.args.shelf.now (seen g at) c.len-row.result c.index.result.now
    g.D.Disk.may c.loop-theirs.self-inside.rows.items c.index_mut.result.now (within g at) c.index.ensures c.loop-theirs.invariant.3.is c.index_mut.ensures.value)

pub loop-theirs-preserved : goal.loop-theirs-preserved
loop-theirs-preserved g c =
    let at = (goal.at.loop-theirs-preserved g c).After-file in
    let k = c.loop-theirs.invariant in
    let n = c.len-row.ensures in
    let b = before g at in
    let new = c.loop-theirs.self-inside.rows.items in
    let M : ℕ → List Observation → Type 0 = λ m xs. Met g.D.Disk.may c.args.shelf.now c.self.inside.rows.items c.other.inside.rows.items xs m in
    let P : FileView → Type 0 = λ f. FitsRow g.D.Disk.may f c.index.result.now c.merge.new.self in (
      k.0,
      omega arith,
      popped_rest c.other.inside.rows.items c.loop-theirs.rows.items c.pop.new.self.items (vec_len c.loop-theirs.rows) (vec_len c.pop.new.self) k.2 c.in-Some.ensures.rest (omega arith),
      subst (λ m. M m (set new c.len-row.result c.merge.new.self)) n
          (met_more g.D.Disk.may c.args.shelf.now c.self.inside.rows.items c.other.inside.rows.items new c.len-row.result c.index.result.now c.index_mut.result.now c.in-Some.theirs c.merge.new.self
          (subst (λ m. M m new) b k.3) (within g at) (at_row g at) c.index_mut.ensures.value (last g at) (subst P c.file.ensures c.merge.ensures.fits) c.merge.ensures.shown c.merge.ensures.agree),
    )

pub returns-clause-agree : goal.returns-clause-agree
returns-clause-agree g c =
    let M : ℕ → Type 0 = λ m. Met g.D.Disk.may c.args.shelf.now c.self.inside.rows.items c.other.inside.rows.items c.loop-theirs.self-inside.rows.items m in
    let met = subst M c.in_default.ensures.cases.0 c.loop-theirs.invariant.3 in
    let mine : files_of c.self.inside.rows.items ≡ c.args.self.now.files = ap (λ (x : PassView). x.files) c.self.view_is in
    let theirs : files_of c.other.inside.rows.items ≡ c.args.other.files = ap (λ (x : PassView). x.files) c.other.view_is in
    let own : c.self.inside.shelf.now ≡ c.args.shelf.now = ap (λ (x : PassView). x.shelf) c.self.view_is ∙ c.requires.mine in
    let a : Agree (files_of c.self.inside.rows.items) (files_of c.other.inside.rows.items) =
    met_agree g.D.Disk.may _ _ _ _ met (c.self.invariant.0.len ∙ ap (λ (s : ShelfView). length s.names) own) in
    let P : Files → Type 0 = λ f. Agree f c.args.other.files in
    let Q : Files → Type 0 = λ f. Agree (files_of c.self.inside.rows.items) f in
    subst P mine (subst Q theirs a)

pub returns-clause-joined : goal.returns-clause-joined
returns-clause-joined g c =
    let M : ℕ → Type 0 = λ m. Met g.D.Disk.may c.args.shelf.now c.self.inside.rows.items c.other.inside.rows.items c.loop-theirs.self-inside.rows.items m in
    let met = subst M c.in_default.ensures.cases.0 c.loop-theirs.invariant.3 in
    let mine : files_of c.self.inside.rows.items ≡ c.args.self.now.files = ap (λ (x : PassView). x.files) c.self.view_is in
    let theirs : files_of c.other.inside.rows.items ≡ c.args.other.files = ap (λ (x : PassView). x.files) c.other.view_is in
    let own : c.self.inside.shelf.now ≡ c.args.shelf.now = ap (λ (x : PassView). x.shelf) c.self.view_is ∙ c.requires.mine in
    let of_them : c.other.inside.shelf.now ≡ c.args.shelf.now = ap (λ (x : PassView). x.shelf) c.other.view_is ∙ c.requires.theirs in
    let a : IsMerged (files_of c.self.inside.rows.items) (files_of c.other.inside.rows.items) (files_of c.loop-theirs.self-inside.rows.items) =
    met_joined g.D.Disk.may _ _ _ _ met (c.self.invariant.0.len ∙ ap (λ (s : ShelfView). length s.names) own) (c.other.invariant.0.len ∙ ap (λ (s : ShelfView). length s.names) of_them) in
    let P : Files → Type 0 = λ f. IsMerged f c.args.other.files (files_of c.loop-theirs.self-inside.rows.items) in
    let Q : Files → Type 0 = λ f. IsMerged (files_of c.self.inside.rows.items) f (files_of c.loop-theirs.self-inside.rows.items) in
    subst P mine (subst Q theirs a)

pub invariant_of-self : goal.invariant_of-self
invariant_of-self g c = (search rules, search rules)
