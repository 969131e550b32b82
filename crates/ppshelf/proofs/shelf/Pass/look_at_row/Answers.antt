use Rattle.std.proofs.Common.{◌≡◌, ◌<◌, ap, ◌∙◌, sym, subst, arith, length, set, Some}
use Rattle.std.proofs.lemmas.Result.{IfOk-weaker, on_err_weaker}
use Rattle.ppshelf.specs.Files.{PassView, Files, ShelfView}
use Rattle.ppshelf.specs.code.ShelfRows.{FileView, FitsRow, files_of}
use Rattle.ppshelf.proofs.ObservedContents.{SeenShelf, file_of, files_of-set, files_of-same, fits_at, shown_pass}
use Rattle.ppshelf.proofs.shelf.Pass.look_at_row.Given.{Over}
use Rattle.ppshelf.proofs.shelf.Pass.look_at_row.Goals as goal
use Rattle.ppshelf.proofs.shelf.Pass.look_at_row.Goals.{After-file}

-- The pass belongs to the shelf, which has the row, and the file is that of the row.
module _ (g : Over) (c : After-file g) where
  same : c.self.inside.shelf.now ≡ c.args.shelf.now
  same = ap (λ (k : PassView). k.shelf) c.self.view_is ∙ c.requires.shelf

  seen : SeenShelf c.shelf.inside.profile c.shelf.inside.names c.shelf.inside.rows.items c.self.inside.shelf.now
  seen = record { shelf = c.shelf.invariant; same = same ∙ sym c.shelf.view_is }

  within : c.args.row < length c.self.inside.shelf.now.names
  within = let e = ap (λ (s : ShelfView). length s.names) same in let r = c.requires.row in omega arith

  file_is : c.file.result ≡ file_of c.self.inside.shelf.now c.args.row
  file_is = c.file.ensures ∙ ap (λ (s : ShelfView). file_of s c.args.row) (sym same)

pub look-requires-clause-fits : goal.look-requires-clause-fits
look-requires-clause-fits g c =
    let at = (goal.at.look-requires-clause-fits g c).After-file in
    let P : FileView → Type 0 = λ f. FitsRow g.D.Disk.may f c.index.result.now c.index_mut-observation.result.now in
    subst P (sym (file_is g at))
    (fits_at c.shelf.inside.profile c.shelf.inside.names c.shelf.inside.rows.items c.self.inside.shelf.now (seen g at) c.args.row c.index.result.now
    g.D.Disk.may c.self.inside.rows.items c.index_mut-observation.result.now (within g at) c.index.ensures c.self.invariant.0 c.index_mut-observation.ensures.value)

pub invariant_of-self : goal.invariant_of-self
invariant_of-self g c =
    let at = (goal.at.invariant_of-self g c).After-file in
    let P : FileView → Type 0 = λ f. FitsRow g.D.Disk.may f c.index.result.now c.look.new.observation in (
      shown_pass c.shelf.inside.profile c.shelf.inside.names c.shelf.inside.rows.items c.self.inside.shelf.now (seen g at) c.args.row c.index.result.now
          g.D.Disk.may c.self.inside.rows.items c.look.new.observation (within g at) c.index.ensures c.self.invariant.0 (subst P (file_is g at) c.look.ensures.fits),
      c.self.invariant.1,
    )

pub returns-clause-known : goal.returns-clause-known
returns-clause-known g c =
    IfOk-weaker c.look.result _ _ (λ l shown.
    let e : files_of (set c.self.inside.rows.items c.args.row c.look.new.observation) ≡ set (files_of c.self.inside.rows.items) c.args.row (Some l.now.content) =
    files_of-set c.self.inside.rows.items c.args.row c.look.new.observation l.now shown in
    let f : files_of c.self.inside.rows.items ≡ c.args.self.now.files = ap (λ (k : PassView). k.files) c.self.view_is in
    rw (← f) e) c.look.ensures.shown

pub returns-clause-err : goal.returns-clause-err
returns-clause-err g c =
    let at = (goal.at.returns-clause-err g c).After-file in
    let w : c.args.row < length c.self.inside.rows.items = let s = c.self.invariant.0.len in let u = within g at in omega arith in
    on_err_weaker c.look.result (λ unchanged.
    let e = files_of-same c.self.inside.rows.items c.args.row c.look.new.observation c.index_mut-observation.result.now w c.index_mut-observation.ensures.value unchanged in
    ap (λ (f : Files). record { shelf = c.self.inside.shelf.now; files = f }) e ∙ c.self.view_is) c.look.ensures.err
