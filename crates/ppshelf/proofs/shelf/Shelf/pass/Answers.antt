use Rattle.std.proofs.Common.{◌≡◌, ℕ, List, length, ap, subst, arith}
use Rattle.ppshelf.specs.Files.{ShelfView}
use Rattle.ppshelf.specs.code.ShelfRows.{IsPass, RowState}
use Rattle.ppshelf.proofs.ObservedContents.{Unseen, unseen_pass}
use Rattle.ppshelf.proofs.shelf.Shelf.pass.Goals as goal

pub invariant_of-result : goal.invariant_of-result
invariant_of-result g c =
    let P : ShelfView → Type 0 = λ s. IsPass g.D.Disk.may s c.loop-row.rows.items in
    let rows : List RowState = c.self.inside.rows.items in
    let e = c.deref-row-items.ensures.value in
    let n : c.loop-row.row-index ≡ length rows = let a = ap (λ (xs : List RowState). length xs) e in let b = c.loop-row-test.false in let d = c.loop-row.auto.row-index-end in omega arith in
    let u : Unseen rows c.loop-row.rows.items (length rows) = subst (λ (m : ℕ). Unseen rows c.loop-row.rows.items m) n (subst (λ (s : List RowState). Unseen s c.loop-row.rows.items c.loop-row.row-index) e c.loop-row.invariant) in (
      subst P c.self.view_is (unseen_pass g.D.Disk.may c.self.inside.profile c.self.inside.names rows c.loop-row.rows.items c.self.invariant.count u),
      c.in_ok-new.ensures,
    )
