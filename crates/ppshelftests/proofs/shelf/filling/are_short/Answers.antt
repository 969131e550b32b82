use Rattle.std.proofs.Common.{◌≤◌, ℕ, List, length, refl, ap, subst, arith}
use borrow.Author.Count.{below_more}
use Rattle.ppshelf.specs.Content.{longest}
use Rattle.ppshelf.specs.Files.{bytes_at}
use Rattle.ppshelf.proofs.FillInvariant.{bytes_here}
use Rattle.ppshelftests.proofs.shelf.filling.are_short.Goals as goal

pub loop-bytes-preserved : goal.loop-bytes-preserved
loop-bytes-preserved c =
    let contents = c.args.contents.now in
    let at = c.loop-bytes.bytes-index in
    let bytes = c.bytes-item.result in
    let here = bytes_here contents at at bytes refl (c.loop-bytes-test.true, c.bytes-item.is) in
    let short : length bytes ≤ longest = let same = ap length c.as_slice.ensures in omega arith in
    let P : List ℕ → Type 0 = λ b. length b ≤ longest in
    below_more (λ row. length (bytes_at contents row) ≤ longest) at c.loop-bytes.invariant (subst P here.1 short)
