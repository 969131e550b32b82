use Rattle.std.proofs.Common.{◌<◌, ◌+◌, ◌++◌, ℕ, List, length, length-append, arith}
use Rattle.ppshelf.proofs.SearchResults.{pass_over, found_here}
use Rattle.ppshelf.proofs.search.row_in_directories.Goals as goal

within_both : {A : Type 0} (xs ys : List A) (i : ℕ) → i < length xs + length ys → i < length (xs ++ ys)
within_both xs ys i within = let all = length-append xs ys in omega (arith, within)

pub loop-index-init : goal.loop-index-init
loop-index-init g c = record { rest = λ found h. h }

pub loop-index-preserved : goal.loop-index-preserved
loop-index-preserved g c =
    let directories = c.args.directories.unit.now ++ c.args.directories.setting.now in
    let i = c.loop-index.index in
    let within = within_both c.args.directories.unit.now c.args.directories.setting.now i c.loop-index-test.true in
    pass_over _ directories c.args.name.now c.args.number i c.at_index.result.now c.loop-index.invariant within c.at_index.ensures (rw c.in_default.is at c.in_ok-row.ensures)

pub returns-in-Some : goal.returns-in-Some
returns-in-Some g c =
    let directories = c.args.directories.unit.now ++ c.args.directories.setting.now in
    let i = c.loop-index.index in
    let within = within_both c.args.directories.unit.now c.args.directories.setting.now i c.loop-index-test.true in
    found_here _ directories c.args.name.now c.args.number i c.at_index.result.now c.in-Some.row c.loop-index.invariant within c.at_index.ensures (rw c.in-Some.is at c.in_ok-row.ensures)
