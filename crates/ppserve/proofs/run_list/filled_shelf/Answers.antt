use Rattle.std.proofs.Common.{◌≡◌, ◌∙◌, ℕ, ap, sym, subst, length, None, replicate}
use Rattle.ppserve.proofs.ServedOutput.{filled_files}
use Rattle.ppserve.proofs.run_list.filled_shelf.Goals as goal

pub returns-clause-files : goal.returns-clause-files
returns-clause-files c =
    let shelf = c.in_ok-shelf.shelf in
    let named : length shelf.names ≡ length c.args.names.names = ap length c.in_ok-shelf.ensures.names in
    let P : ℕ → Type 0 = λ n. shelf.filled ≡ replicate n None in
    filled_files c.args.contents shelf c.fill_with.new.self (subst P (sym named) c.in_ok-shelf.ensures.empty) (c.requires.count ∙ sym named) c.fill_with.ensures.shelf.0 c.fill_with.ensures.len
    c.fill_with.ensures.filled c.in_ok-fill_with.ensures.full
