use Rattle.std.proofs.Common.{ℕ, ◌<◌, ◌/◌, subst, rules}
use Rattle.pppool.proofs.run_units.block_count.Goals as goal

pub returns-clause-all : goal.returns-clause-all
returns-clause-all c =
    let P : ℕ → Type 0 = λ b. (i : ℕ) → i < c.args.units → i / b < c.div_ceil.result in
    subst P c.get.ensures.value (search rules)
