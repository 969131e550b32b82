use Rattle.std.proofs.Common.{rules, ◌≡◌, sym, subst}
use Rattle.ppmacro.specs.HideSets.{set_at}
use Rattle.ppmacro.specs.code.Replacing.{HasSubset}
use Rattle.ppmacro.proofs.AddedNames.{within-itself}
use Rattle.ppmacro.proofs.substituting.hsadd.is_subset.Goals as goal

pub returns-then-eq : goal.returns-then-eq
returns-then-eq c e sets base =
    let same : c.args.set ≡ c.args.base = search rules in
    subst (HasSubset sets c.args.added) (sym same) base

pub returns : goal.returns
returns c e sets base =
    let same : c.args.set ≡ c.args.added = search rules in
    subst (HasSubset sets c.args.added) (sym same) (within-itself (set_at sets c.args.added))
