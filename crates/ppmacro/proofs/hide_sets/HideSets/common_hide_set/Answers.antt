use Rattle.std.proofs.Common.{◌∙◌}
use Rattle.std.specs.FinSet as set
use Rattle.ppmacro.proofs.PoolGrowthLemmas.{set-keeps, hide-keeps, known-sets, keeps-after}
use Rattle.ppmacro.proofs.hide_sets.HideSets.common_hide_set.Goals as goal

pub hide_set_of-requires-2 : goal.hide_set_of-requires-2
hide_set_of-requires-2 c = known-sets c.args.right.now c.hide_set_of.ensures.keeps c.requires.right

pub returns-in_err-two-clause-keeps : goal.returns-in_err-two-clause-keeps
returns-in_err-two-clause-keeps c = keeps-after c.hide_set_of.ensures.keeps c.hide_set_of-2.ensures.keeps

pub returns-in_err-both-clause-keeps : goal.returns-in_err-both-clause-keeps
returns-in_err-both-clause-keeps c = keeps-after (keeps-after c.hide_set_of.ensures.keeps c.hide_set_of-2.ensures.keeps) c.meet.ensures.keeps

pub returns-clause-keeps : goal.returns-clause-keeps
returns-clause-keeps c = keeps-after (keeps-after c.hide_set_of.ensures.keeps c.hide_set_of-2.ensures.keeps) c.meet.ensures.keeps

pub returns-clause-set : goal.returns-clause-set
returns-clause-set c =
    let one = set-keeps c.in_ok-one.one c.hide_set_of-2.ensures.keeps c.in_ok-one.ensures.known ∙ c.in_ok-one.ensures.set in
    let two = c.in_ok-two.ensures.set ∙ hide-keeps c.args.right.now c.hide_set_of.ensures.keeps c.requires.right in
    c.in_ok-both.ensures.set ∙ (λ i. set.intersection (one i) (two i))
