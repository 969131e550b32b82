use Rattle.std.proofs.Common.{◌∙◌}
use Rattle.std.specs.FinSet as set
use Rattle.pptext.proofs.ErrorReturns.{stopped}
use Rattle.ppmacro.proofs.PoolGrowthLemmas.{hidings-keeps, known-keeps}
use Rattle.ppmacro.specs.Substitution.{macro_replacement}
use Rattle.ppexpand.specs.ExpansionStep.{replaced_by, no_arguments}
use Rattle.ppexpand.proofs.expand_step.Replacer.object_step.Goals as goal

pub replace_object-requires-clause-list : goal.replace_object-requires-clause-list
replace_object-requires-clause-list c = known-keeps c.args.list.now c.in_ok-base.ensures.keeps c.requires.list

pub returns-in_err-replace_object-clause-is : goal.returns-in_err-replace_object-clause-is
returns-in_err-replace_object-clause-is c =
    let name = c.args.name_token.now.token in
    let rest = hidings-keeps c.args.list.now c.in_ok-base.ensures.keeps c.requires.list in
    stopped _ _ _ _ c.from_residual-in_err-replace_object.ensures.1 c.in_err-replace_object.ensures.is (λ f is. is
    ∙ (λ i. replaced_by (macro_replacement c.args.definition.now no_arguments (set.insert (c.in_ok-base.ensures.set i) name.text) name.used name.space) (rest i)))

pub returns-clause-is : goal.returns-clause-is
returns-clause-is c =
    let name = c.args.name_token.now.token in
    let rest = hidings-keeps c.args.list.now c.in_ok-base.ensures.keeps c.requires.list in
    c.in_ok-replace_object.ensures.is
    ∙ (λ i. replaced_by (macro_replacement c.args.definition.now no_arguments (set.insert (c.in_ok-base.ensures.set i) name.text) name.used name.space) (rest i))
