use Rattle.std.proofs.Common.{◌≡◌, subst}
use Rattle.std.specs.FinSet as set
use Rattle.pptext.specs.Errors.{UnlessOutOfMemory}
use Rattle.ppmacro.specs.HideSets.{set_at, hidings}
use Rattle.ppmacro.specs.Substitution.{replacement_by}
use Rattle.ppexpand.specs.ExpansionStep.{replaced_by, no_arguments}
use Rattle.ppexpand.specs.code.ProgramValues.{replaced_in}
use Rattle.ppexpand.proofs.expand_step.Replacer.replace_object.Goals as goal

pub returns-clause-is : goal.returns-clause-is
returns-clause-is c =
    let s = c.args.self.now.sets in
    let name_token = c.args.name_token.now in
    subst (λ chains. UnlessOutOfMemory c.replace.result (λ r. replaced_in c.replace.new.self.sets c.replace.new.list r
    ≡ replaced_by (replacement_by chains no_arguments (set.insert (set_at s c.args.base) name_token.token.text) name_token.token.used name_token.token.space) (hidings s c.args.list.now)))
    c.pattern.ensures c.replace.ensures.is
