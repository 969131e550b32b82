use Rattle.std.proofs.Common.{◌∙◌, sym, subst}
use Rattle.std.specs.FinSet as set
use Rattle.pptext.proofs.ErrorReturns.{if_settled-weaker}
use Rattle.ppmacro.specs.HideSets.{set_at, hidings}
use Rattle.ppmacro.specs.Substituting.{ArgumentsKnown, arguments_in}
use Rattle.ppmacro.specs.Substitution.{replacement_by}
use Rattle.ppexpand.specs.ExpansionStep.{replaced_by, finish_by_parameter}
use Rattle.ppexpand.proofs.GrowingHideSets.{arguments_known}
use Rattle.ppexpand.proofs.expand_step.Replacer.finish_invocation.Goals as goal

pub replace-requires-clause-arguments : goal.replace-requires-clause-arguments
replace-requires-clause-arguments c =
    let known = arguments_known c.args.invocation.now.arguments.items c.args.expanded.now c.requires.invocation.arguments c.requires.expanded in
    subst (λ given. ArgumentsKnown c.args.self.now.sets given c.args.expanded.now) (sym c.as_slice.ensures.value) known

pub returns-clause-is : goal.returns-clause-is
unfolding finish_by_parameter
returns-clause-is c =
    let s = c.args.self.now.sets in
    let invocation = c.args.invocation.now in
    let name = invocation.name_token.token in
    if_settled-weaker c.replace.result _ _ (λ r is. is
    ∙ (λ i. replaced_by (replacement_by (c.pattern.ensures i) (arguments_in s (c.as_slice.ensures.value i) c.args.expanded.now)
    (set.insert (set_at s invocation.base) name.text) name.used name.space)
    (hidings s c.args.list.now)))
    c.replace.ensures.is
