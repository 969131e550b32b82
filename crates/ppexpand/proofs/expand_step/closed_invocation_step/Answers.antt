use Rattle.std.proofs.Common.{◌≡◌, ◌∙◌, sym, ap, subst}
use Rattle.pptext.proofs.ErrorReturns.{raised}
use Rattle.std.specs.FinSet as set
use Rattle.ppmacro.specs.HideSets.{set_at, hide_of, hiding, hidings}
use Rattle.ppmacro.proofs.PoolGrowthLemmas.{known-sets, known-keeps}
use Rattle.ppexpand.specs.ExpansionStep.{Invoked, closed_invocation_step, names_to_hide_for}
use Rattle.ppexpand.specs.code.ProgramValues.{fitting_in, FittingKnown}
use Rattle.ppexpand.proofs.GrowingHideSets.{invocation_made, given_known-keeps}
use Rattle.ppexpand.proofs.expand_step.closed_invocation_step.Goals as goal

pub returns-in_default-clause-is : goal.returns-in_default-clause-is
returns-in_default-clause-is c =
    let s = c.args.sets.now in
    raised _ _ _ c.fault_at_expansion.ensures (λ rest known.
    ap (λ a. closed_invocation_step (hiding s c.args.name_token) c.args.definition.now (fitting_in s a) (hiding s c.args.close.now) (hidings s rest)) (sym c.in_default.is))

pub returns-clause-is : goal.returns-clause-is
returns-clause-is c rest rest_known =
    let s = c.args.sets.now in
    let name_token = c.args.name_token in
    let keeps = c.in_ok-base.ensures.keeps in
    let name = name_token.token.text in
    let to_hide : set.insert (set_at c.common_hide_set.new.self c.in_ok-base.base) name ≡ names_to_hide_for (hide_of s name_token) (hide_of s c.args.close.now) name =
    ap (λ b. set.insert b name) c.in_ok-base.ensures.set in
    ap Invoked (invocation_made (record { name_token = name_token; definition = c.args.definition; arguments = c.in-Some.arguments; base = c.in_ok-base.base })
    rest _ keeps c.requires.name_token (subst (FittingKnown s) c.in-Some.is c.requires.arguments) rest_known to_hide)
    ∙ ap (λ a. closed_invocation_step (hiding s name_token) c.args.definition.now (fitting_in s a) (hiding s c.args.close.now) (hidings s rest)) (sym c.in-Some.is)

pub returns-clause-known : goal.returns-clause-known
returns-clause-known c rest rest_known =
    let keeps = c.in_ok-base.ensures.keeps in (
      record {
        name_token = known-sets c.args.name_token keeps c.requires.name_token;
        arguments = given_known-keeps c.in-Some.arguments.items keeps (subst (FittingKnown c.args.sets.now) c.in-Some.is c.requires.arguments);
        base_known = c.in_ok-base.ensures.known;
      },
      known-keeps rest keeps rest_known,
    )
