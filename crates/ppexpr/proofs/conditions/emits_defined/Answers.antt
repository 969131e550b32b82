use Rattle.std.proofs.Common.{◌∙◌, ap, sym, ◌||◌}
use Rattle.std.specs.List.{list_any}
use Rattle.std.proofs.lemmas.List.Folds.{list_any-append}
use Rattle.ppexpr.specs.DefinedOperator.{is_defined}
use Rattle.ppexpr.proofs.conditions.emits_defined.Goals as goal

pub returns-then-has_defined : goal.returns-then-has_defined
returns-then-has_defined c =
    c.if-has_defined.true
    ∙ ap (λ b. b || list_any is_defined c.args.scratch.now) c.if-has_defined.ensures
    ∙ sym (list_any-append is_defined c.args.prefix.now c.args.scratch.now)

pub returns-else-has_defined : goal.returns-else-has_defined
returns-else-has_defined c =
    c.have_defined.ensures
    ∙ ap (list_any is_defined) c.slices.ensures
    ∙ ap (λ b. b || list_any is_defined c.args.scratch.now) c.if-has_defined.ensures
    ∙ sym (list_any-append is_defined c.args.prefix.now c.args.scratch.now)
