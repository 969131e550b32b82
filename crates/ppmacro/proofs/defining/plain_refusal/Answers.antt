use Rattle.std.proofs.Common.{sym, ◌∙◌}
use Rattle.ppmacro.proofs.TableFreeDefinitions.{unrefusable}
use Rattle.ppmacro.proofs.defining.plain_refusal.Goals as goal

pub returns : goal.returns
returns c = λ profile name.
    sym (unrefusable profile name (record { kind = c.args.kind.now; body = c.args.body.now })
    (sym c.misplaces_variable_arguments.ensures ∙ c.if-misplaces_variable_arguments.false)
    (sym c.misplaces_paste.ensures ∙ c.if-misplaces_paste.false)
    (sym c.in_ok-misplaces_operator_hash.ensures ∙ c.if-branch.false))
