use Rattle.std.proofs.Common.{◌∙◌, ◌++◌}
use Rattle.ppunit.specs.ShownNames as spec
use Rattle.ppunit.specs.code.Contexts.{context_over}
use Rattle.ppunit.proofs.shown_names.prefixed_name.Goals as goal

pub returns : goal.returns
returns g c = λ files.
    c.in_ok-new.ensures ∙ c.in_ok-extend_from_slice.ensures.items ∙ (λ i. (c.in_ok-name.ensures files i) ++ (c.as_bytes.ensures i))
    ∙ (λ i. spec.prefix_in (context_over c.args.context.now files) c.args.state.now c.args.number ++ (c.include_name.view_is i).name)
