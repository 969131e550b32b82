use Rattle.std.proofs.Common.{◌≡◌, ◌∙◌, ◌++◌, ap, sym, true, if◌then◌else◌}
use Rattle.ppshelf.specs.Names.{name_in}
use Rattle.ppunit.specs.ShownNames as spec
use Rattle.ppunit.specs.code.Contexts.{context_over}
use Rattle.ppunit.proofs.shown_names.shown_name.Goals as goal

pub returns : goal.returns
returns g c = λ files row.
    let context = c.args.context.now in
    let shows : context.showing.shows_names ≡ true =
    sym (λ i. ((c.behind-context.view_is ∙ c.showing.ensures) i).shows_names) ∙ c.if-not-showing.false in
    c.in_ok-name.ensures files
    ∙ sym (ap (λ b. if b then spec.prefix_in (context_over context files) c.args.state.now c.args.number ++ c.args.include_name.now.name else name_in context.shelf.names row) shows)
