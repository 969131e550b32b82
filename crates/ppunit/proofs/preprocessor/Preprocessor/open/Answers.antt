use Rattle.std.proofs.Common.{◌≡◌, ◌∙◌, ℕ, List, Some, ap, subst}
use Rattle.std.specs.Prelude.{unwrap_or}
use Rattle.pptext.proofs.ErrorReturns.{stopped}
use Rattle.ppshelf.specs.Names.{name_in}
use Rattle.ppunit.specs.Dependencies.{has_row}
use Rattle.ppunit.specs.States.{with_dependency}
use Rattle.ppunit.specs.code.Contexts.{context_over}
use Rattle.ppunit.specs.code.Opening.{ToOpen, SpendsOpening, HasLines, HasFault, Begins, opening_in, shown_as}
use Rattle.ppunit.proofs.FileOpening.{opens_unpaid, opens_known, ready, opens_faulty, opens_begun}
use Rattle.ppunit.proofs.preprocessor.Preprocessor.open.Goals as goal

pub returns-in_err-spend_opening-clause-opened : goal.returns-in_err-spend_opening-clause-opened
returns-in_err-spend_opening-clause-opened g c =
    let names = c.args.self.now.context.now.shelf.names in
    stopped _ _ _ _ c.from_residual.ensures.1 c.in_err-spend_opening.ensures
    (λ fault unpaid more grows. opens_unpaid (context_over c.args.self.now.context.now more) c.args.depth c.args.opening.row (opening_in names c.args.opening) c.args.at
    c.args.self.now.state c.spend_opening.new.state fault
    (subst (λ (z : ToOpen). SpendsOpening c.args.depth c.args.at (name_in names z.row) c.args.self.now.state c.spend_opening.new.state (Some fault)) c.opening.view_is unpaid))

pub returns-then-branch-clause-opened : goal.returns-then-branch-clause-opened
returns-then-branch-clause-opened g c more grows =
    let names = c.args.self.now.context.now.shelf.names in
    let joins = subst (λ (z : ToOpen). c.record_dependency.new.state ≡ with_dependency c.spend_opening.new.state z.row) c.opening.view_is c.in_ok-record_dependency.ensures.joins in
    let known = subst (λ (z : ToOpen). c.in_ok-record_dependency.field-0 ≡ has_row z.row c.spend_opening.new.state.once) c.opening.view_is
    c.in_ok-record_dependency.ensures.is_once in
    opens_known (context_over c.args.self.now.context.now more) c.args.depth c.args.opening.row (opening_in names c.args.opening) c.args.at
    (name_in names c.args.opening.row) c.args.self.now.state c.spend_opening.new.state c.record_dependency.new.state
    c.in_ok-record_dependency.field-0 c.in_ok-spend_opening.ensures joins known c.if-branch.true

pub returns-in_err-source-clause-opened : goal.returns-in_err-source-clause-opened
returns-in_err-source-clause-opened g c =
    let names = c.args.self.now.context.now.shelf.names in
    let joins = subst (λ (z : ToOpen). c.record_dependency.new.state ≡ with_dependency c.spend_opening.new.state z.row) c.opening.view_is c.in_ok-record_dependency.ensures.joins in
    let known = subst (λ (z : ToOpen). c.in_ok-record_dependency.field-0 ≡ has_row z.row c.spend_opening.new.state.once) c.opening.view_is
    c.in_ok-record_dependency.ensures.is_once in
    let noted = ready c.args.depth c.args.opening.row c.args.at (name_in names c.args.opening.row)
    c.args.self.now.state c.spend_opening.new.state c.record_dependency.new.state c.in_ok-record_dependency.field-0
    c.in_ok-spend_opening.ensures joins known c.if-branch.false in
    rw c.source_of.ensures.state (stopped _ _ _ _ c.from_residual-in_err-source.ensures.1 c.in_err-source.ensures.fault
    (λ fault has more grows. opens_faulty c.args.self.now.context.now c.source_of.new.self.pass.now.files more c.args.depth c.args.opening.row (opening_in names c.args.opening) c.args.at
    c.args.self.now.state c.record_dependency.new.state fault noted
    (subst (λ (z : ToOpen). HasFault c.args.self.now.context.now.shelf c.source_of.new.self.pass.now.files z.row c.args.at fault) c.opening.view_is has) grows))

pub returns-clause-opened : goal.returns-clause-opened
returns-clause-opened g c =
    let names = c.args.self.now.context.now.shelf.names in
    let joins = subst (λ (z : ToOpen). c.record_dependency.new.state ≡ with_dependency c.spend_opening.new.state z.row) c.opening.view_is c.in_ok-record_dependency.ensures.joins in
    let known = subst (λ (z : ToOpen). c.in_ok-record_dependency.field-0 ≡ has_row z.row c.spend_opening.new.state.once) c.opening.view_is
    c.in_ok-record_dependency.ensures.is_once in
    let noted = ready c.args.depth c.args.opening.row c.args.at (name_in names c.args.opening.row)
    c.args.self.now.state c.spend_opening.new.state c.record_dependency.new.state c.in_ok-record_dependency.field-0
    c.in_ok-spend_opening.ensures joins known c.if-branch.false in
    let lines = subst (λ (z : ToOpen). HasLines c.args.self.now.context.now.shelf c.source_of.new.self.pass.now.files z.row c.in_ok-source.source.now) c.opening.view_is
    c.in_ok-source.ensures.lines in
    let begins = subst (λ (z : List ℕ). Begins c.args.at c.args.opening.row (shown_as (unwrap_or c.args.opening.shown z) c.args.opening) c.in_ok-source.source.now c.record_dependency.new.state c.begin.new.state
    c.in_ok-begin.field-0) (c.own_name-own.ensures ∙ ap (λ (z : ToOpen). name_in names z.row) c.opening.view_is) (rw c.source_of.ensures.state at c.in_ok-begin.ensures) in
    opens_begun c.args.self.now.context.now c.source_of.new.self.pass.now.files c.args.depth c.args.opening.row (opening_in names c.args.opening)
    c.args.at c.args.self.now.state c.record_dependency.new.state c.begin.new.state c.in_ok-source.source.now c.in_ok-begin.field-0 noted lines begins
