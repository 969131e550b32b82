use Rattle.std.proofs.Common.{◌≡◌, None, Some, refl, sym, ap, ◌∙◌}
use Rattle.pptext.specs.declared.directives.Class.{Class}
use Rattle.pptext.specs.declared.directives.Class.TheVariants as class
use Rattle.pptext.specs.Classes.{class_of}
use Rattle.pptext.proofs.ErrorReturns.{raised, stopped}
use Rattle.ppunit.specs.code.Contexts.{context_over}
use Rattle.ppunit.specs.code.Lines.{directed}
use Rattle.ppunit.specs.Directives.{checks_quotes}
use Rattle.ppunit.specs.Group.{ExecutesControlLine}
use Rattle.ppunit.proofs.ControlLines.{other_control, refused_line, neither, leads_include}
use Rattle.ppunit.proofs.DirectiveEffects.{other_is_control, other_looks}
use Rattle.ppunit.proofs.UnitValue.{on_settled}
use Rattle.ppunit.proofs.preprocessor.Preprocessor.execute_control_line.Goals as goal

pub returns-in-Error-clause-control : goal.returns-in-Error-clause-control
returns-in-Error-clause-control g c =
    let is : class_of c.args.line.directive ≡ class.Error = sym c.class.ensures ∙ c.in-Error.is in
    raised _ _ _ c.error.ensures (λ more grows. ExecutesControlLine.error (ap (λ (z : Class). Some z) is))

pub returns-in-Ignored-clause-control : goal.returns-in-Ignored-clause-control
returns-in-Ignored-clause-control g c more grows =
    let is : class_of c.args.line.directive ≡ class.Ignored = sym c.class.ensures ∙ c.in-Ignored.is in
    ExecutesControlLine.ignored (ap (λ (z : Class). Some z) is)

pub returns-in_err-refuse_line-in-Includes-clause-control : goal.returns-in_err-refuse_line-in-Includes-clause-control
returns-in_err-refuse_line-in-Includes-clause-control g c =
    let is : class_of c.args.line.directive ≡ class.Includes c.in-Includes.include_next = sym c.class.ensures ∙ c.in-Includes.is in
    stopped _ _ _ _ c.from_residual.ensures.1 c.in_err-refuse_line-in-Includes.ensures (λ fault refuses more grows.
    refused_line (context_over c.args.self.now.context.now more) c.args.depth c.args.line.row c.args.self.now.state
    (directed c.args.line.directive c.args.line.tokens c.args.line.number) fault (ap (λ (z : Class). checks_quotes (Some z)) is) refuses)

pub returns-in_ok-refuse_line-in-Includes-clause-control : goal.returns-in_ok-refuse_line-in-Includes-clause-control
returns-in_ok-refuse_line-in-Includes-clause-control g c =
    let is : class_of c.args.line.directive ≡ class.Includes c.in-Includes.include_next = sym c.class.ensures ∙ c.in-Includes.is in
    let free = neither _ _ c.in_ok-refuse_line-in-Includes.ensures in
    on_settled c.include.result
    (λ r leads. leads_include (context_over c.args.self.now.context.now) c.include.new.self.pass.now.files c.args.depth c.args.line.row c.in-Includes.include_next c.previous_directory-directory.result
    (directed c.args.line.directive c.args.line.tokens c.args.line.number) c.args.self.now.state c.include.new.self.state r
    c.previous_directory-directory.ensures (ap (λ (z : Class). Some z) is) free.0 free.1 leads)
    c.include.ensures.includes

pub returns-in_err-refuse_line-in_default : goal.returns-in_err-refuse_line-in_default
returns-in_err-refuse_line-in_default g c = record {
  keeps_context = record { context = refl; pass = refl; grows = λ row content known. known };
  control = stopped _ _ _ _ c.from_residual-in_err-refuse_line-in_default.ensures.1 c.in_err-refuse_line-in_default.ensures (λ fault refuses more grows.
      refused_line (context_over c.args.self.now.context.now more) c.args.depth c.args.line.row c.args.self.now.state
      (directed c.args.line.directive c.args.line.tokens c.args.line.number) fault
      (other_looks (class_of c.args.line.directive) (λ e. c.in_default.not-Error (c.class.ensures ∙ e)) (λ e. c.in_default.not-Ignored (c.class.ensures ∙ e)))
      refuses);
}

pub returns-in_err-control-in_default : goal.returns-in_err-control-in_default
returns-in_err-control-in_default g c =
    let free = neither _ _ c.in_ok-refuse_line-in_default.ensures in
    let line = directed c.args.line.directive c.args.line.tokens c.args.line.number in
    record {
      keeps_context = record { context = refl; pass = refl; grows = λ row content known. known };
      control = stopped _ _ _ _ c.from_residual-in_err-control-in_default.ensures.1 c.in_err-control-in_default.ensures (λ fault gives more grows.
          other_control (context_over c.args.self.now.context.now more) c.args.depth c.args.line.row c.profile.result c.args.self.now.state c.control.new.state
          c.args.line.directive line (Some fault) c.profile.ensures refl free.0 free.1 gives);
    }

pub returns-in_ok-control-in_default : goal.returns-in_ok-control-in_default
returns-in_ok-control-in_default g c =
    let free = neither _ _ c.in_ok-refuse_line-in_default.ensures in
    let line = directed c.args.line.directive c.args.line.tokens c.args.line.number in
    record {
      keeps_context = record { context = refl; pass = refl; grows = λ row content known. known };
      control = λ more grows. other_control (context_over c.args.self.now.context.now more) c.args.depth c.args.line.row c.profile.result c.args.self.now.state
          c.control.new.state c.args.line.directive line None c.profile.ensures refl free.0 free.1 c.in_ok-control-in_default.ensures;
    }

pub control-requires : goal.control-requires
control-requires g c =
    other_is_control (class_of c.args.line.directive) c.requires.opens c.requires.ends (λ e. c.in_default.not-Error (c.class.ensures ∙ e))
    (λ e. c.in_default.not-Ignored (c.class.ensures ∙ e)) (λ next e. c.in_default.not-Includes next (c.class.ensures ∙ e))
