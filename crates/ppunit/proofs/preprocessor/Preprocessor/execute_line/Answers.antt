use Rattle.std.proofs.Common.{◌≡◌, None, Some, IfSome, List, [], ◌∷◌, false, refl, ap, subst}
use Rattle.std.specs.List.{list_any}
use Rattle.std.proofs.lemmas.Bool.{or_parts}
use Rattle.pptext.specs.Tokens.{is_unmatched_quote}
use Rattle.pptext.specs.declared.tokens.Token.{Token}
use Rattle.pptext.proofs.ErrorReturns.{stopped}
use Rattle.ppmacro.specs.DefineLines.{IsDefineLine}
use Rattle.pptext.specs.Lines.{LogicalLine}
use Rattle.ppunit.specs.States.{State}
use Rattle.ppunit.specs.DirectiveLines.{operands}
use Rattle.ppunit.specs.Directives.{refusal}
use Rattle.ppunit.specs.Quotes.{unmatched_quote}
use Rattle.ppunit.specs.code.Contexts.{context_over}
use Rattle.ppunit.specs.code.Lines.{directed}
use Rattle.ppunit.proofs.ControlLines.{other_control}
use Rattle.ppunit.proofs.preprocessor.Preprocessor.execute_line.Goals as goal

no-quote : (ts : List Token) → list_any is_unmatched_quote ts ≡ false → unmatched_quote ts ≡ None
no-quote [] none = refl
no-quote (t ∷ ts) none = let parts = or_parts (is_unmatched_quote t) (list_any is_unmatched_quote ts) none in rw parts.0 (no-quote ts parts.1)

no-refusal : (s : State) (line : LogicalLine) → s.waiting ≡ [] → refusal s.waiting line.directive (operands line.tokens) ≡ None
no-refusal s line none = ap (λ (ts : List Token). refusal ts line.directive (operands line.tokens)) none

pub returns-in_err-define_as_read-clause-control : goal.returns-in_err-define_as_read-clause-control
returns-in_err-define_as_read-clause-control g c =
    let line = directed c.args.line.directive c.args.line.tokens c.args.line.number in
    let is = subst (λ o. IfSome o (IsDefineLine line)) c.in-Some.is c.requires.define in
    stopped _ _ _ _ c.from_residual.ensures.1 c.in_err-define_as_read.ensures (λ fault gives more grows.
    other_control (context_over c.args.self.now.context.now more) c.args.depth c.args.line.row c.profile.result c.args.self.now.state c.define_as_read.new.state
    c.args.line.directive line (Some fault) c.profile.ensures refl (no-quote line.tokens is.matched) (no-refusal c.args.self.now.state line (c.is_waiting.ensures.no c.if-is_waiting.false)) gives)

pub returns-clause-control : goal.returns-clause-control
returns-clause-control g c = λ more grows.
    let line = directed c.args.line.directive c.args.line.tokens c.args.line.number in
    let is = subst (λ o. IfSome o (IsDefineLine line)) c.in-Some.is c.requires.define in
    other_control (context_over c.args.self.now.context.now more) c.args.depth c.args.line.row c.profile.result c.args.self.now.state c.define_as_read.new.state
    c.args.line.directive line None c.profile.ensures refl (no-quote line.tokens is.matched) (no-refusal c.args.self.now.state line (c.is_waiting.ensures.no c.if-is_waiting.false)) c.in_ok-define_as_read.ensures
