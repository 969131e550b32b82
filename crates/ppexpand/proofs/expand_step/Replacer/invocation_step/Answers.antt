use Rattle.std.proofs.Common.{◌≡◌, ◌∙◌, ap}
use Rattle.std.proofs.lemmas.Result.{IfOk-weaker}
use Rattle.pptext.proofs.ErrorReturns.{if_settled-weaker, raised}
use Rattle.ppmacro.specs.HideSets.{hiding, hidings}
use Rattle.ppexpand.specs.Arguments.{UnmatchedQuote, Unclosed, gather, separators}
use Rattle.ppexpand.specs.ExpansionStep.{closed_invocation_step, invocation_step}
use Rattle.ppexpand.proofs.expand_step.Replacer.invocation_step.Goals as goal

pub closed_invocation_step-requires-clause-arguments : goal.closed_invocation_step-requires-clause-arguments
closed_invocation_step-requires-clause-arguments c =
    let known = rw c.in-Closed.is at (c.in_ok-arguments.ensures.known c.args.self.now.sets c.requires.list) in
    c.fit_arguments-fitting.ensures.known c.args.self.now.sets known.0

pub closed_invocation_step-requires-clause-close : goal.closed_invocation_step-requires-clause-close
closed_invocation_step-requires-clause-close c = (rw c.in-Closed.is at (c.in_ok-arguments.ensures.known c.args.self.now.sets c.requires.list)).1

pub returns-in-Closed-clause-is : goal.returns-in-Closed-clause-is
returns-in-Closed-clause-is c =
    let s = c.args.self.now.sets in
    let known = rw c.in-Closed.is at (c.in_ok-arguments.ensures.known s c.requires.list) in
    let found = rw c.in-Closed.is at (c.in_ok-arguments.ensures.is s) ∙ ap (λ n. gather 0 n (hidings s c.args.list.now)) c.separators.ensures in
    let whole = ap (invocation_step (hiding s c.args.name_token) c.args.definition.now c.args.names.now c.args.variadic) found in
    if_settled-weaker c.closed_invocation_step.result _ _ (λ r is. is c.gather.new.list known.2
    ∙ ap (λ f. closed_invocation_step (hiding s c.args.name_token) c.args.definition.now f (hiding s c.in-Closed.close) (hidings s c.gather.new.list)) (c.fit_arguments-fitting.ensures.is s)
    ∙ whole)
    c.closed_invocation_step.ensures.is

pub returns-in-Closed-clause-known : goal.returns-in-Closed-clause-known
returns-in-Closed-clause-known c =
    let known = rw c.in-Closed.is at (c.in_ok-arguments.ensures.known c.args.self.now.sets c.requires.list) in
    IfOk-weaker c.closed_invocation_step.result _ _ (λ n all. all c.gather.new.list known.2) c.closed_invocation_step.ensures.known

pub returns-in-UnmatchedQuote-clause-is : goal.returns-in-UnmatchedQuote-clause-is
returns-in-UnmatchedQuote-clause-is c =
    let s = c.args.self.now.sets in
    let found : UnmatchedQuote (hiding s c.in-UnmatchedQuote.quote) ≡ gather 0 (separators c.args.names.now c.args.variadic) (hidings s c.args.list.now) =
    rw c.in-UnmatchedQuote.is at (c.in_ok-arguments.ensures.is s) ∙ ap (λ n. gather 0 n (hidings s c.args.list.now)) c.separators.ensures in
    let whole = ap (invocation_step (hiding s c.args.name_token) c.args.definition.now c.args.names.now c.args.variadic) found in
    raised _ _ _ c.quote_fault.ensures whole

pub returns-clause-is : goal.returns-clause-is
returns-clause-is c =
    let s = c.args.self.now.sets in
    let found : Unclosed ≡ gather 0 (separators c.args.names.now c.args.variadic) (hidings s c.args.list.now) =
    rw c.in-Unclosed.is at (c.in_ok-arguments.ensures.is s) ∙ ap (λ n. gather 0 n (hidings s c.args.list.now)) c.separators.ensures in
    let whole = ap (invocation_step (hiding s c.args.name_token) c.args.definition.now c.args.names.now c.args.variadic) found in
    raised _ _ _ c.fault_at_expansion.ensures whole
