use Rattle.std.proofs.Common.{◌≡◌, ◌∙◌, ℕ, List, ◌++◌, sym, ap, subst, map}
use Rattle.ppmacro.specs.Names.{Macros}
use Rattle.ppmacro.specs.Hiding.{Hiding}
use Rattle.ppmacro.specs.HideSets.{hidings, AllKnown}
use Rattle.ppmacro.specs.Substitution.{unhidden}
use Rattle.ppmacro.specs.Substituting.{tokens_of}
use Rattle.ppexpand.specs.declared.env.Env.{Env}
use Rattle.ppexpand.specs.declared.meter.Meter.{Meter}
use Rattle.ppexpand.specs.Expansion.{Outcome, ExpandsTo}
use Rattle.ppexpand.specs.code.Lists.{with_set}
use Rattle.ppexpand.proofs.SkippedTokens.{known-with_set, hidings-with_set}
use Rattle.ppexpand.proofs.expansion.expand_tokens.Goals as goal

at_start : (macros : Macros) (env : Env) (level : ℕ) (meter first : Meter) (list start : List Hiding) (out : Outcome)
    → level ≡ 0
    → meter ≡ first
    → list ≡ start
    → ExpandsTo macros env level meter list out
    → ExpandsTo macros env 0 first start out
at_start macros env level meter first list start out low kept same one =
    subst (λ l. ExpandsTo macros env 0 first l out) same (subst (λ m. ExpandsTo macros env 0 m list out) kept (subst (λ n. ExpandsTo macros env n meter list out) low one))

pub expand_leaving_open-outcome-requires-clause-known : goal.expand_leaving_open-outcome-requires-clause-known
expand_leaving_open-outcome-requires-clause-known c =
    let s = c.renew_sets.new.self.replacer.sets in
    subst (AllKnown s) (sym c.over-list.ensures) (known-with_set s c.empty.result _ c.empty.ensures.known)

pub returns-in-Ok : goal.returns-in-Ok
returns-in-Ok c =
    let s = c.renew_sets.new.self.replacer.sets in
    let tokens = tokens_of c.args.stack.now.items ++ c.args.tokens.now in
    let start : hidings s c.over-list.result ≡ map unhidden tokens =
    ap (hidings s) (c.over-list.ensures ∙ (λ i. map (with_set c.empty.result) (tokens_of (c.replace-pushed.ensures.value i).items ++ c.args.tokens.now))) ∙ hidings-with_set s c.empty.result tokens c.empty.ensures.set in
    (c.expand_leaving_open-outcome.new.self.replacer.sets, at_start _ _ _ _ _ _ _ _ c.requires.level c.renew_sets.ensures.meter start (rw c.in-Ok.is at c.expand_leaving_open-outcome.ensures).expands)

pub returns-in-Err-Fault : goal.returns-in-Err-Fault
returns-in-Err-Fault c =
    let s = c.renew_sets.new.self.replacer.sets in
    let tokens = tokens_of c.args.stack.now.items ++ c.args.tokens.now in
    let start : hidings s c.over-list.result ≡ map unhidden tokens =
    ap (hidings s) (c.over-list.ensures ∙ (λ i. map (with_set c.empty.result) (tokens_of (c.replace-pushed.ensures.value i).items ++ c.args.tokens.now))) ∙ hidings-with_set s c.empty.result tokens c.empty.ensures.set in
    let raised = rw c.in-Err-Fault.field-0-is at (rw c.in-Err-Fault.is at c.expand_leaving_open-outcome.ensures) in
    (c.expand_leaving_open-outcome.new.self.replacer.sets, at_start _ _ _ _ _ _ _ _ c.requires.level c.renew_sets.ensures.meter start raised.expands)
