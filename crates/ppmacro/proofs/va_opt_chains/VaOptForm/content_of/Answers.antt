use Rattle.std.proofs.Common.{◌≡◌, ◌∙◌, ◌+◌, suc, ap, arith}
use Rattle.ppmacro.specs.Substitution.{argument_at}
use Rattle.ppmacro.specs.PreExpansion.{after_own}
use Rattle.ppmacro.specs.code.KeptChains.{chains_at}
use Rattle.ppmacro.specs.code.VaOptLists.{arguments_at}
use Rattle.ppmacro.proofs.VaOptContents.{content-found, content-missing}
use Rattle.ppmacro.proofs.va_opt_chains.VaOptForm.content_of.Goals as goal

pub returns-in-Some-get : goal.returns-in-Some-get
returns-in-Some-get c = λ body.
    let n = c.args.self.now.parameters in
    let j = c.in-Some.index in
    let is : c.args.parameter ≡ suc n + j = omega (arith, c.in-Some.ensures.0, c.in-Some.ensures.1) in
    ap (chains_at body) c.as_slice.ensures.value
    ∙ content-found n body c.deref.result.now c.args.parameter j c.in-Some-get.content.now is c.in-Some-get.ensures.lookup.3.0 c.in-Some-get.ensures.lookup.1
    ∙ ap (λ vs. argument_at (after_own n (arguments_at body vs)) c.args.parameter) c.deref.ensures.value

pub returns-in-None : goal.returns-in-None
returns-in-None c = λ body.
    let n = c.args.self.now.parameters in
    let j = c.in-Some.index in
    let is : c.args.parameter ≡ suc n + j = omega (arith, c.in-Some.ensures.0, c.in-Some.ensures.1) in
    content-missing n body c.deref.result.now c.args.parameter j is c.in-None.ensures.lookup.3
    ∙ ap (λ vs. argument_at (after_own n (arguments_at body vs)) c.args.parameter) c.deref.ensures.value
