use Rattle.std.proofs.Common.{◌≡◌, ◌∙◌, refl, sym, ap}
use Rattle.std.proofs.lemmas.Result.{IfOk-weaker}
use Rattle.ppserve.specs.Listing.{accepted}
use Rattle.ppserve.specs.declared.list.ListFault.TheVariants.{Bad}
use Rattle.ppserve.proofs.list.validation.validate.Goals as goal

pub returns-in-Ok-clause-ok : goal.returns-in-Ok-clause-ok
returns-in-Ok-clause-ok c = IfOk-weaker c.listed.result _ _ (λ l e. c.in-Ok.ensures.ok c.args.inline ∙ ap accepted (sym e)) c.listed.ensures.ok

pub returns-in-Err-clause-bad : goal.returns-in-Err-clause-bad
returns-in-Err-clause-bad c = λ n e. let same : c.in-Err.fault ≡ Bad n = cc in c.in-Err.ensures.bad n (rw same refl) c.args.inline
