use Rattle.std.proofs.Common.{◌≡◌, ◌∙◌}
use Rattle.std.proofs.lemmas.Result.{IfOk-weaker}
use Rattle.ppserve.specs.Listing.{verdict_of, validated, accepted}
use Rattle.ppserve.proofs.DraftValidation.{validated-runnable, validated-contents}
use Rattle.ppserve.proofs.list.read_list.Goals as goal

pub returns-clause-ok : goal.returns-clause-ok
returns-clause-ok c =
    IfOk-weaker c.validate.result (λ l. validated c.args.inline c.in_ok-draft.draft ≡ accepted l) (λ l. verdict_of c.args.inline c.args.bytes.now ≡ accepted l)
    (λ l e. c.in_ok-draft.ensures.ok ∙ e) c.validate.ensures.ok

pub returns-clause-bad : goal.returns-clause-bad
returns-clause-bad c = λ n e. c.in_ok-draft.ensures.ok ∙ c.validate.ensures.bad n e

pub returns-clause-runnable : goal.returns-clause-runnable
returns-clause-runnable c = IfOk-weaker _ _ _ (λ l e. validated-runnable c.args.inline c.in_ok-draft.draft l e) c.validate.ensures.ok

pub returns-clause-contents : goal.returns-clause-contents
returns-clause-contents c = λ i. IfOk-weaker _ _ _ (λ l e. validated-contents c.in_ok-draft.draft l (rw i at e)) c.validate.ensures.ok
