use Rattle.std.proofs.Common.{◌≡◌, Some}
use Rattle.std.proofs.lemmas.Result.{IfOk-weaker}
use Rattle.serde_json.specs.View.{view}
use Rattle.ppserve.specs.Drafting as drafting
use Rattle.ppserve.specs.Listing.{verdict_of, validated}
use Rattle.ppserve.proofs.DraftValidation.{verdict_of-draft}
use Rattle.ppserve.proofs.list.draft_from.Goals as goal

pub returns-clause-ok : goal.returns-clause-ok
returns-clause-ok c =
    let value = view c.in_ok-value.value in
    IfOk-weaker c.draft_of.result (λ d. drafting.draft c.args.inline value ≡ Some d) (λ d. verdict_of c.args.inline c.args.bytes.now ≡ validated c.args.inline d)
    (λ d e. verdict_of-draft c.args.inline c.args.bytes.now value d c.requires c.in_ok-value.ensures.ok e) c.draft_of.ensures.ok
