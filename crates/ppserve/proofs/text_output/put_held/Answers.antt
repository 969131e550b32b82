use Rattle.std.proofs.Common.{ap, ◌∙◌}
use Rattle.ppprint.specs.code.Held.{optional_token}
use Rattle.ppserve.specs.code.TextPieces.{shown_tokens}
use Rattle.ppserve.proofs.TextItems.{shown_as, shown_joined, shown_then}
use Rattle.ppserve.proofs.text_output.put_held.Goals as goal

pub returns-clause-items : goal.returns-clause-items
returns-clause-items g c =
    let n = c.args.text.now.printer.numbering in
    let first = c.put_optional.ensures.numbering in
    let second = c.put_optional-2.ensures.numbering ∙ first in
    let open_items = shown_as (ap (λ m. shown_tokens m (optional_token c.tokens.result.1)) first) c.put_optional-2.ensures.items in
    let literal_items = shown_as (ap (λ m. shown_tokens m (optional_token c.tokens.result.2)) second) c.put_optional-3.ensures.items in
    shown_as (shown_joined n (optional_token c.tokens.result.0) (optional_token c.tokens.result.1) (optional_token c.tokens.result.2) _ c.tokens.ensures) (shown_then c.put_optional.ensures.items (shown_then open_items literal_items))
