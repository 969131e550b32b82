use Rattle.std.proofs.Common.{sym, ap}
use Rattle.ppprint.specs.code.Held.{optional_token}
use Rattle.ppserve.specs.code.TextPieces.{shown_tokens}
use Rattle.ppserve.proofs.TextItems.{shown_as, shown_none}
use Rattle.ppserve.proofs.text_output.put_optional.Goals as goal

pub returns-in-Some-clause-items : goal.returns-in-Some-clause-items
returns-in-Some-clause-items g c = shown_as (ap (λ o. shown_tokens c.args.printer.now.numbering (optional_token o)) (sym c.in-Some.is)) c.put_located.ensures.items

pub returns-in_default-clause-items : goal.returns-in_default-clause-items
returns-in_default-clause-items g c = shown_as (ap (λ o. shown_tokens c.args.printer.now.numbering (optional_token o)) (sym c.in_default.is)) shown_none
