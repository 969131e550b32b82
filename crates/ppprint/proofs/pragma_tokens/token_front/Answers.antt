use Rattle.std.proofs.Common.{sym, ◌∙◌}
use Rattle.ppprint.proofs.PragmaTexts.{quote_front, token_front}
use Rattle.ppprint.proofs.pragma_tokens.token_front.Goals as goal

pub returns-then-is_unmatched_quote : goal.returns-then-is_unmatched_quote
returns-then-is_unmatched_quote c = quote_front c.args.text.now c.args.n c.args.kind c.requires.found (sym c.is_unmatched_quote.ensures ∙ c.if-is_unmatched_quote.true)

pub returns-else-is_unmatched_quote : goal.returns-else-is_unmatched_quote
returns-else-is_unmatched_quote c = token_front c.args.text.now c.args.n c.args.kind c.requires.found (sym c.is_unmatched_quote.ensures ∙ c.if-is_unmatched_quote.false)
