use Rattle.std.proofs.Common.{sym, ap, ◌∙◌}
use Rattle.pptext.specs.Spellings.{is_exponent}
use Rattle.pptext.proofs.TokenContinuation.{positive, last_is, letter_last, no_letter_last}
use Rattle.pptext.proofs.scanning.continuing.ends_in_exponent.Goals as goal

pub returns-then-is_exponent : goal.returns-then-is_exponent
returns-then-is_exponent c =
    letter_last c.args.text.now c.ends_in_universal.result (ap is_exponent (sym (last_is c.args.text.now (positive _ c.is_empty.result c.is_empty.ensures c.if-is_empty.false))) ∙ sym c.is_exponent.ensures ∙ c.if-is_exponent.true)
    c.ends_in_universal.ensures

pub returns-else-is_exponent : goal.returns-else-is_exponent
returns-else-is_exponent c =
    no_letter_last c.args.text.now c.is_exponent.result (c.is_exponent.ensures ∙ ap is_exponent (last_is c.args.text.now (positive _ c.is_empty.result c.is_empty.ensures c.if-is_empty.false))) c.if-is_exponent.false
