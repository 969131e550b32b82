use Rattle.std.proofs.Common.{arith, sym, ◌∙◌}
use Rattle.std.proofs.lemmas.Bool.{false≢true}
use Rattle.std.proofs.lemmas.Bool.Decides.{nat_tests}
use Rattle.pptext.proofs.WordParts.{digit_part, exponent_part, nondigit_part}
use Rattle.pptext.proofs.scanning.numbers.number_part_len.Goals as goal

pub returns-then-is_digit_or_period : goal.returns-then-is_digit_or_period
returns-then-is_digit_or_period c = digit_part c.args.text.now (grind (arith, nat_tests)) (sym c.is_digit_or_period.ensures ∙ c.if-is_digit_or_period.true)

pub returns-then-begins_with_exponent : goal.returns-then-begins_with_exponent
returns-then-begins_with_exponent c =
    let h = c.begins_with_exponent.ensures.0 c.if-begins_with_exponent.true in
    exponent_part c.args.text.now h.0 h.1 h.2

pub returns : goal.returns
returns c =
    nondigit_part c.args.text.now c.nondigit_len.result (sym c.is_digit_or_period.ensures ∙ c.if-is_digit_or_period.false)
    (λ h. false≢true (sym c.if-begins_with_exponent.false ∙ c.begins_with_exponent.ensures.1 h)) c.nondigit_len.ensures
