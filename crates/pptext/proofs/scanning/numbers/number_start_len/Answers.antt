use Rattle.std.proofs.Common.{arith, sym, ◌∙◌}
use Rattle.std.proofs.lemmas.Bool.{false≢true}
use Rattle.std.proofs.lemmas.Bool.Decides.{nat_tests}
use Rattle.pptext.proofs.WordParts.{digit_start, period_start, no_start}
use Rattle.pptext.proofs.scanning.numbers.number_start_len.Goals as goal

pub returns-then-is_digit : goal.returns-then-is_digit
returns-then-is_digit c = digit_start c.args.text.now (grind (arith, nat_tests)) (sym c.is_digit.ensures ∙ c.if-is_digit.true)

pub returns-then-begins_with_fraction : goal.returns-then-begins_with_fraction
returns-then-begins_with_fraction c =
    let h = c.begins_with_fraction.ensures.0 c.if-begins_with_fraction.true in
    period_start c.args.text.now h.0 h.1 h.2

pub returns : goal.returns
returns c =
    no_start c.args.text.now (sym c.is_digit.ensures ∙ c.if-is_digit.false) (λ h. false≢true (sym c.if-begins_with_fraction.false ∙ c.begins_with_fraction.ensures.1 h))
