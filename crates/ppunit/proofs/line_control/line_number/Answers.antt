use Rattle.std.proofs.lemmas.Grind.{common_steps}
use Rattle.std.proofs.Common.{◌≡◌, ◌+◌, ◌*◌, true, get_or, subst, sym, ap, ◌∙◌, arith}
use Rattle.pptext.specs.Spellings.{is_digit}
use Rattle.ppunit.proofs.OperandTexts.{Reads, reads_digit, reads_on}
use Rattle.ppunit.proofs.line_control.line_number.Goals as goal
use Rattle.ppunit.proofs.line_control.line_number.Goals.{then-number-le-MAX_LINE_NUMBER, else-number-le-MAX_LINE_NUMBER}

-- src/line_control.rt:36:5
pub loop-byte-preserved : goal.loop-byte-preserved
loop-byte-preserved c =
    let digits = c.as_bytes-byte-items.result.now in
    let i = c.loop-byte.byte-index in
    let digit : is_digit (get_or digits i 0) ≡ true = sym c.is_digit.ensures ∙ c.if-not-is_digit.false in
    elim c.if-number-le-MAX_LINE_NUMBER.branch [
      | then-number-le-MAX_LINE_NUMBER w ↦ subst (Reads digits (i + 1)) (sym (w.number-is ∙ ap (λ d. c.loop-byte.number * 10 + d) w.from.ensures))
          (reads_digit digits i c.loop-byte.number c.loop-byte-test.true digit w.if-number-le-MAX_LINE_NUMBER.true c.loop-byte.invariant)
      | else-number-le-MAX_LINE_NUMBER w ↦ subst (Reads digits (i + 1)) (sym w.number-is) (reads_on digits i c.loop-byte.number c.loop-byte-test.true digit (omega (arith, w.if-number-le-MAX_LINE_NUMBER.false)) c.loop-byte.invariant)
    ]

pub returns : goal.returns
returns c = grind (arith, common_steps)
