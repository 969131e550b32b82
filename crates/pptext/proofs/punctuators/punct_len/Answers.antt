use Rattle.std.proofs.Common.{◌≡◌, arith}
use Rattle.pptext.proofs.LanguagePrefixes.{lacks}
use Rattle.pptext.proofs.LongestPunctuator.{longest_at, none_at, above_two, above_one}
use Rattle.pptext.proofs.punctuators.punct_len.Goals as goal

pub returns-then-begins_with_punct : goal.returns-then-begins_with_punct
returns-then-begins_with_punct c =
    longest_at c.args.text.now 4 (omega arith) (c.begins_with_punct.ensures.0 c.if-begins_with_punct.true) (λ m a b h. absurd (omega arith))

pub returns-then-begins_with_punct-2 : goal.returns-then-begins_with_punct-2
returns-then-begins_with_punct-2 c =
    longest_at c.args.text.now 3 (omega arith) (c.begins_with_punct-else-begins_with_punct.ensures.0 c.if-begins_with_punct-2.true)
    (λ m a b h. let four : m ≡ 4 = omega arith in lacks _ c.if-begins_with_punct.false c.begins_with_punct.ensures.1 (rw four at h))

pub returns-then-begins_with_punct-3 : goal.returns-then-begins_with_punct-3
returns-then-begins_with_punct-3 c =
    longest_at c.args.text.now 2 (omega arith) (c.begins_with_punct-else-begins_with_punct-2.ensures.0 c.if-begins_with_punct-3.true)
    (above_two c.args.text.now (lacks _ c.if-begins_with_punct.false c.begins_with_punct.ensures.1)
    (lacks _ c.if-begins_with_punct-2.false c.begins_with_punct-else-begins_with_punct.ensures.1))

pub returns-then-begins_with_punct-4 : goal.returns-then-begins_with_punct-4
returns-then-begins_with_punct-4 c =
    longest_at c.args.text.now 1 (omega arith) (c.begins_with_punct-else-begins_with_punct-3.ensures.0 c.if-begins_with_punct-4.true)
    (above_one c.args.text.now (lacks _ c.if-begins_with_punct.false c.begins_with_punct.ensures.1)
    (lacks _ c.if-begins_with_punct-2.false c.begins_with_punct-else-begins_with_punct.ensures.1)
    (lacks _ c.if-begins_with_punct-3.false c.begins_with_punct-else-begins_with_punct-2.ensures.1))

pub returns-else-begins_with_punct-4 : goal.returns-else-begins_with_punct-4
returns-else-begins_with_punct-4 c =
    none_at c.args.text.now (lacks _ c.if-begins_with_punct.false c.begins_with_punct.ensures.1)
    (lacks _ c.if-begins_with_punct-2.false c.begins_with_punct-else-begins_with_punct.ensures.1)
    (lacks _ c.if-begins_with_punct-3.false c.begins_with_punct-else-begins_with_punct-2.ensures.1)
    (lacks _ c.if-begins_with_punct-4.false c.begins_with_punct-else-begins_with_punct-3.ensures.1)
