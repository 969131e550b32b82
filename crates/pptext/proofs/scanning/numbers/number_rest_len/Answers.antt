use Rattle.std.proofs.Common.{drop}
use Rattle.std.proofs.lemmas.List.{take_rest}
use Rattle.pptext.specs.code.Scanning.{NextPart}
use Rattle.pptext.specs.Spellings.{IsNumberPart}
use Rattle.pptext.proofs.LanguagePrefixes.{completed_next, completed_all}
use Rattle.pptext.proofs.scanning.numbers.number_rest_len.Goals as goal

pub returns-then-n-eq0-clause-longest : goal.returns-then-n-eq0-clause-longest
returns-then-n-eq0-clause-longest c =
    let p : NextPart IsNumberPart (drop c.loop-at.at c.args.text.now) c.number_part_len-n.result = simp take_rest at c.number_part_len-n.ensures in
    completed_all IsNumberPart c.args.text.now c.loop-at.at c.loop-at.invariant.completes (p.0 c.if-n-eq0.true)

pub loop-at-preserved : goal.loop-at-preserved
loop-at-preserved c =
    let p : NextPart IsNumberPart (drop c.loop-at.at c.args.text.now) c.number_part_len-n.result = simp take_rest at c.number_part_len-n.ensures in
    let done = completed_next IsNumberPart c.args.text.now c.loop-at.at c.number_part_len-n.result c.loop-at.invariant.within c.loop-at.invariant.completes p c.if-n-eq0.false in
    record { within = done.0; completes = done.1 }
