use Rattle.pptext.specs.code.Scanning.{IsQuoted}
use Rattle.pptext.proofs.LanguagePrefixes.{then_none_first, then_found}
use Rattle.pptext.proofs.Literals.{StrOpening, str_part}
use Rattle.pptext.proofs.scanning.literals.str_len.Goals as goal

pub returns-then-opening-eq0-clause-part : goal.returns-then-opening-eq0-clause-part
returns-then-opening-eq0-clause-part c =
    str_part c.args.text.now 0 (then_none_first StrOpening (IsQuoted 34) c.args.text.now c.str_opening_len-opening.result c.str_opening_len-opening.ensures c.if-opening-eq0.true)

pub returns-clause-part : goal.returns-clause-part
returns-clause-part c =
    str_part c.args.text.now c.literal_len.result
    (then_found StrOpening (IsQuoted 34) c.args.text.now c.str_opening_len-opening.result c.literal_len.result c.str_opening_len-opening.ensures
    c.if-opening-eq0.false c.literal_len.ensures.none c.literal_len.ensures.some)
