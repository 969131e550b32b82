use Rattle.std.proofs.Common.{drop}
use Rattle.std.proofs.lemmas.List.{take_rest}
use Rattle.pptext.specs.Languages.{Longest, Repeated}
use Rattle.pptext.specs.Spellings.{IsNumberPart}
use Rattle.pptext.proofs.WordParts.{NumberStart}
use Rattle.pptext.proofs.LanguagePrefixes.{first_longest, first_lacks}
use Rattle.pptext.proofs.scanning.numbers.number_len.Goals as goal

pub returns-then-start-eq0 : goal.returns-then-start-eq0
returns-then-start-eq0 c = first_lacks NumberStart (Repeated IsNumberPart) c.args.text.now (c.number_start_len-start.ensures.0 c.if-start-eq0.true)

pub returns : goal.returns
returns c =
    let start = c.number_start_len-start.result in
    let rest : Longest (Repeated IsNumberPart) (drop start c.args.text.now) c.number_rest_len.result = simp take_rest at c.number_rest_len.ensures.longest in
    first_longest NumberStart (Repeated IsNumberPart) c.args.text.now start c.number_rest_len.result c.number_start_len-start.ensures c.if-start-eq0.false rest
