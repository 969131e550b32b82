use Rattle.std.proofs.Common.{drop}
use Rattle.std.proofs.lemmas.List.{take_rest}
use Rattle.pptext.specs.Languages.{Longest, Repeated}
use Rattle.pptext.specs.Spellings.{IsNondigit}
use Rattle.pptext.proofs.WordParts.{IdentPart}
use Rattle.pptext.proofs.LanguagePrefixes.{first_longest, first_lacks}
use Rattle.pptext.proofs.scanning.ident_len.Goals as goal

pub returns-then-first-eq0 : goal.returns-then-first-eq0
returns-then-first-eq0 c = first_lacks IsNondigit (Repeated IdentPart) c.args.text.now (c.nondigit_len-first.ensures.0 c.if-first-eq0.true)

pub returns : goal.returns
returns c =
    let first = c.nondigit_len-first.result in
    let rest : Longest (Repeated IdentPart) (drop first c.args.text.now) c.ident_rest_len.result = simp take_rest at c.ident_rest_len.ensures.longest in
    first_longest IsNondigit (Repeated IdentPart) c.args.text.now first c.ident_rest_len.result c.nondigit_len-first.ensures c.if-first-eq0.false rest
