use Rattle.std.proofs.Common.{drop, arith}
use Rattle.std.proofs.lemmas.List.{take_rest}
use Rattle.pptext.specs.Languages.{Longest, Repeated}
use Rattle.pptext.specs.Spellings.{IsNondigit}
use Rattle.pptext.proofs.LanguagePrefixes.{nondigit_here, first_longest}
use Rattle.pptext.proofs.WordParts.{IdentPart}
use Rattle.pptext.proofs.scanning.word_len.Goals as goal

pub returns-clause-longest : goal.returns-clause-longest
returns-clause-longest c =
    let text = c.args.text.now in
    let rest : Longest (Repeated IdentPart) (drop 1 text) c.ident_rest_len.result = simp take_rest at c.ident_rest_len.ensures.longest in
    (first_longest IsNondigit (Repeated IdentPart) text 1 c.ident_rest_len.result (nondigit_here text c.requires.some c.requires.nondigit) (λ e. omega arith) rest).1 (omega arith)
