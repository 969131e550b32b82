use Rattle.std.proofs.Common.{drop}
use Rattle.pptext.specs.code.FoundLexemes.{spellings}
use Rattle.pptext.proofs.lexer.lexeme_at.Goals as goal

pub returns-in-Some-clause-finds : goal.returns-in-Some-clause-finds
returns-in-Some-clause-finds c = c.in-Some.ensures.some c.args.profile (spellings (drop c.args.start c.args.tokens.now))
