use Rattle.std.proofs.Common.{get_or, sym, ◌∙◌, arith}
use Rattle.pptext.proofs.FirstByteTokens.{closed_stands, word_nondigit, word_opens_none, word_stands}
use Rattle.pptext.proofs.lexer.fast_lexeme_at.Goals as goal

pub returns-then-begins_nothing_longer-clause-some : goal.returns-then-begins_nothing_longer-clause-some
returns-then-begins_nothing_longer-clause-some c = λ profile line. (
  omega arith,
  omega arith,
  closed_stands profile line c.args.text.now c.requires (sym c.begins_nothing_longer.ensures.is ∙ c.if-begins_nothing_longer.true) (c.begins_nothing_longer.ensures.punct c.if-begins_nothing_longer.true),
)

pub returns-then-starts_identifier-clause-some : goal.returns-then-starts_identifier-clause-some
returns-then-starts_identifier-clause-some c =
    let word = sym c.starts_identifier.ensures ∙ c.if-starts_identifier.true in
    λ profile line. (
      c.word_len.ensures.longest.fits,
      c.word_len.ensures.some,
      word_stands profile line c.args.text.now c.word_len.result c.requires (word_nondigit (get_or c.args.text.now 0 0) word) (word_opens_none (get_or c.args.text.now 0 0) word)
          c.word_len.ensures.some c.word_len.ensures.longest,
    )

pub word_len-requires-clause-nondigit : goal.word_len-requires-clause-nondigit
word_len-requires-clause-nondigit c = word_nondigit (get_or c.args.text.now 0 0) (sym c.starts_identifier.ensures ∙ c.if-starts_identifier.true)
