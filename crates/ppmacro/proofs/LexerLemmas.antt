-- The kind of a text that is one token.
use Rattle.std.proofs.Common.{◌≡◌, ℕ, List, Option, Some, None, IfNone, IfSome}
use Rattle.pptext.specs.declared.tokens.Kind.{Kind}
use Rattle.pptext.specs.Sources.{IsOneToken, IsUnmatchedQuote}
use Rattle.pptext.specs.KindTests.{Lexes, IsLexer}
use Rattle.pptext.proofs.TextKinds.{lexer_is, one_lexing}
use Rattle.ppmacro.specs.Lexing.{kind_of}

pub kind_of_is : IsLexer kind_of
kind_of_is = lexer_is

lexed : (text : List ℕ) (r : Option Kind) → IfNone r ((k : Kind) → IsOneToken text k → IsUnmatchedQuote text) → IfSome r (λ k. IsOneToken text k × (¬ IsUnmatchedQuote text)) → Lexes text r
lexed text None n s = n
lexed text (Some k) n s = s

-- A result that satisfies these two properties of the lexer is `kind_of text`.
pub lexes-same : (text : List ℕ) (r : Option Kind) → IfNone r ((k : Kind) → IsOneToken text k → IsUnmatchedQuote text) → IfSome r (λ k. IsOneToken text k × (¬ IsUnmatchedQuote text)) → r ≡ kind_of text
lexes-same text r n s = one_lexing text r (kind_of text) (lexed text r n s) (kind_of_is.each text)
