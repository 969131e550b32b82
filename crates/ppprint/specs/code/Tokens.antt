-- Borrowed tokens as the tokens that they are.
use Rattle.pptext.specs.declared.tokens.Token.{Token}
use Rattle.ppprint.specs.declared.text_token.TextToken.{TextToken}

abbrev pub printed_token : TextToken → Token
printed_token t = record { text = t.text.now; at = t.at; used = t.used; kind = t.kind; space = t.space }
