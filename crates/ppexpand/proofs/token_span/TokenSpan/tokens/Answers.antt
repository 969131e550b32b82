use Rattle.std.proofs.Common.{◌∙◌, ap, sym}
use Rattle.ppmacro.specs.Substituting.{tokens_of}
use Rattle.ppexpand.proofs.SkippedTokens.{tokens-with_set}
use Rattle.ppexpand.proofs.token_span.TokenSpan.tokens.Goals as goal

pub returns : goal.returns
returns c = ap tokens_of (sym c.self.view_is) ∙ tokens-with_set c.self.inside.hide c.self.inside.tokens.now
