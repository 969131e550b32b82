use Rattle.std.proofs.Common.{rules}
use Rattle.pptext.proofs.cleaned_text.TextCursor.skip.Goals as goal

pub returns : goal.returns
returns c = search rules
