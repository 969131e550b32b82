use Rattle.std.proofs.Common.{rules}
use Rattle.ppexpand.proofs.SkippedTokens.{unhidden-with_set}
use Rattle.ppexpand.proofs.token_span.TokenSpan.take_unexpanded.Goals as goal

pub returns-clause-unexpanded : goal.returns-clause-unexpanded
returns-clause-unexpanded c = unhidden-with_set c.args.table.now.macros c.self.inside.hide c.split_at.result.0.now (search rules)
