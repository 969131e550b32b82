use Rattle.std.proofs.Common.{rules}
use Rattle.ppexpand.proofs.token_span.unexpanded_len.Goals as goal

pub returns-then-is_some-clause-unexpanded : goal.returns-then-is_some-clause-unexpanded
returns-then-is_some-clause-unexpanded c = search rules
