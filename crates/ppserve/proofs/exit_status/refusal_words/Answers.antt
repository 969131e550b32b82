use Rattle.std.proofs.Common.{rules}
use Rattle.ppserve.proofs.exit_status.refusal_words.Goals as goal

pub returns-in-10 : goal.returns-in-10
returns-in-10 c = search rules
