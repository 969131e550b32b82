use Rattle.std.proofs.Common.{rules}
use Rattle.ppmacro.proofs.substituting.joining.is_continued.Goals as goal

pub returns-then-has_spelled_kind-clause-more : goal.returns-then-has_spelled_kind-clause-more
returns-then-has_spelled_kind-clause-more c = search rules
