use Rattle.std.proofs.Common.{rules}
use Rattle.ppmacro.proofs.tables.Table.with_hasher.Goals as goal

pub returns-clause-macros : goal.returns-clause-macros
returns-clause-macros c = search rules
