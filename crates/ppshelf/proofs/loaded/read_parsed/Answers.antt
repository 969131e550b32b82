use Rattle.std.proofs.Common.{rules}
use Rattle.ppshelf.proofs.loaded.read_parsed.Goals as goal

pub returns-then-len-gt-LONGEST-clause-content : goal.returns-then-len-gt-LONGEST-clause-content
returns-then-len-gt-LONGEST-clause-content g c = search rules

pub returns-in-Err-Memory-clause-content : goal.returns-in-Err-Memory-clause-content
returns-in-Err-Memory-clause-content g c = search rules
