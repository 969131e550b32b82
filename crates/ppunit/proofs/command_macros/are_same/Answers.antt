use Rattle.std.proofs.Common.{rules}
use Rattle.std.proofs.lemmas.List.{take_more_same}
use Rattle.ppunit.proofs.command_macros.are_same.Goals as goal

pub loop-index-preserved : goal.loop-index-preserved
loop-index-preserved c = search (rules, take_more_same)
