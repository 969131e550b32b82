use Rattle.ppshelf.proofs.Events.{each_block_once}
use Rattle.ppshelf.proofs.laws.each_block_once.Goals as goal

pub returns : goal.returns
returns c = each_block_once
