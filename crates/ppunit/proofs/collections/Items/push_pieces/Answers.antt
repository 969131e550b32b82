use Rattle.ppunit.proofs.KeptItems.{appended}
use Rattle.ppunit.proofs.collections.Items.push_pieces.Goals as goal

pub loop-piece-preserved : goal.loop-piece-preserved
loop-piece-preserved c = appended c.args.self.now c.loop-piece.self c.push_piece.new.self c.loop-piece.yielded _ c.loop-piece.invariant c.in_ok-push_piece.ensures
