use Rattle.ppserve.proofs.ReceivedBytes.{decided}
use Rattle.ppserve.proofs.laws.known_bytes_decide.Goals as goal

pub returns : goal.returns
returns c = decided
