use Rattle.ppprint.proofs.Joints.{long_begins_nothing}
use Rattle.ppprint.proofs.apart.begins_joint.Goals as goal

pub returns-in_default-text : goal.returns-in_default-text
returns-in_default-text c = long_begins_nothing c.args.text.now c.args.next.now c.in_default-text.len_at_least
