use Rattle.std.proofs.Common.{◌-◌, length, sym, arith}
use Rattle.pptext.proofs.Locations.{open_end_is}
use Rattle.pptext.proofs.characters.steps.lacks_newline.Goals as goal

pub returns-in-len1-up : goal.returns-in-len1-up
returns-in-len1-up c = sym (open_end_is (length c.args.bytes.now - 1) c.args.bytes.now (omega arith))
