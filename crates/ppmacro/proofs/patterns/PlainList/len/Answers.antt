use Rattle.std.proofs.Common.{◌∙◌, sym, ap, length}
use Rattle.ppmacro.proofs.PlainLists.{count-entries}
use Rattle.ppmacro.proofs.patterns.PlainList.len.Goals as goal

pub returns : goal.returns
returns c = sym (count-entries c.self.inside.uses.now c.self.inside.body.now) ∙ ap length c.self.view_is
