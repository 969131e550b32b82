use Rattle.std.proofs.Common.{◌∙◌, length, sym, ap}
use Rattle.ppmacro.specs.code.Members.{hide_set}
use Rattle.ppmacro.proofs.NodeHideSets.{length-tabulated}
use Rattle.ppmacro.proofs.hide_sets.HideSets.len.Goals as goal

pub returns : goal.returns
returns c =
    c.len.ensures.len
    ∙ sym (length-tabulated (hide_set c.self.inside.names.names c.self.inside.nodes.keys) 0 c.self.inside.nodes.keys)
    ∙ ap (λ s. length s.sets) c.self.view_is
