use Rattle.std.proofs.Common.{◌∙◌, sym, ap, length}
use Rattle.std.proofs.lemmas.List.{length-map}
use Rattle.ppmacro.specs.code.KeptChains.{chain_at}
use Rattle.ppmacro.proofs.patterns.PastedList.len.Goals as goal

pub returns : goal.returns
returns c = sym (length-map c.self.inside.chains.now (chain_at c.self.inside.body.now)) ∙ ap length c.self.view_is
