use Rattle.ppmacro.proofs.LexerLemmas.{lexes-same}
use Rattle.ppmacro.proofs.substituting.lexing.kind_of.Goals as goal

pub returns : goal.returns
returns c = lexes-same c.args.text.now c.relex.result c.relex.ensures.none c.relex.ensures.some
