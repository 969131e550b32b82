use Rattle.ppmacro.proofs.LexerLemmas.{kind_of_is}
use Rattle.ppmacro.proofs.substituting.lexing.decides_each_kind.Goals as goal

pub returns : goal.returns
returns c = kind_of_is
