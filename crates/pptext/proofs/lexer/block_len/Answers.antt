use Rattle.std.proofs.lemmas.List.{take_rest}
use Rattle.pptext.proofs.lexer.block_len.Goals as goal

pub returns-in-None-clause-none : goal.returns-in-None-clause-none
returns-in-None-clause-none c = simp take_rest at c.in-None.ensures
