-- Consecutive tokens that are emitted unchanged: vocabulary of the code. No definition rests on this file.
use Rattle.std.specs.Prelude.{◌≡◌, List, ◌++◌}
use Rattle.ppmacro.specs.Names.{Macros}
use Rattle.ppmacro.specs.declared.hidden_token.Hidden.{Hidden}
use Rattle.ppexpand.specs.code.Lists.{NeverExpand}

-- tokens that are emitted unchanged were removed from a list and appended to the output
pub record HasSkipped (macros : Macros) (list emitted next emitted_after : List Hidden) : Type 0 where
  pub skipped : List Hidden
  pub laid_out : list ≡ skipped ++ next
  pub emits : emitted_after ≡ emitted ++ skipped
  pub unexpanded : NeverExpand macros skipped
