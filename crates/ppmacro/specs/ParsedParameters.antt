-- Parameter lists of function-like macros.
use Rattle.std.specs.Prelude.{List}
use Rattle.pptext.specs.declared.tokens.Token.{Token}
use Rattle.ppmacro.specs.Names.{Name}
use Rattle.ppmacro.specs.declared.defining.parameter_lists.Ending.{Ending}

-- A parameter list that was read: the names, how the list ends (without `...`, with `...`, or with a name and `...`), and the
-- replacement list after `)`.
pub record ParsedParameters : Type 0 where
  pub names : List Name
  pub ending : Ending
  pub body : List Token
