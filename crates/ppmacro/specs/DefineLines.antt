-- The `#define` lines of a file (6.10.3).
use Rattle.std.specs.Prelude.{◌≡◌, false, List, Some, drop}
use Rattle.std.specs.List.{list_any}
use Rattle.pptext.specs.declared.tokens.Place.{Place}
use Rattle.pptext.specs.declared.tokens.Token.{Token}
use Rattle.pptext.specs.declared.sources.Directive.TheVariants.{Define}
use Rattle.pptext.specs.Lines.{LogicalLine}
use Rattle.pptext.specs.Tokens.{is_unmatched_quote}
use Rattle.pptext.specs.Tree.{hash_place}

-- A `#define` line: the location of its `#`, and the tokens after `define`.
pub record DefineLine : Type 0 where
  pub at : Place
  pub tokens : List Token

-- A line of a file is this `#define` line, and it has no unmatched quote.
pub record IsDefineLine (line : LogicalLine) (d : DefineLine) : Type 0 where
  pub directive : line.directive ≡ Some Define
  pub at : d.at ≡ hash_place line.tokens
  pub tokens : d.tokens ≡ drop 2 line.tokens
  pub matched : list_any is_unmatched_quote line.tokens ≡ false
