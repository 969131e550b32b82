-- Whether a line of an if-section takes the group after it (6.10.1).
use Rattle.std.specs.Prelude.{◌≡◌, ℕ, Bool, List, Option, None, Some, Result, Ok, Err}
use Rattle.pptext.specs.declared.tokens.Token.{Token}
use Rattle.pptext.specs.declared.tokens.Fault.{Fault}
use Rattle.pptext.specs.declared.directives.Question.TheVariants.{Defined, Value}
use Rattle.pptext.specs.Classes.{question_by}
use Rattle.pptext.specs.Lines.{LogicalLine}
use Rattle.pptext.specs.Tree.{hash_place}
use Rattle.ppmacro.specs.Names.{Macros}
use Rattle.ppmacro.specs.Define.{same_bool}
use Rattle.ppexpand.specs.declared.meter.Meter.{Meter}
use Rattle.ppexpr.specs.Conditions.{IsCondition}
use Rattle.ppunit.specs.States.{is_macro_name, Search, State}
use Rattle.ppunit.specs.DirectiveLines.{operands, named_fault, one_identifier}
use Rattle.ppunit.specs.Quotes.{unmatched_quote}
use Rattle.ppunit.specs.Probing.{ProbesLine}

-- `#ifdef` and `#elifdef` take the group if the name is defined, `#ifndef` and `#elifndef` if it isn't; fault 9 unless
-- the operand is one identifier
abbrev pub by_name : Bool → Macros → List Token → Option (List ℕ) → Result Bool Fault
by_name wanted macros line None = Err (named_fault 9 line)
by_name wanted macros line (Some name) = Ok (same_bool wanted (is_macro_name macros name))

-- the decision spends nothing from the budget
abbrev pub DecidesFreely : State → Result Bool Fault → Meter → Result Bool Fault → Type 0
DecidesFreely s decision meter_after taken = (meter_after ≡ s.meter) × (taken ≡ decision)

-- Whether the value of a line's condition isn't 0, or the fault of the step before it or its own, and the meter after it.
pub data DecidesByValue (search : Search) (row : ℕ) (s : State) (line : List Token) (meter_after : Meter) (taken : Result Bool Fault) : Type 0 where
  probing_fault : {f : Fault} → ProbesLine search row s line meter_after (Err f) → taken ≡ Err f → DecidesByValue search row s line meter_after taken
  evaluated : {tokens : List Token} {meter_between : Meter}
      → ProbesLine search row s line meter_between (Ok tokens)
      → IsCondition s.macros s.env (hash_place line) tokens meter_between taken meter_after
      → DecidesByValue search row s line meter_after taken

-- Whether the group after a line of the file at index `row` is taken, or the line's fault, and the meter after it. The
-- line has an unmatched quote, or it asks for a name, or for the value of a condition.
pub data Decides (search : Search) (row : ℕ) (s : State) (line : LogicalLine) (meter_after : Meter) (taken : Result Bool Fault) : Type 0 where
  unmatched : {f : Fault}
      → unmatched_quote line.tokens ≡ Some f
      → DecidesFreely s (Err f) meter_after taken
      → Decides search row s line meter_after taken
  tests_name : {wanted : Bool}
      → unmatched_quote line.tokens ≡ None
      → question_by line.directive ≡ Some (Defined wanted)
      → DecidesFreely s (by_name wanted s.macros line.tokens (one_identifier (operands line.tokens))) meter_after taken
      → Decides search row s line meter_after taken
  evaluates : unmatched_quote line.tokens ≡ None
      → question_by line.directive ≡ Some Value
      → DecidesByValue search row s line.tokens meter_after taken
      → Decides search row s line meter_after taken
