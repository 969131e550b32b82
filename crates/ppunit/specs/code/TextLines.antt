-- What the expansion of text lines leaves open. Only contracts of private functions cite this.
use Rattle.std.specs.Prelude.{◌≡◌, List, [], ◌++◌, map, Option}
use Rattle.pptext.specs.declared.tokens.Token.{Token}
use Rattle.pptext.specs.declared.tokens.Fault.{Fault}
use Rattle.ppexpand.specs.Expansion.{Expansion, IsExpansion}
use Rattle.ppexpand.specs.OpenInvocations.{open_expansion}
use Rattle.ppunit.specs.declared.units.Item.TheVariants as item
use Rattle.ppunit.specs.States.{State, Progress, emitted, with_meter, with_waiting}
use Rattle.ppunit.specs.Directives.{meter_at_text, fault_unless}

-- text lines, behind the tokens that wait, emit their expansion up to this fault, and leave these tokens open; then nothing waits
pub record ExpandsText (s : State) (tokens : List Token) (t : State) (f : Option Fault) (unclosed : List Token) : Type 0 where
  pub expanded : Expansion
  pub expands : IsExpansion s.macros s.env (meter_at_text s.waiting s.meter) (s.waiting ++ tokens) expanded
  pub state_is : t ≡ with_waiting (emitted (with_meter s expanded.meter) (map item.Token expanded.tokens)) []
  pub fault_is : f ≡ expanded.fault
  pub open_is : unclosed ≡ open_expansion expands

-- these tokens wait; if there are none, a fault stops the unit
abbrev pub waits_or_stops : State → Option Fault → List Token → Progress
waits_or_stops s f waiting = record { state = with_waiting s waiting; fault = fault_unless waiting f }
