-- Directive lines as the code passes them from function to function. Only contracts of private functions cite this.
use Rattle.std.specs.Prelude.{◌≡◌, ℕ, List, Option, Some, IsSome}
use Rattle.pptext.specs.declared.tokens.Token.{Token}
use Rattle.pptext.specs.declared.tokens.Fault.{Fault}
use Rattle.pptext.specs.declared.sources.Directive.{Directive}
use Rattle.pptext.specs.declared.directives.Class.TheVariants as class
use Rattle.pptext.specs.Lines.{LogicalLine}
use Rattle.pptext.specs.Classes.{class_of, question_of}
use Rattle.ppunit.specs.States.{State}
use Rattle.ppunit.specs.DirectiveLines.{operands}
use Rattle.ppunit.specs.Directives.{refusal, or_fault}
use Rattle.ppunit.specs.Quotes.{unmatched_quote}

-- a line of these tokens with this directive
abbrev pub directed : Directive → List Token → ℕ → LogicalLine
directed d tokens number = record { tokens = tokens; number = number; directive = Some d }

-- the fault of a control line before it is executed: an unmatched quote, or that an invocation waits
abbrev pub line_refusal : State → LogicalLine → Option Fault
line_refusal s line = or_fault (unmatched_quote line.tokens) (refusal s.waiting line.directive (operands line.tokens))

-- the control lines that open no file, except `#error` and those without effect
abbrev pub IsControl : Directive → Type 0
IsControl d = class_of d ≡ class.Control

-- the directives whose lines decide whether the group after them is taken
abbrev pub IsConditional : Directive → Type 0
IsConditional d = IsSome (question_of d)
