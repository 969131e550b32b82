-- The effect of a control line that opens no file and isn't `#error` (6.10.3 to 6.10.7), apart from what it spends of
-- the budget. Only proofs cite this: each `ExecutesDirective` has such an effect.
use Rattle.std.specs.Prelude.{◌≡◌, ℕ, List, [], ◌∷◌, ◌++◌, take, Bool, true, false, if◌then◌else◌, Option, None, Some, Result, Ok, Err}
use Rattle.pptext.specs.declared.tokens.Fault.{Fault}
use Rattle.pptext.specs.declared.tokens.Token.{Token}
use Rattle.pptext.specs.declared.sources.Directive.{Directive}
use Rattle.pptext.specs.declared.sources.Directive.TheVariants.{Define, Undef, Line, Pragma, Null, Unknown}
use Rattle.pptext.specs.declared.sources.Profile.{Profile}
use Rattle.pptext.specs.Lines.{LogicalLine}
use Rattle.pptext.specs.Tree.{hash_place}
use Rattle.ppmacro.specs.Names.{Name, Macros}
use Rattle.ppmacro.specs.declared.pushed_macros.PushedMacro.{PushedMacro}
use Rattle.ppmacro.specs.PushedMacros.{with_pushed, macros_after_pop, pushed_after_pop}
use Rattle.ppmacro.specs.Define.{after_define, after_undef}
use Rattle.ppexpand.specs.declared.env.Env.{Env}
use Rattle.ppexpand.specs.Expansion.{Expansion}
use Rattle.ppexpand.specs.Expansion.{IsExpansion}
use Rattle.ppunit.specs.declared.units.Item.{Item}
use Rattle.ppunit.specs.declared.units.Item.TheVariants as item
use Rattle.ppunit.specs.declared.units.MarkSort.TheVariants as mark_sort
use Rattle.ppunit.specs.Dependencies.{with_row}
use Rattle.ppunit.specs.States.{kept, State, mark, mark_in, Progress, with_meter}
use Rattle.ppunit.specs.DirectiveLines.{operands, line_fault, named_fault}
use Rattle.ppunit.specs.LineControl.{Presumed, presumed, renumbered}
use Rattle.ppunit.specs.Directives.{is_once, is_system_header, name_to_push, name_to_pop, expanded_operands}

-- the macros, the files that aren't read again, the macros that are kept, the predefined names and the system headers after a
-- line, the items that it emits, and its fault
pub record Effect : Type 0 where
  pub macros : Macros
  pub items : List Item
  pub once : List ℕ
  pub pushed : List PushedMacro
  pub env : Env
  pub system : Bool
  pub system_rows : List ℕ
  pub fault : Option Fault

-- the outcome of a line with this effect: the dependencies, the budget and the directory stay
abbrev pub affected : State → Effect → Progress
affected s e = record { state = record s { macros = e.macros; items = kept s.keeps s.items e.items; once = e.once; pushed = e.pushed; env = e.env; system = e.system; system_rows = e.system_rows }; fault = e.fault }

abbrev pub no_effect : State → Effect
no_effect s = record { macros = s.macros; items = []; once = s.once; pushed = s.pushed; env = s.env; system = s.system; system_rows = s.system_rows; fault = None }

abbrev pub only_fault : State → Fault → Effect
only_fault s f = record { macros = s.macros; items = []; once = s.once; pushed = s.pushed; env = s.env; system = s.system; system_rows = s.system_rows; fault = Some f }

-- `#define`, `#undef`
abbrev pub macros_effect : State → Result Macros Fault → Effect
macros_effect s (Ok macros) = record { macros = macros; items = []; once = s.once; pushed = s.pushed; env = s.env; system = s.system; system_rows = s.system_rows; fault = None }
macros_effect s (Err f) = only_fault s f

-- the macros that are kept after `push_macro`
abbrev pub pushed_by_push : Option Name → Macros → List PushedMacro → List PushedMacro
pushed_by_push None macros pushed = pushed
pushed_by_push (Some name) macros pushed = with_pushed macros name pushed

-- the macros, and those that are kept, after `pop_macro`
abbrev pub macros_by_pop : Option Name → Macros → List PushedMacro → Macros
macros_by_pop None macros pushed = macros
macros_by_pop (Some name) macros pushed = macros_after_pop macros name pushed

abbrev pub pushed_by_pop : Option Name → List PushedMacro → List PushedMacro
pushed_by_pop None pushed = pushed
pushed_by_pop (Some name) pushed = pushed_after_pop name pushed

-- the mark after `#pragma GCC system_header`
abbrev pub system_marks : Bool → ℕ → Env → List ℕ → LogicalLine → List Item
system_marks true row env system_rows line = item.Mark (mark_in env (with_row row system_rows) mark_sort.Line row line.number) ∷ []
system_marks false row env system_rows line = []

-- `#pragma`
abbrev pub pragma_effect : Profile → ℕ → State → LogicalLine → Effect
pragma_effect profile row s line =
    record {
      macros = macros_by_pop (name_to_pop profile (operands line.tokens)) s.macros (pushed_by_push (name_to_push profile (operands line.tokens)) s.macros s.pushed);
      items = item.Pragma (hash_place line.tokens) (operands line.tokens) ∷ system_marks (is_system_header profile s.directory (operands line.tokens)) row s.env s.system_rows line;
      once = if is_once profile (operands line.tokens) then with_row row s.once else s.once;
      pushed = pushed_by_pop (name_to_pop profile (operands line.tokens)) (pushed_by_push (name_to_push profile (operands line.tokens)) s.macros s.pushed);
      env = s.env;
      system = if is_system_header profile s.directory (operands line.tokens) then true else s.system;
      system_rows = if is_system_header profile s.directory (operands line.tokens) then with_row row s.system_rows else s.system_rows;
      fault = None;
    }

-- a `#pragma` in which no tokens are expanded
abbrev pub immediate_pragma : Option (List Token) → Profile → ℕ → State → LogicalLine → Option Effect
immediate_pragma None profile row s line = Some (pragma_effect profile row s line)
immediate_pragma (Some tokens) profile row s line = None

-- the effect of a line that expands no operands
abbrev pub immediate_effect : Profile → ℕ → Option Directive → State → LogicalLine → Option Effect
immediate_effect profile row (Some Null) s line = Some (no_effect s)
immediate_effect profile row (Some Define) s line = Some (macros_effect s (after_define profile s.macros (hash_place line.tokens) (operands line.tokens)))
immediate_effect profile row (Some Undef) s line = Some (macros_effect s (after_undef profile s.macros (hash_place line.tokens) (operands line.tokens)))
immediate_effect profile row (Some Pragma) s line = immediate_pragma (expanded_operands profile s.macros (operands line.tokens)) profile row s line
immediate_effect profile row (Some Unknown) s line = Some (only_fault s (named_fault 8 line.tokens))
immediate_effect _ _ _ s line = None

-- `#line`, from the fault of the expansion of its operands and what the expansion says
abbrev pub line_effect : State → ℕ → LogicalLine → Option Fault → Option Presumed → Effect
line_effect s row line (Some f) p = only_fault s f
line_effect s row line None None = only_fault s (line_fault 33 line.tokens [])
line_effect s row line None (Some p) =
    record {
      macros = s.macros;
      items = item.Mark (mark (record s { env = (renumbered s row line p).env }) mark_sort.Line row line.number) ∷ [];
      once = s.once;
      pushed = s.pushed;
      env = (renumbered s row line p).env;
      system = s.system;
      system_rows = s.system_rows;
      fault = None;
    }

-- `#pragma`, from the fault of the expansion of its operands and what the expansion says
abbrev pub expanded_pragma_effect : State → List Token → Option Fault → List Token → Effect
expanded_pragma_effect s line (Some f) tokens = only_fault s f
expanded_pragma_effect s line None tokens =
    record { macros = s.macros; items = item.Pragma (hash_place line) (take 1 (operands line) ++ tokens) ∷ []; once = s.once; pushed = s.pushed; env = s.env; system = s.system; system_rows = s.system_rows; fault = None }

-- the tokens that a line expands, if it expands any
abbrev pub expanded_tokens : Profile → Option Directive → State → LogicalLine → Option (List Token)
expanded_tokens profile (Some Line) s line = Some (operands line.tokens)
expanded_tokens profile (Some Pragma) s line = expanded_operands profile s.macros (operands line.tokens)
expanded_tokens _ _ s line = None

-- the effect of a line that expands tokens
abbrev pub expanding_effect : Option Directive → State → ℕ → LogicalLine → Option Fault → List Token → Effect
expanding_effect (Some Pragma) s row line f tokens = expanded_pragma_effect s line.tokens f tokens
expanding_effect _ s row line f tokens = line_effect s row line f (presumed tokens)

-- the outcome is that of an effect: of a line that expands no tokens, or of `#line` or `#pragma` after the expansion of its operands
pub data HasEffect (profile : Profile) (row : ℕ) (d : Option Directive) (s : State) (line : LogicalLine) (m : Progress) : Type 0 where
  immediate : {e : Effect} → immediate_effect profile row d s line ≡ Some e → m ≡ affected s e → HasEffect profile row d s line m
  expanding : {tokens : List Token} (x : Expansion)
      → expanded_tokens profile d s line ≡ Some tokens
      → IsExpansion s.macros s.env s.meter tokens x
      → m ≡ affected (with_meter s x.meter) (expanding_effect d s row line x.fault x.tokens)
      → HasEffect profile row d s line m
