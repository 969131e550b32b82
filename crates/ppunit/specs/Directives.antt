-- The effect of a control line (6.10.2 to 6.10.7), without the file that it includes.
use Rattle.std.specs.Prelude.{◌≡◌, ℕ, Bool, true, false, ◌&&◌, ◌||◌, if◌then◌else◌, Option, None, Some, Result, Ok, Err}
use Rattle.std.specs.Option.{is_some}
use Rattle.std.specs.Prelude.{List, [], ◌∷◌, ◌++◌, map, flat_map, take, codes}
use Rattle.std.specs.Str.{bytes_eq}
use Rattle.pptext.specs.declared.tokens.Token.{Token}
use Rattle.pptext.specs.declared.tokens.Fault.{Fault}
use Rattle.pptext.specs.declared.sources.Directive.{Directive}
use Rattle.pptext.specs.declared.sources.Profile.{Profile}
use Rattle.pptext.specs.declared.sources.Directive.TheVariants.{Include, IncludeNext, Define, Undef, Line, Pragma, Null, Unknown}
use Rattle.pptext.specs.declared.directives.Class.{Class}
use Rattle.pptext.specs.declared.directives.Class.TheVariants as class
use Rattle.pptext.specs.Profiles.{has_later, is_gnu}
use Rattle.pptext.specs.Tokens.{fault, is_punct}
use Rattle.pptext.specs.Lines.{LogicalLine}
use Rattle.pptext.specs.Tree.{hash_place}
use Rattle.ppmacro.specs.Names.{Name, Macros}
use Rattle.ppmacro.specs.Define.{after_define, after_undef}
use Rattle.ppexpand.specs.declared.meter.Meter.{Meter}
use Rattle.ppexpand.specs.Expansion.{Expansion}
use Rattle.ppexpand.specs.Expansion.{IsExpansion}
use Rattle.ppexpand.specs.Budget.{give_back_one}
use Rattle.ppexpand.specs.OpenInvocations.{open_expansion}
use Rattle.ppshelf.specs.Names.{name_in}
use Rattle.ppshelf.specs.Search.{Candidate, candidates, candidates_after, IsFirstRow}
use Rattle.ppunit.specs.declared.units.Item.TheVariants as item
use Rattle.ppunit.specs.declared.units.MarkSort.TheVariants as mark_sort
use Rattle.ppunit.specs.States.{is_macro_name, State, Context, Progress, running, stopped, emitted, marked, with_system_row, with_once, with_macro_pushed, with_macro_popped, with_meter, with_waiting, Search, search_of}
use Rattle.ppunit.specs.DirectiveLines.{operands, line_fault, named_fault, spaced}
use Rattle.ppunit.specs.LineControl.{Presumed, is_plain_string, presumed, renumbered}
use Rattle.ppunit.specs.Including.{IncludeName, inner, begins_with_header, name_of_header, name_or, name_of_expansion_or, if_possible_name}

-- the meter at text lines: an invocation that waits is counted already
abbrev pub meter_at_text : List Token → Meter → Meter
meter_at_text [] meter = meter
meter_at_text (t ∷ ts) meter = give_back_one meter

-- the tokens of the open invocation that wait for more text lines: in GNU C all of them, otherwise none
abbrev pub waits_in : Profile → List Token → List Token
waits_in profile open' = if is_gnu profile then open' else []

-- the fault of text lines, unless tokens wait for more
abbrev pub fault_unless : List Token → Option Fault → Option Fault
fault_unless [] f = f
fault_unless (t ∷ ts) f = None

abbrev pub text_emitted : State → Expansion → List Token → Progress
text_emitted s expanded waiting = record {
  state = with_waiting (emitted (with_meter s expanded.meter) (map item.Token expanded.tokens)) waiting;
  fault = fault_unless waiting expanded.fault;
}

-- consecutive text lines, behind the tokens that wait, emit their expansion (6.10.3), up to its first fault; in GNU C an invocation that is open
-- then waits for its `)`
pub record EmitsText (profile : Profile) (s : State) (tokens : List Token) (r : Progress) : Type 0 where
  pub expanded : Expansion
  pub expands : IsExpansion s.macros s.env (meter_at_text s.waiting s.meter) (s.waiting ++ tokens) expanded
  pub is : r ≡ text_emitted s expanded (waits_in profile (open_expansion expands))

-- ---- `#define`, `#undef`

abbrev pub with_macros : State → Result Macros Fault → Progress
with_macros s (Ok macros) = running (record s { macros = macros })
with_macros s (Err f) = stopped s f

-- ---- `#error` (6.10.5)

-- the tokens, with one space where a token other than the first has leading white space
abbrev pub message : List Token → List ℕ
message [] = []
message (t ∷ ts) = t.text ++ flat_map spaced ts

-- ---- `#line` (6.10.4)

abbrev pub renumbered_by : State → ℕ → LogicalLine → Option Fault → Option Presumed → Progress
renumbered_by s row line (Some f) p = stopped s f
renumbered_by s row line None None = stopped s (line_fault 33 line.tokens [])
renumbered_by s row line None (Some p) = running (renumbered s row line p)

pub record SetsLine (s : State) (row : ℕ) (line : LogicalLine) (progress : Progress) : Type 0 where
  pub expanded : Expansion
  pub expands : IsExpansion s.macros s.env s.meter (operands line.tokens) expanded
  pub is : progress ≡ renumbered_by (with_meter s expanded.meter) row line expanded.fault (presumed expanded.tokens)

-- ---- `#include` (6.10.2)

-- the header that tokens of a line name once their macros are replaced, and the meter after it
pub record NamesHeaderByExpansion (s : State) (line tokens : List Token) (meter_after : Meter) (include_name : Result IncludeName Fault) : Type 0 where
  pub expanded : Expansion
  pub expands : IsExpansion s.macros s.env s.meter tokens expanded
  pub leaves : meter_after ≡ expanded.meter
  pub is : include_name ≡ name_of_expansion_or (line_fault 30 line []) expanded.fault expanded.tokens

-- The header that tokens of a line name, or its fault, and the meter after it. With the flag the tokens name it without macro
-- replacement: `unexpanded` is that header.
abbrev pub NamesHeaderBy : Bool → Option IncludeName → State → List Token → List Token → Meter → Result IncludeName Fault → Type 0
NamesHeaderBy true unexpanded s line tokens meter_after include_name = (meter_after ≡ s.meter) × (include_name ≡ name_or (line_fault 30 line []) (if_possible_name unexpanded))
NamesHeaderBy false unexpanded s line tokens meter_after include_name = NamesHeaderByExpansion s line tokens meter_after include_name

-- the header that an include line names; no macros are replaced if a header name is after `include`
abbrev pub NamesHeader : State → List Token → Meter → Result IncludeName Fault → Type 0
NamesHeader s line meter_after include_name =
    NamesHeaderBy (begins_with_header (operands line)) (name_of_header (operands line)) s line (operands line) meter_after include_name

-- the candidates for a header in the file at index `from`; with the number of a directory, only those in the
-- directories after it (gcc's manual, "Wrapper Headers")
abbrev pub candidates_for : Search → ℕ → Option ℕ → IncludeName → List Candidate
candidates_for search from None a = candidates a.form (name_in search.names from) search.unit_directories search.setting_directories a.name
candidates_for search from (Some number) a = candidates_after number search.unit_directories search.setting_directories a.name

-- the index of the file that is found for the header, if there is one, and the number of the directory in which it is
-- found
abbrev pub FindsFile : Context → ℕ → Option ℕ → IncludeName → Option (ℕ × ℕ) → Type 0
FindsFile context from previous_directory a found = IsFirstRow context.names (candidates_for (search_of context) from previous_directory a) found

-- ---- `#pragma` (6.10.6)

-- the tokens after `#pragma` are `once`, in a profile that has it
abbrev pub is_once : Profile → List Token → Bool
is_once profile (t ∷ []) = has_later profile && bytes_eq t.text (codes "once")
is_once profile ts = false

-- the file at index `row` isn't read again after such a pragma
abbrev pub noting_pragma_once : Profile → ℕ → List Token → State → State
noting_pragma_once profile row ts s = if is_once profile ts then with_once s row else s

-- the name in `WORD("NAME")`, with which the tokens after `#pragma` begin; it is what stands between the quotes of a string literal
-- without prefix, and nothing is expanded
abbrev pub name_after : List ℕ → List Token → Option Name
name_after word (first ∷ left ∷ name ∷ right ∷ ts) =
    if bytes_eq first.text word && is_punct (codes "(") left && is_plain_string name && is_punct (codes ")") right then Some (inner name.text) else None
name_after word ts = None

-- the name in `#pragma push_macro("NAME")`, in GNU C (gcc's manual, "Push/Pop Macro Pragmas")
abbrev pub name_to_push : Profile → List Token → Option Name
name_to_push profile ts = if is_gnu profile then name_after (codes "push_macro") ts else None

-- the name in `#pragma pop_macro("NAME")`, in GNU C
abbrev pub name_to_pop : Profile → List Token → Option Name
name_to_pop profile ts = if is_gnu profile then name_after (codes "pop_macro") ts else None

abbrev pub noting_push : Option Name → State → State
noting_push None s = s
noting_push (Some name) s = with_macro_pushed s name

abbrev pub noting_pop : Option Name → State → State
noting_pop None s = s
noting_pop (Some name) s = with_macro_popped s name

-- the name is kept after `push_macro`, and is what it was after `pop_macro`
abbrev pub noting_macro_pragma : Profile → List Token → State → State
noting_macro_pragma profile ts s = noting_pop (name_to_pop profile ts) (noting_push (name_to_push profile ts) s)

-- the tokens begin with these words
abbrev pub begins_with_words : List ℕ → List ℕ → List Token → Bool
begins_with_words one two (t ∷ u ∷ ts) = bytes_eq t.text one && bytes_eq u.text two
begins_with_words one two ts = false

-- `#pragma GCC system_header` in an included file, in GNU C (gcc's manual, "System Headers"); the unit's own file has no directory
abbrev pub is_system_header : Profile → Option ℕ → List Token → Bool
is_system_header profile directory ts = is_gnu profile && (is_some directory && begins_with_words (codes "GCC") (codes "system_header") ts)

-- the file at index `row` is a system header from the physical line after such a pragma on, which a mark says
abbrev pub noting_system_header : Profile → ℕ → LogicalLine → State → State
noting_system_header profile row line s =
    if is_system_header profile s.directory (operands line.tokens) then marked (with_system_row true (record s { system = true }) row) mark_sort.Line row line.number else s

-- a pragma without macro replacement is an item, and some have a meaning besides
abbrev pub pragma_emitted : Profile → ℕ → State → LogicalLine → State
pragma_emitted profile row s line =
    noting_system_header profile row line (noting_macro_pragma profile (operands line.tokens)
    (noting_pragma_once profile row (operands line.tokens) (emitted s (item.Pragma (hash_place line.tokens) (operands line.tokens) ∷ []))))

-- the words of a pragma after which GNU C replaces macros: `omp` is one where `_OPENMP` is a macro, and `acc` where `_OPENACC` is one
abbrev pub expands_after : Macros → Name → Bool
expands_after macros word =
    bytes_eq word (codes "message") || (bytes_eq word (codes "redefine_extname")
    || (bytes_eq word (codes "omp") && is_macro_name macros (codes "_OPENMP") || bytes_eq word (codes "acc") && is_macro_name macros (codes "_OPENACC")))

-- the tokens of a pragma in which macros are replaced, if there are such: those after its first word
abbrev pub expanded_operands : Profile → Macros → List Token → Option (List Token)
expanded_operands profile macros [] = None
expanded_operands profile macros (word ∷ ts) = if is_gnu profile && expands_after macros word.text then Some ts else None

-- the pragma after macro replacement: its first word stays; a fault of the expansion stops the unit
abbrev pub pragma_expanded : State → List Token → Option Fault → List Token → Progress
pragma_expanded s line (Some f) tokens = stopped s f
pragma_expanded s line None tokens = running (emitted s (item.Pragma (hash_place line) (take 1 (operands line) ++ tokens) ∷ []))

-- a pragma in which these tokens are expanded as text lines are
pub record ExpandsPragma (s : State) (line : List Token) (tokens : List Token) (progress : Progress) : Type 0 where
  pub expanded : Expansion
  pub expands : IsExpansion s.macros s.env s.meter tokens expanded
  pub is : progress ≡ pragma_expanded (with_meter s expanded.meter) line expanded.fault expanded.tokens

-- each pragma is an item; in some of them tokens are expanded, and others have a meaning besides
abbrev pub ExecutesPragma : Option (List Token) → Profile → ℕ → State → LogicalLine → Progress → Type 0
ExecutesPragma (Some tokens) profile row s line progress = ExpandsPragma s line.tokens tokens progress
ExecutesPragma None profile row s line progress = progress ≡ running (pragma_emitted profile row s line)

-- ---- directives among the arguments of a macro (6.10.3, paragraph 11; gcc executes them)

-- an invocation has no `)`
abbrev pub waiting_fault : Token → Fault
waiting_fault t = fault 17 t.used t.text

abbrev pub names_token : Token → List Token → Bool
names_token t [] = false
names_token t (o ∷ os) = bytes_eq o.text t.text

abbrev pub is_name : Name → Option Name → Bool
is_name name None = false
is_name name (Some other) = bytes_eq other name

-- the lines that are refused while the invocation of this name waits: those that open a file or set the line, definitions of its name, and
-- `#pragma pop_macro` of it
abbrev pub is_refused : Token → Option Directive → List Token → Bool
is_refused t (Some Include) os = true
is_refused t (Some IncludeNext) os = true
is_refused t (Some Line) os = true
is_refused t (Some Define) os = names_token t os
is_refused t (Some Undef) os = names_token t os
is_refused t (Some Pragma) os = is_name t.text (name_after (codes "pop_macro") os)
is_refused t directive os = false

-- the fault of a control line because an invocation waits
abbrev pub refusal : List Token → Option Directive → List Token → Option Fault
refusal [] directive os = None
refusal (t ∷ ts) directive os = if is_refused t directive os then Some (waiting_fault t) else None

-- at the end of a file no invocation may wait
abbrev pub fault_at_end : List Token → Option Fault
fault_at_end [] = None
fault_at_end (t ∷ ts) = Some (waiting_fault t)

abbrev pub or_fault : Option Fault → Option Fault → Option Fault
or_fault None g = g
or_fault (Some f) g = Some f

abbrev pub at_end : Progress → Progress
at_end m = record m { fault = or_fault m.fault (fault_at_end m.state.waiting) }

-- ---- the other control lines

-- An unmatched quote is a fault of each line except `#error`, whose tokens are a message, and lines without effect,
-- whatever their tokens are.
abbrev pub checks_quotes : Option Class → Bool
checks_quotes (Some class.Error) = false
checks_quotes (Some class.Ignored) = false
checks_quotes _ = true

-- a control line without unmatched quotes that includes no file, in the file at index `row`
abbrev pub ExecutesDirective : Profile → ℕ → Option Directive → State → LogicalLine → Progress → Type 0
ExecutesDirective profile row (Some Null) s line progress = progress ≡ running s
ExecutesDirective profile row (Some Define) s line progress = progress ≡ with_macros s (after_define profile s.macros (hash_place line.tokens) (operands line.tokens))
ExecutesDirective profile row (Some Undef) s line progress = progress ≡ with_macros s (after_undef profile s.macros (hash_place line.tokens) (operands line.tokens))
ExecutesDirective profile row (Some Line) s line progress = SetsLine s row line progress
ExecutesDirective profile row (Some Pragma) s line progress = ExecutesPragma (expanded_operands profile s.macros (operands line.tokens)) profile row s line progress
ExecutesDirective profile row (Some Unknown) s line progress = progress ≡ stopped s (named_fault 8 line.tokens)
ExecutesDirective _ _ _ s line progress = ⊥
