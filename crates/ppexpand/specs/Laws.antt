-- The statements of the theorems about expansion.
use Rattle.std.specs.Prelude.{◌≡◌, ◌≢◌, ℕ, suc, ◌+◌, ◌-◌, ◌<◌, ◌≤◌, Bool, true, false, not, ◌&&◌, ◌||◌, List, [], ◌∷◌, ◌++◌, map, Option, Some, None, Ok}
use Rattle.std.specs.FinSet as set
use Rattle.pptext.specs.declared.tokens.Token.{Token}
use Rattle.pptext.specs.declared.tokens.Fault.{Fault}
use Rattle.pptext.specs.Tokens.{is_unmatched_quote, fault}
use Rattle.ppmacro.specs.Names.{Macros}
use Rattle.ppmacro.specs.Hiding.{Hiding}
use Rattle.ppmacro.specs.Substitution.{unhidden}
use Rattle.ppmacro.specs.Chains.{is_function_like}
use Rattle.ppmacro.specs.declared.macros.Macro.{Macro}
use Rattle.ppexpand.specs.declared.env.Env.{Env}
use Rattle.ppexpand.specs.declared.meter.Meter.{Meter}
use Rattle.ppexpand.specs.Arguments.{is_open, argument_role, separates, fewer, Quote, Open, Close, Comma, Inner}
use Rattle.ppexpand.specs.ExpansionStep.{Invocation, Emits, Replaced, Counts, Invoked, counter_value, macro_of, arguments_to_expand, finish_invocation}
use Rattle.ppexpand.specs.Budget.{with_budget, without_budget, spend_one, count_on}
use Rattle.ppexpand.specs.Expansion.{Outcome, step_in_budget, ExpandsTo, ExpandsArguments, Expansion, IsExpansion}
use Rattle.ppexpand.specs.OpenInvocations.{open_expansion}

-- ---- exactly one expansion, and termination

-- a list has exactly one outcome
pub record HasOneOutcome (macros : Macros) (env : Env) (level : ℕ) (meter : Meter) (list : List Hiding) : Type 0 where
  pub outcome : Outcome
  pub is : ExpandsTo macros env level meter list outcome
  pub only : (other : Outcome) → ExpandsTo macros env level meter list other → other ≡ outcome

-- a list of tokens has exactly one expansion
pub record HasOneExpansion (macros : Macros) (env : Env) (meter : Meter) (tokens : List Token) : Type 0 where
  pub expansion : Expansion
  pub is : IsExpansion macros env meter tokens expansion
  pub only : (other : Expansion) → IsExpansion macros env meter tokens other → other ≡ expansion

-- one expansion step leads from a list to the next
pub data Leads (macros : Macros) (env : Env) (level : ℕ) : Meter → List Hiding → Meter → List Hiding → Type 0 where
  by_emitting : {meter : Meter} {list next : List Hiding} {t : Hiding}
      → step_in_budget macros env meter list ≡ Emits t next
      → Leads macros env level meter list meter next
  by_replacing : {meter : Meter} {list next : List Hiding}
      → step_in_budget macros env meter list ≡ Replaced next
      → Leads macros env level meter list (spend_one meter) next
  by_counting : {meter : Meter} {list rest : List Hiding} {t : Hiding}
      → step_in_budget macros env meter list ≡ Counts t rest
      → Leads macros env level meter list (count_on meter) (counter_value meter.counter t ∷ rest)
  by_invoking : {meter meter_after : Meter} {list next : List Hiding} {invocation : Invocation} {expanded : List (List Hiding)}
      → step_in_budget macros env meter list ≡ Invoked invocation
      → ExpandsArguments macros env level invocation (spend_one meter) (arguments_to_expand env invocation) meter_after (Ok expanded)
      → finish_invocation env invocation expanded ≡ Replaced next
      → Leads macros env level meter list meter_after next

-- this number of expansion steps leads from a list to another
pub data LeadsOn (macros : Macros) (env : Env) (level : ℕ) : ℕ → Meter → List Hiding → Meter → List Hiding → Type 0 where
  stays : {meter : Meter} {list : List Hiding} → LeadsOn macros env level 0 meter list meter list
  steps : {n : ℕ} {meter between meter_after : Meter} {list next last : List Hiding}
      → Leads macros env level meter list between next
      → LeadsOn macros env level n between next meter_after last
      → LeadsOn macros env level (suc n) meter list meter_after last

-- a list takes at most this number of expansion steps
abbrev pub EndsWithin : Macros → Env → ℕ → ℕ → Meter → List Hiding → Type 0
EndsWithin macros env level most meter list =
    (n : ℕ) (meter_after : Meter) (last : List Hiding)
    → LeadsOn macros env level n meter list meter_after last
    → n ≤ most

-- ---- the budget

-- a budget that is larger by this number
abbrev pub plus : ℕ → Option ℕ → Option ℕ
plus n None = None
plus n (Some budget) = Some (n + budget)

-- a list is a prefix of another
abbrev pub IsPrefix : {A : Type 0} → List A → List A → Type 0
IsPrefix {A = A} prefix all = (more : List A) × (all ≡ prefix ++ more)

-- the budget was used up, and another replacement refused
pub record IsOver (out : Outcome) : Type 0 where
  pub fault : Fault
  pub is : out.fault ≡ Some fault
  pub number : fault.number ≡ 35
  pub remaining : out.meter.remaining ≡ Some 0

-- an expansion with the budget b, compared with one without a budget that makes this number of replacements
pub record CapsExpansion (b replacements : ℕ) (whole out : Outcome) : Type 0 where
  pub tokens : IsPrefix out.tokens whole.tokens
  pub enough : replacements ≤ b → (out.tokens ≡ whole.tokens) × (out.fault ≡ whole.fault) × (out.meter ≡ with_budget (Some (b - replacements)) whole.meter)
  pub short : b < replacements → IsOver out

-- without a budget no expansion ends in fault 35
abbrev pub OnlyBudgetsRefuse : Type 0
OnlyBudgetsRefuse =
    (macros : Macros) (env : Env) (level : ℕ) (meter : Meter) (list : List Hiding) (out : Outcome) (f : Fault)
    → ExpandsTo macros env level (without_budget meter) list out
    → out.fault ≡ Some f
    → f.number ≢ 35

-- ---- the expanded tokens

-- whether a macro's name is replaced whatever follows it (6.10.3, paragraph 9)
abbrev pub is_always_replaced : Option Macro → Bool
is_always_replaced None = false
is_always_replaced (Some d) = not (is_function_like d.kind)

-- a token that may be left after expansion: no unmatched quote, and no object-like or predefined macro's name unless its hide set has the name
abbrev pub is_fully_expanded : Macros → Hiding → Bool
is_fully_expanded macros t = not (is_unmatched_quote t.token) && (set.contains t.hide t.token.text || not (is_always_replaced (macro_of macros t.token)))

-- ---- the syntax of an invocation (6.10.3, paragraphs 10 and 11)

-- tokens with matched parentheses and without an unmatched quote; the flag says whether commas outside the parentheses are allowed
pub data Nested : Bool → List Hiding → Type 0 where
  nothing : {commas : Bool} → Nested commas []
  inner : {commas : Bool} {t : Hiding} {ts : List Hiding}
      → argument_role t.token ≡ Inner
      → Nested commas ts
      → Nested commas (t ∷ ts)
  comma : {t : Hiding} {ts : List Hiding}
      → argument_role t.token ≡ Comma
      → Nested true ts
      → Nested true (t ∷ ts)
  pair : {commas : Bool} (open' : Hiding) (inside : List Hiding) (close : Hiding) (ts : List Hiding)
      → argument_role open'.token ≡ Open
      → Nested true inside
      → argument_role close.token ≡ Close
      → Nested commas ts
      → Nested commas (open' ∷ (inside ++ close ∷ ts))

-- the list between the parentheses is these arguments, with commas between them, where this number of commas separates arguments (None: all)
pub data Separated : Option ℕ → List Hiding → List (List Hiding) → Type 0 where
  last : {commas : Option ℕ} {a : List Hiding}
      → Nested (not (separates 0 commas)) a
      → Separated commas a (a ∷ [])
  more : {commas : Option ℕ} {as' : List (List Hiding)} (a : List Hiding) (t : Hiding) (rest : List Hiding)
      → separates 0 commas ≡ true
      → Nested false a
      → argument_role t.token ≡ Comma
      → Separated (fewer commas) rest as'
      → Separated commas (a ++ t ∷ rest) (a ∷ as')

-- after `(` the list is these arguments, this `)`, and this rest
pub record IsInvocation (commas : Option ℕ) (list : List Hiding) (arguments : List (List Hiding)) (close : Hiding)
    (following : List Hiding) : Type 0 where
  pub inside : List Hiding
  pub laid_out : list ≡ inside ++ close ∷ following
  pub closes : argument_role close.token ≡ Close
  pub separated : Separated commas inside arguments

-- tokens without a matching `)`: each `)` matches a `(` among them, a `(` may be unmatched, and there is no unmatched quote
pub data NeverClosed : List Hiding → Type 0 where
  paired : {ts : List Hiding} → Nested true ts → NeverClosed ts
  deeper : (ts : List Hiding) (open' : Hiding) (inside : List Hiding)
      → Nested true ts
      → argument_role open'.token ≡ Open
      → NeverClosed inside
      → NeverClosed (ts ++ open' ∷ inside)

-- after `(` the list has this unmatched quote, before any matching `)`
pub record StopsAtQuote (list : List Hiding) (quote : Hiding) : Type 0 where
  pub prefix : List Hiding
  pub following : List Hiding
  pub laid_out : list ≡ prefix ++ quote ∷ following
  pub not_closed : NeverClosed prefix
  pub lone : argument_role quote.token ≡ Quote

-- ---- the open invocation (6.10.3, paragraph 11)

-- An expansion with this fault leaves these tokens open: none, or a function-like macro's name, `(`, and tokens without a matching `)` and
-- without an unmatched quote; and the fault is 17 at this name.
pub data LeavesOpen (macros : Macros) : Option Fault → List Token → Type 0 where
  nothing_open : {f : Option Fault} → LeavesOpen macros f []
  invocation_open : {t paren : Token} {inside : List Token} {d : Macro}
      → macro_of macros t ≡ Some d
      → is_function_like d.kind ≡ true
      → is_open paren ≡ true
      → NeverClosed (map unhidden inside)
      → LeavesOpen macros (Some (fault 17 t.used t.text)) (t ∷ paren ∷ inside)

-- a list of tokens leaves the same tokens open in each expansion
abbrev pub LeavesTheSameOpen : Type 0
LeavesTheSameOpen =
    (macros : Macros) (env : Env) (meter : Meter) (tokens : List Token) (e other : Expansion)
    (x : IsExpansion macros env meter tokens e) (y : IsExpansion macros env meter tokens other)
    → open_expansion x ≡ open_expansion y
