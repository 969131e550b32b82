-- The invocation that is open when fault 17 stops an expansion: the list has a function-like macro's name and `(`, and ends before the matching `)`.
-- Where a directive follows, C11 leaves its effect undefined (6.10.3, paragraph 11); GNU C executes it, and goes on with the arguments after it.
-- So whoever reads such a list can keep the tokens of the open invocation, and expand them again together with those that follow.
use Rattle.std.specs.Prelude.{ℕ, Bool, true, false, ◌&&◌, ◌==◌, List, [], ◌∷◌, map, Option, Some, None, if◌then◌else◌}
use Rattle.std.specs.FinSet as set
use Rattle.std.specs.List.{list_all}
use Rattle.pptext.specs.declared.tokens.Token.{Token}
use Rattle.pptext.specs.declared.tokens.Fault.{Fault}
use Rattle.ppmacro.specs.Names.{Macros}
use Rattle.ppmacro.specs.Hiding.{Hiding}
use Rattle.ppmacro.specs.Chains.{is_function_like}
use Rattle.ppmacro.specs.declared.macros.Macro.{Macro}
use Rattle.ppexpand.specs.declared.env.Env.{Env}
use Rattle.ppexpand.specs.declared.meter.Meter.{Meter}
use Rattle.ppexpand.specs.Arguments.{is_open, Gathered, Unclosed, gather}
use Rattle.ppexpand.specs.ExpansionStep.{macro_of}
use Rattle.ppexpand.specs.Expansion.{Outcome, Expands, done, token_fault, emits, replacement_fault, replaced, counts, argument_fault, invocation_fault, invocation_replaced}
use Rattle.ppexpand.specs.Expansion.{Expansion, IsExpansion}

-- ---- where an expansion stops

module _ (macros : Macros) (env : Env) where
  -- the list that is left where an expansion stops: it begins with the token whose step has the fault, and is empty if there is no fault
  abbrev pub stopped_at : {level steps : ℕ} {meter : Meter} {list : List Hiding} {out : Outcome} → Expands macros env level meter steps list out → List Hiding
  stopped_at {list = list} (done e) = list
  stopped_at {list = list} (token_fault e) = list
  stopped_at (emits e more) = stopped_at more
  stopped_at {list = list} (replacement_fault e) = list
  stopped_at (replaced e more) = stopped_at more
  stopped_at (counts e more) = stopped_at more
  stopped_at {list = list} (argument_fault e arguments) = list
  stopped_at {list = list} (invocation_fault e arguments f) = list
  stopped_at (invocation_replaced e arguments f more) = stopped_at more

-- ---- the open invocation

-- a token's hide set is empty: no replacement made it
abbrev pub hides_nothing : Hiding → Bool
hides_nothing t = set.len t.hide == 0

abbrev pub is_unclosed : Gathered → Bool
is_unclosed Unclosed = true
is_unclosed _ = false

-- after `(` there is neither the matching `)` nor an unmatched quote before it; this doesn't depend on how many commas separate arguments
abbrev pub never_closes : List Hiding → Bool
never_closes inside = is_unclosed (gather 0 None inside)

-- `(` is next, it is never closed, and no replacement made a token of the list
abbrev pub stays_open : List Hiding → Bool
stays_open [] = false
stays_open (paren ∷ inside) = is_open paren.token && (never_closes inside && list_all hides_nothing (paren ∷ inside))

abbrev pub names_function_like : Option Macro → Bool
names_function_like None = false
names_function_like (Some d) = is_function_like d.kind

-- a list begins with an open invocation: a function-like macro's name, which a replacement may have made, and a list that stays open
abbrev pub begins_open : Macros → List Hiding → Bool
begins_open macros [] = false
begins_open macros (t ∷ rest) = names_function_like (macro_of macros t.token) && stays_open rest

-- the tokens of a list that begins with an open invocation; no tokens otherwise
abbrev pub open_tokens : Macros → List Hiding → List Token
open_tokens macros list = if begins_open macros list then map (λ t. t.token) list else []

-- an invocation has no `)`
abbrev pub is_unclosed_fault : Option Fault → Bool
is_unclosed_fault None = false
is_unclosed_fault (Some f) = f.number == 17

-- the tokens of the open invocation, if this fault stops an expansion at this list
abbrev pub still_open : Macros → Option Fault → List Hiding → List Token
still_open macros f list = if is_unclosed_fault f then open_tokens macros list else []

-- the tokens of the invocation that is open when an expansion stops
abbrev pub open_expansion : {macros : Macros} {env : Env} {meter : Meter} {tokens : List Token} {e : Expansion} → IsExpansion macros env meter tokens e → List Token
open_expansion {macros} {env} x = still_open macros x.outcome.fault (stopped_at macros env x.expands.1)
