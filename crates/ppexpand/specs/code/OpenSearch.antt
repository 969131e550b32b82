-- The search for an open invocation at the start of a list: vocabulary of the code. No definition rests on this file.
use Rattle.std.specs.Prelude.{◌≡◌, ℕ, zero, suc, Bool, true, false, ◌&&◌, List, [], ◌∷◌, Option, Some, None, if◌then◌else◌}
use Rattle.pptext.specs.declared.tokens.Token.{Token}
use Rattle.ppmacro.specs.Names.{Macros}
use Rattle.ppmacro.specs.Hiding.{Hiding}
use Rattle.ppexpand.specs.declared.env.Env.{Env}
use Rattle.ppexpand.specs.declared.meter.Meter.{Meter}
use Rattle.ppexpand.specs.declared.token_roles.ArgumentRole as code
use Rattle.ppexpand.specs.declared.token_roles.ArgumentRole.TheVariants as variant
use Rattle.ppexpand.specs.Arguments.{is_open, argument_role, ArgumentRole, Quote, Open, Close, Comma, Inner}
use Rattle.ppexpand.specs.Expansion.{Outcome, ExpandsTo}
use Rattle.ppexpand.specs.OpenInvocations.{hides_nothing, stays_open, still_open, stopped_at}

-- the role that a value of the code means
abbrev pub role_value : code.ArgumentRole → ArgumentRole
role_value variant.Quote = Quote
role_value variant.Open = Open
role_value variant.Close = Close
role_value variant.Comma = Comma
role_value variant.Inner = Inner

-- the number of parentheses around the tokens that follow, inside the `(` of the invocation; None at its `)` and at an unmatched quote
abbrev pub depth_after : ArgumentRole → ℕ → Option ℕ
depth_after Quote depth = None
depth_after Open depth = Some (suc depth)
depth_after Close zero = None
depth_after Close (suc depth) = Some depth
depth_after Comma depth = Some depth
depth_after Inner depth = Some depth

-- that number after some tokens
abbrev pub depth_after_all : ℕ → List Token → Option ℕ
depth_after_all depth [] = Some depth
depth_after_all depth (t ∷ ts) = elim (depth_after (argument_role t) depth) [ Some d ↦ depth_after_all d ts | None ↦ None ]

-- that number after a name, `(` and some tokens; None also after another list
abbrev pub open_depth : List Token → Option ℕ
open_depth [] = None
open_depth (name ∷ []) = None
open_depth (name ∷ paren ∷ inside) = if is_open paren then depth_after_all 0 inside else None

-- inside this number of parentheses a list stays open, and no replacement made a token of it
abbrev pub open_inside : ℕ → List Hiding → Bool
open_inside depth [] = true
open_inside depth (t ∷ ts) = hides_nothing t && elim (depth_after (argument_role t.token) depth) [ Some d ↦ open_inside d ts | None ↦ false ]

-- a list stays open after its first token
abbrev pub opens_after_name : List Hiding → Bool
opens_after_name [] = false
opens_after_name (t ∷ rest) = stays_open rest

-- a list has this outcome, and if they are looked for, these tokens are left open
pub record ExpandsLeavingOpen (looks : Bool) (macros : Macros) (env : Env) (level : ℕ) (meter : Meter) (list : List Hiding) (out : Outcome) (open' : List Token) : Type 0 where
  pub expands : ExpandsTo macros env level meter list out
  pub open_is : looks ≡ true → open' ≡ still_open macros out.fault (stopped_at macros env expands.1)
