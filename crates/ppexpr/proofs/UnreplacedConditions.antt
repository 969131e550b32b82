-- A condition without macro replacement has the result of its tokens' symbols.
use Rattle.std.proofs.Common.{◌≡◌, suc, ◌<◌, ◌⊎◌, inl, inr, ◌&&◌, Bool, true, false, List, [], ◌∷◌, length, Option, Some, None}
use Rattle.std.proofs.Common.{◌||◌, true≢false, Ok, refl, sym, subst, append-nil, arith, is_some, codes, if◌then◌else◌}
use Rattle.std.specs.FinMap as table
use Rattle.std.specs.List.{list_any, AllByRecursion}
use Rattle.pptext.specs.declared.tokens.Place.{Place}
use Rattle.pptext.specs.declared.tokens.Token.{Token}
use Rattle.pptext.specs.declared.tokens.Kind.TheVariants.{Number}
use Rattle.pptext.specs.Tokens.{is_identifier, is_punct}
use Rattle.ppmacro.specs.Names.{Macros}
use Rattle.ppexpand.specs.declared.env.Env.{Env}
use Rattle.ppexpand.specs.declared.meter.Meter.{Meter}
use Rattle.ppexpand.specs.code.Lists.{never_expands}
use Rattle.ppexpand.specs.Expansion.{IsExpansion, stops_with}
use Rattle.ppexpand.proofs.SkippedTokens.{expansion-following, expands-nothing}
use Rattle.ppexpr.specs.declared.symbols.Symbol.{Symbol}
use Rattle.ppexpr.specs.declared.symbols.Symbol.TheVariants.{Constant}
use Rattle.ppexpr.specs.Values.{truth}
use Rattle.ppexpr.specs.DefinedOperator.{is_defined, Operand, parenthesized, operand, defined_value, ReplacesDefined, nothing as replaces_nothing, other}
use Rattle.ppexpr.specs.DefinedOperator.{defined_use as replaces_defined}
use Rattle.ppexpr.specs.Tokens.{symbol_of, symbols_of, symbol_then}
use Rattle.ppexpr.specs.code.DefinedOnly.{BeginsWith, token, defined_use, AllRepresent, nothing, more}
use Rattle.ppexpr.specs.Conditions.{Condition, EvaluatesSymbols, IsCondition, replaced, constants}

-- The tokens with `defined` replaced. Macro replacement leaves them unchanged, and their symbols are `ss`.
record Unreplaced (macros : Macros) (ts : List Token) (ss : List Symbol) : Type 0 where
  without_defined : List Token
  replaces : ReplacesDefined macros ts without_defined
  unexpanded : AllByRecursion (λ t. never_expands macros t ≡ true) without_defined
  undefined : list_any is_defined without_defined ≡ false
  symbols : (at : Place) → symbols_of at without_defined ≡ Ok ss

defined_symbol : (b : Bool) (at : Place) (d : Token) → symbol_of at (record d { kind = Number; text = if b then codes "1" else codes "0" }) ≡ Ok (Constant (truth b))
defined_symbol true at d = refl
defined_symbol false at d = refl

unreplaced_more : (macros : Macros) (ts rest : List Token) (s : Symbol) (ss : List Symbol) → BeginsWith macros ts s rest → Unreplaced macros rest ss → Unreplaced macros ts (s ∷ ss)
unreplaced_more macros ts rest s ss (token {t = t} e h) u = record {
  without_defined = t ∷ u.without_defined;
  replaces = other e u.replaces;
  unexpanded = (h.unexpanded, u.unexpanded);
  undefined = rw e u.undefined;
  symbols = λ at. λ i. symbol_then (h.symbol at i) (u.symbols at i);
}
unreplaced_more macros ts rest s ss (defined_use {d = d} {o = o} e k) u = record {
  without_defined = defined_value macros d o.name ∷ u.without_defined;
  replaces = replaces_defined e k u.replaces;
  unexpanded = (refl, u.unexpanded);
  undefined = u.undefined;
  symbols = λ at. λ i. symbol_then (defined_symbol (is_some (table.get macros o.name.text)) at d i) (u.symbols at i);
}

unreplaced : (macros : Macros) (ts : List Token) (ss : List Symbol) → AllRepresent macros ts ss → Unreplaced macros ts ss
unreplaced macros ts ss nothing = record { without_defined = []; replaces = replaces_nothing; unexpanded = tt; undefined = refl; symbols = λ at. refl }
unreplaced macros ts ss (more {rest = rest} {s = s} {ss = qs} b h) = unreplaced_more macros ts rest s qs b (unreplaced macros rest qs h)

expands_as_is : (macros : Macros) (env : Env) (meter : Meter) (ts : List Token)
    → AllByRecursion (λ t. never_expands macros t ≡ true) ts
    → IsExpansion macros env meter ts (record { tokens = ts; fault = None; meter = meter })
expands_as_is macros env meter ts h =
    expansion-following macros env meter ts ts [] (record { tokens = ts; fault = None; meter = meter }) (stops_with meter None)
    (sym (append-nil ts)) h (expands-nothing macros env 0 meter) (sym (append-nil ts)) refl refl

-- The condition of the tokens is the condition of their symbols, and no budget is spent.
pub direct_condition : (macros : Macros) (env : Env) (at : Place) (ts : List Token) (meter : Meter) (ss : List Symbol) (c : Condition)
    → AllRepresent macros ts ss
    → EvaluatesSymbols at ss c
    → IsCondition macros env at ts meter c meter
direct_condition macros env at ts meter ss c h j =
    let u : Unreplaced macros ts ss = unreplaced macros ts ss h in
    replaced u.replaces (expands_as_is macros env meter u.without_defined u.unexpanded) refl (constants u.undefined (u.symbols at) j)

-- ---- the tokens after an operand and a symbol

none_is_some : (p o : Operand) → None ≡ Some o → ⊥
none_is_some p o e = cc

same_operand : (p o : Operand) → Some p ≡ Some o → p ≡ o
same_operand p o e = cc

-- The operand that a conditional selects is one of its two operands.
picked : (b : Bool) (p o : Operand) (q : Option Operand) → (if b then Some p else q) ≡ Some o → (p ≡ o) ⊎ (q ≡ Some o)
picked true p o q e = inl (same_operand p o e)
picked false p o q e = inr e

parenthesized_shorter : (ts : List Token) (o : Operand) → parenthesized ts ≡ Some o → length o.rest < length ts
parenthesized_shorter [] o e = absurd (none_is_some o o e)
parenthesized_shorter (x ∷ []) o e = absurd (none_is_some o o e)
parenthesized_shorter (x ∷ y ∷ []) o e = absurd (none_is_some o o e)
parenthesized_shorter (x ∷ y ∷ z ∷ ts) o e = elim (picked (is_punct (codes "(") x && (is_identifier y && is_punct (codes ")") z)) (record { name = y; rest = ts }) o None e) [
  | inl same ↦ subst (λ (p : Operand). length p.rest < suc (suc (suc (length ts)))) same (omega arith)
  | inr none ↦ absurd (none_is_some o o none)
]

pub operand_shorter : (ts : List Token) (o : Operand) → operand ts ≡ Some o → length o.rest < length ts
operand_shorter [] o e = absurd (none_is_some o o e)
operand_shorter (x ∷ ts) o e = elim (picked (is_identifier x) (record { name = x; rest = ts }) o (parenthesized (x ∷ ts)) e) [
  | inl same ↦ subst (λ (p : Operand). length p.rest < suc (length ts)) same (omega arith)
  | inr other_way ↦ parenthesized_shorter (x ∷ ts) o other_way
]

pub rest_shorter : (macros : Macros) (ts rest : List Token) (s : Symbol) → BeginsWith macros ts s rest → length rest < length ts
rest_shorter macros ts rest s (token {t = t} {ts = us} e h) = omega arith
rest_shorter macros ts rest s (defined_use {d = d} {ts = us} {o = o} e k) = omega (arith, operand_shorter us o k)

-- ---- a list without `defined`

neither : (a b : Bool) → (a || b) ≡ false → (a ≡ false) × (b ≡ false)
neither true b h = absurd (true≢false h)
neither false b h = (refl, h)

-- Tokens without `defined` stay.
pub undefined_stays : (macros : Macros) (ts : List Token) → list_any is_defined ts ≡ false → ReplacesDefined macros ts ts
undefined_stays macros [] h = replaces_nothing
undefined_stays macros (t ∷ ts) h =
    let both = neither (is_defined t) (list_any is_defined ts) h in
    other both.0 (undefined_stays macros ts both.1)
