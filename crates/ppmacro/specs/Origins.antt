-- The origin, the hide set and the leading-space flag of each token of a replacement (6.10.3.1 to 6.10.3.4), by the chains.
use Rattle.std.specs.Prelude.{◌+◌, ◌<◌, length, ◌≡◌, ℕ, Bool, true, false, ◌||◌, List, [], ◌∷◌, ◌++◌, map, slice_get, Some, Ok}
use Rattle.std.specs.FinSet as set
use Rattle.std.specs.List.{Contains}
use Rattle.pptext.specs.declared.tokens.Place.{Place}
use Rattle.pptext.specs.declared.tokens.Token.{Token}
use Rattle.pptext.specs.declared.tokens.Kind.{Kind}
use Rattle.ppmacro.specs.Names.{HideSet}
use Rattle.ppmacro.specs.Hiding.{Hiding}
use Rattle.ppmacro.specs.Lexing.{kind_of}
use Rattle.ppmacro.specs.Substitution.{Arguments, argument_at, expanded_at, is_joined, before_variadic, string_text, string_token, chain_tokens}
use Rattle.ppmacro.specs.declared.macros.Chain.{Chain}
use Rattle.ppmacro.specs.declared.macros.Operand.{Operand}
use Rattle.ppmacro.specs.declared.macros.Operand.TheVariants.{Tok, Param, Str, VariadicAfterComma}

-- The tokens of the operand with this index, before `##` joins them. Away from `#` and `##` an argument is expanded; next to `##` it
-- isn't (6.10.3.1). A token of the replacement list and a literal made by `#` have empty hide sets. A token of an argument has its
-- hide set there.
pub data OperandTokens (args : Arguments) (used : Place) (operands : List Operand) : ℕ → List Hiding → Type 0 where
  listed : {n : ℕ} {t : Token}
      → slice_get operands n ≡ Some (Tok t)
      → OperandTokens args used operands n (record { token = t; hide = set.empty } ∷ [])
  expanded : {n i : ℕ}
      → is_joined operands ≡ false
      → slice_get operands n ≡ Some (Param i)
      → OperandTokens args used operands n (expanded_at args.expanded i)
  given : {n i : ℕ}
      → is_joined operands ≡ true
      → slice_get operands n ≡ Some (Param i)
      → OperandTokens args used operands n (argument_at args.given i)
  variadic : {n i : ℕ}
      → slice_get operands n ≡ Some (VariadicAfterComma i)
      → OperandTokens args used operands n (argument_at args.given i)
  literal : {n i : ℕ} {at : Place}
      → slice_get operands n ≡ Some (Str i at)
      → OperandTokens args used operands n (string_token (string_text (map (λ t. t.token) (argument_at args.given i))) at used ∷ [])

-- `##` joins the operands m and n. Operands between them have no tokens (placemarkers, 6.10.3.3p2).
pub record AreNeighbors (args : Arguments) (used : Place) (operands : List Operand) (m n : ℕ) : Type 0 where
  pub in_order : m < n
  pub joined : n < length (before_variadic operands)
  pub placemarkers : (k : ℕ) → m < k → k < n → OperandTokens args used operands k []

-- A paste of two tokens. It has the spelling location and the leading-space flag of its left part, and the intersection of both hide
-- sets.
pub record IsPaste (used : Place) (left right t : Hiding) : Type 0 where
  pub kind : Kind
  pub is_token : kind_of (left.token.text ++ right.token.text) ≡ Some kind
  pub token : t.token ≡ record { kind = kind; text = left.token.text ++ right.token.text; space = left.token.space; at = left.token.at; used = used }
  pub hide : t.hide ≡ set.intersection left.hide right.hide

-- The token before the `##` that follows operand n: the last of the operand, or a paste of its only token.
pub data IsLastToken (args : Arguments) (used : Place) (operands : List Operand) : ℕ → Hiding → Type 0 where
  own_last : {n : ℕ} {t : Hiding} (prefix : List Hiding)
      → OperandTokens args used operands n (prefix ++ t ∷ [])
      → IsLastToken args used operands n t
  paste_last : {m n : ℕ} {left right t : Hiding}
      → IsLastToken args used operands m left
      → AreNeighbors args used operands m n
      → OperandTokens args used operands n (right ∷ [])
      → IsPaste used left right t
      → IsLastToken args used operands n t

-- A token of a chain with these operands, before names are added. It is a token of an operand, or a paste of the last token of an
-- operand and the first of the next operand with tokens. Operands of one chain are joined by `##`, so a chain without `##` has no
-- paste.
pub data ComesFrom (args : Arguments) (used : Place) (operands : List Operand) : Hiding → Type 0 where
  own : {n : ℕ} {ts : List Hiding} {t : Hiding}
      → OperandTokens args used operands n ts
      → Contains ts t
      → ComesFrom args used operands t
  paste : {m n : ℕ} {left right t : Hiding} {more : List Hiding}
      → IsLastToken args used operands m left
      → AreNeighbors args used operands m n
      → OperandTokens args used operands n (right ∷ more)
      → IsPaste used left right t
      → ComesFrom args used operands t

-- The leading-space flag of a chain that follows these chains. The flag of the first chain of the replacement list doesn't count.
abbrev pub own_space : List Chain → Chain → Bool
own_space [] c = false
own_space (b ∷ bs) c = c.space

-- The number of tokens of these chains, and whether a leading-space flag is pending after them. At the start the flag of the
-- macro name is pending. A chain without tokens leaves the pending flag, or its own, to the next.
pub data LeavesPending (args : Arguments) (used : Place) (space : Bool) : List Chain → ℕ → Bool → Type 0 where
  at_start : LeavesPending args used space [] 0 space
  after_tokens : (earlier : List Chain) (c : Chain) {count : ℕ} {pending : Bool} {t : Hiding} {ts : List Hiding}
      → LeavesPending args used space earlier count pending
      → chain_tokens args used c ≡ Ok (t ∷ ts)
      → LeavesPending args used space (earlier ++ c ∷ []) (count + length (t ∷ ts)) false
  after_none : (earlier : List Chain) (c : Chain) {count : ℕ} {pending : Bool}
      → LeavesPending args used space earlier count pending
      → chain_tokens args used c ≡ Ok []
      → LeavesPending args used space (earlier ++ c ∷ []) count (pending || own_space earlier c)

-- The leading-space flag of a token after these of its own chain. The first token has the flag `leading` of the chain; another
-- has its own.
abbrev pub space_after : Bool → List Hiding → Hiding → Bool
space_after leading [] t = leading
space_after leading (f ∷ fs) t = t.token.space

-- The token with this index in the replacement. It is a token of one of the chains, after those of the chains before it and those
-- before it in its own. Its expansion location is that of the macro name, and its hide set has the names that the invocation
-- adds.
pub record IsReplacementToken (chains : List Chain) (args : Arguments) (added : HideSet) (used : Place) (space : Bool) (index : ℕ) (t : Hiding) : Type 0 where
  pub earlier : List Chain
  pub chain : Chain
  pub following : List Chain
  pub laid_out : chains ≡ earlier ++ chain ∷ following
  pub prefix : List Hiding
  pub own : Hiding
  pub more : List Hiding
  pub chain_tokens_are : chain_tokens args used chain ≡ Ok (prefix ++ own ∷ more)
  pub count : ℕ
  pub pending : Bool
  pub is_pending : LeavesPending args used space earlier count pending
  pub located : index ≡ count + length prefix
  pub token : t.token ≡ record own.token { used = used; space = space_after (pending || own_space earlier chain) prefix own }
  pub hide : t.hide ≡ set.union own.hide added
