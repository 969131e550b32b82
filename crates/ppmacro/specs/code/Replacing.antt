-- Partial results of a substitution. Only contracts of private functions use them.
use Rattle.std.specs.Prelude.{◌≡◌, ℕ, Bool, true, List, [], ◌∷◌, ◌++◌, Some, Result, Ok, Err}
use Rattle.std.specs.FinSet as set
use Rattle.pptext.specs.declared.tokens.Fault.{Fault}
use Rattle.ppmacro.specs.HideSetPool.{HideSetPool}
use Rattle.ppmacro.specs.Hiding.{Hiding}
use Rattle.ppmacro.specs.HideSets.{set_at}
use Rattle.ppmacro.specs.Lexing.{kind_of}
use Rattle.ppmacro.specs.Substitution.{Arguments, Replacement, after_ok, join, operand_tokens, operands_tokens, space_first}
use Rattle.ppmacro.specs.declared.macros.Operand.{Operand}
use Rattle.pptext.specs.declared.tokens.Place.{Place}
use Rattle.ppmacro.specs.declared.hidden_token.Hidden.{Hidden}

-- The token's kind is the kind of its spelling.
abbrev pub HasSpelledKind : Hidden → Type 0
HasSpelledKind h = kind_of h.token.text ≡ Some h.token.kind

-- The last token's kind is the kind of its spelling.
abbrev pub EndsWithSpelledKind : List Hidden → Type 0
EndsWithSpelledKind hs = (front : List Hidden) (last : Hidden) → hs ≡ front ++ last ∷ [] → HasSpelledKind last

-- A list followed by the tokens of a chain, the first with this leading-space flag.
abbrev pub pushed : List Hiding → Bool → Result (List Hiding) Fault → Result Replacement Fault
pushed front space (Ok ts) = Ok (record { tokens = front ++ (space_first space ts).tokens; pending = (space_first space ts).pending })
pushed front space (Err f) = Err f

-- Joins operands that are next to `##` from the left to the tokens before them, one after another.
abbrev pub join_operands : Arguments → Place → List Hiding → List Operand → Result (List Hiding) Fault
join_operands args used left [] = Ok left
join_operands args used left (o ∷ os) = after_ok (operand_tokens true args used o) (λ ts. after_ok (join left ts used) (λ joined. join_operands args used joined os))

-- The first fault of operands that are next to `##`, each by itself.
abbrev pub operands_fault : Arguments → Place → List Operand → Result (Unit {0}) Fault
operands_fault args used os = after_ok (operands_tokens true args used os) (λ lists. Ok tt)

-- The set with number n is a subset of the set with number `added`.
abbrev pub HasSubset : HideSetPool → ℕ → ℕ → Type 0
HasSubset sets added n = set.union (set_at sets n) (set_at sets added) ≡ set_at sets added
