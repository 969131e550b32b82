-- Tokens that may form an operator, as the tokens that they are.
use Rattle.std.specs.Prelude.{ℕ, zero, suc, Bool, true, false, ◌&&◌, List, [], ◌∷◌, ◌++◌, length, codes, if◌then◌else◌, Option, Some, None}
use Rattle.pptext.specs.declared.tokens.Token.{Token}
use Rattle.pptext.specs.Tokens.{is_identifier_named, is_punct}
use Rattle.ppprint.specs.Operators.{is_operand}
use Rattle.ppprint.specs.code.Tokens.{printed_token}
use Rattle.ppprint.specs.declared.operators.HeldTokens.{HeldTokens}
use Rattle.ppprint.specs.declared.operators.HeldTokens.TheVariants as held
use Rattle.ppprint.specs.declared.operators.Operator.{Operator}
use Rattle.ppprint.specs.declared.operators.Taken.{Taken}
use Rattle.ppprint.specs.declared.operators.Taken.TheVariants as taken
use Rattle.ppprint.specs.declared.text_token.TextToken.{TextToken}

abbrev pub held_tokens : HeldTokens → List Token
held_tokens held.Nothing = []
held_tokens (held.Name a) = printed_token a ∷ []
held_tokens (held.Open a b) = printed_token a ∷ printed_token b ∷ []
held_tokens (held.Literal a b c) = printed_token a ∷ printed_token b ∷ printed_token c ∷ []

abbrev pub is_empty : List Token → Bool
is_empty [] = true
is_empty (t ∷ ts) = false

abbrev pub operator_tokens : Operator → List Token
operator_tokens o = printed_token o.name ∷ printed_token o.open ∷ printed_token o.literal ∷ printed_token o.close ∷ []

-- the tokens that are held now, or form an operator
abbrev pub taken_tokens : Taken → Option (List Token)
taken_tokens (taken.Held h) = Some (held_tokens h)
taken_tokens (taken.Operator o) = Some (operator_tokens o)
taken_tokens taken.Broken = None

-- whether a token may be the one after n tokens of `_Pragma ( LITERAL )`
abbrev pub is_part : ℕ → Token → Bool
is_part zero t = is_identifier_named (codes "_Pragma") t
is_part (suc zero) t = is_punct (codes "(") t
is_part (suc (suc zero)) t = is_operand t
is_part (suc (suc (suc zero))) t = is_punct (codes ")") t
is_part n t = false

-- whether tokens begin an operator, or are one, behind n of its tokens
abbrev pub are_parts : ℕ → List Token → Bool
are_parts n [] = true
are_parts n (t ∷ ts) = is_part n t && are_parts (suc n) ts

-- the tokens with one more, if it may be the next one of an operator
abbrev pub with_part : List Token → Token → Option (List Token)
with_part ts t = if is_part (length ts) t then Some (ts ++ t ∷ []) else None

abbrev pub optional_token : Option TextToken → List Token
optional_token None = []
optional_token (Some t) = printed_token t ∷ []
