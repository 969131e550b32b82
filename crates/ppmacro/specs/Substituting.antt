-- The results of the parts of a substitution, as tokens with hide sets.
use Rattle.std.specs.Prelude.{ℕ, List, [], ◌∷◌, map, Option, Some, None, Vec, Bool}
use Rattle.std.specs.Global.{Global}
use Rattle.std.specs.List.{AllByRecursion}
use Rattle.std.specs.Option.{option_map}
use Rattle.pptext.specs.declared.tokens.Token.{Token}
use Rattle.ppmacro.specs.HideSetPool.{HideSetPool}
use Rattle.ppmacro.specs.HideSets.{hidings, AllKnown}
use Rattle.ppmacro.specs.Substitution.{Arguments, Replacement, argument_at, expanded_at}
use Rattle.ppmacro.specs.declared.hidden_token.Hidden.{Hidden}
use Rattle.ppmacro.specs.declared.hidden_token.ArgumentExpansion.{ArgumentExpansion}
use Rattle.ppmacro.specs.declared.hidden_token.ArgumentExpansion.TheVariants.{Unused, AsGiven, Owned}

abbrev pub tokens_of : List Hidden → List Token
tokens_of hs = map (λ h. h.token) hs

abbrev pub lists_of : List (Vec Hidden Global) → List (List Hidden)
lists_of vs = map (λ v. v.items) vs

-- The expansion of an argument, if it is computed.
abbrev pub expansion_if_computed : List Hidden → ArgumentExpansion → Option (List Hidden)
expansion_if_computed given Unused = None
expansion_if_computed given AsGiven = Some given
expansion_if_computed given (Owned v) = Some v.items

-- The expansion of each argument.
abbrev pub expansions_if_computed : List (Vec Hidden Global) → List ArgumentExpansion → List (Option (List Hidden))
expansions_if_computed given [] = []
expansions_if_computed [] (e ∷ es) = expansion_if_computed [] e ∷ expansions_if_computed [] es
expansions_if_computed (v ∷ vs) (e ∷ es) = expansion_if_computed v.items e ∷ expansions_if_computed vs es

-- The numbers of the hide sets in all lists are known.
pub record ListsKnown (sets : HideSetPool) (vs : List (Vec Hidden Global)) : Type 0 where
  pub each : AllByRecursion (λ v. AllKnown sets v.items) vs

-- The numbers of the hide sets in all arguments are known.
pub record ArgumentsKnown (sets : HideSetPool) (given : List (Vec Hidden Global)) (expanded : List ArgumentExpansion) : Type 0 where
  pub given_known : (i : ℕ) → AllKnown sets (argument_at (lists_of given) i)
  pub expanded_known : (i : ℕ) → AllKnown sets (expanded_at (expansions_if_computed given expanded) i)

abbrev pub arguments_in : HideSetPool → List (Vec Hidden Global) → List ArgumentExpansion → Arguments
arguments_in sets given expanded = record { given = map (hidings sets) (lists_of given); expanded = map (λ o. option_map (hidings sets) o) (expansions_if_computed given expanded) }

-- The tokens that a call leaves, with the pending flag that it returns.
abbrev pub as_replacement : HideSetPool → List Hidden → Bool → Replacement
as_replacement sets hs pending = record { tokens = hidings sets hs; pending = pending }
