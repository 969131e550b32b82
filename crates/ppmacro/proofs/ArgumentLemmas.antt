-- Arguments whose hide-set numbers are all known to the pool.
use Rattle.std.proofs.Common.{◌≡◌, ℕ, zero, suc, List, [], ◌∷◌, map, Vec, Global, sym, subst}
use Rattle.ppmacro.specs.HideSetPool.{HideSetPool}
use Rattle.ppmacro.specs.HideSets.{AllKnown}
use Rattle.ppmacro.specs.Substitution.{argument_at, expanded_at}
use Rattle.ppmacro.specs.Substituting.{lists_of, expansions_if_computed, ListsKnown, ArgumentsKnown}
use Rattle.ppmacro.specs.declared.hidden_token.Hidden.{Hidden}
use Rattle.ppmacro.specs.declared.hidden_token.ArgumentExpansion.{ArgumentExpansion}
use Rattle.ppmacro.specs.declared.hidden_token.ArgumentExpansion.TheVariants.{Owned}

given-known : {s : HideSetPool} (vs : List (Vec Hidden Global)) → ListsKnown s vs → (i : ℕ) → AllKnown s (argument_at (lists_of vs) i)
given-known [] k i = record { each = tt }
given-known (v ∷ vs) k zero = k.each.0
given-known (v ∷ vs) k (suc i) = given-known vs (record { each = k.each.1 }) i

expanded-known : {s : HideSetPool} (given vs : List (Vec Hidden Global)) → ListsKnown s vs → (i : ℕ) → AllKnown s (expanded_at (expansions_if_computed given (map (λ v. Owned v) vs)) i)
expanded-known given [] k i = record { each = tt }
expanded-known [] (v ∷ vs) k zero = k.each.0
expanded-known (g ∷ gs) (v ∷ vs) k zero = k.each.0
expanded-known [] (v ∷ vs) k (suc i) = expanded-known [] vs (record { each = k.each.1 }) i
expanded-known (g ∷ gs) (v ∷ vs) k (suc i) = expanded-known gs vs (record { each = k.each.1 }) i

-- `ArgumentsKnown` holds if the hide sets of the arguments and of their owned expansions are known.
pub all-known : {s : HideSetPool} (given others shown : List (Vec Hidden Global)) (expanded : List ArgumentExpansion)
    → shown ≡ given
    → expanded ≡ map (λ v. Owned v) others
    → ListsKnown s given
    → ListsKnown s others
    → ArgumentsKnown s shown expanded
all-known {s} given others shown expanded p q k l = record {
  given_known = λ i. subst (λ vs. AllKnown s (argument_at (lists_of vs) i)) (sym p) (given-known given k i);
  expanded_known = λ i. subst (λ os. AllKnown s (expanded_at (expansions_if_computed shown os) i)) (sym q) (expanded-known shown others l i);
}
