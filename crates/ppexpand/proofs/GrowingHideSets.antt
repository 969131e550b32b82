-- Adding hide sets does not change the values of arguments and invocations.
use Rattle.std.proofs.Common.{◌≡◌, ℕ, zero, suc, List, [], ◌∷◌, unwrap_or, Some, Vec, Global, refl, ap}
use Rattle.std.specs.Option.{option_map}
use Rattle.std.specs.FinSet as set
use Rattle.ppmacro.specs.Names.{HideSet}
use Rattle.ppmacro.specs.HideSetPool.{HideSetPool}
use Rattle.ppmacro.specs.HideSets.{set_at, hiding, hidings, HasSets, AllKnown, KeepsSets}
use Rattle.ppmacro.specs.Substitution.{expanded_at}
use Rattle.ppmacro.specs.Substituting.{expansion_if_computed, expansions_if_computed, ListsKnown, ArgumentsKnown}
use Rattle.ppmacro.specs.declared.hidden_token.Hidden.{Hidden}
use Rattle.ppmacro.specs.declared.hidden_token.ArgumentExpansion.{ArgumentExpansion}
use Rattle.ppmacro.specs.declared.hidden_token.ArgumentExpansion.TheVariants.{Unused, AsGiven, Owned}
use Rattle.ppmacro.proofs.ArgumentLemmas.{all-known}
use Rattle.ppmacro.proofs.PoolGrowthLemmas.{set-keeps, hiding-keeps, hidings-keeps, known-keeps, known-set, known-sets}
use Rattle.ppexpand.specs.declared.expand_step.Invocation.{Invocation as CodeInvocation}
use Rattle.ppexpand.specs.ExpansionStep.{Invocation}
use Rattle.ppexpand.specs.code.ProgramValues.{given_in, expanded_in, owned_tokens, ExpansionsKnown, invocation_in, InvocationKnown}

pub given-keeps : {s t : HideSetPool} (vs : List (Vec Hidden Global)) → KeepsSets s t → ListsKnown s vs → given_in t vs ≡ given_in s vs
given-keeps [] k h = refl
given-keeps (v ∷ vs) k h = λ i. hidings-keeps v.items k h.each.0 i ∷ given-keeps vs k (record { each = h.each.1 }) i

pub given_known-keeps : {s t : HideSetPool} (vs : List (Vec Hidden Global)) → KeepsSets s t → ListsKnown s vs → ListsKnown t vs
given_known-keeps [] k h = record { each = tt }
given_known-keeps (v ∷ vs) k h =
    let rest = given_known-keeps vs k (record { each = h.each.1 }) in
    record { each = (known-keeps v.items k h.each.0, rest.each) }

option-keeps : {s t : HideSetPool} (given : List Hidden) (e : ArgumentExpansion)
    → KeepsSets s t
    → AllKnown s given
    → AllKnown s (owned_tokens e)
    → option_map (hidings t) (expansion_if_computed given e) ≡ option_map (hidings s) (expansion_if_computed given e)
option-keeps given Unused k g h = refl
option-keeps given AsGiven k g h = ap Some (hidings-keeps given k g)
option-keeps given (Owned v) k g h = ap Some (hidings-keeps v.items k h)

pub expanded-keeps : {s t : HideSetPool} (vs : List (Vec Hidden Global)) (es : List ArgumentExpansion) → KeepsSets s t → ListsKnown s vs → ExpansionsKnown s es → expanded_in t vs es ≡ expanded_in s vs es
expanded-keeps vs [] k g h = refl
expanded-keeps [] (e ∷ es) k g h = λ i. option-keeps [] e k (record { each = tt }) h.each.0 i ∷ expanded-keeps [] es k g (record { each = h.each.1 }) i
expanded-keeps (v ∷ vs) (e ∷ es) k g h = λ i. option-keeps v.items e k g.each.0 h.each.0 i ∷ expanded-keeps vs es k (record { each = g.each.1 }) (record { each = h.each.1 }) i

pub expanded_known-keeps : {s t : HideSetPool} (es : List ArgumentExpansion) → KeepsSets s t → ExpansionsKnown s es → ExpansionsKnown t es
expanded_known-keeps [] k h = record { each = tt }
expanded_known-keeps (e ∷ es) k h =
    let rest = expanded_known-keeps es k (record { each = h.each.1 }) in
    record { each = (known-keeps (owned_tokens e) k h.each.0, rest.each) }

option-at : {s : HideSetPool} (given : List Hidden) (e : ArgumentExpansion) → AllKnown s given → AllKnown s (owned_tokens e) → AllKnown s (unwrap_or (expansion_if_computed given e) [])
option-at given Unused g h = h
option-at given AsGiven g h = g
option-at given (Owned v) g h = h

expanded-at : {s : HideSetPool} (vs : List (Vec Hidden Global)) (es : List ArgumentExpansion) → ListsKnown s vs → ExpansionsKnown s es → (i : ℕ) → AllKnown s (expanded_at (expansions_if_computed vs es) i)
expanded-at vs [] g h i = record { each = tt }
expanded-at [] (e ∷ es) g h zero = option-at [] e (record { each = tt }) h.each.0
expanded-at (v ∷ vs) (e ∷ es) g h zero = option-at v.items e g.each.0 h.each.0
expanded-at [] (e ∷ es) g h (suc i) = expanded-at [] es g (record { each = h.each.1 }) i
expanded-at (v ∷ vs) (e ∷ es) g h (suc i) = expanded-at vs es (record { each = g.each.1 }) (record { each = h.each.1 }) i

pub arguments_known : {s : HideSetPool} (vs : List (Vec Hidden Global)) (es : List ArgumentExpansion) → ListsKnown s vs → ExpansionsKnown s es → ArgumentsKnown s vs es
arguments_known vs es h k = record { given_known = (all-known vs [] vs [] refl refl h (record { each = tt })).given_known; expanded_known = expanded-at vs es h k }

-- the specification's invocation for an invocation of the code and the tokens after its `)`
abbrev pub invocation_of : HideSetPool → CodeInvocation → List Hidden → Invocation
invocation_of sets c following = invocation_in sets c.name_token c.definition.now c.arguments.items c.base following

-- the hide sets of an invocation of the code exist in the pool
abbrev IsInvocationKnown : HideSetPool → CodeInvocation → Type 0
IsInvocationKnown sets c = InvocationKnown sets c.name_token c.arguments.items c.base

pub invocation_known-keeps : {s t : HideSetPool} (c : CodeInvocation) → KeepsSets s t → IsInvocationKnown s c → IsInvocationKnown t c
invocation_known-keeps c k h = record { name_token = known-sets c.name_token k h.name_token; arguments = given_known-keeps c.arguments.items k h.arguments; base_known = known-set c.base k h.base_known }

pub invocation_of-keeps : {s t : HideSetPool} (c : CodeInvocation) (following : List Hidden) → KeepsSets s t → IsInvocationKnown s c → AllKnown s following → invocation_of t c following ≡ invocation_of s c following
invocation_of-keeps {s} {t} c following k h rest =
    let sets : set_at t c.base ≡ set_at s c.base = set-keeps c.base k h.base_known in
    let name_tokens : hiding t c.name_token ≡ hiding s c.name_token = hiding-keeps c.name_token k h.name_token in
    let lists : given_in t c.arguments.items ≡ given_in s c.arguments.items = given-keeps c.arguments.items k h.arguments in
    let rests : hidings t following ≡ hidings s following = hidings-keeps following k rest in
    λ i. record { name_token = name_tokens i; macro = c.definition.now; arguments = lists i; names_to_hide = set.insert (sets i) c.name_token.token.text; following = rests i }

-- the value of an invocation in the larger pool `t`, by the values of its parts in `s`
pub invocation_made : {s t : HideSetPool} (c : CodeInvocation) (following : List Hidden) (names_to_hide : HideSet)
    → KeepsSets s t
    → HasSets s c.name_token
    → ListsKnown s c.arguments.items
    → AllKnown s following
    → set.insert (set_at t c.base) c.name_token.token.text ≡ names_to_hide
    → invocation_of t c following ≡ record { name_token = hiding s c.name_token; macro = c.definition.now; arguments = given_in s c.arguments.items; names_to_hide = names_to_hide; following = hidings s following }
invocation_made {s} {t} c following names_to_hide k name_token lists rest to_hide =
    let name_tokens : hiding t c.name_token ≡ hiding s c.name_token = hiding-keeps c.name_token k name_token in
    let arguments : given_in t c.arguments.items ≡ given_in s c.arguments.items = given-keeps c.arguments.items k lists in
    let rests : hidings t following ≡ hidings s following = hidings-keeps following k rest in
    λ i. record { name_token = name_tokens i; macro = c.definition.now; arguments = arguments i; names_to_hide = to_hide i; following = rests i }
