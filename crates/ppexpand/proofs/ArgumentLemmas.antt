-- Lemmas for the loop that expands the arguments of an invocation in the order of the profile, and puts each expansion at its parameter.
use Rattle.std.proofs.Common.{◌≡◌, ℕ, zero, suc, ◌+◌, ◌<◌, ◌≤◌, List, [], ◌∷◌, ◌++◌, map, take, drop, set, replicate, get_or, Option, Some, None, Ok, Err, Vec}
use Rattle.std.proofs.Common.{Global, refl, sym, ap, ◌∙◌, subst, length, add-one, arith}
use Rattle.std.proofs.lemmas.List.{get_or_default, take_more, take_all, drop_all, length-take, length-append}
use Rattle.pptext.specs.declared.tokens.Token.{Token}
use Rattle.pptext.specs.declared.tokens.Fault.{Fault}
use Rattle.ppmacro.specs.Names.{Macros}
use Rattle.ppmacro.specs.HideSetPool.{HideSetPool}
use Rattle.ppmacro.specs.Hiding.{Hiding}
use Rattle.ppmacro.specs.HideSets.{hidings, AllKnown}
use Rattle.ppmacro.specs.Chains.{parameter_names}
use Rattle.ppmacro.specs.PreExpansion.{expansion_order}
use Rattle.ppmacro.specs.Substituting.{lists_of, ListsKnown, expansion_if_computed}
use Rattle.ppmacro.specs.Substitution.{argument_at}
use Rattle.ppmacro.proofs.ChainReplacementLemmas.{drop-item}
use Rattle.std.specs.Option.{option_map}
use Rattle.ppmacro.specs.declared.hidden_token.ArgumentExpansion.{ArgumentExpansion}
use Rattle.ppmacro.specs.declared.hidden_token.ArgumentExpansion.TheVariants.{Unused}
use Rattle.ppmacro.specs.declared.hidden_token.Hidden.{Hidden}
use Rattle.ppexpand.specs.declared.env.Env.{Env}
use Rattle.ppexpand.specs.declared.meter.Meter.{Meter}
use Rattle.ppexpand.specs.ExpansionStep.{Invocation, arguments_to_expand, put_at, expansions_by_parameter}
use Rattle.ppexpand.specs.Expansion.{Expands, ExpandsTo, ExpandsArguments}
use Rattle.ppexpand.specs.code.ProgramValues.{given_in, expanded_in, owned_tokens, ExpansionsKnown, ExpandsArgument, ExpandsInvocationArguments, expands, raises}
use Rattle.ppexpand.proofs.LoopInvariants.{ArgumentsFollow, arguments_start, arguments_used, arguments_refused, arguments_end}
use Rattle.ppexpand.proofs.GrowingHideSets.{arguments_known}

-- the expansion of an argument, or its fault, by the outcome of its list one level deeper
module _ (macros : Macros) (env : Env) (level : ℕ) (name_token : Token) (meter meter_after : Meter) (list tokens : List Hiding) where
  at_level : (o : Option Fault) (one : ExpandsTo macros env (level + 1) meter list (record { tokens = tokens; fault = o; meter = meter_after }))
      → Expands macros env (suc level) meter one.0 list (record { tokens = tokens; fault = o; meter = meter_after })
  at_level o one = subst (λ n. Expands macros env n meter one.0 list (record { tokens = tokens; fault = o; meter = meter_after })) (add-one level) one.1

  pub argument_expands : level < 256
      → ExpandsTo macros env (level + 1) meter list (record { tokens = tokens; fault = None; meter = meter_after })
      → ExpandsArgument macros env level name_token meter list meter_after (Ok tokens)
  argument_expands low one = expands low (at_level None one)

  pub argument_raises : (f : Fault)
      → level < 256
      → ExpandsTo macros env (level + 1) meter list (record { tokens = tokens; fault = Some f; meter = meter_after })
      → ExpandsArgument macros env level name_token meter list meter_after (Err f)
  argument_raises f low one = raises low (at_level (Some f) one)

-- ---- the argument of a parameter

pub argument-in : (s : HideSetPool) (vs : List (Vec Hidden Global)) (i : ℕ) → argument_at (given_in s vs) i ≡ hidings s (argument_at (lists_of vs) i)
argument-in s [] i = refl
argument-in s (v ∷ vs) zero = refl
argument-in s (v ∷ vs) (suc i) = argument-in s vs i

pub argument-known : (s : HideSetPool) (vs : List (Vec Hidden Global)) (i : ℕ) → ListsKnown s vs → AllKnown s (argument_at (lists_of vs) i)
argument-known s vs i known = (arguments_known vs [] known (record { each = tt })).given_known i

-- ---- the expansions by parameter

-- At first no parameter has an expansion.
pub unused_in : (s : HideSetPool) (vs : List (Vec Hidden Global)) (n : ℕ) → expanded_in s vs (replicate n Unused) ≡ replicate n None
unused_in s vs zero = refl
unused_in s [] (suc n) = ap (λ xs. None ∷ xs) (unused_in s [] n)
unused_in s (v ∷ vs) (suc n) = ap (λ xs. None ∷ xs) (unused_in s vs n)

pub unused_known : (s : HideSetPool) (n : ℕ) → ExpansionsKnown s (replicate n Unused)
unused_known s zero = record { each = tt }
unused_known s (suc n) = record { each = (record { each = tt }, (unused_known s n).each) }

-- Then an expansion is put at its parameter.
pub expanded_in-set : (s : HideSetPool) (vs : List (Vec Hidden Global)) (es : List ArgumentExpansion) (i : ℕ) (e : ArgumentExpansion)
    → expanded_in s vs (set es i e) ≡ set (expanded_in s vs es) i (option_map (hidings s) (expansion_if_computed (argument_at (lists_of vs) i) e))
expanded_in-set s vs [] i e = refl
expanded_in-set s [] (x ∷ es) zero e = refl
expanded_in-set s (v ∷ vs) (x ∷ es) zero e = refl
expanded_in-set s [] (x ∷ es) (suc i) e = ap (λ xs. option_map (hidings s) (expansion_if_computed [] x) ∷ xs) (expanded_in-set s [] es i e)
expanded_in-set s (v ∷ vs) (x ∷ es) (suc i) e = ap (λ xs. option_map (hidings s) (expansion_if_computed v.items x) ∷ xs) (expanded_in-set s vs es i e)

pub expanded_known-set : (s : HideSetPool) (es : List ArgumentExpansion) (i : ℕ) (e : ArgumentExpansion)
    → ExpansionsKnown s es
    → AllKnown s (owned_tokens e)
    → ExpansionsKnown s (set es i e)
expanded_known-set s [] i e h here = h
expanded_known-set s (x ∷ es) zero e h here = record { each = (here, h.each.1) }
expanded_known-set s (x ∷ es) (suc i) e h here =
    let rest = expanded_known-set s es i e (record { each = h.each.1 }) here in
    record { each = (h.each.0, rest.each) }

put_more : {X : Type 0} (order : List ℕ) (es : List X) (all : List (Option X)) (i : ℕ) (e : X) → length es ≡ length order
    → put_at (order ++ i ∷ []) (es ++ e ∷ []) all ≡ set (put_at order es all) i (Some e)
put_more [] [] all i e same = refl
put_more [] (d ∷ es) all i e same = absurd (omega (arith, same))
put_more (j ∷ order) [] all i e same = absurd (omega (arith, same))
put_more (j ∷ order) (d ∷ es) all i e same = put_more order es (set all j (Some d)) i e (omega (arith, same))

-- ---- one iteration of the loop

abbrev order_of : Env → Invocation → List ℕ
order_of env invocation = expansion_order env.profile invocation.macro

abbrev none_expanded : Invocation → List (Option (List Hiding))
none_expanded invocation = replicate (length (parameter_names invocation.macro.kind)) None

-- The first k arguments of the order are expanded. `expanded` has their expansions by parameter, and each result for the other arguments
-- yields a result for all.
pub record ArgumentsExpanded (macros : Macros) (env : Env) (level : ℕ) (invocation : Invocation) (first : Meter) (k : ℕ)
    (expanded : List (Option (List Hiding))) (meter : Meter) : Type 0 where
  pub so_far : List (List Hiding)
  pub count : length so_far ≡ k
  pub are_put : expanded ≡ put_at (take k (order_of env invocation)) so_far (none_expanded invocation)
  pub follow : ArgumentsFollow macros env level invocation first (arguments_to_expand env invocation) so_far meter
      (map (argument_at invocation.arguments) (drop k (order_of env invocation)))

drop_none : {X : Type 0} (xs : List X) → drop 0 xs ≡ xs
drop_none [] = refl
drop_none (x ∷ xs) = refl

put_none : (order : List ℕ) (all : List (Option (List Hiding))) → all ≡ put_at (take 0 order) [] all
put_none [] all = refl
put_none (i ∷ order) all = refl

all_arguments : (env : Env) (invocation : Invocation) → arguments_to_expand env invocation ≡ map (argument_at invocation.arguments) (order_of env invocation)
unfolding arguments_to_expand
all_arguments env invocation = refl

module _ (macros : Macros) (env : Env) (level : ℕ) (invocation : Invocation) (first : Meter) where
  pub none_yet : (expanded : List (Option (List Hiding)))
      → expanded ≡ none_expanded invocation
      → ArgumentsExpanded macros env level invocation first 0 expanded first
  none_yet expanded is = record {
    so_far = [];
    count = refl;
    are_put = is ∙ put_none (order_of env invocation) (none_expanded invocation);
    follow = subst (ArgumentsFollow macros env level invocation first (arguments_to_expand env invocation) [] first)
        (all_arguments env invocation ∙ ap (map (argument_at invocation.arguments)) (sym (drop_none (order_of env invocation))))
        (arguments_start macros env level invocation first (arguments_to_expand env invocation));
  }

  -- the argument of parameter i is next
  is_next : (k i : ℕ) (so_far : List (List Hiding)) (meter : Meter)
      → k < length (order_of env invocation)
      → i ≡ get_or (order_of env invocation) k 0
      → ArgumentsFollow macros env level invocation first (arguments_to_expand env invocation) so_far meter
      (map (argument_at invocation.arguments) (drop k (order_of env invocation)))
      → ArgumentsFollow macros env level invocation first (arguments_to_expand env invocation) so_far meter
      (argument_at invocation.arguments i ∷ map (argument_at invocation.arguments) (drop (k + 1) (order_of env invocation)))
  is_next k i so_far meter less is follow =
      subst (ArgumentsFollow macros env level invocation first (arguments_to_expand env invocation) so_far meter)
      (ap (map (argument_at invocation.arguments)) (drop-item (order_of env invocation) k i less (is ∙ get_or_default (order_of env invocation) k 0 i less))) follow

  taken : (k i : ℕ)
      → k < length (order_of env invocation)
      → i ≡ get_or (order_of env invocation) k 0
      → take (k + 1) (order_of env invocation) ≡ take k (order_of env invocation) ++ i ∷ []
  taken k i less is = take_more (order_of env invocation) k 0 less ∙ ap (λ j. take k (order_of env invocation) ++ j ∷ []) (sym is)

  pub one_more : (k i : ℕ) (expanded after : List (Option (List Hiding))) (tokens : List Hiding) (meter between : Meter)
      → k < length (order_of env invocation)
      → i ≡ get_or (order_of env invocation) k 0
      → after ≡ set expanded i (Some tokens)
      → ExpandsArgument macros env level invocation.name_token.token meter (argument_at invocation.arguments i) between (Ok tokens)
      → ArgumentsExpanded macros env level invocation first k expanded meter
      → ArgumentsExpanded macros env level invocation first (k + 1) after between
  one_more k i expanded after tokens meter between less is put one before =
      let order = order_of env invocation in
      let many : length before.so_far ≡ length (take k order) = before.count ∙ sym (length-take k order ∙ omega (arith, less)) in
      record {
        so_far = before.so_far ++ tokens ∷ [];
        count = length-append before.so_far (tokens ∷ []) ∙ ap (λ n. n + 1) before.count;
        are_put = put ∙ ap (λ all. set all i (Some tokens)) before.are_put
            ∙ sym (put_more (take k order) before.so_far (none_expanded invocation) i tokens many)
            ∙ ap (λ is. put_at is (before.so_far ++ tokens ∷ []) (none_expanded invocation)) (sym (taken k i less is));
        follow = arguments_used macros env level invocation first (arguments_to_expand env invocation) before.so_far meter between
            (map (argument_at invocation.arguments) (drop (k + 1) order)) (argument_at invocation.arguments i) tokens
            (is_next k i before.so_far meter less is before.follow) one;
      }

  pub one_refused : (k i : ℕ) (expanded : List (Option (List Hiding))) (meter between : Meter) (f : Fault)
      → k < length (order_of env invocation)
      → i ≡ get_or (order_of env invocation) k 0
      → ExpandsArgument macros env level invocation.name_token.token meter (argument_at invocation.arguments i) between (Err f)
      → ArgumentsExpanded macros env level invocation first k expanded meter
      → ExpandsArguments macros env level invocation first (arguments_to_expand env invocation) between (Err f)
  one_refused k i expanded meter between f less is one before =
      arguments_refused macros env level invocation first (arguments_to_expand env invocation) before.so_far meter between
      (map (argument_at invocation.arguments) (drop (k + 1) (order_of env invocation))) (argument_at invocation.arguments i) f
      (is_next k i before.so_far meter less is before.follow) one

  pub all_expanded : (k : ℕ) (expanded : List (Option (List Hiding))) (meter : Meter) → length (order_of env invocation) ≤ k
      → ArgumentsExpanded macros env level invocation first k expanded meter
      → ExpandsInvocationArguments macros env level invocation first meter (Ok expanded)
  unfolding expansions_by_parameter
  all_expanded k expanded meter end before = (
    before.so_far,
    before.are_put ∙ ap (λ is. put_at is before.so_far (none_expanded invocation)) (take_all k (order_of env invocation) end),
    arguments_end macros env level invocation first (arguments_to_expand env invocation) before.so_far meter
        (subst (ArgumentsFollow macros env level invocation first (arguments_to_expand env invocation) before.so_far meter)
        (ap (map (argument_at invocation.arguments)) (drop_all k (order_of env invocation) end)) before.follow),
  )
