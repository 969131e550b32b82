-- The parameters that a replacement list uses without `#` and `##`, in their own order and in that of their first uses.
use Rattle.std.proofs.Common.{◌≡◌, ◌∙◌, refl, sym, ap, subst, Bool, true, false, ◌||◌, ◌==◌, ℕ, zero, suc, ◌+◌, ◌<◌, ◌≤◌, List, [], ◌∷◌, ◌++◌, map, length, get_or, set, position, Option, Some, None, IfSome, cond, append-nil, arith, nat_lt, if◌then◌else◌}
use Rattle.std.specs.List.{list_any, filter, fold, flat_map, range_with_len, AllByRecursion}
use Rattle.std.specs.Str.{bytes_eq}
use Rattle.std.proofs.lemmas.Bool.{eqb-true, ne_eqb, eqb-false, ltb-true}
use Rattle.std.proofs.Math.Bool.{or-false, or-true}
use Rattle.std.proofs.lemmas.List.{get_or-set_same, get_or-set_other, length-set, map-id}
use Rattle.std.proofs.lemmas.List.Folds.{list_any-append}
use Rattle.std.proofs.lemmas.List.Elements.{filter_agree}
use Rattle.std.proofs.lemmas.List.FromFn.{filter_of_map_range_with_len_more}
use Rattle.std.proofs.lemmas.List.Quantifiers.{position-Some}
use Rattle.pptext.specs.declared.tokens.Token.{Token}
use Rattle.pptext.specs.declared.sources.Profile.{Profile}
use Rattle.pptext.specs.declared.sources.Profile.TheVariants.{C11, Later, Gnu}
use Rattle.pptext.specs.Tokens.{is_identifier}
use Rattle.ppmacro.specs.HashOperators.{is_paste}
use Rattle.ppmacro.specs.declared.macros.MacroKind.{MacroKind}
use Rattle.ppmacro.specs.declared.macros.Macro.{Macro}
use Rattle.ppmacro.specs.declared.macros.Chain.{Chain}
use Rattle.ppmacro.specs.declared.macros.Operand.{Operand}
use Rattle.ppmacro.specs.declared.macros.Operand.TheVariants.{Tok, Param, Str, VariadicAfterComma}
use Rattle.ppmacro.specs.Chains.{HashSign, ChainPart, OperandPart, PastePart, hash_sign, parameter_names, parameter_named, parameter_of, is_operator_hash, plain_part, stringized_part}
use Rattle.ppmacro.specs.Chains.{parts_at, parts_after, begins_joined, join_first, group_parts, lenient_parameter, ending_in_variadic, with_variadic, chains_of}
use Rattle.ppmacro.specs.PreExpansion.{is_lone_parameter, pre_expands, used_parameters, lone_parameter, lone_parameters, with_use, first_uses, own_use, after_own, uses_of_chain, va_opt_uses, order_in, order_by, expansion_order}
use Rattle.ppmacro.specs.VaOptChains.{VaOptChains, ListChains, Ordinary, WithVaOpt, list_chains}
use Rattle.ppmacro.specs.code.PreparedDefinitions.{is_use, AreMarked}

-- ---- a chain that is a parameter alone has one of the macro's parameters

-- If there is a parameter, it is one of the first n.
abbrev IsWithin : ℕ → Option ℕ → Type 0
IsWithin n used = IfSome used (λ i. i < n)

position_within : {X : Type 0} (p : X → Bool) (xs : List X) (d : X) (found : Option ℕ) → position p xs ≡ found → IsWithin (length xs) found
position_within p xs d None is = tt
position_within p xs d (Some i) is = (position-Some p xs i d is).0

either_within : (n : ℕ) (b : Bool) (used : Option ℕ) → IsWithin n used → IsWithin n (if b then used else None)
either_within n true used h = h
either_within n false used h = tt

parameter_within : (kind : MacroKind) (t : Token) → IsWithin (length (parameter_names kind)) (parameter_of kind t)
parameter_within kind t =
    either_within (length (parameter_names kind)) (is_identifier t) (parameter_named kind t.text)
    (position_within (λ p. bytes_eq p t.text) (parameter_names kind) [] (parameter_named kind t.text) refl)

abbrev IsOperandWithin : ℕ → Operand → Type 0
IsOperandWithin n (Param i) = i < n
IsOperandWithin n _ = Unit {0}

abbrev IsPartWithin : ℕ → ChainPart → Type 0
IsPartWithin n (OperandPart space o) = IsOperandWithin n o
IsPartWithin n PastePart = Unit {0}

plain_within : (n : ℕ) (used : Option ℕ) (t : Token) → IsWithin n used → IsPartWithin n (plain_part used t)
plain_within n None t h = tt
plain_within n (Some i) t h = h

stringized_within : (n : ℕ) (used : Option ℕ) (hash : HashSign) (t : Token) → IsPartWithin n (stringized_part used hash t)
stringized_within n None hash t = tt
stringized_within n (Some i) hash t = tt

parts_at_within : (n : ℕ) (paste hash : Bool) (part : ChainPart) (ps qs : List ChainPart)
    → IsPartWithin n part
    → AllByRecursion (IsPartWithin n) ps
    → AllByRecursion (IsPartWithin n) qs
    → AllByRecursion (IsPartWithin n) (parts_at paste hash part ps qs)
parts_at_within n true hash part ps qs e h k = (tt, h)
parts_at_within n false true part ps qs e h k = k
parts_at_within n false false part ps qs e h k = (e, h)

parts_within : (kind : MacroKind) (hash : Option HashSign) (ts : List Token)
    → AllByRecursion (IsPartWithin (length (parameter_names kind))) (parts_after kind hash ts)
parts_within kind hash [] = tt
parts_within kind (Some hash) (t ∷ ts) = (stringized_within (length (parameter_names kind)) (parameter_of kind t) hash t, parts_within kind None ts)
parts_within kind None (t ∷ ts) =
    parts_at_within (length (parameter_names kind)) (is_paste t) (is_operator_hash kind t) (plain_part (parameter_of kind t) t)
    (parts_after kind None ts)
    (parts_after kind (Some (hash_sign t)) ts)
    (plain_within (length (parameter_names kind)) (parameter_of kind t) t (parameter_within kind t)) (parts_within kind None ts)
    (parts_within kind (Some (hash_sign t)) ts)

-- If a chain is a parameter alone, it is one of the first n.
abbrev IsChainWithin : ℕ → Chain → Type 0
IsChainWithin n c = IsWithin n (lone_parameter c.operands)

lone_within : (n : ℕ) (o : Operand) (os : List Operand) → IsOperandWithin n o → IsWithin n (lone_parameter (o ∷ os))
lone_within n (Tok t) os h = tt
lone_within n (Param i) [] h = h
lone_within n (Param i) (p ∷ os) h = tt
lone_within n (Str i at) os h = tt
lone_within n (VariadicAfterComma i) os h = tt

joined_within : (n : ℕ) (space : Bool) (o : Operand) (cs : List Chain)
    → IsOperandWithin n o
    → AllByRecursion (IsChainWithin n) cs
    → AllByRecursion (IsChainWithin n) (join_first space o cs)
joined_within n space o [] h k = (lone_within n o [] h, tt)
joined_within n space o (c ∷ cs) h k = (lone_within n o c.operands h, k.1)

first_within : (n : ℕ) (joined space : Bool) (o : Operand) (cs : List Chain)
    → IsOperandWithin n o
    → AllByRecursion (IsChainWithin n) cs
    → AllByRecursion (IsChainWithin n) (elim joined [ true ↦ join_first space o cs | false ↦ record { space = space; operands = o ∷ [] } ∷ cs ])
first_within n true space o cs h k = joined_within n space o cs h k
first_within n false space o cs h k = (lone_within n o [] h, k)

grouped_within : (n : ℕ) (ps : List ChainPart) → AllByRecursion (IsPartWithin n) ps → AllByRecursion (IsChainWithin n) (group_parts ps)
grouped_within n [] h = tt
grouped_within n (PastePart ∷ ps) h = grouped_within n ps h.1
grouped_within n (OperandPart space o ∷ ps) h = first_within n (begins_joined ps) space o (group_parts ps) h.0 (grouped_within n ps h.1)

lone_ending : (i : ℕ) (os : List Operand) → lone_parameter os ≡ lone_parameter (ending_in_variadic i os)
lone_ending i [] = refl
lone_ending i (o ∷ []) = refl
lone_ending i (Tok t ∷ (p ∷ [])) = refl
lone_ending i (Param j ∷ (p ∷ [])) = refl
lone_ending i (Str j at ∷ (p ∷ [])) = refl
lone_ending i (VariadicAfterComma j ∷ (p ∷ [])) = refl
lone_ending i (Tok t ∷ (p ∷ (q ∷ os))) = refl
lone_ending i (Param j ∷ (p ∷ (q ∷ []))) = refl
lone_ending i (Param j ∷ (p ∷ (q ∷ (r ∷ os)))) = refl
lone_ending i (Str j at ∷ (p ∷ (q ∷ os))) = refl
lone_ending i (VariadicAfterComma j ∷ (p ∷ (q ∷ os))) = refl

variadic_within : (n : ℕ) (lenient : Option ℕ) (cs : List Chain)
    → AllByRecursion (IsChainWithin n) cs
    → AllByRecursion (IsChainWithin n) (map (with_variadic lenient) cs)
variadic_within n lenient [] h = tt
variadic_within n None (c ∷ cs) h = (h.0, variadic_within n None cs h.1)
variadic_within n (Some i) (c ∷ cs) h = (subst (IsWithin n) (lone_ending i c.operands) h.0, variadic_within n (Some i) cs h.1)

uses_within : (n : ℕ) (cs : List Chain) → AllByRecursion (IsChainWithin n) cs → AllByRecursion (IsWithin n) (lone_parameters cs)
uses_within n [] h = tt
uses_within n (c ∷ cs) h = (h.0, uses_within n cs h.1)

macro_within : (d : Macro) → AllByRecursion (IsWithin (length (parameter_names d.kind))) (lone_parameters (chains_of d))
macro_within d =
    let n = length (parameter_names d.kind) in
    let parts = parts_after d.kind None d.body in
    uses_within n (chains_of d) (variadic_within n (lenient_parameter d.kind) (group_parts parts) (grouped_within n parts (parts_within d.kind None d.body)))

use_within : (n : ℕ) (us : List (Option ℕ)) → AllByRecursion (IsWithin n) us → (k : ℕ) → k < length us → IsWithin n (get_or us k None)
use_within n [] h k less = absurd (omega (arith, less))
use_within n (u ∷ us) h zero less = h.0
use_within n (u ∷ us) h (suc k) less = use_within n us h.1 k (omega (arith, less))

-- Each parameter that a chain consists of is one of the macro's.
pub each_within : (d : Macro) (us : List (Option ℕ)) → us ≡ lone_parameters (chains_of d)
    → (k : ℕ) → k < length us
    → IfSome (get_or us k None) (λ i. i < length (parameter_names d.kind))
each_within d us is = use_within (length (parameter_names d.kind)) us (subst (AllByRecursion (IsWithin (length (parameter_names d.kind)))) (sym is) (macro_within d))

-- ---- marks

other_or : (i j : ℕ) (found known : Bool) → known ≡ true → (i ≡ j → found ≡ known) → found ≡ (found || (i == j))
other_or i j true known k h = refl
other_or i j false known k h = sym (ne_eqb i j (λ e. absurd (cc (h e, k))))

-- A parameter is found among those that were used with one more if it was used before or is that one.
seen_more : (i j : ℕ) (seen : List ℕ) (b : Bool) → list_any (λ k. j == k) seen ≡ b
    → list_any (λ k. i == k) (if b then seen else seen ++ j ∷ []) ≡ (list_any (λ k. i == k) seen || (i == j))
seen_more i j seen true is = other_or i j (list_any (λ k. i == k) seen) (list_any (λ k. j == k) seen) is (ap (λ n. list_any (λ k. n == k) seen))
seen_more i j seen false is = list_any-append (λ k. i == k) seen (j ∷ []) ∙ ap (λ b. list_any (λ k. i == k) seen || b) (or-false (i == j))

seen_with : (i : ℕ) (seen : List ℕ) (used : Option ℕ)
    → list_any (λ k. i == k) (with_use seen used) ≡ (list_any (λ k. i == k) seen || is_use i used)
seen_with i seen None = sym (or-false (list_any (λ k. i == k) seen))
seen_with i seen (Some j) = seen_more i j seen (list_any (λ k. j == k) seen) refl

or_assoc : (a b c : Bool) → ((a || b) || c) ≡ (a || (b || c))
or_assoc true b c = refl
or_assoc false b c = refl

seen_after : (i : ℕ) (seen : List ℕ) (us : List (Option ℕ))
    → list_any (λ k. i == k) (fold with_use seen us) ≡ (list_any (λ k. i == k) seen || list_any (is_use i) us)
seen_after i seen [] = sym (or-false (list_any (λ k. i == k) seen))
seen_after i seen (u ∷ us) =
    seen_after i (with_use seen u) us
    ∙ ap (λ b. b || list_any (is_use i) us) (seen_with i seen u)
    ∙ or_assoc (list_any (λ k. i == k) seen) (is_use i u) (list_any (is_use i) us)

mark_here : (marks : List Bool) (used : List ℕ) (j : ℕ) → j < length marks → AreMarked marks used
    → (i : ℕ) (b : Bool) → (i == j) ≡ b → i < length (set marks j true)
    → get_or (set marks j true) i false ≡ (list_any (λ k. i == k) used || (b || false))
mark_here marks used j less marked i true is within =
    ap (λ n. get_or (set marks j true) n false) (eqb-true i j is) ∙ get_or-set_same marks j true false less ∙ sym (or-true (list_any (λ k. i == k) used))
mark_here marks used j less marked i false is within =
    get_or-set_other marks j i true false (eqb-false i j is) ∙ marked i (subst (λ n. i < n) (length-set marks j true) within) ∙ sym (or-false (list_any (λ k. i == k) used))

-- A mark is set where a parameter is appended.
pub mark_set : (marks : List Bool) (used : List ℕ) (j : ℕ) → j < length marks → AreMarked marks used → AreMarked (set marks j true) (used ++ j ∷ [])
mark_set marks used j less marked i within =
    mark_here marks used j less marked i (i == j) refl within
    ∙ sym (list_any-append (λ k. i == k) used (j ∷ []))

-- ---- in the order of the parameters

filter_next : (p : ℕ → Bool) (i : ℕ) → filter p (range_with_len 0 (i + 1)) ≡ filter p (range_with_len 0 i) ++ cond (p i) (i ∷ []) []
filter_next p i =
    ap (filter p) (sym (map-id (range_with_len 0 (i + 1))))
    ∙ filter_of_map_range_with_len_more p (λ n. n) 0 i i (omega arith)
    ∙ ap (λ is. filter p is ++ cond (p i) (i ∷ []) []) (map-id (range_with_len 0 i))

pub filter_skips : (p : ℕ → Bool) (i : ℕ) → p i ≡ false → filter p (range_with_len 0 i) ≡ filter p (range_with_len 0 (i + 1))
filter_skips p i is = sym (filter_next p i ∙ ap (λ b. filter p (range_with_len 0 i) ++ cond b (i ∷ []) []) is ∙ append-nil (filter p (range_with_len 0 i)))

pub filter_takes : (p : ℕ → Bool) (i : ℕ) → p i ≡ true → filter p (range_with_len 0 i) ++ i ∷ [] ≡ filter p (range_with_len 0 (i + 1))
filter_takes p i is = sym (filter_next p i ∙ ap (λ b. filter p (range_with_len 0 i) ++ cond b (i ∷ []) []) is)

filter_below : (p q : ℕ → Bool) (a n : ℕ) → ((i : ℕ) → i < a + n → p i ≡ q i) → filter p (range_with_len a n) ≡ filter q (range_with_len a n)
filter_below p q a zero h = refl
filter_below p q a (suc n) h =
    let rest = filter_below p q (a + 1) n (λ i less. h i (omega (arith, less))) in
    λ k. cond (h a (omega arith) k) (a ∷ rest k) (rest k)

pub marked_parameters : (marks : List Bool) (n : ℕ) (us : List (Option ℕ)) → length marks ≡ n → AreMarked marks (fold with_use [] us)
    → filter (λ i. get_or marks i false) (range_with_len 0 n) ≡ filter (λ i. list_any (is_use i) us) (range_with_len 0 n)
marked_parameters marks n us len marked =
    filter_below (λ i. get_or marks i false) (λ i. list_any (is_use i) us) 0 n (λ i less. marked i (omega (arith, less, len)) ∙ seen_after i [] us)

alone_use : (i : ℕ) (os : List Operand) → is_use i (lone_parameter os) ≡ is_lone_parameter i os
alone_use i [] = refl
alone_use i (Tok t ∷ os) = refl
alone_use i (Param j ∷ []) = refl
alone_use i (Param j ∷ (p ∷ os)) = refl
alone_use i (Str j at ∷ os) = refl
alone_use i (VariadicAfterComma j ∷ os) = refl

uses_expand : (i : ℕ) (cs : List Chain) → list_any (is_use i) (lone_parameters cs) ≡ pre_expands i cs
uses_expand i [] = refl
uses_expand i (c ∷ cs) = λ k. alone_use i c.operands k || uses_expand i cs k

pub used_in_order : (cs : List Chain) (n : ℕ) (us : List (Option ℕ)) → us ≡ lone_parameters cs
    → filter (λ i. list_any (is_use i) us) (range_with_len 0 n) ≡ used_parameters cs n
used_in_order cs n us is =
    filter_agree (λ i. list_any (is_use i) us) (λ i. pre_expands i cs) (λ i. ap (list_any (is_use i)) is ∙ uses_expand i cs) (range_with_len 0 n)

-- ---- without parameters

use_none : (u : Option ℕ) → IsWithin 0 u → u ≡ None
use_none None h = refl
use_none (Some i) h = absurd (omega (arith, h))

nothing_used : (us : List (Option ℕ)) → AllByRecursion (IsWithin 0) us → [] ≡ fold with_use [] us
nothing_used [] h = refl
nothing_used (u ∷ us) h = nothing_used us h.1 ∙ ap (λ v. fold with_use (with_use [] v) us) (sym (use_none u h.0))

pub no_first_uses : (d : Macro) → length (parameter_names d.kind) ≡ 0 → [] ≡ first_uses (chains_of d)
no_first_uses d none = nothing_used (lone_parameters (chains_of d)) (subst (λ n. AllByRecursion (IsWithin n) (lone_parameters (chains_of d))) none (macro_within d))

-- ---- the order of a profile has parameters of the macro

abbrev AreBelow : ℕ → List ℕ → Type 0
AreBelow n is = AllByRecursion (λ i. i < n) is

kept_below : (n i : ℕ) (b : Bool) (is : List ℕ) → i < n → AreBelow n is → AreBelow n (cond b (i ∷ is) is)
kept_below n i true is h k = (h, k)
kept_below n i false is h k = k

filtered_below : (p : ℕ → Bool) (m a n : ℕ) → a + n ≤ m → AreBelow m (filter p (range_with_len a n))
filtered_below p m a zero h = tt
filtered_below p m a (suc n) h = kept_below m a (p a) (filter p (range_with_len (a + 1) n)) (omega (arith, h)) (filtered_below p m (a + 1) n (omega (arith, h)))

more_below : (n i : ℕ) (is : List ℕ) → i < n → AreBelow n is → AreBelow n (is ++ i ∷ [])
more_below n i [] h k = (h, tt)
more_below n i (j ∷ is) h k = (k.0, more_below n i is h k.1)

either_below : (n i : ℕ) (b : Bool) (is : List ℕ) → i < n → AreBelow n is → AreBelow n (if b then is else is ++ i ∷ [])
either_below n i true is h k = k
either_below n i false is h k = more_below n i is h k

with_below : (n : ℕ) (seen : List ℕ) (u : Option ℕ) → AreBelow n seen → IsWithin n u → AreBelow n (with_use seen u)
with_below n seen None h k = h
with_below n seen (Some i) h k = either_below n i (list_any (λ j. i == j) seen) seen k h

uses_below : (n : ℕ) (seen : List ℕ) (us : List (Option ℕ)) → AreBelow n seen → AllByRecursion (IsWithin n) us → AreBelow n (fold with_use seen us)
uses_below n seen [] h k = h
uses_below n seen (u ∷ us) h k = uses_below n (with_use seen u) us (with_below n seen u h k.0) k.1

own_within : (n : ℕ) (u : Option ℕ) → IsWithin n (own_use n u)
own_within n None = tt
own_within n (Some i) = below_if n i (nat_lt i n) refl
  where
    below_if : (n i : ℕ) (b : Bool) → nat_lt i n ≡ b → IsWithin n (if b then Some i else None)
    below_if n i true is = ltb-true i n is
    below_if n i false is = tt

own_uses_within : (n : ℕ) (us : List (Option ℕ)) → AllByRecursion (IsWithin n) (map (own_use n) us)
own_uses_within n [] = tt
own_uses_within n (u ∷ us) = (own_within n u, own_uses_within n us)

-- The same for the uses of a list with `__VA_OPT__`.
pub va_opt_uses_within : (n : ℕ) (c : VaOptChains) (us : List (Option ℕ)) → us ≡ va_opt_uses n c
    → (k : ℕ) → k < length us
    → IfSome (get_or us k None) (λ i. i < n)
va_opt_uses_within n c us is =
    use_within n us (subst (AllByRecursion (IsWithin n)) (sym is) (own_uses_within n (flat_map (uses_of_chain (after_own n c.contents)) c.if_filled ++ Some c.variadic ∷ [])))

order_below : (profile : Profile) (d : Macro) → AreBelow (length (parameter_names d.kind)) (order_in profile d)
order_below C11 d = filtered_below (λ i. pre_expands i (chains_of d)) (length (parameter_names d.kind)) 0 (length (parameter_names d.kind)) (omega arith)
order_below Later d = filtered_below (λ i. pre_expands i (chains_of d)) (length (parameter_names d.kind)) 0 (length (parameter_names d.kind)) (omega arith)
order_below Gnu d = uses_below (length (parameter_names d.kind)) [] (lone_parameters (chains_of d)) tt (macro_within d)

order_by_below : (profile : Profile) (d : Macro) (chains : ListChains) → AreBelow (length (parameter_names d.kind)) (order_by profile d chains)
order_by_below profile d (Ordinary cs) = order_below profile d
order_by_below profile d (WithVaOpt c) =
    let n = length (parameter_names d.kind) in
    uses_below n [] (va_opt_uses n c) tt (own_uses_within n (flat_map (uses_of_chain (after_own n c.contents)) c.if_filled ++ Some c.variadic ∷ []))

below_at : (n : ℕ) (is : List ℕ) (k d : ℕ) → AreBelow n is → k < length is → get_or is k d < n
below_at n [] k d h less = absurd (omega (arith, less))
below_at n (i ∷ is) zero d h less = h.0
below_at n (i ∷ is) (suc k) d h less = below_at n is k d h.1 (omega (arith, less))

-- Each parameter in the order is one of the macro's.
pub order_within : (profile : Profile) (d : Macro) (order : List ℕ) → order ≡ expansion_order profile d
    → (k : ℕ) → k < length order
    → get_or order k 0 < length (parameter_names d.kind)
order_within profile d order is k less =
    below_at (length (parameter_names d.kind)) order k 0 (subst (AreBelow (length (parameter_names d.kind))) (sym is) (order_by_below profile d (list_chains d))) less
