-- The tokens of the contents of `__VA_OPT__`, one content after another, while hide sets are added to the pool; and arguments, followed by these tokens.
use Rattle.std.proofs.Common.{◌≡◌, ◌∙◌, ℕ, zero, suc, ◌+◌, ◌<◌, ◌≤◌, List, [], ◌∷◌, ◌++◌, map, take, length, get_or, Option, Some, None, Vec, Global, refl, sym, ap, subst, append_assoc, arith, true, false, Result, Ok, Err}
use Rattle.std.proofs.lemmas.List.{map-append}
use Rattle.std.specs.Option.{option_map}
use Rattle.ppmacro.specs.HideSetPool.{HideSetPool}
use Rattle.ppmacro.specs.Hiding.{Hiding}
use Rattle.ppmacro.specs.HideSets.{hidings, AllKnown, KeepsSets}
use Rattle.ppmacro.specs.Substitution.{Arguments, argument_at, expanded_at, with_contents, Replacement, after_ok, chains_tokens, contents_tokens}
use Rattle.ppmacro.specs.Substituting.{lists_of, expansion_if_computed, expansions_if_computed, ListsKnown, ArgumentsKnown, arguments_in}
use Rattle.ppmacro.specs.declared.hidden_token.Hidden.{Hidden}
use Rattle.ppmacro.specs.declared.hidden_token.ArgumentExpansion.{ArgumentExpansion}
use Rattle.pptext.specs.declared.tokens.Place.{Place}
use Rattle.pptext.specs.declared.tokens.Fault.{Fault}
use Rattle.ppmacro.specs.declared.macros.Chain.{Chain}
use Rattle.ppmacro.proofs.PoolGrowthLemmas.{hidings-keeps, known-keeps}

-- ---- expansions that don't refer to their arguments

pub owned-more : (gs : List (Vec Hidden Global)) (es : List ArgumentExpansion) (e : ArgumentExpansion) (v : Option (List Hidden))
    → ((g : List Hidden) → expansion_if_computed g e ≡ v)
    → expansions_if_computed gs (es ++ e ∷ []) ≡ expansions_if_computed gs es ++ v ∷ []
owned-more [] [] e v is = ap (λ o. o ∷ []) (is [])
owned-more (g ∷ gs) [] e v is = ap (λ o. o ∷ []) (is g.items)
owned-more [] (x ∷ es) e v is = ap (λ os. expansion_if_computed [] x ∷ os) (owned-more [] es e v is)
owned-more (g ∷ gs) (x ∷ es) e v is = ap (λ os. expansion_if_computed g.items x ∷ os) (owned-more gs es e v is)

pub taken-more : (gs : List (Vec Hidden Global)) (es : List ArgumentExpansion) (k : ℕ) (e : ArgumentExpansion)
    → k < length es
    → e ≡ get_or es k e
    → take (suc k) (expansions_if_computed gs es) ≡ take k (expansions_if_computed gs es) ++ expansion_if_computed (argument_at (lists_of gs) k) e ∷ []
taken-more gs [] k e less is = absurd (omega (arith, less))
taken-more [] (x ∷ es) zero e less is = ap (λ y. expansion_if_computed [] y ∷ []) (sym is)
taken-more (g ∷ gs) (x ∷ es) zero e less is = ap (λ y. expansion_if_computed g.items y ∷ []) (sym is)
taken-more [] (x ∷ es) (suc k) e less is = ap (λ os. expansion_if_computed [] x ∷ os) (taken-more [] es k e (omega (arith, less)) is)
taken-more (g ∷ gs) (x ∷ es) (suc k) e less is = ap (λ os. expansion_if_computed g.items x ∷ os) (taken-more gs es k e (omega (arith, less)) is)

pub taken-all : (gs : List (Vec Hidden Global)) (es : List ArgumentExpansion) (k : ℕ) → length es ≤ k → take k (expansions_if_computed gs es) ≡ expansions_if_computed gs es
taken-all gs [] zero h = refl
taken-all gs [] (suc k) h = refl
taken-all gs (x ∷ es) zero h = absurd (omega (arith, h))
taken-all [] (x ∷ es) (suc k) h = ap (λ os. expansion_if_computed [] x ∷ os) (taken-all [] es k (omega (arith, h)))
taken-all (g ∷ gs) (x ∷ es) (suc k) h = ap (λ os. expansion_if_computed g.items x ∷ os) (taken-all gs es k (omega (arith, h)))

-- ---- all arguments

mapped-some : (s : HideSetPool) (ls : List (List Hidden)) → map (λ o. option_map (hidings s) o) (map Some ls) ≡ map Some (map (hidings s) ls)
mapped-some s [] = refl
mapped-some s (l ∷ ls) = ap (λ os. Some (hidings s l) ∷ os) (mapped-some s ls)

pub arguments-with : (s : HideSetPool) (given lists all : List (Vec Hidden Global)) (expanded es : List ArgumentExpansion)
    → lists_of all ≡ lists_of given ++ [] ∷ lists_of lists
    → expansions_if_computed all es ≡ expansions_if_computed given expanded ++ None ∷ map Some (lists_of lists)
    → arguments_in s all es ≡ with_contents (arguments_in s given expanded) (map (hidings s) (lists_of lists))
arguments-with s given lists all expanded es g e =
    let os = ap (map (λ o. option_map (hidings s) o)) e
    ∙ map-append (λ o. option_map (hidings s) o) (expansions_if_computed given expanded) (None ∷ map Some (lists_of lists))
    ∙ ap (λ ls. map (λ o. option_map (hidings s) o) (expansions_if_computed given expanded) ++ None ∷ ls) (mapped-some s (lists_of lists)) in
    let gs = ap (map (hidings s)) g ∙ map-append (hidings s) (lists_of given) ([] ∷ lists_of lists) in
    λ i. record { given = gs i; expanded = os i }

known-lists : {s : HideSetPool} (vs : List (Vec Hidden Global)) → ListsKnown s vs → (i : ℕ) → AllKnown s (argument_at (lists_of vs) i)
known-lists [] k i = record { each = tt }
known-lists (v ∷ vs) k zero = k.each.0
known-lists (v ∷ vs) k (suc i) = known-lists vs (record { each = k.each.1 }) i

known-given : {s : HideSetPool} (ls : List (List Hidden)) (vs : List (Vec Hidden Global)) → ((i : ℕ) → AllKnown s (argument_at ls i)) → ListsKnown s vs
    → (i : ℕ) → AllKnown s (argument_at (ls ++ [] ∷ lists_of vs) i)
known-given [] vs k l zero = record { each = tt }
known-given [] vs k l (suc i) = known-lists vs l i
known-given (x ∷ ls) vs k l zero = k 0
known-given (x ∷ ls) vs k l (suc i) = known-given ls vs (λ n. k (suc n)) l i

known-somes : {s : HideSetPool} (vs : List (Vec Hidden Global)) → ListsKnown s vs → (i : ℕ) → AllKnown s (expanded_at (map Some (lists_of vs)) i)
known-somes [] k i = record { each = tt }
known-somes (v ∷ vs) k zero = k.each.0
known-somes (v ∷ vs) k (suc i) = known-somes vs (record { each = k.each.1 }) i

known-expanded : {s : HideSetPool} (os : List (Option (List Hidden))) (vs : List (Vec Hidden Global)) → ((i : ℕ) → AllKnown s (expanded_at os i)) → ListsKnown s vs
    → (i : ℕ) → AllKnown s (expanded_at (os ++ None ∷ map Some (lists_of vs)) i)
known-expanded [] vs k l zero = record { each = tt }
known-expanded [] vs k l (suc i) = known-somes vs l i
known-expanded (o ∷ os) vs k l zero = k 0
known-expanded (o ∷ os) vs k l (suc i) = known-expanded os vs (λ n. k (suc n)) l i

pub arguments-with-known : (s : HideSetPool) (given lists all : List (Vec Hidden Global)) (expanded es : List ArgumentExpansion)
    → lists_of all ≡ lists_of given ++ [] ∷ lists_of lists
    → expansions_if_computed all es ≡ expansions_if_computed given expanded ++ None ∷ map Some (lists_of lists)
    → ArgumentsKnown s given expanded
    → ListsKnown s lists
    → ArgumentsKnown s all es
arguments-with-known s given lists all expanded es g e k l = record {
  given_known = λ i. subst (λ ls. AllKnown s (argument_at ls i)) (sym g) (known-given (lists_of given) lists k.given_known l i);
  expanded_known = λ i. subst (λ os. AllKnown s (expanded_at os i)) (sym e) (known-expanded (expansions_if_computed given expanded) lists k.expanded_known l i);
}

pub somes-more : (os : List (Option (List Hidden))) (vs : List (Vec Hidden Global)) (k : ℕ) (v : Vec Hidden Global)
    → k < length vs
    → v ≡ get_or vs k v
    → (os ++ map Some (lists_of (take k vs))) ++ Some v.items ∷ [] ≡ os ++ map Some (lists_of (take (k + 1) vs))
somes-more os vs k v less is =
    let next : suc k ≡ k + 1 = omega arith in
    append_assoc os (map Some (lists_of (take k vs))) (Some v.items ∷ []) ∙ ap (λ ps. os ++ ps) (taken vs k v less is) ∙ ap (λ n. os ++ map Some (lists_of (take n vs))) next
  where
    taken : (vs : List (Vec Hidden Global)) (k : ℕ) (v : Vec Hidden Global) → k < length vs → v ≡ get_or vs k v → map Some (lists_of (take k vs)) ++ Some v.items ∷ [] ≡ map Some (lists_of (take (suc k) vs))
    taken [] k v less is = absurd (omega (arith, less))
    taken (w ∷ vs) zero v less is = ap (λ u. Some u.items ∷ []) is
    taken (w ∷ vs) (suc k) v less is = ap (λ os. Some w.items ∷ os) (taken vs k v (omega (arith, less)) is)

-- The lists as they are appended.
pub lists-laid : (none a b all given lists : List (Vec Hidden Global)) (v : Vec Hidden Global)
    → none ≡ []
    → lists_of a ≡ lists_of none ++ lists_of given
    → b ≡ a ++ v ∷ []
    → v.items ≡ []
    → lists_of all ≡ lists_of b ++ lists_of lists
    → lists_of all ≡ lists_of given ++ [] ∷ lists_of lists
lists-laid none a b all given lists v start first middle empty last =
    let front : lists_of b ≡ lists_of given ++ [] ∷ [] =
    ap lists_of middle ∙ map-append (λ w. w.items) a (v ∷ [])
    ∙ (λ i. (first ∙ ap (λ vs. lists_of vs ++ lists_of given) start) i ++ empty i ∷ []) in
    last ∙ ap (λ ls. ls ++ lists_of lists) front ∙ append_assoc (lists_of given) ([] ∷ []) (lists_of lists)

pub expansions-laid : (given lists gs : List (Vec Hidden Global)) (es fs hs expanded : List ArgumentExpansion) (e : ArgumentExpansion)
    → ((g : List (Vec Hidden Global)) → expansions_if_computed g es ≡ expansions_if_computed given expanded)
    → fs ≡ es ++ e ∷ []
    → ((g : List Hidden) → expansion_if_computed g e ≡ None)
    → ((g : List (Vec Hidden Global)) → expansions_if_computed g hs ≡ expansions_if_computed g fs ++ map Some (lists_of lists))
    → expansions_if_computed gs hs ≡ expansions_if_computed given expanded ++ None ∷ map Some (lists_of lists)
expansions-laid given lists gs es fs hs expanded e first middle none last =
    last gs
    ∙ ap (λ os. os ++ map Some (lists_of lists)) (ap (expansions_if_computed gs) middle ∙ owned-more gs es e None none ∙ ap (λ os. os ++ None ∷ []) (first gs))
    ∙ append_assoc (expansions_if_computed given expanded) (None ∷ []) (map Some (lists_of lists))

-- ---- the tokens of contents

-- Lists before others, unless there is a fault.
abbrev pub before_lists : List (List Hiding) → Result (List (List Hiding)) Fault → Result (List (List Hiding)) Fault
before_lists ls r = after_ok r (λ rest. Ok (ls ++ rest))

pub no-lists : (ls : List (List Hiding)) (args : Arguments) (used : Place) → before_lists ls (contents_tokens args used []) ≡ Ok (ls ++ [])
no-lists ls args used = refl

pub lists-keep : {s t : HideSetPool} (vs : List (Vec Hidden Global)) → KeepsSets s t → ListsKnown s vs → map (hidings t) (lists_of vs) ≡ map (hidings s) (lists_of vs)
lists-keep [] k known = refl
lists-keep (v ∷ vs) k known = λ i. hidings-keeps v.items k known.each.0 i ∷ lists-keep vs k (record { each = known.each.1 }) i

pub lists-known : {s t : HideSetPool} (vs : List (Vec Hidden Global)) (v : Vec Hidden Global) → KeepsSets s t → ListsKnown s vs → AllKnown t v.items → ListsKnown t (vs ++ v ∷ [])
lists-known [] v k known here = record { each = (here, tt) }
lists-known (w ∷ vs) v k known here =
    let rest = lists-known vs v k (record { each = known.each.1 }) here in
    record { each = (known-keeps w.items k known.each.0, rest.each) }

lists-more : {s t : HideSetPool} (vs : List (Vec Hidden Global)) (v : Vec Hidden Global) → KeepsSets s t → ListsKnown s vs
    → map (hidings t) (lists_of (vs ++ v ∷ [])) ≡ map (hidings s) (lists_of vs) ++ hidings t v.items ∷ []
lists-more {t = t} vs v k known =
    ap (map (hidings t)) (map-append (λ w. w.items) vs (v ∷ []))
    ∙ map-append (hidings t) (lists_of vs) (v.items ∷ [])
    ∙ ap (λ ls. ls ++ hidings t v.items ∷ []) (lists-keep vs k known)

put-before : (ls : List (List Hiding)) (l : List Hiding) (r : Result (List (List Hiding)) Fault) → before_lists (ls ++ l ∷ []) r ≡ before_lists ls (after_ok r (λ rest. Ok (l ∷ rest)))
put-before ls l (Ok rest) = ap Ok (append_assoc ls (l ∷ []) rest)
put-before ls l (Err f) = refl

-- The tokens of the next content are appended.
pub lists-go-on : {s t : HideSetPool} (args : Arguments) (used : Place) (vs : List (Vec Hidden Global)) (v : Vec Hidden Global) (c : List Chain) (cs : List (List Chain)) (m : Replacement)
    → KeepsSets s t
    → ListsKnown s vs
    → Ok m ≡ chains_tokens args used false true c
    → m.tokens ≡ hidings t v.items
    → before_lists (map (hidings t) (lists_of (vs ++ v ∷ []))) (contents_tokens args used cs) ≡ before_lists (map (hidings s) (lists_of vs)) (contents_tokens args used (c ∷ cs))
lists-go-on {s} {t} args used vs v c cs m k known made is =
    ap (λ ls. before_lists ls (contents_tokens args used cs)) (lists-more vs v k known)
    ∙ put-before (map (hidings s) (lists_of vs)) (hidings t v.items) (contents_tokens args used cs)
    ∙ ap (λ l. before_lists (map (hidings s) (lists_of vs)) (after_ok (contents_tokens args used cs) (λ rest. Ok (l ∷ rest)))) (sym is)
    ∙ ap (λ r. before_lists (map (hidings s) (lists_of vs)) (after_ok r (λ m. after_ok (contents_tokens args used cs) (λ rest. Ok (m.tokens ∷ rest))))) made

pub lists-refused : (args : Arguments) (used : Place) (ls : List (List Hiding)) (c : List Chain) (cs : List (List Chain)) (f : Fault)
    → Err f ≡ chains_tokens args used false true c
    → Err f ≡ before_lists ls (contents_tokens args used (c ∷ cs))
lists-refused args used ls c cs f made = ap (λ r. before_lists ls (after_ok r (λ m. after_ok (contents_tokens args used cs) (λ rest. Ok (m.tokens ∷ rest))))) made
