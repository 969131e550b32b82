-- Token lists that `##` joins, while hide sets are added to the pool.
use Rattle.std.proofs.Common.{◌≡◌, ℕ, suc, zero, ◌<◌, ◌≤◌, List, [], ◌∷◌, ◌++◌, map, drop, length, get_or, Option, Some, None}
use Rattle.std.proofs.Common.{Vec, Global, Result, Ok, Err, refl, sym, ap, ◌∙◌, slice_get, unwrap_or, arith}
use Rattle.std.proofs.lemmas.List.{map-append}
use Rattle.std.specs.Option.{option_map}
use Rattle.pptext.specs.declared.tokens.Place.{Place}
use Rattle.pptext.specs.declared.tokens.Fault.{Fault}
use Rattle.ppmacro.specs.HideSetPool.{HideSetPool}
use Rattle.ppmacro.specs.Hiding.{Hiding}
use Rattle.ppmacro.specs.HideSets.{hiding, hidings, HasSets, AllKnown, KeepsSets}
use Rattle.ppmacro.specs.Substitution.{after_ok, pasted, join, argument_at, expanded_at}
use Rattle.ppmacro.specs.Substituting.{tokens_of, lists_of, expansion_if_computed, expansions_if_computed}
use Rattle.ppmacro.specs.declared.hidden_token.Hidden.{Hidden}
use Rattle.ppmacro.specs.declared.hidden_token.ArgumentExpansion.{ArgumentExpansion}
use Rattle.ppmacro.proofs.PoolGrowthLemmas.{hidings-keeps, known-keeps, known-append, known-front, known-rest}

-- ---- arguments

pub tokens-in : (s : HideSetPool) (hs : List Hidden) → tokens_of hs ≡ map (λ t. t.token) (hidings s hs)
tokens-in s [] = refl
tokens-in s (h ∷ hs) = ap (λ ts. h.token ∷ ts) (tokens-in s hs)

pub argument-in : (s : HideSetPool) (given : List (Vec Hidden Global)) (i : ℕ) → hidings s (argument_at (lists_of given) i) ≡ argument_at (map (hidings s) (lists_of given)) i
argument-in s [] i = refl
argument-in s (v ∷ vs) zero = refl
argument-in s (v ∷ vs) (suc i) = argument-in s vs i

pub argument-absent : (given : List (Vec Hidden Global)) (i : ℕ) → length given ≤ i → None ≡ slice_get (lists_of given) i
argument-absent [] i h = refl
argument-absent (v ∷ vs) zero h = absurd (omega arith)
argument-absent (v ∷ vs) (suc i) h = argument-absent vs i (omega arith)

-- The expansion of parameter i is that of the entry with index i.
pub expansion-at : (given : List (Vec Hidden Global)) (es : List ArgumentExpansion) (i : ℕ) (e : ArgumentExpansion)
    → i < length es
    → e ≡ get_or es i e
    → unwrap_or (expansion_if_computed (argument_at (lists_of given) i) e) [] ≡ expanded_at (expansions_if_computed given es) i
expansion-at given [] i e h is = absurd (omega arith)
expansion-at [] (x ∷ es) zero e h is = ap (λ y. unwrap_or (expansion_if_computed [] y) []) is
expansion-at (v ∷ vs) (x ∷ es) zero e h is = ap (λ y. unwrap_or (expansion_if_computed v.items y) []) is
expansion-at [] (x ∷ es) (suc i) e h is = expansion-at [] es i e (omega arith) is
expansion-at (v ∷ vs) (x ∷ es) (suc i) e h is = expansion-at vs es i e (omega arith) is

pub expansion-following : (given : List (Vec Hidden Global)) (es : List ArgumentExpansion) (i : ℕ) → length es ≤ i → [] ≡ expanded_at (expansions_if_computed given es) i
expansion-following given [] i h = refl
expansion-following given (x ∷ es) zero h = absurd (omega arith)
expansion-following [] (x ∷ es) (suc i) h = expansion-following [] es i (omega arith)
expansion-following (v ∷ vs) (x ∷ es) (suc i) h = expansion-following vs es i (omega arith)

pub expansion-in : (s : HideSetPool) (expanded : List (Option (List Hidden))) (i : ℕ) → hidings s (expanded_at expanded i) ≡ expanded_at (map (λ o. option_map (hidings s) o) expanded) i
expansion-in s [] i = refl
expansion-in s (None ∷ os) zero = refl
expansion-in s (Some hs ∷ os) zero = refl
expansion-in s (o ∷ os) (suc i) = expansion-in s os i

-- ---- two lists

after-twice : (p : Result Hiding Fault) (x : Hiding) (ls rs : List Hiding) → after_ok (after_ok p (λ t. Ok (ls ++ t ∷ rs))) (λ ts. Ok (x ∷ ts)) ≡ after_ok p (λ t. Ok (x ∷ (ls ++ t ∷ rs)))
after-twice (Ok t) x ls rs = refl
after-twice (Err f) x ls rs = refl

join-last : (ls : List Hiding) (l r : Hiding) (rs : List Hiding) (used : Place) → join (ls ++ l ∷ []) (r ∷ rs) used ≡ after_ok (pasted l r used) (λ t. Ok (ls ++ t ∷ rs))
join-last [] l r rs used = refl
join-last (x ∷ []) l r rs used = after-twice (pasted l r used) x [] rs
join-last (x ∷ (y ∷ ls)) l r rs used =
    ap (λ e. after_ok e (λ ts. Ok (x ∷ ts))) (join-last (y ∷ ls) l r rs used)
    ∙ after-twice (pasted l r used) x (y ∷ ls) rs

opened : (s : HideSetPool) (ls : List Hidden) (last first : Hidden) (rest : List Hidden) (used : Place)
    → join (hidings s (ls ++ last ∷ [])) (hidings s (first ∷ rest)) used
    ≡ after_ok (pasted (hiding s last) (hiding s first) used) (λ t. Ok (hidings s ls ++ t ∷ hidings s rest))
opened s ls last first rest used =
    ap (λ ts. join ts (hidings s (first ∷ rest)) used) (map-append (hiding s) ls (last ∷ []))
    ∙ join-last (hidings s ls) (hiding s last) (hiding s first) (hidings s rest) used

pub split-first : {A : Type 0} (xs : List A) (x : A) → Some x ≡ slice_get xs 0 → xs ≡ x ∷ drop 1 xs
split-first [] x h = absurd (cc h)
split-first (y ∷ xs) x h = λ i. (cc_first (sym h) i) ∷ xs
  where
    cc_first : Some y ≡ Some x → y ≡ x
    cc_first e = cc e

pub no-first : (xs : List Hidden) → None ≡ slice_get xs 0 → xs ≡ []
no-first [] h = refl
no-first (y ∷ xs) h = absurd (cc h)

pub join-nothing : (ls : List Hiding) (used : Place) → Ok ls ≡ join ls [] used
join-nothing [] used = refl
join-nothing (l ∷ ls) used = refl

pub join-pasted : (s t : HideSetPool) (ls : List Hidden) (last first hidden : Hidden) (rest : List Hidden) (used : Place)
    → KeepsSets s t
    → AllKnown s (ls ++ last ∷ [])
    → AllKnown s (first ∷ rest)
    → Ok (hiding t hidden) ≡ pasted (hiding s last) (hiding s first) used
    → Ok (hidings t (ls ++ hidden ∷ rest)) ≡ join (hidings s (ls ++ last ∷ [])) (hidings s (first ∷ rest)) used
join-pasted s t ls last first hidden rest used k left right p =
    let front : hidings t ls ≡ hidings s ls = hidings-keeps ls k (known-front ls (last ∷ []) left) in
    let following : hidings t rest ≡ hidings s rest = hidings-keeps rest k (record { each = right.each.1 }) in
    ap Ok (map-append (hiding t) ls (hidden ∷ rest))
    ∙ (λ i. Ok (front i ++ hiding t hidden ∷ following i))
    ∙ ap (λ r. after_ok r (λ u. Ok (hidings s ls ++ u ∷ hidings s rest))) p
    ∙ sym (opened s ls last first rest used)

pub join-refused : (s : HideSetPool) (ls : List Hidden) (last first : Hidden) (rest : List Hidden) (used : Place) (f : Fault)
    → Err f ≡ pasted (hiding s last) (hiding s first) used
    → Err f ≡ join (hidings s (ls ++ last ∷ [])) (hidings s (first ∷ rest)) used
join-refused s ls last first rest used f p =
    ap (λ r. after_ok r (λ u. Ok (hidings s ls ++ u ∷ hidings s rest))) p
    ∙ sym (opened s ls last first rest used)

pub known-joined : (s t : HideSetPool) (ls : List Hidden) (last first hidden : Hidden) (rest : List Hidden)
    → KeepsSets s t
    → AllKnown s (ls ++ last ∷ [])
    → AllKnown s (first ∷ rest)
    → HasSets t hidden
    → AllKnown t (ls ++ hidden ∷ rest)
known-joined s t ls last first hidden rest k left right here =
    let following : AllKnown t rest = known-keeps rest k (record { each = right.each.1 }) in
    known-append ls (hidden ∷ rest) (known-keeps ls k (known-front ls (last ∷ []) left)) (record { each = (here, following.each) })

pub known-last : (s : HideSetPool) (ls : List Hidden) (last : Hidden) → AllKnown s (ls ++ last ∷ []) → HasSets s last
known-last s ls last known = (known-rest ls (last ∷ []) known).each.0
