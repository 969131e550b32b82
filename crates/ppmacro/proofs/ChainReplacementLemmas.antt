-- Chains are replaced in order, and names are added, while hide sets are added to the pool.
use Rattle.std.proofs.Common.{◌≡◌, ℕ, zero, suc, ◌+◌, ◌<◌, Bool, false, not, ◌||◌, ◌&&◌, List, [], ◌∷◌, ◌++◌, map, take, drop, length, get_or}
use Rattle.std.proofs.Common.{Option, Some, None, Vec, Global, Result, Ok, Err, refl, sym, ap, ◌∙◌, append_assoc, arith}
use Rattle.std.proofs.lemmas.List.{map-append, drop_more}
use Rattle.std.specs.Option.{option_map}
use Rattle.std.specs.FinSet as set
use Rattle.pptext.specs.declared.tokens.Place.{Place}
use Rattle.pptext.specs.declared.tokens.Fault.{Fault}
use Rattle.ppmacro.specs.HideSetPool.{HideSetPool}
use Rattle.ppmacro.specs.Hiding.{Hiding}
use Rattle.ppmacro.specs.HideSets.{set_at, IsKnown, hiding, hidings, HasSets, AllKnown, KeepsSets}
use Rattle.ppmacro.specs.Substitution.{Arguments, Replacement, after_ok, argument_at, expanded_at, chain_tokens, space_first, chains_tokens, hsadd}
use Rattle.ppmacro.specs.Substituting.{lists_of, expansions_if_computed, ArgumentsKnown, arguments_in}
use Rattle.ppmacro.specs.code.Replacing.{pushed, HasSubset}
use Rattle.ppmacro.specs.declared.hidden_token.Hidden.{Hidden}
use Rattle.ppmacro.specs.declared.hidden_token.ArgumentExpansion.{ArgumentExpansion}
use Rattle.ppmacro.specs.declared.macros.Chain.{Chain}
use Rattle.ppmacro.proofs.PoolGrowthLemmas.{set-keeps, hiding-keeps, hidings-keeps, known-keeps}

-- Prepends a list to a result that isn't a fault.
abbrev pub following : {A : Type 0} → List A → Result (List A) Fault → Result (List A) Fault
following xs (Ok ys) = Ok (xs ++ ys)
following xs (Err f) = Err f

pub drop-item : {X : Type 0} (xs : List X) (i : ℕ) (x : X) → i < length xs → x ≡ get_or xs i x → drop i xs ≡ x ∷ drop (i + 1) xs
drop-item xs i x h e = drop_more xs i x h ∙ ap (λ y. y ∷ drop (i + 1) xs) (sym e)

pub known-each : (s : HideSetPool) (hs : List Hidden) (i : ℕ) (h : Hidden) → i < length hs → h ≡ get_or hs i h → AllKnown s hs → HasSets s h
known-each s [] i h less e known = absurd (omega arith)
known-each s (x ∷ hs) zero h less e known = rw e known.each.0
known-each s (x ∷ hs) (suc i) h less e known = known-each s hs i h (omega arith) e (record { each = known.each.1 })

-- ---- arguments keep their hide sets

given-keeps : {s t : HideSetPool} (given : List (Vec Hidden Global)) → KeepsSets s t → ((i : ℕ) → AllKnown s (argument_at (lists_of given) i)) → map (hidings t) (lists_of given) ≡ map (hidings s) (lists_of given)
given-keeps [] k known = refl
given-keeps (v ∷ vs) k known = λ i. hidings-keeps v.items k (known 0) i ∷ given-keeps vs k (λ n. known (suc n)) i

option-keeps : {s t : HideSetPool} (o : Option (List Hidden)) (os : List (Option (List Hidden))) → KeepsSets s t → AllKnown s (expanded_at (o ∷ os) 0) → option_map (hidings t) o ≡ option_map (hidings s) o
option-keeps None os k known = refl
option-keeps (Some hs) os k known = ap Some (hidings-keeps hs k known)

expanded-keeps : {s t : HideSetPool} (expanded : List (Option (List Hidden)))
    → KeepsSets s t
    → ((i : ℕ) → AllKnown s (expanded_at expanded i))
    → map (λ o. option_map (hidings t) o) expanded ≡ map (λ o. option_map (hidings s) o) expanded
expanded-keeps [] k known = refl
expanded-keeps (o ∷ os) k known = λ i. option-keeps o os k (known 0) i ∷ expanded-keeps os k (λ n. known (suc n)) i

pub arguments-keeps : {s t : HideSetPool} (given : List (Vec Hidden Global)) (expanded : List ArgumentExpansion) → KeepsSets s t → ArgumentsKnown s given expanded → arguments_in t given expanded ≡ arguments_in s given expanded
arguments-keeps given expanded k known = λ i. record { given = given-keeps given k known.given_known i; expanded = expanded-keeps (expansions_if_computed given expanded) k known.expanded_known i }

pub arguments-known : {s t : HideSetPool} (given : List (Vec Hidden Global)) (expanded : List ArgumentExpansion) → KeepsSets s t → ArgumentsKnown s given expanded → ArgumentsKnown t given expanded
arguments-known given expanded k known = record { given_known = λ i. known-keeps _ k (known.given_known i); expanded_known = λ i. known-keeps _ k (known.expanded_known i) }

-- ---- chains

abbrev goes_on : Arguments → Place → Bool → List Chain → List Hiding → Result Replacement Fault
goes_on args used space cs ts = after_ok (chains_tokens args used (space_first space ts).pending false cs) (λ rest. Ok (record { tokens = (space_first space ts).tokens ++ rest.tokens; pending = rest.pending }))

-- Prepends tokens to a replacement that isn't a fault.
abbrev pub marked_behind : List Hiding → Result Replacement Fault → Result Replacement Fault
marked_behind ts (Ok m) = Ok (record { tokens = ts ++ m.tokens; pending = m.pending })
marked_behind ts (Err f) = Err f

following-following : (xs ys : List Hiding) (r : Result Replacement Fault) → marked_behind xs (after_ok r (λ m. Ok (record { tokens = ys ++ m.tokens; pending = m.pending }))) ≡ marked_behind (xs ++ ys) r
following-following xs ys (Ok m) = λ i. Ok (record { tokens = sym (append_assoc xs ys m.tokens) i; pending = m.pending })
following-following xs ys (Err f) = refl

chains-more : (args : Arguments) (used : Place) (pending first : Bool) (c : Chain) (cs : List Chain) (front ts : List Hiding)
    → Ok ts ≡ chain_tokens args used c
    → marked_behind (front ++ (space_first (pending || (not first && c.space)) ts).tokens)
    (chains_tokens args used (space_first (pending || (not first && c.space)) ts).pending false cs)
    ≡ marked_behind front (chains_tokens args used pending first (c ∷ cs))
chains-more args used pending first c cs front ts h =
    sym (following-following front (space_first (pending || (not first && c.space)) ts).tokens (chains_tokens args used (space_first (pending || (not first && c.space)) ts).pending false cs))
    ∙ ap (λ r. marked_behind front (after_ok r (goes_on args used (pending || (not first && c.space)) cs))) h

-- The tokens of one chain are appended, and then those of the other chains.
pub chains-pushed : (args : Arguments) (used : Place) (pending first : Bool) (c : Chain) (cs : List Chain) (front new : List Hiding) (left : Bool)
    (r : Result (List Hiding) Fault)
    → r ≡ chain_tokens args used c
    → Ok (record { tokens = new; pending = left }) ≡ pushed front (pending || (not first && c.space)) r
    → marked_behind new (chains_tokens args used left false cs) ≡ marked_behind front (chains_tokens args used pending first (c ∷ cs))
chains-pushed args used pending first c cs front new left (Ok ts) h e =
    let here : Replacement = space_first (pending || (not first && c.space)) ts in
    let same : record { tokens = new; pending = left } ≡ record { tokens = front ++ here.tokens; pending = here.pending } = cc in
    ap (λ (m : Replacement). marked_behind m.tokens (chains_tokens args used m.pending false cs)) same ∙ chains-more args used pending first c cs front ts h
chains-pushed args used pending first c cs front new left (Err f) h e = absurd (cc)

chains-refused : (args : Arguments) (used : Place) (pending first : Bool) (c : Chain) (cs : List Chain) (front : List Hiding) (f : Fault)
    → Err f ≡ chain_tokens args used c
    → Err f ≡ marked_behind front (chains_tokens args used pending first (c ∷ cs))
chains-refused args used pending first c cs front f h = ap (λ r. marked_behind front (after_ok r (goes_on args used (pending || (not first && c.space)) cs))) h

pub chains-refused-pushed : (args : Arguments) (used : Place) (pending first : Bool) (c : Chain) (cs : List Chain) (front : List Hiding) (f : Fault)
    (r : Result (List Hiding) Fault)
    → r ≡ chain_tokens args used c
    → Err f ≡ pushed front (pending || (not first && c.space)) r
    → Err f ≡ marked_behind front (chains_tokens args used pending first (c ∷ cs))
chains-refused-pushed args used pending first c cs front f (Ok ts) h e = absurd (cc)
chains-refused-pushed args used pending first c cs front f (Err g) h e =
    let same : f ≡ g = cc in
    chains-refused args used pending first c cs front f (ap Err same ∙ h)

-- ---- added names

pub hsadd-more : (s t u : HideSetPool) (g : ℕ) (used : Place) (done earlier : List Hidden) (item one : Hidden)
    → KeepsSets s t
    → KeepsSets t u
    → IsKnown s g
    → AllKnown t done
    → HasSets s item
    → hiding u one ≡ hsadd (set_at t g) used (hiding t item)
    → hidings t done ≡ map (hsadd (set_at s g) used) (hidings s earlier)
    → hidings u (done ++ one ∷ []) ≡ map (hsadd (set_at s g) used) (hidings s (earlier ++ item ∷ []))
hsadd-more s t u g used done earlier item one k l added known here is so_far =
    let last : hiding u one ≡ hsadd (set_at s g) used (hiding s item) = is ∙ (λ i. hsadd (set-keeps g k added i) used (hiding-keeps item k here i)) in
    map-append (hiding u) done (one ∷ [])
    ∙ (λ i. (hidings-keeps done l known ∙ so_far) i ++ last i ∷ [])
    ∙ sym (map-append (hsadd (set_at s g) used) (hidings s earlier) (hiding s item ∷ []))
    ∙ ap (map (hsadd (set_at s g) used)) (sym (map-append (hiding s) earlier (item ∷ [])))

pub within-keeps : {s t : HideSetPool} (added n : ℕ) → KeepsSets s t → IsKnown s added → IsKnown s n → HasSubset s added n → HasSubset t added n
within-keeps added n k gain_known known h =
    let more = set-keeps added k gain_known in
    (λ i. set.union (set-keeps n k known i) (more i)) ∙ h ∙ sym more

-- The prefix grows by the next element, and the elements after it remain.
pub next-item : {X : Type 0} (xs : List X) (i : ℕ) (x : X) (rest : List X) → drop i xs ≡ x ∷ rest → (take (suc i) xs ≡ take i xs ++ x ∷ []) × (drop (suc i) xs ≡ rest)
next-item [] zero x rest e = absurd (cc e)
next-item [] (suc i) x rest e = absurd (cc e)
next-item (y ∷ ys) zero x rest e = let is : y ≡ x = cc e in let left : ys ≡ rest = cc e in (ap (λ z. z ∷ []) is, left)
next-item (y ∷ ys) (suc i) x rest e = let after = next-item ys i x rest e in (ap (λ zs. y ∷ zs) after.0, after.1)

pub known-drop : (s : HideSetPool) (i : ℕ) (hs : List Hidden) → AllKnown s hs → AllKnown s (drop i hs)
known-drop s zero hs k = k
known-drop s (suc i) [] k = k
known-drop s (suc i) (h ∷ hs) k = known-drop s i hs (record { each = k.each.1 })
