-- Replacement with hide sets terminates: a proof about lists of hide sets alone, by induction on prefixes.
-- The induction is on the number of names that a prefix may still replace, then on its length.
use Rattle.std.proofs.Common.{◌≡◌, ℕ, zero, suc, ◌<◌, ◌≤◌, true, false, ◌||◌, List, [], ◌∷◌, ◌++◌, if◌then◌else◌}
use Rattle.std.proofs.Common.{length, refl, sym, ap, ◌∙◌, subst, true≢false, append-nil, length-append, arith}
use Rattle.std.specs.FinSet as set
use Rattle.std.specs.FinMap as table
use Rattle.std.specs.List.{AllByRecursion, list_any}
use Rattle.std.proofs.lemmas.Bool.{or_right}
use Rattle.std.proofs.lemmas.Cmp.{eq_by_cmp_equiv, nat_list_cmp_total}
use Rattle.std.proofs.lemmas.Map.Lookups.{exact_bytes}
use Rattle.std.proofs.lemmas.Map.Views.{tells_apart}
use Rattle.ppmacro.specs.Names.{Name, HideSet, Macros}
use Rattle.ppmacro.specs.code.Members.{same_name}
use Rattle.ppexpand.specs.Termination.{IsSubset, HidesNames, count_outside, IsOutside, Step, emits, replaced, invoked, Ends, ends, EndsAfter, PrefixEnds, names_left}

pub all-map : {A : Type 0} (P Q : A → Type 0) → ((x : A) → P x → Q x) → (xs : List A) → AllByRecursion P xs → AllByRecursion Q xs
all-map P Q f [] h = tt
all-map P Q f (x ∷ xs) h = (f x h.0, all-map P Q f xs h.1)

-- the part of a list after an element: `AllByRecursion` still holds, and the part is shorter
all-following : {A : Type 0} (P : A → Type 0) (p : List A) (x : A) (q : List A) → AllByRecursion P (p ++ x ∷ q) → P x × AllByRecursion P q
all-following P [] x q h = h
all-following P (y ∷ p) x q h = all-following P p x q h.1

following-shorter : {A : Type 0} (p : List A) (x : A) (q : List A) → length q < length (p ++ x ∷ q)
following-shorter p x q = omega (arith, length-append p (x ∷ q))

-- if `p ++ x ∷ q` is `a ++ b`, x is in a or in b
data Split {A : Type 0} (a b p : List A) (x : A) (q : List A) : Type 0 where
  in_first : (rest : List A) → a ≡ p ++ x ∷ rest → q ≡ rest ++ b → Split a b p x q
  in_second : (p' : List A) → b ≡ p' ++ x ∷ q → Split a b p x q

split : {A : Type 0} (a b p : List A) (x : A) (q : List A) → a ++ b ≡ p ++ x ∷ q → Split a b p x q
split [] b p x q e = in_second p e
split (y ∷ a) b [] x q e = in_first a (cc) (cc)
split (y ∷ a) b (z ∷ p) x q e =
    let tails : a ++ b ≡ p ++ x ∷ q = cc in
    elim (split a b p x q tails) [
      | in_first rest h k ↦ (let name_tokens : y ≡ z = cc in in_first rest (cc) k)
      | in_second p' h ↦ in_second p' h
    ]

-- ---- a set with one more name

in_insert : (S : HideSet) (k q : Name) → set.contains S q ≡ true → set.contains (set.insert S k) q ≡ true
in_insert S k q e = set.contains-insert nat_list_cmp_total S k q ∙ ap (λ b. same_name q k || b) e ∙ or_right _ true refl

at_insert : (S : HideSet) (k : Name) → set.contains (set.insert S k) k ≡ true
at_insert S k = set.contains-insert nat_list_cmp_total S k k ∙ ap (λ b. b || set.contains S k) ((eq_by_cmp_equiv nat_list_cmp_total).refl k)

-- A set that has k and all names of S has all names of S with k added.
pub extended : (S : HideSet) (k : Name) (r : HideSet) → IsSubset S r → set.contains r k ≡ true → IsSubset (set.insert S k) r
extended S k r old new q h =
    elim (same_name q k) as (λ a. same_name q k ≡ a → (a || set.contains S q) ≡ true → set.contains r q ≡ true) [
      | true ↦ λ same _. subst (λ x. set.contains r x ≡ true) (sym (tells_apart exact_bytes q k same)) new
      | false ↦ λ _ e. old q e
    ] refl (sym (set.contains-insert nat_list_cmp_total S k q) ∙ h)

not_above : (S h : HideSet) (k : Name) → IsSubset S h → set.contains h k ≡ false → set.contains S k ≡ false
not_above S h k above out = elim (set.contains S k) as (λ a. set.contains S k ≡ a → a ≡ false) [ true ↦ λ e. sym (above k e) ∙ out | false ↦ λ _. refl ] refl

-- ---- how many names are not in a set

count_outside-more : (S S' : HideSet) → IsSubset S S' → (ns : List Name) → count_outside S' ns ≤ count_outside S ns
count_outside-more S S' more [] = omega arith
count_outside-more S S' more (n ∷ ns) =
    let ih : count_outside S' ns ≤ count_outside S ns = count_outside-more S S' more ns in
    elim (set.contains S n) as (λ a. set.contains S n ≡ a → (if set.contains S' n then count_outside S' ns else suc (count_outside S' ns)) ≤ (if a then count_outside S ns else suc (count_outside S ns))) [
      | true ↦ λ e. rw (more n e) ih
      | false ↦ λ e. elim (set.contains S' n) as (λ b. (if b then count_outside S' ns else suc (count_outside S' ns)) ≤ suc (count_outside S ns)) [ true ↦ omega arith | false ↦ omega arith ]
    ] refl

count_outside-less : (S S' : HideSet) → IsSubset S S' → (k : Name) → set.contains S k ≡ false → set.contains S' k ≡ true → (ns : List Name) → list_any (same_name k) ns ≡ true → count_outside S' ns < count_outside S ns
count_outside-less S S' more k out in' [] h = absurd (true≢false (sym h))
count_outside-less S S' more k out in' (n ∷ ns) h = elim (same_name k n) as (λ a. same_name k n ≡ a → (a || list_any (same_name k) ns) ≡ true → count_outside S' (n ∷ ns) < count_outside S (n ∷ ns)) [
  | true ↦ λ same _.
      let is : k ≡ n = tells_apart exact_bytes k n same in
      let here : set.contains S n ≡ false = subst (λ x. set.contains S x ≡ false) is out in
      let there : set.contains S' n ≡ true = subst (λ x. set.contains S' x ≡ true) is in' in
      let rest : count_outside S' ns ≤ count_outside S ns = count_outside-more S S' more ns in
      rw (here, there) (omega arith)
  | false ↦ λ _ later.
      let ih : count_outside S' ns < count_outside S ns = count_outside-less S S' more k out in' ns later in
      elim (set.contains S n) as (λ a. set.contains S n ≡ a → (if set.contains S' n then count_outside S' ns else suc (count_outside S' ns)) < (if a then count_outside S ns else suc (count_outside S ns))) [
        | true ↦ λ e. rw (more n e) ih
        | false ↦ λ e. elim (set.contains S' n) as (λ b. (if b then count_outside S' ns else suc (count_outside S' ns)) < suc (count_outside S ns)) [ true ↦ omega arith | false ↦ omega arith ]
      ] refl
] refl h

module _ (macros : Macros) where
  -- fewer names are outside a set after a name is added
  pub fewer_left : (S : HideSet) (k : Name) → IsOutside macros k S → names_left macros (set.insert S k) < names_left macros S
  fewer_left S k out = count_outside-less S (set.insert S k) (in_insert S k) k out.outside (at_insert S k) (table.keys macros) (sym (table.contains_key-keys macros k) ∙ out.macro)

  abbrev Above : HideSet → List HideSet → Type 0
  Above S prefix = AllByRecursion (IsSubset S) prefix

  outside_part : (S h : HideSet) (k : Name) → IsSubset S h → IsOutside macros k h → IsOutside macros k S
  outside_part S h k above out = record { macro = out.macro; outside = not_above S h k above out.outside }

  -- A prefix of length at most k terminates if its sets have all names of S and S lacks fewer than n names.
  abbrev FrontsEnd : ℕ → ℕ → Type 0
  FrontsEnd n k = (S : HideSet) → names_left macros S < n → (prefix : List HideSet) → length prefix ≤ k → PrefixEnds macros S prefix

  -- such a prefix also terminates after a replacement whose sets have one more name
  abbrev ResultsEnd : ℕ → ℕ → Type 0
  ResultsEnd n k =
      (S : HideSet)
      → names_left macros S < n
      → (name : Name)
      → IsOutside macros name S
      → (result : List HideSet)
      → Above (set.insert S name) result
      → (prefix : List HideSet)
      → length prefix ≤ k
      → Above S prefix
      → (following : List HideSet)
      → Ends macros following
      → EndsAfter macros S following
      → Ends macros (result ++ (prefix ++ following))

  -- case analysis of a step from a nonempty list
  by_step : (P : List HideSet → Type 0) {h : HideSet} {rest after : List HideSet} → Step macros (h ∷ rest) after → P rest
      → ((k : Name) → IsOutside macros k h → (result : List HideSet) → AllByRecursion (HidesNames h h k) result → P (result ++ rest))
      → ((k : Name)
      → IsOutside macros k h
      → (inside : List HideSet) (close : HideSet) (following : List HideSet)
      → rest ≡ inside ++ close ∷ following
      → (result : List HideSet)
      → AllByRecursion (HidesNames h close k) result
      → P (result ++ following))
      → P after
  by_step P emits p o f = p
  by_step P (replaced k out result to_hide e) p o f = rw e (o k out result to_hide)
  by_step P (invoked k out inside close following e result to_hide e') p o f = rw e' (f k out inside close following e result to_hide)

  result_step : (n k : ℕ) → ((j : ℕ) → FrontsEnd n j) → FrontsEnd (suc n) k → ((j : ℕ) → j < k → ResultsEnd (suc n) j) → ResultsEnd (suc n) k
  result_step n k lower front_k below S small name out result hsadd prefix short above following ends_behind remaining_after =
      let fewer : names_left macros (set.insert S name) < names_left macros S = fewer_left S name out in
      lower (length result) (set.insert S name) (omega arith) result (omega arith) hsadd (prefix ++ following) (front_k S small prefix short above following ends_behind remaining_after)
      (λ k2 out2 inside close rest e result2 reached.
      let out2' : IsOutside macros k2 S = outside_part S (set.insert S name) k2 (in_insert S name) out2 in
      elim (split prefix following inside close rest e) [
        | in_first rest' at_front at_rest ↦
            (let parts : IsSubset S close × Above S rest' = all-following (IsSubset S) inside close rest' (subst (Above S) at_front above) in
            let shorter : length rest' < length prefix = rw at_front (following-shorter inside close rest') in
            rw at_rest
            (below (length rest') (omega arith) S small k2 out2' result2
            (all-map (HidesNames (set.insert S name) close k2) (IsSubset (set.insert S k2)) (λ r g. extended S k2 r (λ q s. g.common q (in_insert S name q s) (parts.0 q s)) g.own) result2 reached)
            rest' (omega arith) parts.1 following ends_behind remaining_after))
        | in_second p' at_behind ↦
            remaining_after k2 out2' p' close rest at_behind result2
            (all-map (HidesNames (set.insert S name) close k2) (HidesNames S close k2) (λ r g. record { common = λ q s c. g.common q (in_insert S name q s) c; own = g.own }) result2 reached)
      ])

  front_step : (n k : ℕ) → ((j : ℕ) → j < k → FrontsEnd (suc n) j × ResultsEnd (suc n) j) → FrontsEnd (suc n) k
  front_step n k below S small [] short above following ends_behind remaining_after = ends_behind
  front_step n k below S small (h ∷ prefix) short above following ends_behind remaining_after =
      ends (λ next step. by_step (Ends macros) step
      ((below (length prefix) short).0 S small prefix (omega arith) above.1 following ends_behind remaining_after)
      (λ k2 out2 result to_hide.
      (below (length prefix) short).1 S small k2 (outside_part S h k2 above.0 out2) result
      (all-map (HidesNames h h k2) (IsSubset (set.insert S k2)) (λ r g. extended S k2 r (λ q s. g.common q (above.0 q s) (above.0 q s)) g.own) result to_hide)
      prefix (omega arith) above.1 following ends_behind remaining_after)
      (λ k2 out2 inside close rest e result to_hide.
      let out2' : IsOutside macros k2 S = outside_part S h k2 above.0 out2 in
      elim (split prefix following inside close rest e) [
        | in_first rest' at_front at_rest ↦
            (let parts : IsSubset S close × Above S rest' = all-following (IsSubset S) inside close rest' (subst (Above S) at_front above.1) in
            let shorter : length rest' < length prefix = rw at_front (following-shorter inside close rest') in
            rw at_rest
            ((below (length rest') (omega arith)).1 S small k2 out2' result
            (all-map (HidesNames h close k2) (IsSubset (set.insert S k2)) (λ r g. extended S k2 r (λ q s. g.common q (above.0 q s) (parts.0 q s)) g.own) result to_hide)
            rest' (omega arith) parts.1 following ends_behind remaining_after))
        | in_second p' at_behind ↦
            remaining_after k2 out2' p' close rest at_behind result
            (all-map (HidesNames h close k2) (HidesNames S close k2) (λ r g. record { common = λ q s c. g.common q (above.0 q s) c; own = g.own }) result to_hide)
      ]))

  all_below : (n : ℕ) → ((j : ℕ) → FrontsEnd n j) → (k j : ℕ) → j < k → FrontsEnd (suc n) j × ResultsEnd (suc n) j
  all_below n lower zero j h = absurd (omega arith)
  all_below n lower (suc k) j h =
      let f : FrontsEnd (suc n) j = λ S small prefix short. front_step n k (all_below n lower k) S small prefix (omega arith) in
      (f, result_step n j lower f (λ i less. (all_below n lower k i (omega arith)).1))

  fronts_below : (n k : ℕ) → FrontsEnd n k
  fronts_below zero k = λ S small. absurd (omega arith)
  fronts_below (suc n) k = (all_below n (fronts_below n) (suc k) k (omega arith)).0

  pub prefixes_terminate : (S : HideSet) (prefix : List HideSet) → PrefixEnds macros S prefix
  prefixes_terminate S prefix = fronts_below (suc (names_left macros S)) (length prefix) S (omega arith) prefix (omega arith)

  nothing_ends : Ends macros []
  nothing_ends = ends (λ remaining_after step. elim step [ ])

  -- Replacement terminates for every list: the list is a prefix before the empty list.
  pub all_end : (list : List HideSet) → Ends macros list
  all_end list = subst (Ends macros) (append-nil list) (prefixes_terminate set.empty list (none list) [] nothing_ends (λ k out inside close rest e. absurd (not_nil inside close rest e)))
    where
      none : (xs : List HideSet) → Above set.empty xs
      none [] = tt
      none (x ∷ xs) = (λ q e. absurd (true≢false (sym e ∙ set.contains-empty _ q)), none xs)

      not_nil : (p : List HideSet) (x : HideSet) (q : List HideSet) → [] ≡ p ++ x ∷ q → ⊥
      not_nil [] x q e = cc
      not_nil (y ∷ p) x q e = cc
