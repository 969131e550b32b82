-- The set of names that each node of the trie represents.
use Rattle.std.proofs.Common.{◌≡◌, ℕ, zero, suc, ◌<◌, ◌≤◌, ◌+◌, Bool, true, false, ◌||◌, nat_eq, List, [], ◌∷◌, ◌++◌, length, get_or, refl, sym}
use Rattle.std.proofs.Common.{ap, ◌∙◌, subst, arith, length-append, true≢false, if◌then◌else◌, is_eq, ◌⊎◌, inl, inr}
use Rattle.std.proofs.lemmas.Bool.{eq-eqb, cases_lt}
use Rattle.std.specs.List.{list_any, AllByRecursion, IsDistinct}
use Rattle.std.specs.FinSet as set
use Rattle.std.proofs.lemmas.Map.Keys.{IsDistinct-head, IsDistinct-tail}
use Rattle.std.specs.Ordering.{nat_cmp}
use Rattle.std.specs.Cmp.{Equal-is, tied_itself}
use Rattle.std.specs.Cmp.Lexicographic.{slice_cmp}
use Rattle.std.proofs.lemmas.Cmp.{nat_list_cmp_total}
use Rattle.ppmacro.specs.code.Operations.{Operation, Union, Intersection, member_rule}
use Rattle.ppmacro.specs.code.Nodes.{Node, member, IsPool, KeepsNodes, IsBounded}
use Rattle.ppmacro.specs.Names.{Name, HideSet}
use Rattle.ppmacro.specs.code.Members.{same_name, selected, hide_set, tabulated, hide_sets}
use Rattle.ppmacro.proofs.Tries.{member-keeps, sets_are_unique, differs}

-- The names are distinct, and each member of a set is the number of a name.
pub record IsNamed (names : List Name) (ns : List Node) : Type 0 where
  pub distinct : IsDistinct same_name names
  pub within : (n x : ℕ) → n < length ns → member ns n x ≡ true → x < length names

-- The result of an operation on two sets.
abbrev pub made_of : Operation → HideSet → HideSet → HideSet
made_of Union s t = set.union s t
made_of Intersection s t = set.intersection s t

name-is : (a b : Name) → same_name a b ≡ true → a ≡ b
name-is a b e = set.slice_cmp-IsAntisymmetric set.nat_cmp-IsAntisymmetric a b ((Equal-is (slice_cmp nat_cmp a b)).0 e)

name-self : (a : Name) → same_name a a ≡ true
name-self a = ap is_eq (tied_itself nat_list_cmp_total a)

-- Whether the number of the name q satisfies p.
abbrev at_name : (ℕ → Bool) → ℕ → Name → List Name → Bool
at_name p i q [] = false
at_name p i q (x ∷ xs) = if same_name q x then p i else at_name p (suc i) q xs

selected-none : (p : ℕ → Bool) (i : ℕ) (q : Name) (xs : List Name) → AllByRecursion (λ y. same_name q y ≡ false) xs → list_any (same_name q) (selected p i xs) ≡ false
selected-none p i q [] h = refl
selected-none p i q (x ∷ xs) h = elim (p i) as (λ b. list_any (same_name q) (if b then x ∷ selected p (suc i) xs else selected p (suc i) xs) ≡ false) [
  | true ↦ λ j. h.0 j || selected-none p (suc i) q xs h.1 j
  | false ↦ selected-none p (suc i) q xs h.1
]

selected-is : (p : ℕ → Bool) (i : ℕ) (q : Name) (xs : List Name) → IsDistinct same_name xs → list_any (same_name q) (selected p i xs) ≡ at_name p i q xs
selected-is p i q [] d = refl
selected-is p i q (x ∷ xs) d = elim (same_name q x) as (λ t. same_name q x ≡ t → list_any (same_name q) (if p i then x ∷ selected p (suc i) xs else selected p (suc i) xs) ≡ (if t then p i else at_name p (suc i) q xs)) [
  | true ↦ λ e. (let none = selected-none p (suc i) q xs (subst (λ z. AllByRecursion (λ y. same_name z y ≡ false) xs) (sym (name-is q x e)) (IsDistinct-head same_name x xs d)) in
      elim (p i) as (λ b. list_any (same_name q) (if b then x ∷ selected p (suc i) xs else selected p (suc i) xs) ≡ b) [
        | true ↦ ap (λ b. b || list_any (same_name q) (selected p (suc i) xs)) e
        | false ↦ none
      ])
  | false ↦ λ e. elim (p i) as (λ b. list_any (same_name q) (if b then x ∷ selected p (suc i) xs else selected p (suc i) xs) ≡ at_name p (suc i) q xs) [
    | true ↦ λ j. ((λ k. e k || list_any (same_name q) (selected p (suc i) xs)) ∙ selected-is p (suc i) q xs (IsDistinct-tail same_name x xs d)) j
    | false ↦ selected-is p (suc i) q xs (IsDistinct-tail same_name x xs d)
  ]
] refl

contains-is : (names : List Name) (ns : List Node) (n : ℕ) (q : Name) → IsDistinct same_name names → set.contains (hide_set names ns n) q ≡ at_name (member ns n) 0 q names
contains-is names ns n q d = set.contains-from_list nat_list_cmp_total (selected (member ns n) 0 names) q ∙ selected-is (member ns n) 0 q names d

pub same-by : (s t : HideSet) → ((q : Name) → set.contains s q ≡ set.contains t q) → s ≡ t
same-by = set.same_set nat_list_cmp_total (set.slice_cmp-IsAntisymmetric set.nat_cmp-IsAntisymmetric)

at-both : (op : Bool → Bool → Bool) → op false false ≡ false → (p r : ℕ → Bool) (i : ℕ) (q : Name) (xs : List Name) → at_name (λ k. op (p k) (r k)) i q xs ≡ op (at_name p i q xs) (at_name r i q xs)
at-both op z p r i q [] = sym z
at-both op z p r i q (x ∷ xs) = elim (same_name q x) as (λ t. (if t then op (p i) (r i) else at_name (λ k. op (p k) (r k)) (suc i) q xs) ≡ op (if t then p i else at_name p (suc i) q xs) (if t then r i else at_name r (suc i) q xs)) [
  | true ↦ refl
  | false ↦ at-both op z p r (suc i) q xs
]

at-same : (p r : ℕ → Bool) (i : ℕ) (q : Name) (xs : List Name) → ((k : ℕ) → p k ≡ r k) → at_name p i q xs ≡ at_name r i q xs
at-same p r i q xs h = λ j. at_name (λ k. h k j) i q xs

contains-made : (o : Operation) (s t : HideSet) (q : Name) → set.contains (made_of o s t) q ≡ member_rule o (set.contains s q) (set.contains t q)
contains-made Union s t q = set.contains-union nat_list_cmp_total s t q
contains-made Intersection s t q = set.contains-intersection nat_list_cmp_total s t q

member_rule-none : (o : Operation) → member_rule o false false ≡ false
member_rule-none Union = refl
member_rule-none Intersection = refl

-- A node whose members are those of a union or intersection represents that union or intersection.
pub made-is : (o : Operation) (names : List Name) (old new : List Node) (a b n : ℕ)
    → IsDistinct same_name names
    → ((x : ℕ) → member new n x ≡ member_rule o (member old a x) (member old b x))
    → hide_set names new n ≡ made_of o (hide_set names old a) (hide_set names old b)
made-is o names old new a b n d h = same-by _ _ (λ q.
    contains-is names new n q d
    ∙ at-same (member new n) (λ k. member_rule o (member old a k) (member old b k)) 0 q names h
    ∙ at-both (member_rule o) (member_rule-none o) (member old a) (member old b) 0 q names
    ∙ (λ i. member_rule o (sym (contains-is names old a q d) i) (sym (contains-is names old b q d) i))
    ∙ sym (contains-made o (hide_set names old a) (hide_set names old b) q))

-- ---- equal sets of names have equal numbers

other-name : (q : Name) (xs : List Name) (k : ℕ) → AllByRecursion (λ y. same_name q y ≡ false) xs → k < length xs → same_name (get_or xs k []) q ≡ true → false ≡ true
other-name q [] k h l e = absurd (omega (arith, l))
other-name q (x ∷ xs) zero h l e = sym h.0 ∙ (λ j. same_name (sym (name-is x q e) j) x) ∙ name-self x
other-name q (x ∷ xs) (suc k) h l e = other-name q xs k h.1 (omega (arith, l)) e

pub at-own : (p : ℕ → Bool) (i k : ℕ) (xs : List Name) → IsDistinct same_name xs → k < length xs → at_name p i (get_or xs k []) xs ≡ p (i + k)
at-own p i k [] d l = absurd (omega (arith, l))
at-own p i zero (x ∷ xs) d l = (λ j. if name-self x j then p i else at_name p (suc i) x xs) ∙ ap p (omega arith)
at-own p i (suc k) (x ∷ xs) d l = elim (same_name (get_or xs k []) x) as (λ t. same_name (get_or xs k []) x ≡ t → (if t then p i else at_name p (suc i) (get_or xs k []) xs) ≡ p (i + suc k)) [
  | true ↦ λ e. absurd (true≢false (sym (other-name x xs k (IsDistinct-head same_name x xs d) (omega (arith, l)) e)))
  | false ↦ λ e. at-own p (suc i) k xs (IsDistinct-tail same_name x xs d) (omega (arith, l)) ∙ ap p (omega arith)
] refl

not-true : (b : Bool) → (¬ (b ≡ true)) → b ≡ false
not-true true h = absurd (h refl)
not-true false h = refl

pub sets_are_unique-names : (names : List Name) (ns : List Node) (m n : ℕ) → IsPool ns → IsNamed names ns → m < length ns → n < length ns → hide_set names ns m ≡ hide_set names ns n → m ≡ n
sets_are_unique-names names ns m n p d lm ln e = sets_are_unique ns m n p lm ln (λ x. split x (cases_lt x (length names)))
  where
    past : (k x : ℕ) → k < length ns → length names ≤ x → member ns k x ≡ false
    past k x l h = not-true (member ns k x) (λ t. let w = d.within k x l t in absurd (omega (arith, w, h)))

    split : (x : ℕ) → (x < length names) ⊎ (length names ≤ x) → member ns m x ≡ member ns n x
    split x (inl l) =
        let q = get_or names x [] in
        let at : (k : ℕ) → set.contains (hide_set names ns k) q ≡ member ns k x = λ k. contains-is names ns k q d.distinct ∙ at-own (member ns k) 0 x names d.distinct l ∙ ap (member ns k) (omega arith) in
        sym (at m) ∙ ap (λ s. set.contains s q) e ∙ at n
    split x (inr l) = past m x lm l ∙ sym (past n x ln l)

-- ---- the list of all sets

pub length-tabulated : (f : ℕ → HideSet) (i : ℕ) (ns : List Node) → length (tabulated f i ns) ≡ length ns
length-tabulated f i [] = refl
length-tabulated f i (x ∷ ns) = ap suc (length-tabulated f (suc i) ns)

pub at-tabulated : (f : ℕ → HideSet) (i n : ℕ) (ns : List Node) → n < length ns → get_or (tabulated f i ns) n set.empty ≡ f (i + n)
at-tabulated f i n [] l = absurd (omega (arith, l))
at-tabulated f i zero (x ∷ ns) l = ap f (omega arith)
at-tabulated f i (suc n) (x ∷ ns) l = at-tabulated f (suc i) n ns (omega (arith, l)) ∙ ap f (omega arith)

abbrev pub past-by : ℕ → List Node → ℕ
past-by i [] = i
past-by i (x ∷ xs) = past-by (suc i) xs

pub tabulated-more : (f g : ℕ → HideSet) (i : ℕ) (xs ys : List Node) → ((k : ℕ) → i ≤ k → k < i + length xs → g k ≡ f k) → tabulated g i (xs ++ ys) ≡ tabulated f i xs ++ tabulated g (past-by i xs) ys
tabulated-more f g i [] ys h = refl
tabulated-more f g i (x ∷ xs) ys h = λ j. h i (omega arith) (omega arith) j ∷ tabulated-more f g (suc i) xs ys (λ k a b. h k (omega (arith, a)) (omega (arith, b))) j

-- ---- whether a set has a name

pub has-own : (names : List Name) (ns : List Node) (n x : ℕ) (q : Name) → IsDistinct same_name names → x < length names → get_or names x [] ≡ q → member ns n x ≡ set.contains (hide_set names ns n) q
has-own names ns n x q d l is =
    let e : x ≡ 0 + x = omega arith in
    sym ((λ j. set.contains (hide_set names ns n) (sym is j)) ∙ contains-is names ns n (get_or names x []) d ∙ at-own (member ns n) 0 x names d l ∙ ap (member ns n) (sym e))

at-absent : (p : ℕ → Bool) (i : ℕ) (q : Name) (xs : List Name) → AllByRecursion (λ y. same_name q y ≡ false) xs → at_name p i q xs ≡ false
at-absent p i q [] h = refl
at-absent p i q (x ∷ xs) h = (λ j. if h.0 j then p i else at_name p (suc i) q xs) ∙ at-absent p (suc i) q xs h.1

pub has-none : (names : List Name) (ns : List Node) (n : ℕ) (q : Name) → IsDistinct same_name names → AllByRecursion (λ y. same_name q y ≡ false) names → false ≡ set.contains (hide_set names ns n) q
has-none names ns n q d h = sym (contains-is names ns n q d ∙ at-absent (member ns n) 0 q names h)

-- ---- sets don't change when nodes and names are added

pub hide_set-keeps : (names : List Name) (old new : List Node) (n : ℕ) → IsPool old → KeepsNodes old new → n < length old → hide_set names new n ≡ hide_set names old n
hide_set-keeps names old new n p k l = (λ j. set.from_list (selected (λ x. member-keeps old new n x p k l j) 0 names))

pub set-at : (names : List Name) (ns : List Node) (n : ℕ) → n < length ns → get_or (hide_sets names ns) n set.empty ≡ hide_set names ns n
set-at names ns n l = let e : 0 + n ≡ n = omega arith in at-tabulated (hide_set names ns) 0 n ns l ∙ ap (hide_set names ns) e

pub known-at : (names : List Name) (ns : List Node) (n : ℕ) → n < length ns → n < length (hide_sets names ns)
known-at names ns n l = subst (λ k. n < k) (sym (length-tabulated (hide_set names ns) 0 ns)) l

pub at-known : (names : List Name) (ns : List Node) (n : ℕ) → n < length (hide_sets names ns) → n < length ns
at-known names ns n l = subst (λ k. n < k) (length-tabulated (hide_set names ns) 0 ns) l

pub sets-keep : (names : List Name) (old new : List Node) → IsPool old → (k : KeepsNodes old new) → hide_sets names new ≡ hide_sets names old ++ tabulated (hide_set names new) (past-by 0 old) k.more
sets-keep names old new p k =
    (λ j. tabulated (hide_set names new) 0 (k.is j)) ∙ tabulated-more (hide_set names old) (hide_set names new) 0 old k.more (λ n a b. hide_set-keeps names old new n p k (omega (arith, b)))

-- New names are in no existing set.
selected-append : (p : ℕ → Bool) (i : ℕ) (xs ys : List Name) → ((k : ℕ) → i + length xs ≤ k → p k ≡ false) → selected p i (xs ++ ys) ≡ selected p i xs
selected-append p i [] [] h = refl
selected-append p i [] (y ∷ ys) h =
    let none : p i ≡ false = h i (omega arith) in
    let rest : selected p (suc i) ys ≡ [] = selected-append p (suc i) [] ys (λ k l. h k (omega (arith, l))) in
    (λ j. if none j then y ∷ selected p (suc i) ys else selected p (suc i) ys) ∙ rest
selected-append p i (x ∷ xs) ys h =
    let rest = selected-append p (suc i) xs ys (λ k l. h k (omega (arith, l))) in
    λ j. if p i then x ∷ rest j else rest j

pub set-named : (names more : List Name) (ns : List Node) (n : ℕ) → IsBounded (length names) ns → n < length ns → hide_set (names ++ more) ns n ≡ hide_set names ns n
set-named names more ns n b l = ap set.from_list (selected-append (member ns n) 0 names more (λ k past. not-true (member ns n k) (λ e. let w = b.each n k l e in absurd (omega (arith, w, past)))))

pub sets-named : (names more : List Name) (ns : List Node) → IsBounded (length names) ns → hide_sets (names ++ more) ns ≡ hide_sets names ns
sets-named names more ns b = tabulated-same (hide_set (names ++ more) ns) (hide_set names ns) 0 ns (λ n a l. set-named names more ns n b (omega (arith, l)))
  where
    tabulated-same : (f g : ℕ → HideSet) (i : ℕ) (xs : List Node) → ((k : ℕ) → i ≤ k → k < i + length xs → f k ≡ g k) → tabulated f i xs ≡ tabulated g i xs
    tabulated-same f g i [] h = refl
    tabulated-same f g i (x ∷ xs) h = λ j. h i (omega arith) (omega arith) j ∷ tabulated-same f g (suc i) xs (λ k a b. h k (omega (arith, a)) (omega (arith, b))) j

pub bounded-more : (names more : List Name) (ns : List Node) → IsBounded (length names) ns → IsBounded (length (names ++ more)) ns
bounded-more names more ns b = record { each = λ n x l e. let w = b.each n x l e in omega (arith, w, length-append names more) }

-- A node with one more member represents the set with the name of that member added.
at-one : (names : List Name) (x i : ℕ) (q r : Name) → IsDistinct same_name names → x < length names → get_or names x [] ≡ r → at_name (λ k. nat_eq k (i + x)) i q names ≡ same_name q r
at-one [] x i q r d l is = absurd (omega (arith, l))
at-one (y ∷ names) zero i q r d l is = elim (same_name q y) as (λ t. same_name q y ≡ t → (if t then nat_eq i (i + zero) else at_name (λ k. nat_eq k (i + zero)) (suc i) q names) ≡ same_name q r) [
  | true ↦ λ e. eq-eqb i (i + zero) (omega arith) ∙ sym e ∙ ap (same_name q) is
  | false ↦ λ e. past names (suc i) (omega arith) ∙ sym e ∙ ap (same_name q) is
] refl
  where
    past : (ys : List Name) (k : ℕ) → i + zero < k → at_name (λ k. nat_eq k (i + zero)) k q ys ≡ false
    past [] k h = refl
    past (z ∷ ys) k h =
        let no = differs k (i + zero) (λ e. omega (arith, e, h)) in
        let rest = past ys (suc k) (omega (arith, h)) in
        elim (same_name q z) as (λ t. (if t then nat_eq k (i + zero) else at_name (λ k. nat_eq k (i + zero)) (suc k) q ys) ≡ false) [ true ↦ no | false ↦ rest ]
at-one (y ∷ names) (suc x) i q r d l is =
    let e : suc i + x ≡ i + suc x = omega arith in
    let rest = sym (ap (λ m. at_name (λ k. nat_eq k m) (suc i) q names) e) ∙ at-one names x (suc i) q r (IsDistinct-tail same_name y names d) (omega (arith, l)) is in
    elim (same_name q y) as (λ t. same_name q y ≡ t → (if t then nat_eq i (i + suc x) else at_name (λ k. nat_eq k (i + suc x)) (suc i) q names) ≡ same_name q r) [
      | true ↦ λ s. differs i (i + suc x) (λ f. omega (arith, f))
          ∙ sym (not-true (same_name q r)
          (λ t. true≢false (sym (other-name y names x (IsDistinct-head same_name y names d) (omega (arith, l))
          ((λ j. same_name (is j) y) ∙ (λ j. same_name (sym (name-is q r t) j) y) ∙ s)))))
      | false ↦ λ s. rest
    ] refl

pub insert-is : (names : List Name) (old new : List Node) (a x n : ℕ) (r : Name)
    → IsDistinct same_name names
    → x < length names
    → get_or names x [] ≡ r
    → ((y : ℕ) → member new n y ≡ (nat_eq y x || member old a y))
    → hide_set names new n ≡ set.insert (hide_set names old a) r
insert-is names old new a x n r d l is h = same-by _ _ (λ q.
    let e : x ≡ 0 + x = omega arith in
    contains-is names new n q d
    ∙ at-same (member new n) (λ k. nat_eq k x || member old a k) 0 q names h
    ∙ at-both (λ b c. b || c) refl (λ k. nat_eq k x) (member old a) 0 q names
    ∙ (λ i. (ap (λ m. at_name (λ k. nat_eq k m) 0 q names) e ∙ at-one names x 0 q r d l is) i || sym (contains-is names old a q d) i)
    ∙ sym (set.contains-insert nat_list_cmp_total (hide_set names old a) r q))

selected-nothing : (p : ℕ → Bool) (i : ℕ) (xs : List Name) → ((k : ℕ) → p k ≡ false) → selected p i xs ≡ []
selected-nothing p i [] h = refl
selected-nothing p i (x ∷ xs) h = (λ j. if h i j then x ∷ selected p (suc i) xs else selected p (suc i) xs) ∙ selected-nothing p (suc i) xs h

pub hide-none : (names : List Name) (ns : List Node) (n : ℕ) → ((x : ℕ) → member ns n x ≡ false) → hide_set names ns n ≡ set.empty
hide-none names ns n h = ap set.from_list (selected-nothing (member ns n) 0 names h)

pub union-none : (s : HideSet) → set.union set.empty s ≡ s
union-none s = same-by _ _ (λ q. set.contains-union nat_list_cmp_total set.empty s q ∙ (λ i. set.contains-empty (slice_cmp nat_cmp) q i || set.contains s q))

-- The union of a set and the set with one more name is the latter.
pub insert-hsadd : (s : HideSet) (r : Name) → set.insert s r ≡ set.union s (set.insert s r)
insert-hsadd s r = same-by _ _ (λ q.
    set.contains-insert nat_list_cmp_total s r q
    ∙ once (same_name q r) (set.contains s q)
    ∙ (λ i. set.contains s q || sym (set.contains-insert nat_list_cmp_total s r q) i)
    ∙ sym (set.contains-union nat_list_cmp_total s (set.insert s r) q))
  where
    once : (a b : Bool) → (a || b) ≡ (b || (a || b))
    once true true = refl
    once true false = refl
    once false true = refl
    once false false = refl

-- ---- sets of names that exist already

past-names : (names : List Name) (ns : List Node) → IsNamed names ns → (n x : ℕ) → n < length ns → length names ≤ x → member ns n x ≡ false
past-names names ns d n x l h = not-true (member ns n x) (λ t. let w = d.within n x l t in absurd (omega (arith, w, h)))

-- A node that represents the result of an operation on two sets has the members of the result.
pub made-members : (o : Operation) (names : List Name) (ns : List Node) (a b n : ℕ)
    → IsNamed names ns
    → a < length ns
    → b < length ns
    → n < length ns
    → hide_set names ns n ≡ made_of o (hide_set names ns a) (hide_set names ns b)
    → (x : ℕ)
    → member ns n x ≡ member_rule o (member ns a x) (member ns b x)
made-members o names ns a b n d la lb ln e x = split (cases_lt x (length names))
  where
    split : (x < length names) ⊎ (length names ≤ x) → member ns n x ≡ member_rule o (member ns a x) (member ns b x)
    split (inl l) =
        let q = get_or names x [] in
        let at : (k : ℕ) → member ns k x ≡ set.contains (hide_set names ns k) q = λ k. has-own names ns k x q d.distinct l refl in
        at n ∙ ap (λ s. set.contains s q) e ∙ contains-made o (hide_set names ns a) (hide_set names ns b) q ∙ (λ i. member_rule o (sym (at a) i) (sym (at b) i))
    split (inr l) = past-names names ns d n x ln l ∙ sym ((λ i. member_rule o (past-names names ns d a x la l i) (past-names names ns d b x lb l i)) ∙ member_rule-none o)

-- A node that represents a set with one more name has the set's members and the number of the name.
pub more-members : (names : List Name) (ns : List Node) (a x n : ℕ) (r : Name)
    → IsNamed names ns
    → a < length ns
    → n < length ns
    → x < length names
    → get_or names x [] ≡ r
    → hide_set names ns n ≡ set.insert (hide_set names ns a) r
    → (y : ℕ)
    → member ns n y ≡ (nat_eq y x || member ns a y)
more-members names ns a x n r d la ln lx is e y = split (cases_lt y (length names))
  where
    split : (y < length names) ⊎ (length names ≤ y) → member ns n y ≡ (nat_eq y x || member ns a y)
    split (inl l) =
        let q = get_or names y [] in
        let at : (k : ℕ) → member ns k y ≡ set.contains (hide_set names ns k) q = λ k. has-own names ns k y q d.distinct l refl in
        let zx : 0 + x ≡ x = omega arith in
        let zy : 0 + y ≡ y = omega arith in
        let same : same_name q r ≡ nat_eq y x = sym (at-one names x 0 q r d.distinct lx is) ∙ at-own (λ k. nat_eq k (0 + x)) 0 y names d.distinct l ∙ (λ i. nat_eq (zy i) (zx i)) in
        at n ∙ ap (λ s. set.contains s q) e ∙ set.contains-insert nat_list_cmp_total (hide_set names ns a) r q ∙ (λ i. same i || sym (at a) i)
    split (inr l) =
        let apart = differs y x (λ h. omega (arith, h, lx, l)) in
        past-names names ns d n y ln l ∙ sym (λ i. apart i || past-names names ns d a y la l i)

-- If a node represents a set into which a name was inserted, the name has a number.
pub more-named : (names : List Name) (ns : List Node) (n : ℕ) (s : HideSet) (r : Name)
    → IsDistinct same_name names
    → hide_set names ns n ≡ set.insert s r
    → ¬ (AllByRecursion (λ y. same_name r y ≡ false) names)
more-named names ns n s r d e none =
    true≢false (sym (ap (λ t. set.contains t r) e ∙ set.contains-insert nat_list_cmp_total s r r ∙ (λ i. name-self r i || set.contains s r)) ∙ sym (has-none names ns n r d none))
