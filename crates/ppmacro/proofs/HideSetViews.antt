-- The hide sets as callers and contracts see them.
use Rattle.std.proofs.Common.{◌≡◌, ℕ, ◌<◌, ◌||◌, ◌++◌, nat_eq, [], List, length, get_or, refl, sym, ap, ◌∙◌, subst, append-nil}
use Rattle.std.specs.FinSet as set
use Rattle.std.specs.List.{IsDistinct}
use Rattle.std.specs.HashSet.{hasher_of}
use Rattle.pptext.specs.declared.hashing.Hashing.{Hashing}
use Rattle.ppmacro.specs.declared.hide_sets.HideSets.TheInside.{Inside}
use Rattle.ppmacro.specs.Names.{Name}
use Rattle.ppmacro.specs.code.Nodes as nodes
use Rattle.ppmacro.specs.code.Nodes.{Node, IsPool, member, IsBounded}
use Rattle.ppmacro.specs.code.Members.{same_name, hide_set, hide_sets, tabulated}
use Rattle.ppmacro.specs.code.Operations.{Operation, Union, Intersection, member_rule}
use Rattle.ppmacro.specs.PairCache.{CachedPairs, KeepsPairs}
use Rattle.ppmacro.specs.HideSetPool.{HideSetPool}
use Rattle.ppmacro.specs.HideSets.{set_at, IsKnown, KeepsSets}
use Rattle.ppmacro.specs.code.PoolInvariant.{AreCachedResults, IsAddition, IsConsistentPool}
use Rattle.ppmacro.specs.declared.hide_sets.additions.Addition.{Addition}
use Rattle.ppmacro.proofs.NodeHideSets.{IsNamed, made_of, set-at, known-at, at-known, sets-keep, past-by, made-is, sets_are_unique-names, sets-named, bounded-more, insert-is, set-named, hide-none, made-members, more-members}
use Rattle.ppmacro.proofs.PoolGrowthLemmas.{pairs-are}
use Rattle.ppmacro.proofs.CachedResults.{results-keep}
use Rattle.ppmacro.proofs.Tries.{member-none}

-- A known number is the number of a node.
pub node-known : (names : List Name) (ns : List Node) (v : HideSetPool) (n m : ℕ) → hide_sets names ns ≡ v.sets → n ≡ m → IsKnown v m → n < length ns
node-known names ns v n m is same k = at-known names ns n (subst (λ ss. n < length ss) (sym is) (subst (IsKnown v) (sym same) k))

pub known-seen : (names : List Name) (ns : List Node) (v : HideSetPool) (n m : ℕ) → hide_sets names ns ≡ v.sets → n ≡ m → n < length ns → IsKnown v m
known-seen names ns v n m is same l = subst (IsKnown v) same (subst (λ ss. n < length ss) is (known-at names ns n l))

pub set-seen : (names : List Name) (ns : List Node) (v : HideSetPool) (n m : ℕ) → hide_sets names ns ≡ v.sets → n ≡ m → n < length ns → hide_set names ns n ≡ set_at v m
set-seen names ns v n m is same l = sym (set-at names ns n l) ∙ (λ i. get_or (is i) (same i) set.empty)

-- The first node represents the empty set.
pub empty-seen : (names : List Name) (ns : List Node) (v : HideSetPool) (m : ℕ) → hide_sets names ns ≡ v.sets → 0 ≡ m → IsPool ns → set_at v m ≡ set.empty
empty-seen names ns v m is same p = sym (set-seen names ns v 0 m is same p.some) ∙ hide-none names ns 0 (λ x. member-none ns x p.empty)

pub sets_are_unique-seen : (names : List Name) (ns : List Node) (us ms : CachedPairs) (v : HideSetPool) (m n : ℕ) → hide_sets names ns ≡ v.sets → IsConsistentPool names ns us ms → IsKnown v m → IsKnown v n → set_at v m ≡ set_at v n → m ≡ n
sets_are_unique-seen names ns us ms v m n is k km kn e =
    let named : IsNamed names ns = record { distinct = k.distinct; within = λ n x l e. k.bounded.each n x l e } in
    let lm = node-known names ns v m m is refl km in
    let ln = node-known names ns v n n is refl kn in
    sets_are_unique-names names ns m n k.pool named lm ln (set-seen names ns v m m is refl lm ∙ e ∙ sym (set-seen names ns v n n is refl ln))

-- ---- nodes are added by an operation

-- The fields as callers see them.
abbrev seen : Inside → HideSetPool
seen s = record { sets = hide_sets s.names.names s.nodes.keys; unions = s.unions.results; intersections = s.intersections.results; hashing = hasher_of s.nodes }

-- A known number in a precondition is the number of a node.
pub node-asked : (s : Inside) {v : HideSetPool} {n m : ℕ} → seen s ≡ v → n ≡ m → IsKnown v m → n < length s.nodes.keys
node-asked s {v = v} is same k = node-known s.names.names s.nodes.keys v _ _ (ap (λ v. v.sets) is) same k

pub keeps-seen : (s : Inside) (new : List Node) {v : HideSetPool} {us ms : CachedPairs} {hashing : Hashing}
    → seen s ≡ v
    → hashing ≡ hasher_of s.nodes
    → IsPool s.nodes.keys
    → nodes.KeepsNodes s.nodes.keys new
    → KeepsPairs s.unions.results us
    → KeepsPairs s.intersections.results ms
    → KeepsSets v (record { sets = hide_sets s.names.names new; unions = us; intersections = ms; hashing = hashing })
keeps-seen s new {us = us} {ms = ms} is hashed p k unions intersections = record {
  more = tabulated (hide_set s.names.names new) (past-by 0 s.nodes.keys) k.more;
  is = sets-keep s.names.names s.nodes.keys new p k ∙ ap (λ v. v.sets ++ tabulated (hide_set s.names.names new) (past-by 0 s.nodes.keys) k.more) is;
  unions = subst (λ ps. KeepsPairs ps us) (ap (λ v. v.unions) is) unions;
  intersections = subst (λ ps. KeepsPairs ps ms) (ap (λ v. v.intersections) is) intersections;
  hashing = hashed ∙ ap (λ v. v.hashing) is;
}

-- The result of an operation on two sets.
pub made-seen : (o : Operation) (s : Inside) (new : List Node) {v : HideSetPool} {a b a' b' n : ℕ}
    → seen s ≡ v
    → IsDistinct same_name s.names.names
    → a ≡ a'
    → b ≡ b'
    → IsKnown v a'
    → IsKnown v b'
    → n < length new
    → ((x : ℕ) → member new n x ≡ member_rule o (member s.nodes.keys a x) (member s.nodes.keys b x))
    → get_or (hide_sets s.names.names new) n set.empty ≡ made_of o (set_at v a') (set_at v b')
made-seen o s new {v = v} {a = a} {b = b} {n = n} is d sa sb ka kb ln h =
    let old = s.nodes.keys in
    let sets = ap (λ v. v.sets) is in
    set-at s.names.names new n ln ∙ made-is o s.names.names old new a b n d h
    ∙ (λ i. made_of o (set-seen s.names.names old v _ _ sets sa (node-asked s is sa ka) i) (set-seen s.names.names old v _ _ sets sb (node-asked s is sb kb) i))

-- The invariant of the fields holds for new nodes, and for new cached pairs of this operation.
abbrev AreKeptThen : Operation → Inside → List Node → CachedPairs → Type 0
AreKeptThen Union s new ps = IsConsistentPool s.names.names new ps s.intersections.results
AreKeptThen Intersection s new ps = IsConsistentPool s.names.names new s.unions.results ps

pub selected-made : (o : Operation) (s : Inside) {new : List Node} {ps : CachedPairs}
    → IsConsistentPool s.names.names s.nodes.keys s.unions.results s.intersections.results
    → IsPool new
    → nodes.KeepsNodes s.nodes.keys new
    → ((limit : ℕ) → IsBounded limit s.nodes.keys → IsBounded limit new)
    → AreCachedResults (member_rule o) new ps
    → AreKeptThen o s new ps
selected-made Union s {new = new} k p keeps bounded results =
    record {
      distinct = k.distinct;
      pool = p;
      bounded = bounded (length s.names.names) k.bounded;
      unions = results;
      intersections = results-keep (member_rule Intersection) s.nodes.keys new s.intersections.results k.pool keeps k.intersections;
    }
selected-made Intersection s {new = new} k p keeps bounded results =
    record { distinct = k.distinct; pool = p; bounded = bounded (length s.names.names) k.bounded; unions = results-keep (member_rule Union) s.nodes.keys new s.unions.results k.pool keeps k.unions; intersections = results }

-- ---- names and nodes are added

pub keeps-named : (names more after : List Name) (old new : List Node) (us ms : CachedPairs) (hashing hashed : Hashing) (v w : HideSetPool)
    → after ≡ names ++ more
    → hashed ≡ hashing
    → record { sets = hide_sets names old; unions = us; intersections = ms; hashing = hashing } ≡ v
    → record { sets = hide_sets after new; unions = us; intersections = ms; hashing = hashed } ≡ w
    → IsConsistentPool names old us ms
    → nodes.KeepsNodes old new
    → KeepsSets v w
keeps-named names more after old new us ms hashing hashed v w grown same is now p k = record {
  more = tabulated (hide_set after new) (past-by 0 old) k.more;
  is = sym (ap (λ w. w.sets) now) ∙ sets-keep after old new p.pool k
      ∙ ap (λ ss. ss ++ tabulated (hide_set after new) (past-by 0 old) k.more) ((λ i. hide_sets (grown i) old) ∙ sets-named names more old p.bounded ∙ ap (λ v. v.sets) is);
  unions = pairs-are (sym (ap (λ v. v.unions) is) ∙ ap (λ w. w.unions) now);
  intersections = pairs-are (sym (ap (λ v. v.intersections) is) ∙ ap (λ w. w.intersections) now);
  hashing = sym (ap (λ w. w.hashing) now) ∙ same ∙ ap (λ v. v.hashing) is;
}

pub selected-named : (names more after : List Name) (old new : List Node) (us ms : CachedPairs) (n : ℕ)
    → after ≡ names ++ more
    → IsDistinct same_name after
    → n < length after
    → IsConsistentPool names old us ms
    → IsPool new
    → nodes.KeepsNodes old new
    → ((limit : ℕ) → n < limit → IsBounded limit old → IsBounded limit new)
    → IsConsistentPool after new us ms
selected-named names more after old new us ms n grown d l k p keeps bounded = record {
  distinct = d;
  pool = p;
  bounded = bounded (length after) l (subst (λ ms. IsBounded (length ms) old) (sym grown) (bounded-more names more old k.bounded));
  unions = results-keep (member_rule Union) old new us k.pool keeps k.unions;
  intersections = results-keep (member_rule Intersection) old new ms k.pool keeps k.intersections;
}

pub with-seen : (names more after : List Name) (old new : List Node) (v : HideSetPool) (a a' x n : ℕ) (q : Name)
    → after ≡ names ++ more
    → IsDistinct same_name after
    → x < length after
    → get_or after x [] ≡ q
    → hide_sets names old ≡ v.sets
    → IsBounded (length names) old
    → a ≡ a'
    → a < length old
    → n < length new
    → ((y : ℕ) → member new n y ≡ (nat_eq y x || member old a y))
    → get_or (hide_sets after new) n set.empty ≡ set.insert (set_at v a') q
with-seen names more after old new v a a' x n q grown d lx at is bounded same la ln h =
    set-at after new n ln ∙ insert-is after old new a x n q d lx at h
    ∙ ap (λ s. set.insert s q) ((λ i. hide_set (grown i) old a) ∙ set-named names more old a bounded la ∙ set-seen names old v a a' is same la)

-- A cached addition is the set with one more name.
pub cached-seen : (s : Inside) {v : HideSetPool} {a' : ℕ} (e : Addition) (q : Name)
    → seen s ≡ v
    → IsConsistentPool s.names.names s.nodes.keys s.unions.results s.intersections.results
    → IsAddition (length s.names.names) s.nodes.keys e
    → e.base ≡ a'
    → get_or s.names.names e.name [] ≡ q
    → set_at v e.result ≡ set.insert (set_at v a') q
cached-seen s {v = v} {a' = a'} e q is k h same at =
    let names = s.names.names in
    let ns = s.nodes.keys in
    ap (λ w. set_at w e.result) (sym is)
    ∙ with-seen names [] names ns ns v e.base a' e.name e.result q (sym (append-nil names)) k.distinct h.name at (ap (λ w. w.sets) is) k.bounded same h.base h.within h.is

-- ---- sets that exist already

named-by : {names : List Name} {ns : List Node} {us ms : CachedPairs} → IsConsistentPool names ns us ms → IsNamed names ns
named-by k = record { distinct = k.distinct; within = λ n x l e. k.bounded.each n x l e }

-- The set with one more name, if it exists already.
pub more-there : (s : Inside) {v : HideSetPool} {a a' : ℕ} (n : ℕ) (q : Name)
    → seen s ≡ v
    → a ≡ a'
    → IsKnown v a'
    → IsKnown v n
    → set_at v n ≡ set.insert (set_at v a') q
    → hide_set s.names.names s.nodes.keys n ≡ set.insert (hide_set s.names.names s.nodes.keys a) q
more-there s {v = v} {a = a} {a' = a'} n q is same ka kn e =
    let sets = ap (λ v. v.sets) is in
    set-seen s.names.names s.nodes.keys v n n sets refl (node-asked s is refl kn)
    ∙ e
    ∙ ap (λ t. set.insert t q) (sym (set-seen s.names.names s.nodes.keys v a a' sets same (node-asked s is same ka)))

pub more-seen : (s : Inside) {v : HideSetPool} {a a' : ℕ} (n x : ℕ) (q : Name)
    → seen s ≡ v
    → IsConsistentPool s.names.names s.nodes.keys s.unions.results s.intersections.results
    → a ≡ a'
    → IsKnown v a'
    → IsKnown v n
    → x < length s.names.names
    → get_or s.names.names x [] ≡ q
    → set_at v n ≡ set.insert (set_at v a') q
    → (y : ℕ)
    → member s.nodes.keys n y ≡ (nat_eq y x || member s.nodes.keys a y)
more-seen s {a = a} n x q is k same ka kn lx at e =
    more-members s.names.names s.nodes.keys a x n q (named-by k) (node-asked s is same ka) (node-asked s is refl kn) lx at (more-there s n q is same ka kn e)

-- The result of an operation on two sets, if it exists already.
pub both-seen : (o : Operation) (s : Inside) {v : HideSetPool} {a b a' b' : ℕ} (n : ℕ)
    → seen s ≡ v
    → IsConsistentPool s.names.names s.nodes.keys s.unions.results s.intersections.results
    → a ≡ a'
    → b ≡ b'
    → IsKnown v a'
    → IsKnown v b'
    → IsKnown v n
    → set_at v n ≡ made_of o (set_at v a') (set_at v b')
    → (x : ℕ)
    → member s.nodes.keys n x ≡ member_rule o (member s.nodes.keys a x) (member s.nodes.keys b x)
both-seen o s {v = v} {a = a} {b = b} n is k sa sb ka kb kn e =
    let sets = ap (λ v. v.sets) is in
    let la = node-asked s is sa ka in
    let lb = node-asked s is sb kb in
    let ln = node-asked s is refl kn in
    made-members o s.names.names s.nodes.keys a b n (named-by k) la lb ln
    (set-seen s.names.names s.nodes.keys v n n sets refl ln
    ∙ e
    ∙ (λ i. made_of o (sym (set-seen s.names.names s.nodes.keys v _ _ sets sa la) i) (sym (set-seen s.names.names s.nodes.keys v _ _ sets sb lb) i)))
