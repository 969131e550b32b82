-- Cached results of pairs, while nodes and pairs are added.
use Rattle.std.proofs.Common.{◌≡◌, ℕ, ◌<◌, Bool, true, false, cond, ◌&&◌, ◌||◌, nat_eq, List, [], ◌∷◌, ◌++◌, Option, Some, None, length, refl, sym, ap, ◌∙◌, subst, if◌then◌else◌}
use Rattle.std.proofs.Math.Bool as bool
use Rattle.std.proofs.lemmas.Bool.{eqb-true, eq-eqb, and_parts}
use Rattle.ppmacro.specs.code.Nodes.{Node, member, word, IsPool, KeepsNodes}
use Rattle.ppmacro.specs.code.Operations.{Operation, Union, Intersection, member_rule, word_rule, known}
use Rattle.ppmacro.specs.PairCache.{CachedPairs, same_pair, cached_result}
use Rattle.ppmacro.specs.code.PoolInvariant.{IsCachedResult, AreCachedResults}
use Rattle.std.specs.Int.RustNames.{bit_or, bit_and}
use Rattle.ppmacro.proofs.Tries.{member-keeps, length-keeps, member-none, word-none, or_none, none_or, or_self, none_and, and_none, and_self}

pub combined-put : (ps : CachedPairs) (a b n : ℕ) → cached_result ps a b ≡ None → cached_result (ps ++ ((a, b), n) ∷ []) a b ≡ Some n
combined-put [] a b n h = ap (λ t. cond t (Some n) None) (λ i. eq-eqb a a refl i && eq-eqb b b refl i)
combined-put (e ∷ ps) a b n h = elim (same_pair (a, b) e.0) as (λ t. cond t (Some e.1) (cached_result ps a b) ≡ None → cond t (Some e.1) (cached_result (ps ++ ((a, b), n) ∷ []) a b) ≡ Some n) [
  | true ↦ λ g. absurd (cc g)
  | false ↦ λ g. combined-put ps a b n g
] h

-- A pair that is neither trivial nor cached.
pub record IsUnknown (ps : CachedPairs) (a b : ℕ) : Type 0 where
  pub left : nat_eq a 0 ≡ false
  pub right : nat_eq b 0 ≡ false
  pub apart : nat_eq a b ≡ false
  pub none : cached_result ps a b ≡ None

none-chosen : (x y z : Bool) (p q r : ℕ) (o : Option ℕ) → (if x then Some p else (if y then Some q else (if z then Some r else o))) ≡ None → (x ≡ false) × (y ≡ false) × (z ≡ false) × (o ≡ None)
none-chosen true y z p q r o h = absurd (cc h)
none-chosen false true z p q r o h = absurd (cc h)
none-chosen false false true p q r o h = absurd (cc h)
none-chosen false false false p q r o h = (refl, refl, refl, h)

pub unknown : (o : Operation) (ps : CachedPairs) (a b : ℕ) → known o ps a b ≡ None → IsUnknown ps a b
unknown Union ps a b h = let c = none-chosen (nat_eq a 0) (nat_eq b 0) (nat_eq a b) b a a (cached_result ps a b) h in record { left = c.0; right = c.1; apart = c.2; none = c.3 }
unknown Intersection ps a b h = let c = none-chosen (nat_eq a 0) (nat_eq b 0) (nat_eq a b) a b a (cached_result ps a b) h in record { left = c.0; right = c.1; apart = c.2; none = c.3 }

-- A pair that wasn't known is known after its result is cached.
pub known-by : (o : Operation) (old new : CachedPairs) (a b n : ℕ) → IsUnknown old a b → cached_result new a b ≡ Some n → known o new a b ≡ Some n
known-by Union old new a b n u h = rw (u.left, u.right, u.apart) h
known-by Intersection old new a b n u h = rw (u.left, u.right, u.apart) h

-- ---- results

pub results-keep : (op : Bool → Bool → Bool) (old new : List Node) (ps : CachedPairs) → IsPool old → KeepsNodes old new → AreCachedResults op old ps → AreCachedResults op new ps
results-keep op old new [] p k h = record { each = tt }
results-keep op old new (e ∷ ps) p k h =
    let rest = results-keep op old new ps p k (record { each = h.each.1 }) in
    let a = h.each.0 in
    record {
      each = (
        record {
          left = length-keeps old new e.0.0 k a.left;
          right = length-keeps old new e.0.1 k a.right;
          within = length-keeps old new e.1 k a.within;
          is = λ x. member-keeps old new e.1 x p k a.within ∙ a.is x ∙ (λ i. op (sym (member-keeps old new e.0.0 x p k a.left) i) (sym (member-keeps old new e.0.1 x p k a.right) i));
        },
        rest.each,
      );
    }

pub results-put : (op : Bool → Bool → Bool) (ns : List Node) (ps : CachedPairs) (e : (ℕ × ℕ) × ℕ) → AreCachedResults op ns ps → IsCachedResult op ns e → AreCachedResults op ns (ps ++ e ∷ [])
results-put op ns [] e h k = record { each = (k, tt) }
results-put op ns (f ∷ ps) e h k =
    let rest = results-put op ns ps e (record { each = h.each.1 }) k in
    record { each = (h.each.0, rest.each) }

found : (op : Bool → Bool → Bool) (ns : List Node) (ps : CachedPairs) (a b n : ℕ) → AreCachedResults op ns ps → cached_result ps a b ≡ Some n → IsCachedResult op ns ((a, b), n)
found op ns [] a b n h e = absurd (cc e)
found op ns (f ∷ ps) a b n h e = elim (same_pair (a, b) f.0) as (λ t. same_pair (a, b) f.0 ≡ t → cond t (Some f.1) (cached_result ps a b) ≡ Some n → IsCachedResult op ns ((a, b), n)) [
  | true ↦ λ p g. (let parts = and_parts (nat_eq a f.0.0) (nat_eq b f.0.1) p in
      let one : a ≡ f.0.0 = eqb-true a f.0.0 parts.0 in
      let two : b ≡ f.0.1 = eqb-true b f.0.1 parts.1 in
      let three : f.1 ≡ n = cc g in
      subst (λ z. IsCachedResult op ns ((a, b), z)) three (subst (λ z. IsCachedResult op ns ((a, z), f.1)) (sym two) (subst (λ z. IsCachedResult op ns ((z, f.0.1), f.1)) (sym one) h.each.0)))
  | false ↦ λ p g. found op ns ps a b n (record { each = h.each.1 }) g
] refl e

-- The set n has the members of the result of `op` on the sets a and b.
pub record IsMade (op : Bool → Bool → Bool) (ns : List Node) (a b n : ℕ) : Type 0 where
  pub within : n < length ns
  pub is : (x : ℕ) → member ns n x ≡ op (member ns a x) (member ns b x)

-- If P holds for the result in each case, P holds for the known result.
by-case : (P : ℕ → Type 0) (a b p q r n : ℕ) (o : Option ℕ)
    → (a ≡ 0 → P p)
    → (b ≡ 0 → P q)
    → (a ≡ b → P r)
    → (o ≡ Some n → P n)
    → (if nat_eq a 0 then Some p else (if nat_eq b 0 then Some q else (if nat_eq a b then Some r else o))) ≡ Some n
    → P n
by-case P a b p q r n o first second same other e = at (nat_eq a 0) (nat_eq b 0) (nat_eq a b) (λ h. first (eqb-true a 0 h)) (λ h. second (eqb-true b 0 h)) (λ h. same (eqb-true a b h)) e
  where
    at : (x y z : Bool) → (x ≡ true → P p) → (y ≡ true → P q) → (z ≡ true → P r) → (if x then Some p else (if y then Some q else (if z then Some r else o))) ≡ Some n → P n
    at true y z f g h e = let is : p ≡ n = cc e in subst P is (f refl)
    at false true z f g h e = let is : q ≡ n = cc e in subst P is (g refl)
    at false false true f g h e = let is : r ≡ n = cc e in subst P is (h refl)
    at false false false f g h e = other e

none-at : (ns : List Node) (a x : ℕ) → IsPool ns → a ≡ 0 → member ns a x ≡ false
none-at ns a x pool e = (λ i. member ns (e i) x) ∙ member-none ns x pool.empty

pub known-is : (o : Operation) (ns : List Node) (ps : CachedPairs) (a b n : ℕ) → IsPool ns → AreCachedResults (member_rule o) ns ps → a < length ns → b < length ns → known o ps a b ≡ Some n → IsMade (member_rule o) ns a b n
known-is Union ns ps a b n pool h la lb = by-case (IsMade (member_rule Union) ns a b) a b b a a n (cached_result ps a b)
    (λ e. record { within = lb; is = λ x i. sym (none-at ns a x pool e) i || member ns b x })
    (λ e. record { within = la; is = λ x. sym (bool.or-false (member ns a x)) ∙ (λ i. member ns a x || sym (none-at ns b x pool e) i) })
    (λ e. record { within = la; is = λ x. sym (bool.or_self (member ns a x)) ∙ (λ i. member ns a x || member ns (e i) x) })
    (λ e. let k = found (member_rule Union) ns ps a b n h e in record { within = k.within; is = k.is })
known-is Intersection ns ps a b n pool h la lb = by-case (IsMade (member_rule Intersection) ns a b) a b a b a n (cached_result ps a b)
    (λ e. record { within = la; is = λ x. none-at ns a x pool e ∙ (λ i. sym (none-at ns a x pool e) i && member ns b x) })
    (λ e. record { within = lb; is = λ x. none-at ns b x pool e ∙ sym (bool.and-false (member ns a x)) ∙ (λ i. member ns a x && sym (none-at ns b x pool e) i) })
    (λ e. record { within = la; is = λ x. sym (bool.and_self (member ns a x)) ∙ (λ i. member ns a x && member ns (e i) x) })
    (λ e. let k = found (member_rule Intersection) ns ps a b n h e in record { within = k.within; is = k.is })

pub is-combined : (op : Bool → Bool → Bool) (old new : List Node) (a b n : ℕ)
    → IsPool old
    → KeepsNodes old new
    → a < length old
    → b < length old
    → n < length new
    → ((x : ℕ) → member new n x ≡ op (member old a x) (member old b x))
    → IsCachedResult op new ((a, b), n)
is-combined op old new a b n p k la lb ln is = record {
  left = length-keeps old new a k la;
  right = length-keeps old new b k lb;
  within = ln;
  is = λ x. is x ∙ (λ i. op (sym (member-keeps old new a x p k la) i) (sym (member-keeps old new b x p k lb) i));
}

-- The set n has the words of the result of the operation on the sets a and b.
pub record IsSettled (o : Operation) (ns : List Node) (a b n : ℕ) : Type 0 where
  pub within : n < length ns
  pub is : (w : ℕ) → word ns n w ≡ word_rule o (word ns a w) (word ns b w)

no-word : (ns : List Node) (a w : ℕ) → IsPool ns → a ≡ 0 → word ns a w ≡ 0
no-word ns a w pool e = (λ i. word ns (e i) w) ∙ word-none ns w pool.empty

pub trivial_result-is : (o : Operation) (ns : List Node) (a b n : ℕ) → IsPool ns → a < length ns → b < length ns → known o [] a b ≡ Some n → IsSettled o ns a b n
trivial_result-is Union ns a b n pool la lb = by-case (IsSettled Union ns a b) a b b a a n None
    (λ e. record { within = lb; is = λ w. sym (none_or (word ns b w)) ∙ (λ i. bit_or (sym (no-word ns a w pool e) i) (word ns b w)) })
    (λ e. record { within = la; is = λ w. sym (or_none (word ns a w)) ∙ (λ i. bit_or (word ns a w) (sym (no-word ns b w pool e) i)) })
    (λ e. record { within = la; is = λ w. sym (or_self (word ns a w)) ∙ (λ i. bit_or (word ns a w) (word ns (e i) w)) })
    (λ e. absurd (cc e))
trivial_result-is Intersection ns a b n pool la lb = by-case (IsSettled Intersection ns a b) a b a b a n None
    (λ e. record { within = la; is = λ w. no-word ns a w pool e ∙ sym (none_and (word ns b w)) ∙ (λ i. bit_and (sym (no-word ns a w pool e) i) (word ns b w)) })
    (λ e. record { within = lb; is = λ w. no-word ns b w pool e ∙ sym (and_none (word ns a w)) ∙ (λ i. bit_and (word ns a w) (sym (no-word ns b w pool e) i)) })
    (λ e. record { within = la; is = λ w. sym (and_self (word ns a w)) ∙ (λ i. bit_and (word ns a w) (word ns (e i) w)) })
    (λ e. absurd (cc e))
