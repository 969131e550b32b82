-- Sets of numbers as tries of 64-bit words.
use Rattle.std.proofs.Common.{◌≡◌, ℕ, zero, suc, ◌<◌, ◌+◌, ◌-◌, ◌*◌, ◌/◌, ◌%◌, ◌^◌, Bool, true, false, ◌||◌, ◌&&◌, nat_eq, max}
use Rattle.std.proofs.Common.{min, List, [], ◌∷◌, ◌++◌, length, refl, sym, ap, ◌∙◌, subst, arith, append-nil, length-append}
use Rattle.std.proofs.Common.{true≢false, if◌then◌else◌, ◌⊎◌, inl, inr, Some, slice_get, ◌≤◌, ◌↔◌}
use Rattle.std.proofs.lemmas.List.{get_or_append_left}
use Rattle.std.proofs.lemmas.Bool.{eqb-true, eq-eqb, cases_lt, and_parts}
use Rattle.std.proofs.lemmas.List.Folds.{list_any_at}
use Rattle.std.proofs.lemmas.List.Quantifiers.{position-Some}
use Rattle.std.proofs.lemmas.Nat.{and_le_l, and_le_r, or_comm, or_disjoint}
use Rattle.std.proofs.lemmas.Nat.Bits.{bit_at_or, bit_at_and, bit_at-zero, bit_at-lt, bit_at-pow_same, bit_at-pow_other, same_from_bits, same_from_bits_below}
use Rattle.std.specs.Int.{bit_at}
use Rattle.std.specs.Int.RustNames.{bit_or, bit_and}
use Rattle.std.specs.List.{list_any, position}
use Rattle.std.specs.Bool.{Decides}
use Rattle.indexmap.specs.IndexSet.{insert_key}
use Rattle.ppmacro.specs.code.Operations.{Operation, Union, Intersection, member_rule, word_rule}
use Rattle.ppmacro.specs.code.Nodes.{Node, no_node, node_at, node_word, word_below, word, word_with, has_bit, member, PointsBelow, IsPool, KeepsNodes, IsBounded, initial_nodes}

-- ---- words

pub or_none : (a : ℕ) → bit_or a 0 ≡ a
or_none a = or_disjoint a 0 (omega (arith, and_le_r a 0)) ∙ omega arith

pub none_or : (a : ℕ) → bit_or 0 a ≡ a
none_or a = or_comm 0 a ∙ or_none a

pub or_self : (a : ℕ) → bit_or a a ≡ a
or_self a = same_from_bits (bit_or a a) a (λ i. bit_at_or a a i ∙ max-self (bit_at a i))
  where
    max-self : (p : ℕ) → max p p ≡ p
    max-self p = omega arith

pub and_none : (a : ℕ) → bit_and a 0 ≡ 0
and_none a = omega (arith, and_le_r a 0)

pub none_and : (a : ℕ) → bit_and 0 a ≡ 0
none_and a = omega (arith, and_le_l 0 a)

pub and_self : (a : ℕ) → bit_and a a ≡ a
and_self a = same_from_bits (bit_and a a) a (λ i. bit_at_and a a i ∙ min-self (bit_at a i))
  where
    min-self : (p : ℕ) → min p p ≡ p
    min-self p = omega arith

no-bit : (i : ℕ) → has_bit 0 i ≡ false
no-bit i = λ j. nat_eq (bit_at-zero i j) 1

not-one : (p : ℕ) → p < 2 → nat_eq p 1 ≡ false → p ≡ 0
not-one p l h = let no : ¬ (p ≡ 1) = λ z. true≢false (sym (eq-eqb p 1 z) ∙ h) in omega (arith, l, no)

same-bit : (a b i : ℕ) → has_bit a i ≡ has_bit b i → bit_at a i ≡ bit_at b i
same-bit a b i = same (bit_at a i) (bit_at b i) (bit_at-lt a i) (bit_at-lt b i)
  where
    same : (p q : ℕ) → p < 2 → q < 2 → nat_eq p 1 ≡ nat_eq q 1 → p ≡ q
    same p q lp lq e = elim (nat_eq p 1) as (λ t. nat_eq p 1 ≡ t → t ≡ nat_eq q 1 → p ≡ q) [
      | true ↦ λ h g. eqb-true p 1 h ∙ sym (eqb-true q 1 (sym g))
      | false ↦ λ h g. not-one p lp h ∙ sym (not-one q lq (sym g))
    ] refl e

-- Each bit of a union or intersection of two words is the `member_rule` of both bits.
bit-member_rule : (o : Operation) (a b i : ℕ) → has_bit (word_rule o a b) i ≡ member_rule o (has_bit a i) (has_bit b i)
bit-member_rule Union a b i = (λ j. nat_eq (bit_at_or a b i j) 1) ∙ either-one (bit_at a i) (bit_at b i) (bit_at-lt a i) (bit_at-lt b i)
  where
    either-one : (p q : ℕ) → p < 2 → q < 2 → nat_eq (max p q) 1 ≡ (nat_eq p 1 || nat_eq q 1)
    either-one zero zero k l = refl
    either-one zero (suc zero) k l = refl
    either-one (suc zero) zero k l = refl
    either-one (suc zero) (suc zero) k l = refl
    either-one (suc (suc p)) q k l = absurd (omega (arith, k))
    either-one p (suc (suc q)) k l = absurd (omega (arith, l))
bit-member_rule Intersection a b i = (λ j. nat_eq (bit_at_and a b i j) 1) ∙ both-one (bit_at a i) (bit_at b i) (bit_at-lt a i) (bit_at-lt b i)
  where
    both-one : (p q : ℕ) → p < 2 → q < 2 → nat_eq (min p q) 1 ≡ (nat_eq p 1 && nat_eq q 1)
    both-one zero zero k l = refl
    both-one zero (suc zero) k l = refl
    both-one (suc zero) zero k l = refl
    both-one (suc zero) (suc zero) k l = refl
    both-one (suc (suc p)) q k l = absurd (omega (arith, k))
    both-one p (suc (suc q)) k l = absurd (omega (arith, l))

odd_half : (y : ℕ) → (2 * y) / 2 ≡ y
odd_half y = omega arith

odd_rest : (y : ℕ) → nat_eq (2 * y % 2) 0 ≡ true
odd_rest y = eq-eqb (2 * y % 2) 0 (omega arith)

even_half : (y : ℕ) → (2 * y + 1) / 2 ≡ y
even_half y = omega arith

even_rest : (y : ℕ) → nat_eq ((2 * y + 1) % 2) 0 ≡ false
even_rest y = elim (nat_eq ((2 * y + 1) % 2) 0) as (λ b. nat_eq ((2 * y + 1) % 2) 0 ≡ b → b ≡ false) [
  | true ↦ λ e. absurd (let f = eqb-true ((2 * y + 1) % 2) 0 e in omega (arith, f))
  | false ↦ λ e. refl
] refl

pub half_less : (k : ℕ) → k / 2 < suc k
half_less k = omega arith

-- ---- sets made of a word and two parts

-- A word of a set depends only on words with smaller indices in its parts.
pub node_word-same : (h : ℕ) (f g f' g' : ℕ → ℕ) (x : ℕ) → ((y : ℕ) → y < x → f y ≡ f' y) → ((y : ℕ) → y < x → g y ≡ g' y) → node_word h f g x ≡ node_word h f' g' x
node_word-same h f g f' g' zero p q = refl
node_word-same h f g f' g' (suc k) p q = (λ i. if nat_eq (k % 2) 0 then p (k / 2) (half_less k) i else q (k / 2) (half_less k) i)

pub node_word-odd : (h : ℕ) (f g : ℕ → ℕ) (y : ℕ) → node_word h f g (suc (2 * y)) ≡ f y
node_word-odd h f g y = (λ i. if odd_rest y i then f (odd_half y i) else g (odd_half y i))

pub node_word-even : (h : ℕ) (f g : ℕ → ℕ) (y : ℕ) → node_word h f g (suc (2 * y + 1)) ≡ g y
node_word-even h f g y = (λ i. if even_rest y i then f (even_half y i) else g (even_half y i))

chosen : (op : ℕ → ℕ → ℕ) (b : Bool) (x y u v : ℕ) → (if b then op x y else op u v) ≡ op (if b then x else u) (if b then y else v)
chosen op true x y u v = refl
chosen op false x y u v = refl

pub node_word-both : (op : ℕ → ℕ → ℕ) (h h' : ℕ) (f g f' g' : ℕ → ℕ) (x : ℕ) → node_word (op h h') (λ y. op (f y) (f' y)) (λ y. op (g y) (g' y)) x ≡ op (node_word h f g x) (node_word h' f' g' x)
node_word-both op h h' f g f' g' zero = refl
node_word-both op h h' f g f' g' (suc k) = chosen op (nat_eq (k % 2) 0) (f (k / 2)) (f' (k / 2)) (g (k / 2)) (g' (k / 2))

node_word-below : (h : ℕ) (f g : ℕ → ℕ) (x : ℕ) → h < 2 ^ 64 → ((y : ℕ) → f y < 2 ^ 64) → ((y : ℕ) → g y < 2 ^ 64) → node_word h f g x < 2 ^ 64
node_word-below h f g zero p q r = p
node_word-below h f g (suc k) p q r = at (nat_eq (k % 2) 0)
  where
    at : (b : Bool) → (if b then f (k / 2) else g (k / 2)) < 2 ^ 64
    at true = q (k / 2)
    at false = r (k / 2)

-- ---- the words of a set

pub below-enough : (ns : List Node) (f g n x : ℕ) → x < f → x < g → word_below ns f n x ≡ word_below ns g n x
below-enough ns zero g n x p q = absurd (omega (arith, p))
below-enough ns (suc f) zero n x p q = absurd (omega (arith, q))
below-enough ns (suc f) (suc g) n x p q = let s = node_at ns n in
    node_word-same s.here (word_below ns f s.left) (word_below ns f s.right) (word_below ns g s.left) (word_below ns g s.right) x
    (λ y l. below-enough ns f g s.left y (omega (arith, l, p)) (omega (arith, l, q)))
    (λ y l. below-enough ns f g s.right y (omega (arith, l, p)) (omega (arith, l, q)))

pub word-node_word : (ns : List Node) (n x : ℕ) → word ns n x ≡ node_word (node_at ns n).here (word ns (node_at ns n).left) (word ns (node_at ns n).right) x
unfolding word
word-node_word ns n x = let s = node_at ns n in
    node_word-same s.here (word_below ns x s.left) (word_below ns x s.right) (word ns s.left) (word ns s.right) x
    (λ y l. below-enough ns x (suc y) s.left y l (omega arith))
    (λ y l. below-enough ns x (suc y) s.right y l (omega arith))

pub word-odd : (ns : List Node) (n y : ℕ) → word ns n (suc (2 * y)) ≡ word ns (node_at ns n).left y
word-odd ns n y = word-node_word ns n (suc (2 * y)) ∙ node_word-odd (node_at ns n).here (word ns (node_at ns n).left) (word ns (node_at ns n).right) y

pub word-even : (ns : List Node) (n y : ℕ) → word ns n (suc (2 * y + 1)) ≡ word ns (node_at ns n).right y
word-even ns n y = word-node_word ns n (suc (2 * y + 1)) ∙ node_word-even (node_at ns n).here (word ns (node_at ns n).left) (word ns (node_at ns n).right) y

node_word-none : (f g : ℕ → ℕ) (x : ℕ) → ((y : ℕ) → f y ≡ 0) → ((y : ℕ) → g y ≡ 0) → node_word 0 f g x ≡ 0
node_word-none f g x p q = node_word-same 0 f g (λ _. 0) (λ _. 0) x (λ y _. p y) (λ y _. q y) ∙ none x
  where
    same : (b : Bool) (z : ℕ) → (if b then z else z) ≡ z
    same true z = refl
    same false z = refl

    none : (x : ℕ) → node_word 0 (λ _. 0) (λ _. 0) x ≡ 0
    none zero = refl
    none (suc k) = same (nat_eq (k % 2) 0) 0

below-none : (ns : List Node) (f x : ℕ) → node_at ns 0 ≡ no_node → word_below ns f 0 x ≡ 0
below-none ns zero x e = refl
below-none ns (suc f) x e =
    (λ i. node_word (e i).here (word_below ns f (e i).left) (word_below ns f (e i).right) x)
    ∙ node_word-none (word_below ns f 0) (word_below ns f 0) x (λ y. below-none ns f y e) (λ y. below-none ns f y e)

pub word-none : (ns : List Node) (x : ℕ) → node_at ns 0 ≡ no_node → word ns 0 x ≡ 0
unfolding word
word-none ns x e = below-none ns (suc x) x e

pub member-none : (ns : List Node) (x : ℕ) → node_at ns 0 ≡ no_node → member ns 0 x ≡ false
unfolding member
member-none ns x e = (λ i. has_bit (word-none ns (x / 64) e i) (x % 64)) ∙ no-bit (x % 64)

pub member-bit : (ns : List Node) (n x : ℕ) → has_bit (word ns n (x / 64)) (x % 64) ≡ member ns n x
unfolding member
member-bit ns n x = refl

member-at : (ns : List Node) (n w i : ℕ) → i < 64 → member ns n (w * 64 + i) ≡ has_bit (word ns n w) i
unfolding member
member-at ns n w i l =
    let div : (w * 64 + i) / 64 ≡ w = omega (arith, l) in
    let rem : (w * 64 + i) % 64 ≡ i = omega (arith, l) in
    λ j. has_bit (word ns n (div j)) (rem j)

-- ---- pools

pub within-at : (ns : List Node) (n : ℕ) → IsPool ns → n < length ns → PointsBelow (length ns) (node_at ns n)
within-at ns zero p l = subst (PointsBelow (length ns)) (sym p.empty) (record { here = omega arith; left = p.some; right = p.some })
within-at ns (suc n) p l = let k = p.older (suc n) (omega arith) l in record { here = k.here; left = omega (arith, k.left, l); right = omega (arith, k.right, l) }

pub at-keeps : (old new : List Node) (n : ℕ) → KeepsNodes old new → n < length old → node_at new n ≡ node_at old n
at-keeps old new n k l = ap (λ ns. node_at ns n) k.is ∙ get_or_append_left old k.more no_node n l

pub length-keeps : (old new : List Node) (n : ℕ) → KeepsNodes old new → n < length old → n < length new
length-keeps old new n k l = omega (arith, ap length k.is, length-append old k.more, l)

pub keeps-itself : (ns : List Node) → KeepsNodes ns ns
keeps-itself ns = record { more = []; is = sym (append-nil ns) }

below-keeps : (old new : List Node) (f n x : ℕ) → IsPool old → KeepsNodes old new → n < length old → word_below new f n x ≡ word_below old f n x
below-keeps old new zero n x p k l = refl
below-keeps old new (suc f) n x p k l =
    let e = at-keeps old new n k l in
    let w = within-at old n p l in
    let s = node_at old n in
    (λ i. node_word (e i).here (word_below new f (e i).left) (word_below new f (e i).right) x)
    ∙ node_word-same s.here (word_below new f s.left) (word_below new f s.right) (word_below old f s.left) (word_below old f s.right) x (λ y _. below-keeps old new f s.left y p k w.left) (λ y _. below-keeps old new f s.right y p k w.right)

pub word-keeps : (old new : List Node) (n x : ℕ) → IsPool old → KeepsNodes old new → n < length old → word new n x ≡ word old n x
unfolding word
word-keeps old new n x p k l = below-keeps old new (suc x) n x p k l

pub member-keeps : (old new : List Node) (n x : ℕ) → IsPool old → KeepsNodes old new → n < length old → member new n x ≡ member old n x
unfolding member
member-keeps old new n x p k l = λ i. has_bit (word-keeps old new n (x / 64) p k l i) (x % 64)

below-lt : (ns : List Node) (f n x : ℕ) → IsPool ns → n < length ns → word_below ns f n x < 2 ^ 64
below-lt ns zero n x p l = omega arith
below-lt ns (suc f) n x p l =
    let w = within-at ns n p l in
    let s = node_at ns n in
    node_word-below s.here (word_below ns f s.left) (word_below ns f s.right) x w.here (λ y. below-lt ns f s.left y p w.left) (λ y. below-lt ns f s.right y p w.right)

pub word-lt : (ns : List Node) (n x : ℕ) → IsPool ns → n < length ns → word ns n x < 2 ^ 64
unfolding word
word-lt ns n x p l = below-lt ns (suc x) n x p l

-- ---- sets with equal members have equal numbers

at-end : (ns : List Node) (node : Node) → node_at (ns ++ node ∷ []) (length ns) ≡ node
at-end [] node = refl
at-end (n ∷ ns) node = at-end ns node

child : (ns : List Node) (k m n : ℕ) → IsPool ns → m < length ns → m < suc k → n < suc k → (0 < m) ⊎ (0 < n) → PointsBelow k (node_at ns m)
child ns k zero n p l a b h = subst (PointsBelow k) (sym p.empty) (record { here = omega arith; left = pos h; right = pos h })
  where
    pos : (0 < 0) ⊎ (0 < n) → 0 < k
    pos (inl z) = absurd (omega (arith, z))
    pos (inr z) = omega (arith, z, b)
child ns k (suc m) n p l a b h = let o = p.older (suc m) (omega arith) l in record { here = o.here; left = omega (arith, o.left, a); right = omega (arith, o.right, a) }

pub node-same : (s t : Node) → s.here ≡ t.here → s.left ≡ t.left → s.right ≡ t.right → s ≡ t
node-same s t a b c = λ i. record { here = a i; left = b i; right = c i }

abbrev pub Alike : List Node → ℕ → ℕ → Type 0
Alike ns m n = (w : ℕ) → word ns m w ≡ word ns n w

abbrev LawfulBelow : List Node → ℕ → Type 0
LawfulBelow ns k = (m n : ℕ) → m < length ns → n < length ns → m < k → n < k → Alike ns m n → m ≡ n

sets_are_unique-step : (ns : List Node) (k m n : ℕ) → LawfulBelow ns k → IsPool ns → m < length ns → n < length ns → m < suc k → n < suc k → ((0 < m) ⊎ (0 < n)) → ((0 < n) ⊎ (0 < m)) → Alike ns m n → m ≡ n
sets_are_unique-step ns k m n below p lm ln a b u v h =
    let s = node_at ns m in
    let t = node_at ns n in
    let ws = within-at ns m p lm in
    let wt = within-at ns n p ln in
    let cs = child ns k m n p lm a b u in
    let ct = child ns k n m p ln b a v in
    p.different m n lm ln (node-same s t (sym (word-node_word ns m 0) ∙ h 0 ∙ word-node_word ns n 0)
    (below s.left t.left ws.left wt.left cs.left ct.left (λ y. sym (word-odd ns m y) ∙ h (suc (2 * y)) ∙ word-odd ns n y))
    (below s.right t.right ws.right wt.right cs.right ct.right (λ y. sym (word-even ns m y) ∙ h (suc (2 * y + 1)) ∙ word-even ns n y)))

sets_are_unique-below : (ns : List Node) → IsPool ns → (k : ℕ) → LawfulBelow ns k
sets_are_unique-below ns p zero m n lm ln a b h = absurd (omega (arith, a))
sets_are_unique-below ns p (suc k) zero zero lm ln a b h = refl
sets_are_unique-below ns p (suc k) zero (suc n) lm ln a b h = sets_are_unique-step ns k zero (suc n) (sets_are_unique-below ns p k) p lm ln a b (inr (omega arith)) (inl (omega arith)) h
sets_are_unique-below ns p (suc k) (suc m) n lm ln a b h = sets_are_unique-step ns k (suc m) n (sets_are_unique-below ns p k) p lm ln a b (inl (omega arith)) (inr (omega arith)) h

pub words-sets_are_unique : (ns : List Node) (m n : ℕ) → IsPool ns → m < length ns → n < length ns → Alike ns m n → m ≡ n
words-sets_are_unique ns m n p lm ln h = sets_are_unique-below ns p (suc (m + n)) m n lm ln (omega arith) (omega arith) h

-- The words of a set are determined by its members.
pub words-of : (ns : List Node) (n : ℕ) (f : ℕ → ℕ)
    → IsPool ns
    → n < length ns
    → ((w : ℕ) → f w < 2 ^ 64)
    → ((x : ℕ) → member ns n x ≡ has_bit (f (x / 64)) (x % 64))
    → (w : ℕ)
    → word ns n w ≡ f w
words-of ns n f p l b h w = same_from_bits_below 64 (word ns n w) (f w) (word-lt ns n w p l) (b w) (λ i k.
    let div : (w * 64 + i) / 64 ≡ w = omega (arith, k) in
    let rem : (w * 64 + i) % 64 ≡ i = omega (arith, k) in
    same-bit (word ns n w) (f w) i (sym (member-at ns n w i k) ∙ h (w * 64 + i) ∙ (λ j. has_bit (f (div j)) (rem j))))

pub sets_are_unique : (ns : List Node) (m n : ℕ) → IsPool ns → m < length ns → n < length ns → ((x : ℕ) → member ns m x ≡ member ns n x) → m ≡ n
sets_are_unique ns m n p lm ln h = words-sets_are_unique ns m n p lm ln (words-of ns m (word ns n) p lm (λ w. word-lt ns n w p ln) (λ x. h x ∙ sym (member-bit ns n x)))

-- ---- one more node

at-new : (ns : List Node) (node : Node) (n : ℕ) → n < length (ns ++ node ∷ []) → (n < length ns) ⊎ (n ≡ length ns)
at-new ns node n l = split (dec n (length ns))
  where
    dec : (a b : ℕ) → (a < b) ⊎ (b ≤ a)
    dec a b = cases_lt a b

    split : (n < length ns) ⊎ (length ns ≤ n) → (n < length ns) ⊎ (n ≡ length ns)
    split (inl h) = inl h
    split (inr h) = inr (omega (arith, length-append ns (node ∷ []), l, h))

keeps-push : (ns : List Node) (node : Node) → KeepsNodes ns (ns ++ node ∷ [])
keeps-push ns node = record { more = node ∷ []; is = refl }

pub pool-push : (ns : List Node) (node : Node) → IsPool ns → length ns < 4294967295 → PointsBelow (length ns) node → ((n : ℕ) → n < length ns → ¬ (node_at ns n ≡ node)) → IsPool (ns ++ node ∷ [])
pool-push ns node p room w new =
    let keeps = keeps-push ns node in
    let at : (n : ℕ) → n < length ns → node_at (ns ++ node ∷ []) n ≡ node_at ns n = λ n l. at-keeps ns (ns ++ node ∷ []) n keeps l in
    let last : (n : ℕ) → n ≡ length ns → node_at (ns ++ node ∷ []) n ≡ node = λ n e. ap (node_at (ns ++ node ∷ [])) e ∙ at-end ns node in
    record {
      some = length-keeps ns (ns ++ node ∷ []) 0 keeps p.some;
      few = omega (arith, length-append ns (node ∷ []), room);
      empty = at 0 p.some ∙ p.empty;
      older = λ n z l. elim (at-new ns node n l) [
        | inl h ↦ subst (PointsBelow n) (sym (at n h)) (p.older n z h)
        | inr e ↦ subst (PointsBelow n) (sym (last n e)) (subst (λ k. PointsBelow k node) (sym e) w)
      ];
      different = λ m n lm ln e. elim (at-new ns node m lm) [
        | inl h ↦ elim (at-new ns node n ln) [
          | inl k ↦ p.different m n h k (sym (at m h) ∙ e ∙ at n k)
          | inr k ↦ absurd (new m h (sym (at m h) ∙ e ∙ last n k))
        ]
        | inr h ↦ elim (at-new ns node n ln) [
          | inl k ↦ absurd (new n k (sym (at n k) ∙ sym e ∙ last m h))
          | inr k ↦ h ∙ sym k
        ]
      ];
    }

module _ (eq : Node → Node → Bool) (exact : (s t : Node) → Decides (eq s t) (s ≡ t)) where
  pub pool-insert : (ns : List Node) (node : Node) → IsPool ns → length ns < 4294967295 → PointsBelow (length ns) node → IsPool (insert_key eq ns node)
  pool-insert ns node p room w = elim (list_any (eq node) ns) as (λ b. list_any (eq node) ns ≡ b → IsPool (if b then ns else ns ++ node ∷ [])) [
    | true ↦ λ _. p
    | false ↦ λ e. pool-push ns node p room w (λ n l same. true≢false (sym (list_any_at (eq node) ns n no_node l ((exact node (node_at ns n)).1 (sym same))) ∙ e))
  ] refl

  pub keeps-insert : (ns : List Node) (node : Node) → KeepsNodes ns (insert_key eq ns node)
  keeps-insert ns node = elim (list_any (eq node) ns) as (λ b. KeepsNodes ns (if b then ns else ns ++ node ∷ [])) [
    | true ↦ keeps-itself ns
    | false ↦ keeps-push ns node
  ]

pub at-got : (ns : List Node) (n : ℕ) (k : Node) → slice_get ns n ≡ Some k → node_at ns n ≡ k
at-got [] n k e = absurd (cc e)
at-got (x ∷ ns) zero k e = cc e
at-got (x ∷ ns) (suc n) k e = at-got ns n k e

-- ---- the equality of nodes

abbrev pub same_node : Node → Node → Bool
same_node s t = nat_eq s.here t.here && (nat_eq s.left t.left && nat_eq s.right t.right)

pub same_node-true : (s t : Node) → same_node s t ≡ true → s ≡ t
same_node-true s t h =
    let p = and_parts (nat_eq s.here t.here) (nat_eq s.left t.left && nat_eq s.right t.right) h in
    let q = and_parts (nat_eq s.left t.left) (nat_eq s.right t.right) p.1 in
    node-same s t (eqb-true s.here t.here p.0) (eqb-true s.left t.left q.0) (eqb-true s.right t.right q.1)

same_node-self : (s : Node) → same_node s s ≡ true
same_node-self s = λ i. eq-eqb s.here s.here refl i && (eq-eqb s.left s.left refl i && eq-eqb s.right s.right refl i)

pub same_node-Decides : (s t : Node) → (same_node s t ≡ true) ↔ (s ≡ t)
same_node-Decides s t = (same_node-true s t, λ e. ap (same_node s) (sym e) ∙ same_node-self s)

pub pool-after : (ns : List Node) (node : Node) → IsPool ns → length ns < 4294967295 → PointsBelow (length ns) node → IsPool (insert_key same_node ns node)
pool-after = pool-insert same_node same_node-Decides

pub keeps-insert_node : (ns : List Node) (node : Node) → KeepsNodes ns (insert_key same_node ns node)
keeps-insert_node = keeps-insert same_node same_node-Decides

-- ---- a word of a set is a word of its left or right part

below-step : (ns : List Node) (n k : ℕ) → word ns n (suc k) ≡ (if nat_eq (k % 2) 0 then word ns (node_at ns n).left (k / 2) else word ns (node_at ns n).right (k / 2))
below-step ns n k = word-node_word ns n (suc k)

pub word-left : (ns : List Node) (n x : ℕ) → 0 < x → (x - 1) % 2 ≡ 0 → word ns n x ≡ word ns (node_at ns n).left ((x - 1) / 2)
word-left ns n zero z e = absurd (omega (arith, z))
word-left ns n (suc k) z e = subst (λ j. j % 2 ≡ 0 → word ns n (suc k) ≡ word ns (node_at ns n).left (j / 2)) (omega arith) step e
  where
    step : k % 2 ≡ 0 → word ns n (suc k) ≡ word ns (node_at ns n).left (k / 2)
    step h = below-step ns n k ∙ (λ i. if eq-eqb (k % 2) 0 h i then word ns (node_at ns n).left (k / 2) else word ns (node_at ns n).right (k / 2))

pub differs : (a b : ℕ) → (¬ (a ≡ b)) → nat_eq a b ≡ false
differs a b h = elim (nat_eq a b) as (λ t. nat_eq a b ≡ t → t ≡ false) [
  | true ↦ λ e. absurd (h (eqb-true a b e))
  | false ↦ λ e. refl
] refl

pub word-right : (ns : List Node) (n x : ℕ) → 0 < x → (¬ ((x - 1) % 2 ≡ 0)) → word ns n x ≡ word ns (node_at ns n).right ((x - 1) / 2)
word-right ns n zero z e = absurd (omega (arith, z))
word-right ns n (suc k) z e = subst (λ j. (¬ (j % 2 ≡ 0)) → word ns n (suc k) ≡ word ns (node_at ns n).right (j / 2)) (omega arith) step e
  where
    step : (¬ (k % 2 ≡ 0)) → word ns n (suc k) ≡ word ns (node_at ns n).right (k / 2)
    step h = below-step ns n k ∙ (λ i. if differs (k % 2) 0 h i then word ns (node_at ns n).left (k / 2) else word ns (node_at ns n).right (k / 2))

-- ---- one more bit

same-tests : (a b : Bool) → (a ≡ true → b ≡ true) → (b ≡ true → a ≡ true) → a ≡ b
same-tests true b f g = sym (f refl)
same-tests false true f g = g refl
same-tests false false f g = refl

half-same : (j k : ℕ) → j % 2 ≡ 0 → k % 2 ≡ 0 → j / 2 ≡ k / 2 → suc j ≡ suc k
half-same j k a b c = omega (arith, a, b, c)

half-alike : (j k : ℕ) → (¬ (j % 2 ≡ 0)) → (¬ (k % 2 ≡ 0)) → j / 2 ≡ k / 2 → suc j ≡ suc k
half-alike j k a b c = omega (arith, a, b, c)

pub one-left : (k bit x : ℕ) → k % 2 ≡ 0 → word_with (suc k) bit x ≡ node_word 0 (word_with (k / 2) bit) (λ _. 0) x
one-left k bit zero e = λ i. if differs 0 (suc k) (λ h. omega (arith, h)) i then 2 ^ bit else 0
one-left k bit (suc j) e = elim (nat_eq (j % 2) 0) as (λ t. nat_eq (j % 2) 0 ≡ t → word_with (suc k) bit (suc j) ≡ (if t then word_with (k / 2) bit (j / 2) else 0)) [
  | true ↦ λ h. ap (λ t. if t then 2 ^ bit else 0) (same-tests (nat_eq (suc j) (suc k)) (nat_eq (j / 2) (k / 2))
      (λ s. let same = eqb-true (suc j) (suc k) s in eq-eqb (j / 2) (k / 2) (omega (arith, same)))
      (λ s. eq-eqb (suc j) (suc k) (half-same j k (eqb-true (j % 2) 0 h) e (eqb-true (j / 2) (k / 2) s))))
  | false ↦ λ h. (λ i. if differs (suc j) (suc k) (λ s. true≢false (sym (eq-eqb (j % 2) 0 (omega (arith, s, e))) ∙ h)) i then 2 ^ bit else 0)
] refl

pub one-right : (k bit x : ℕ) → (¬ (k % 2 ≡ 0)) → word_with (suc k) bit x ≡ node_word 0 (λ _. 0) (word_with (k / 2) bit) x
one-right k bit zero e = λ i. if differs 0 (suc k) (λ h. omega (arith, h)) i then 2 ^ bit else 0
one-right k bit (suc j) e = elim (nat_eq (j % 2) 0) as (λ t. nat_eq (j % 2) 0 ≡ t → word_with (suc k) bit (suc j) ≡ (if t then 0 else word_with (k / 2) bit (j / 2))) [
  | true ↦ λ h. (λ i. if differs (suc j) (suc k) (λ s. let f = eqb-true (j % 2) 0 h in e (omega (arith, s, f))) i then 2 ^ bit else 0)
  | false ↦ λ h. ap (λ t. if t then 2 ^ bit else 0) (same-tests (nat_eq (suc j) (suc k)) (nat_eq (j / 2) (k / 2))
      (λ s. let same = eqb-true (suc j) (suc k) s in eq-eqb (j / 2) (k / 2) (omega (arith, same)))
      (λ s. eq-eqb (suc j) (suc k) (half-alike j k (λ z. true≢false (sym (eq-eqb (j % 2) 0 z) ∙ h)) e (eqb-true (j / 2) (k / 2) s))))
] refl

-- A word of a set by the fields of its node.
at-node : (ns : List Node) (n : ℕ) (node : Node) (x : ℕ) → node_at ns n ≡ node → word ns n x ≡ node_word node.here (word ns node.left) (word ns node.right) x
at-node ns n node x e = word-node_word ns n x ∙ (λ i. node_word (e i).here (word ns (e i).left) (word ns (e i).right) x)

pub insert-here : (old new : List Node) (set n bit x : ℕ)
    → IsPool old
    → set < length old
    → KeepsNodes old new
    → node_at new n ≡ record { here = bit_or (node_at old set).here (2 ^ bit); left = (node_at old set).left; right = (node_at old set).right }
    → word new n x ≡ bit_or (word old set x) (word_with 0 bit x)
insert-here old new set n bit x p l k e =
    let s = node_at old set in
    let w = within-at old set p l in
    let here = bit_or s.here (2 ^ bit) in
    at-node new n (record { here = here; left = s.left; right = s.right }) x e
    ∙ node_word-same here (word new s.left) (word new s.right) (word old s.left) (word old s.right) x (λ y _. word-keeps old new s.left y p k w.left) (λ y _. word-keeps old new s.right y p k w.right)
    ∙ zeroth x
    ∙ (λ i. bit_or (sym (word-node_word old set x) i) (word_with 0 bit x))
  where
    zeroth : (x : ℕ)
        → node_word (bit_or (node_at old set).here (2 ^ bit)) (word old (node_at old set).left) (word old (node_at old set).right) x
        ≡ bit_or (node_word (node_at old set).here (word old (node_at old set).left) (word old (node_at old set).right) x) (word_with 0 bit x)
    zeroth zero = refl
    zeroth (suc j) =
        let m = node_word (node_at old set).here (word old (node_at old set).left) (word old (node_at old set).right) (suc j) in
        sym ((λ i. bit_or m (if differs (suc j) 0 (λ h. omega (arith, h)) i then 2 ^ bit else 0)) ∙ or_none m)

pub insert-left : (old mid new : List Node) (set l n index bit x : ℕ)
    → IsPool old
    → IsPool mid
    → set < length old
    → l < length mid
    → KeepsNodes old mid
    → KeepsNodes mid new
    → 0 < index
    → (index - 1) % 2 ≡ 0
    → ((y : ℕ) → word mid l y ≡ bit_or (word old (node_at old set).left y) (word_with ((index - 1) / 2) bit y))
    → node_at new n ≡ record { here = (node_at old set).here; left = l; right = (node_at old set).right }
    → word new n x ≡ bit_or (word old set x) (word_with index bit x)
insert-left old mid new set l n zero bit x p q k kl km kn pos even is e = absurd (omega (arith, pos))
insert-left old mid new set l n (suc j) bit x p q k kl km kn pos even is e =
    let s = node_at old set in
    let w = within-at old set p k in
    let same : suc j - 1 ≡ j = omega arith in
    at-node new n (record { here = s.here; left = l; right = s.right }) x e
    ∙ node_word-same s.here (word new l) (word new s.right) (λ y. bit_or (word old s.left y) (word_with (j / 2) bit y)) (λ y. bit_or (word old s.right y) 0) x
    (λ y _. word-keeps mid new l y q kn kl ∙ is y ∙ (λ i. bit_or (word old s.left y) (word_with (same i / 2) bit y)))
    (λ y _. word-keeps mid new s.right y q kn (length-keeps old mid s.right km w.right) ∙ word-keeps old mid s.right y p km w.right ∙ sym (or_none (word old s.right y)))
    ∙ (λ i. node_word (sym (or_none s.here) i) (λ y. bit_or (word old s.left y) (word_with (j / 2) bit y)) (λ y. bit_or (word old s.right y) 0) x)
    ∙ node_word-both bit_or s.here 0 (word old s.left) (word old s.right) (word_with (j / 2) bit) (λ _. 0) x
    ∙ (λ i. bit_or (sym (word-node_word old set x) i) (sym (one-left j bit x (subst (λ z. z % 2 ≡ 0) same even)) i))

pub insert-right : (old mid new : List Node) (set r n index bit x : ℕ)
    → IsPool old
    → IsPool mid
    → set < length old
    → r < length mid
    → KeepsNodes old mid
    → KeepsNodes mid new
    → 0 < index
    → (¬ ((index - 1) % 2 ≡ 0))
    → ((y : ℕ) → word mid r y ≡ bit_or (word old (node_at old set).right y) (word_with ((index - 1) / 2) bit y))
    → node_at new n ≡ record { here = (node_at old set).here; left = (node_at old set).left; right = r }
    → word new n x ≡ bit_or (word old set x) (word_with index bit x)
insert-right old mid new set r n zero bit x p q k kr km kn pos odd is e = absurd (omega (arith, pos))
insert-right old mid new set r n (suc j) bit x p q k kr km kn pos odd is e =
    let s = node_at old set in
    let w = within-at old set p k in
    let same : suc j - 1 ≡ j = omega arith in
    at-node new n (record { here = s.here; left = s.left; right = r }) x e
    ∙ node_word-same s.here (word new s.left) (word new r) (λ y. bit_or (word old s.left y) 0) (λ y. bit_or (word old s.right y) (word_with (j / 2) bit y)) x
    (λ y _. word-keeps mid new s.left y q kn (length-keeps old mid s.left km w.left) ∙ word-keeps old mid s.left y p km w.left ∙ sym (or_none (word old s.left y)))
    (λ y _. word-keeps mid new r y q kn kr ∙ is y ∙ (λ i. bit_or (word old s.right y) (word_with (same i / 2) bit y)))
    ∙ (λ i. node_word (sym (or_none s.here) i) (λ y. bit_or (word old s.left y) 0) (λ y. bit_or (word old s.right y) (word_with (j / 2) bit y)) x)
    ∙ node_word-both bit_or s.here 0 (word old s.left) (word old s.right) (λ _. 0) (word_with (j / 2) bit) x
    ∙ (λ i. bit_or (sym (word-node_word old set x) i) (sym (one-right j bit x (subst (λ z. ¬ (z % 2 ≡ 0)) same odd)) i))

-- `word_with index bit` has only the member index * 64 + bit.
with-is : (index bit x : ℕ) → bit < 64 → has_bit (word_with index bit (x / 64)) (x % 64) ≡ nat_eq x (index * 64 + bit)
with-is index bit x l = elim (nat_eq (x / 64) index) as (λ t. nat_eq (x / 64) index ≡ t → has_bit (if t then 2 ^ bit else 0) (x % 64) ≡ nat_eq x (index * 64 + bit)) [
  | true ↦ λ h. elim (nat_eq (x % 64) bit) as (λ t. nat_eq (x % 64) bit ≡ t → has_bit (2 ^ bit) (x % 64) ≡ nat_eq x (index * 64 + bit)) [
    | true ↦ λ g. (let d = eqb-true (x / 64) index h in
        let r = eqb-true (x % 64) bit g in
        (λ i. nat_eq (bit_at (2 ^ bit) (r i)) 1) ∙ (λ i. nat_eq (bit_at-pow_same bit i) 1) ∙ sym (eq-eqb x (index * 64 + bit) (omega (arith, d, r))))
    | false ↦ λ g. (let no : ¬ (x % 64 ≡ bit) = λ z. true≢false (sym (eq-eqb (x % 64) bit z) ∙ g) in
        (λ i. nat_eq (bit_at-pow_other bit (x % 64) no i) 1) ∙ sym (differs x (index * 64 + bit) (λ z. no (omega (arith, z, l)))))
  ] refl
  | false ↦ λ h. no-bit (x % 64) ∙ sym (differs x (index * 64 + bit) (λ z. true≢false (sym (eq-eqb (x / 64) index (omega (arith, z, l))) ∙ h)))
] refl

-- The bits of a set's words with one more bit.
pub inserted-bits : (ns : List Node) (set index bit : ℕ) → bit < 64 → (x : ℕ) → has_bit (bit_or (word ns set (x / 64)) (word_with index bit (x / 64))) (x % 64) ≡ (nat_eq x (index * 64 + bit) || member ns set x)
unfolding member
inserted-bits ns set index bit l x =
    bit-member_rule Union (word ns set (x / 64)) (word_with index bit (x / 64)) (x % 64)
    ∙ turned (has_bit (word ns set (x / 64)) (x % 64)) (has_bit (word_with index bit (x / 64)) (x % 64))
    ∙ (λ i. with-is index bit x l i || has_bit (word ns set (x / 64)) (x % 64))
  where
    turned : (a b : Bool) → (a || b) ≡ (b || a)
    turned true true = refl
    turned true false = refl
    turned false true = refl
    turned false false = refl

-- A set with one more bit in a word has one more member.
pub member-inserted : (old new : List Node) (set n index bit : ℕ)
    → bit < 64
    → ((w : ℕ) → word new n w ≡ bit_or (word old set w) (word_with index bit w))
    → (x : ℕ)
    → member new n x ≡ (nat_eq x (index * 64 + bit) || member old set x)
unfolding member
member-inserted old new set n index bit l is x = (λ i. has_bit (is (x / 64) i) (x % 64)) ∙ inserted-bits old set index bit l x

-- ---- the union or intersection of two sets

pub combine-set : (op : ℕ → ℕ → ℕ) (old mid after new : List Node) (one two l r n x : ℕ)
    → IsPool old
    → IsPool mid
    → IsPool after
    → one < length old
    → two < length old
    → l < length mid
    → r < length after
    → KeepsNodes old mid
    → KeepsNodes mid after
    → KeepsNodes after new
    → ((y : ℕ) → word mid l y ≡ op (word old (node_at old one).left y) (word old (node_at old two).left y))
    → ((y : ℕ) → word after r y ≡ op (word mid (node_at old one).right y) (word mid (node_at old two).right y))
    → node_at new n ≡ record { here = op (node_at old one).here (node_at old two).here; left = l; right = r }
    → word new n x ≡ op (word old one x) (word old two x)
combine-set op old mid after new one two l r n x p q u k1 k2 kl kr km ka kn isl isr e =
    let s = node_at old one in
    let t = node_at old two in
    let ws = within-at old one p k1 in
    let wt = within-at old two p k2 in
    at-node new n (record { here = op s.here t.here; left = l; right = r }) x e
    ∙ node_word-same (op s.here t.here) (word new l) (word new r) (λ y. op (word old s.left y) (word old t.left y)) (λ y. op (word old s.right y) (word old t.right y)) x
    (λ y _. word-keeps after new l y u kn (length-keeps mid after l ka kl) ∙ word-keeps mid after l y q ka kl ∙ isl y)
    (λ y _. word-keeps after new r y u kn kr ∙ isr y ∙ (λ i. op (word-keeps old mid s.right y p km ws.right i) (word-keeps old mid t.right y p km wt.right i)))
    ∙ node_word-both op s.here t.here (word old s.left) (word old s.right) (word old t.left) (word old t.right) x
    ∙ (λ i. op (sym (word-node_word old one x) i) (sym (word-node_word old two x) i))

-- The bits of the union or intersection of two sets' words.
pub member_rule-bits : (o : Operation) (ns : List Node) (one two x : ℕ) → has_bit (word_rule o (word ns one (x / 64)) (word ns two (x / 64))) (x % 64) ≡ member_rule o (member ns one x) (member ns two x)
unfolding member
member_rule-bits o ns one two x = bit-member_rule o (word ns one (x / 64)) (word ns two (x / 64)) (x % 64)

-- A set whose words are a union or intersection has the members of the union or intersection.
pub member-member_rule : (o : Operation) (old new : List Node) (one two n : ℕ)
    → ((w : ℕ) → word new n w ≡ word_rule o (word old one w) (word old two w))
    → (x : ℕ)
    → member new n x ≡ member_rule o (member old one x) (member old two x)
unfolding member
member-member_rule o old new one two n is x = (λ i. has_bit (is (x / 64) i) (x % 64)) ∙ member_rule-bits o old one two x

pub word-zero : (ns : List Node) (n x : ℕ) → x ≤ 0 → word ns n x ≡ (node_at ns n).here
word-zero ns n zero h = word-node_word ns n 0
word-zero ns n (suc k) h = absurd (omega (arith, h))

pub pos-of : (n : ℕ) → (¬ (n ≡ 0)) → 0 < n
pos-of n h = omega (arith, h)

nodes-assoc : (xs ys zs : List Node) → (xs ++ ys) ++ zs ≡ xs ++ (ys ++ zs)
nodes-assoc [] ys zs = refl
nodes-assoc (x ∷ xs) ys zs = ap (λ t. x ∷ t) (nodes-assoc xs ys zs)

pub keeps-on : (xs ys zs : List Node) → KeepsNodes xs ys → KeepsNodes ys zs → KeepsNodes xs zs
keeps-on xs ys zs a b = record { more = a.more ++ b.more; is = b.is ∙ ap (λ t. t ++ b.more) a.is ∙ nodes-assoc xs a.more b.more }

-- ---- a new node, and bounds on the members of sets

fresh-push : (ns : List Node) (node : Node) (n : ℕ) → length ns ≤ n → n < length (ns ++ node ∷ []) → node_at (ns ++ node ∷ []) n ≡ node
fresh-push ns node n a l = elim (at-new ns node n l) [
  | inl h ↦ absurd (omega (arith, h, a))
  | inr e ↦ ap (node_at (ns ++ node ∷ [])) e ∙ at-end ns node
]

pub fresh-after : (ns : List Node) (node : Node) (n : ℕ) → length ns ≤ n → n < length (insert_key same_node ns node) → node_at (insert_key same_node ns node) n ≡ node
fresh-after ns node n = elim (list_any (same_node node) ns) as (λ b. length ns ≤ n → n < length (if b then ns else ns ++ node ∷ []) → node_at (if b then ns else ns ++ node ∷ []) n ≡ node) [
  | true ↦ λ a l. absurd (omega (arith, a, l))
  | false ↦ λ a l. fresh-push ns node n a l
]

pub bounded-on : (limit : ℕ) (old new : List Node) (m : ℕ)
    → IsPool old
    → KeepsNodes old new
    → IsBounded limit old
    → ((n : ℕ) → length old ≤ n → n < length new → n ≡ m)
    → ((x : ℕ) → member new m x ≡ true → x < limit)
    → IsBounded limit new
bounded-on limit old new m p k b fresh is = record {
  each = λ n x l e. elim (cases_lt n (length old)) [
    | inl h ↦ b.each n x h (sym (member-keeps old new n x p k h) ∙ e)
    | inr h ↦ is x ((λ i. member new (sym (fresh n h l) i) x) ∙ e)
  ];
}

either : (a b : Bool) → (a || b) ≡ true → (a ≡ true) ⊎ (b ≡ true)
either true b h = inl refl
either false b h = inr h

pub bounded-insert : (limit number : ℕ) (old new : List Node) (set m : ℕ)
    → number < limit
    → IsBounded limit old
    → set < length old
    → ((x : ℕ) → member new m x ≡ (nat_eq x number || member old set x))
    → (x : ℕ)
    → member new m x ≡ true
    → x < limit
bounded-insert limit number old new set m l b k is x e = elim (either (nat_eq x number) (member old set x) (sym (is x) ∙ e)) [
  | inl h ↦ subst (λ y. y < limit) (sym (eqb-true x number h)) l
  | inr h ↦ b.each set x k h
]

-- Each member of the result is a member of one of the two sets.
one-of : (o : Operation) (a b : Bool) → member_rule o a b ≡ true → (a ≡ true) ⊎ (b ≡ true)
one-of Union a b h = either a b h
one-of Intersection a b h = inl (and_parts a b h).0

pub bounded-combine : (o : Operation) (limit : ℕ) (old new : List Node) (one two m : ℕ)
    → IsBounded limit old
    → one < length old
    → two < length old
    → ((x : ℕ) → member new m x ≡ member_rule o (member old one x) (member old two x))
    → (x : ℕ)
    → member new m x ≡ true
    → x < limit
bounded-combine o limit old new one two m b k l is x e = elim (one-of o (member old one x) (member old two x) (sym (is x) ∙ e)) [
  | inl h ↦ b.each one x k h
  | inr h ↦ b.each two x l h
]

pub half-below : (index bit limit : ℕ) → index * 64 + bit < limit → (index - 1) / 2 * 64 + bit < limit
half-below index bit limit l = omega (arith, l)

-- ---- the first pool

pub pool-initial_nodes : IsPool initial_nodes
pool-initial_nodes = record {
  some = omega arith;
  few = omega arith;
  empty = refl;
  older = λ n z l. absurd (omega (arith, z, l));
  different = λ m n lm ln e. omega (arith, lm, ln);
}

pub bounded-initial_nodes : IsBounded 0 initial_nodes
bounded-initial_nodes = record { each = λ n x l e. let z : n ≡ 0 = omega (arith, l) in absurd (true≢false (sym e ∙ (λ i. member initial_nodes (z i) x) ∙ member-none initial_nodes x refl)) }

-- ---- an existing node

any-node : (ns : List Node) (node : Node) (n : ℕ) → n < length ns → node_at ns n ≡ node → list_any (same_node node) ns ≡ true
any-node ns node n l e = list_any_at (same_node node) ns n no_node l ((same_node-Decides node (node_at ns n)).1 (sym e))

-- Inserting an existing node changes nothing.
pub inserted-there : (ns : List Node) (node : Node) (n : ℕ) → n < length ns → node_at ns n ≡ node → insert_key same_node ns node ≡ ns
inserted-there ns node n l e = ap (λ b. if b then ns else ns ++ node ∷ []) (any-node ns node n l e)

-- A search that finds a node returns its index.
pub searched : (ns : List Node) (node : Node) (k : ℕ) → position (same_node node) ns ≡ Some k → (k < length ns) × (node_at ns k ≡ node)
searched ns node k e = let h = position-Some (same_node node) ns k no_node e in (h.0, sym (same_node-true node (node_at ns k) h.1))
