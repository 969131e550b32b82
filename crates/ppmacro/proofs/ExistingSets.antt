-- Sets that exist in the pool already.
use Rattle.std.proofs.Common.{◌≡◌, ℕ, zero, suc, ◌<◌, ◌+◌, ◌-◌, ◌*◌, ◌/◌, ◌%◌, ◌^◌, ◌||◌, Bool, true, false, nat_eq, List, length, Result, Ok, Err, IsErr, IfOk, OnErr, refl, sym, ◌∙◌, subst, arith, if◌then◌else◌}
use Rattle.std.proofs.lemmas.Nat.{and_le_l, or_lt, pow_below}
use Rattle.std.specs.Int.RustNames.{bit_or}
use Rattle.ppmacro.specs.code.Operations.{Operation, Union, Intersection, member_rule, word_rule}
use Rattle.ppmacro.specs.code.Nodes.{Node, node_at, node_word, word, word_with, member, IsPool}
use Rattle.ppmacro.proofs.Tries.{or_none, differs, node-same, word-node_word, word-odd, word-even, word-lt, words-sets_are_unique, words-of, within-at, pos-of}
use Rattle.ppmacro.proofs.Tries.{node_word-odd, node_word-even, one-left, one-right, inserted-bits, member_rule-bits}

-- The words of the set n are those of another set with one more bit.
abbrev pub HasMore : List Node → ℕ → ℕ → ℕ → ℕ → Type 0
HasMore ns n set index bit = (w : ℕ) → word ns n w ≡ bit_or (word ns set w) (word_with index bit w)

-- Each word of the set n is the result of `op` on the words of two sets.
abbrev pub IsJoin : (ℕ → ℕ → ℕ) → List Node → ℕ → ℕ → ℕ → Type 0
IsJoin op ns n one two = (w : ℕ) → word ns n w ≡ op (word ns one w) (word ns two w)

-- The node of a set is determined by its words.
node-by : (ns : List Node) (n here l r : ℕ)
    → IsPool ns
    → n < length ns
    → l < length ns
    → r < length ns
    → word ns n 0 ≡ here
    → ((y : ℕ) → word ns n (suc (2 * y)) ≡ word ns l y)
    → ((y : ℕ) → word ns n (suc (2 * y + 1)) ≡ word ns r y)
    → node_at ns n ≡ record { here = here; left = l; right = r }
node-by ns n here l r p ln ll lr h left right =
    let s = node_at ns n in
    let w = within-at ns n p ln in
    node-same s (record { here = here; left = l; right = r }) (sym (word-node_word ns n 0) ∙ h)
    (words-sets_are_unique ns s.left l p w.left ll (λ y. sym (word-odd ns n y) ∙ left y))
    (words-sets_are_unique ns s.right r p w.right lr (λ y. sym (word-even ns n y) ∙ right y))

-- ---- a set with one more bit

-- The node of the set n, if the bit is in the first word.
pub here-there : (ns : List Node) (n set bit : ℕ) → IsPool ns → n < length ns → set < length ns → HasMore ns n set 0 bit
    → node_at ns n ≡ record { here = bit_or (node_at ns set).here (2 ^ bit); left = (node_at ns set).left; right = (node_at ns set).right }
here-there ns n set bit p ln ls h =
    let s = node_at ns set in
    let w = within-at ns set p ls in
    node-by ns n (bit_or s.here (2 ^ bit)) s.left s.right p ln w.left w.right
    (h 0 ∙ (λ i. bit_or (word-node_word ns set 0 i) (2 ^ bit)))
    (λ y. h (suc (2 * y)) ∙ (λ i. bit_or (word-odd ns set y i) (past (2 * y) i)) ∙ or_none (word ns s.left y))
    (λ y. h (suc (2 * y + 1)) ∙ (λ i. bit_or (word-even ns set y i) (past (2 * y + 1) i)) ∙ or_none (word ns s.right y))
  where
    past : (k : ℕ) → word_with 0 bit (suc k) ≡ 0
    past k = λ i. if differs (suc k) 0 (λ e. omega (arith, e)) i then 2 ^ bit else 0

-- If the bit is in a word of the left part, the left part of n is the old one with one more bit.
pub left-more : (ns : List Node) (n set index bit : ℕ) → 0 < index → (index - 1) % 2 ≡ 0 → HasMore ns n set index bit → HasMore ns (node_at ns n).left (node_at ns set).left ((index - 1) / 2) bit
left-more ns n set zero bit pos even h = absurd (omega (arith, pos))
left-more ns n set (suc j) bit pos even h = λ y.
    let same : suc j - 1 ≡ j = omega arith in
    let one = one-left j bit (suc (2 * y)) (subst (λ z. z % 2 ≡ 0) same even) ∙ node_word-odd 0 (word_with (j / 2) bit) (λ _. 0) y in
    sym (word-odd ns n y)
    ∙ h (suc (2 * y))
    ∙ (λ i. bit_or (word-odd ns set y i) (one i))
    ∙ (λ i. bit_or (word ns (node_at ns set).left y) (word_with (sym same i / 2) bit y))

pub left-there : (ns : List Node) (n set index bit : ℕ) → IsPool ns → n < length ns → set < length ns → 0 < index → (index - 1) % 2 ≡ 0 → HasMore ns n set index bit
    → node_at ns n ≡ record { here = (node_at ns set).here; left = (node_at ns n).left; right = (node_at ns set).right }
left-there ns n set zero bit p ln ls pos even h = absurd (omega (arith, pos))
left-there ns n set (suc j) bit p ln ls pos even h =
    let s = node_at ns set in
    let same : suc j - 1 ≡ j = omega arith in
    let one : (x : ℕ) → word_with (suc j) bit x ≡ node_word 0 (word_with (j / 2) bit) (λ _. 0) x = λ x. one-left j bit x (subst (λ z. z % 2 ≡ 0) same even) in
    node-by ns n s.here (node_at ns n).left s.right p ln (within-at ns n p ln).left (within-at ns set p ls).right
    (h 0 ∙ (λ i. bit_or (word-node_word ns set 0 i) (one 0 i)) ∙ or_none s.here)
    (λ y. word-odd ns n y)
    (λ y. h (suc (2 * y + 1))
    ∙ (λ i. bit_or (word-even ns set y i) ((one (suc (2 * y + 1)) ∙ node_word-even 0 (word_with (j / 2) bit) (λ _. 0) y) i))
    ∙ or_none (word ns s.right y))

-- If the bit is in a word of the right part, the right part of n is the old one with one more bit.
pub right-more : (ns : List Node) (n set index bit : ℕ) → 0 < index → (¬ ((index - 1) % 2 ≡ 0)) → HasMore ns n set index bit → HasMore ns (node_at ns n).right (node_at ns set).right ((index - 1) / 2) bit
right-more ns n set zero bit pos odd h = absurd (omega (arith, pos))
right-more ns n set (suc j) bit pos odd h = λ y.
    let same : suc j - 1 ≡ j = omega arith in
    let one = one-right j bit (suc (2 * y + 1)) (subst (λ z. ¬ (z % 2 ≡ 0)) same odd) ∙ node_word-even 0 (λ _. 0) (word_with (j / 2) bit) y in
    sym (word-even ns n y)
    ∙ h (suc (2 * y + 1))
    ∙ (λ i. bit_or (word-even ns set y i) (one i))
    ∙ (λ i. bit_or (word ns (node_at ns set).right y) (word_with (sym same i / 2) bit y))

pub right-there : (ns : List Node) (n set index bit : ℕ) → IsPool ns → n < length ns → set < length ns → 0 < index → (¬ ((index - 1) % 2 ≡ 0)) → HasMore ns n set index bit
    → node_at ns n ≡ record { here = (node_at ns set).here; left = (node_at ns set).left; right = (node_at ns n).right }
right-there ns n set zero bit p ln ls pos odd h = absurd (omega (arith, pos))
right-there ns n set (suc j) bit p ln ls pos odd h =
    let s = node_at ns set in
    let same : suc j - 1 ≡ j = omega arith in
    let one : (x : ℕ) → word_with (suc j) bit x ≡ node_word 0 (λ _. 0) (word_with (j / 2) bit) x = λ x. one-right j bit x (subst (λ z. ¬ (z % 2 ≡ 0)) same odd) in
    node-by ns n s.here s.left (node_at ns n).right p ln (within-at ns set p ls).left (within-at ns n p ln).right
    (h 0 ∙ (λ i. bit_or (word-node_word ns set 0 i) (one 0 i)) ∙ or_none s.here)
    (λ y. h (suc (2 * y))
    ∙ (λ i. bit_or (word-odd ns set y i) ((one (suc (2 * y)) ∙ node_word-odd 0 (λ _. 0) (word_with (j / 2) bit) y) i))
    ∙ or_none (word ns s.left y))
    (λ y. word-even ns n y)

-- A set with one more member has one more bit in its words.
pub more-words : (ns : List Node) (n set index bit : ℕ) → IsPool ns → n < length ns → set < length ns → bit < 64 → ((x : ℕ) → member ns n x ≡ (nat_eq x (index * 64 + bit) || member ns set x)) → HasMore ns n set index bit
more-words ns n set index bit p ln ls lb h =
    words-of ns n (λ w. bit_or (word ns set w) (word_with index bit w)) p ln (λ w. or_lt 64 (word ns set w) (word_with index bit w) (word-lt ns set w p ls) (below (nat_eq w index)))
    (λ x. h x ∙ sym (inserted-bits ns set index bit lb x))
  where
    below : (b : Bool) → (if b then 2 ^ bit else 0) < 2 ^ 64
    below true = pow_below bit 64 lb
    below false = omega arith

-- The left part of n exists and has one more bit. Thus n has the node that the insertion looks for.
pub left-asked : (ns : List Node) (n set index bit : ℕ) (node : Node)
    → node ≡ node_at ns set
    → IsPool ns
    → n < length ns
    → (¬ (index ≡ 0))
    → (index - 1) % 2 ≡ 0
    → HasMore ns n set index bit
    → ((node_at ns n).left < length ns) × ((w : ℕ) → word ns (node_at ns n).left w ≡ bit_or (word ns node.left w) (word_with ((index - 1) / 2) bit w))
left-asked ns n set index bit node at p ln pos even h = (
  (within-at ns n p ln).left,
  λ w. left-more ns n set index bit (pos-of index pos) even h w ∙ (λ i. bit_or (word ns (sym at i).left w) (word_with ((index - 1) / 2) bit w)),
)

pub left-found : (old mid : List Node) (n set index bit left : ℕ) (node : Node)
    → node ≡ node_at old set
    → IsPool old
    → n < length old
    → set < length old
    → (¬ (index ≡ 0))
    → (index - 1) % 2 ≡ 0
    → HasMore old n set index bit
    → left ≡ (node_at old n).left
    → mid ≡ old
    → (n < length mid) × (node_at mid n ≡ record { here = node.here; left = left; right = node.right })
left-found old mid n set index bit left node at p ln ls pos even h is same = (
  subst (λ ns. n < length ns) (sym same) ln,
  (λ i. node_at (same i) n)
      ∙ left-there old n set index bit p ln ls (pos-of index pos) even h
      ∙ (λ i. record { here = (sym at i).here; left = sym is i; right = (sym at i).right }),
)

-- The right part of n exists and has one more bit. Thus n has the node that the insertion looks for.
pub right-asked : (ns : List Node) (n set index bit : ℕ) (node : Node)
    → node ≡ node_at ns set
    → IsPool ns
    → n < length ns
    → (¬ (index ≡ 0))
    → (¬ ((index - 1) % 2 ≡ 0))
    → HasMore ns n set index bit
    → ((node_at ns n).right < length ns) × ((w : ℕ) → word ns (node_at ns n).right w ≡ bit_or (word ns node.right w) (word_with ((index - 1) / 2) bit w))
right-asked ns n set index bit node at p ln pos odd h = (
  (within-at ns n p ln).right,
  λ w. right-more ns n set index bit (pos-of index pos) odd h w ∙ (λ i. bit_or (word ns (sym at i).right w) (word_with ((index - 1) / 2) bit w)),
)

pub right-found : (old mid : List Node) (n set index bit right : ℕ) (node : Node)
    → node ≡ node_at old set
    → IsPool old
    → n < length old
    → set < length old
    → (¬ (index ≡ 0))
    → (¬ ((index - 1) % 2 ≡ 0))
    → HasMore old n set index bit
    → right ≡ (node_at old n).right
    → mid ≡ old
    → (n < length mid) × (node_at mid n ≡ record { here = node.here; left = node.left; right = right })
right-found old mid n set index bit right node at p ln ls pos odd h is same = (
  subst (λ ns. n < length ns) (sym same) ln,
  (λ i. node_at (same i) n)
      ∙ right-there old n set index bit p ln ls (pos-of index pos) odd h
      ∙ (λ i. record { here = (sym at i).here; left = (sym at i).left; right = sym is i }),
)

-- ---- the result of an operation on two sets

pub combine-left : (op : ℕ → ℕ → ℕ) (ns : List Node) (n one two : ℕ) → IsJoin op ns n one two → IsJoin op ns (node_at ns n).left (node_at ns one).left (node_at ns two).left
combine-left op ns n one two h = λ y. sym (word-odd ns n y) ∙ h (suc (2 * y)) ∙ (λ i. op (word-odd ns one y i) (word-odd ns two y i))

pub combine-right : (op : ℕ → ℕ → ℕ) (ns : List Node) (n one two : ℕ) → IsJoin op ns n one two → IsJoin op ns (node_at ns n).right (node_at ns one).right (node_at ns two).right
combine-right op ns n one two h = λ y. sym (word-even ns n y) ∙ h (suc (2 * y + 1)) ∙ (λ i. op (word-even ns one y i) (word-even ns two y i))

pub combine-there : (op : ℕ → ℕ → ℕ) (ns : List Node) (n one two : ℕ) → IsJoin op ns n one two
    → node_at ns n ≡ record { here = op (node_at ns one).here (node_at ns two).here; left = (node_at ns n).left; right = (node_at ns n).right }
combine-there op ns n one two h =
    let s = node_at ns n in
    node-same s (record { here = op (node_at ns one).here (node_at ns two).here; left = s.left; right = s.right })
    (sym (word-node_word ns n 0) ∙ h 0 ∙ (λ i. op (word-node_word ns one 0 i) (word-node_word ns two 0 i))) refl refl

-- Both parts of n exist and are the results of `op` on the parts. Thus n has the node of the result.
pub lefts-asked : (op : ℕ → ℕ → ℕ) (ns : List Node) (n one two : ℕ) (first second : Node)
    → first ≡ node_at ns one
    → second ≡ node_at ns two
    → IsPool ns
    → n < length ns
    → IsJoin op ns n one two
    → ((node_at ns n).left < length ns) × IsJoin op ns (node_at ns n).left first.left second.left
lefts-asked op ns n one two first second a b p ln h = (
  (within-at ns n p ln).left,
  λ w. combine-left op ns n one two h w ∙ (λ i. op (word ns (sym a i).left w) (word ns (sym b i).left w)),
)

pub rights-asked : (op : ℕ → ℕ → ℕ) (old mid : List Node) (n one two : ℕ) (first second : Node)
    → first ≡ node_at old one
    → second ≡ node_at old two
    → IsPool old
    → n < length old
    → IsJoin op old n one two
    → mid ≡ old
    → ((node_at old n).right < length mid) × IsJoin op mid (node_at old n).right first.right second.right
rights-asked op old mid n one two first second a b p ln h same =
    subst (λ ns. ((node_at old n).right < length ns) × IsJoin op ns (node_at old n).right first.right second.right) (sym same)
    ((within-at old n p ln).right, λ w. combine-right op old n one two h w ∙ (λ i. op (word old (sym a i).right w) (word old (sym b i).right w)))

pub member_rule-found : (op : ℕ → ℕ → ℕ) (old mid after : List Node) (n one two here left right : ℕ) (first second : Node)
    → first ≡ node_at old one
    → second ≡ node_at old two
    → n < length old
    → IsJoin op old n one two
    → here ≡ op first.here second.here
    → left ≡ (node_at old n).left
    → right ≡ (node_at old n).right
    → mid ≡ old
    → after ≡ mid
    → (n < length after) × (node_at after n ≡ record { here = here; left = left; right = right })
member_rule-found op old mid after n one two here left right first second a b ln h hs ls rs m k =
    let same = k ∙ m in (
      subst (λ ns. n < length ns) (sym same) ln,
      (λ i. node_at (same i) n)
          ∙ combine-there op old n one two h
          ∙ (λ i. record { here = (sym (hs ∙ (λ j. op (a j).here (b j).here))) i; left = sym ls i; right = sym rs i }),
    )

member_rule-below : (o : Operation) (a b : ℕ) → a < 2 ^ 64 → b < 2 ^ 64 → word_rule o a b < 2 ^ 64
member_rule-below Union a b k l = or_lt 64 a b k l
member_rule-below Intersection a b k l = let m = and_le_l a b in omega (arith, m, k)

-- A set with the members of the result has the words of the result.
pub combine-words : (o : Operation) (ns : List Node) (n one two : ℕ) → IsPool ns → n < length ns → one < length ns → two < length ns
    → ((x : ℕ) → member ns n x ≡ member_rule o (member ns one x) (member ns two x)) → IsJoin (word_rule o) ns n one two
combine-words o ns n one two p ln lo lt h =
    words-of ns n (λ w. word_rule o (word ns one w) (word ns two w)) p ln (λ w. member_rule-below o (word ns one w) (word ns two w) (word-lt ns one w p lo) (word-lt ns two w p lt))
    (λ x. h x ∙ sym (member_rule-bits o ns one two x))

-- For a call that fails, only the postcondition of the failure has to hold.
pub refused : {A E : Type 0} (r : Result A E) (P : A → Type 0) (X : Type 0) → IsErr r → X → IfOk r P × OnErr r X
refused (Ok x) P X e h = absurd (cc e)
refused (Err y) P X e h = (tt, h)
