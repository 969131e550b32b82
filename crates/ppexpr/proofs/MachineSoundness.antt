-- The result of the stack machine is the meaning of a tree of the symbols.
use Rattle.std.proofs.Common.{◌≡◌, ℕ, zero, suc, ◌≤◌, ◌<◌, List, [], ◌∷◌, ◌++◌, if◌then◌else◌, refl, sym, ap, subst, ◌∙◌, arith, append_assoc, append-nil, inl, inr}
use Rattle.std.specs.Prelude.{Option, Some, None, IfSome, option_and_then}
use Rattle.std.proofs.lemmas.Bool.Decides.{leb_tells}
use Rattle.ppexpr.specs.declared.operators.Operator.{Operator as OperatorSign}
use Rattle.ppexpr.specs.declared.symbols.Symbol.{Symbol}
use Rattle.ppexpr.specs.declared.symbols.Symbol.TheVariants.{Constant, Operator, Open, Close, Question, Colon, Other}
use Rattle.ppexpr.specs.Operators.{unary_of, binary_of}
use Rattle.ppexpr.specs.declared.operators.Infix.{Infix}
use Rattle.ppexpr.specs.declared.operators.Unary.{Unary}
use Rattle.ppexpr.specs.Grammar.{Tree, Leaf, Applied, Joined, Chosen, Derives, constant, parentheses, unary, binary, conditional, tighter}
use Rattle.ppexpr.specs.code.Pending.{Meaning, frame_level, completed, unreduced, reduced, State, after_sign, after_operator, after_colon}
use Rattle.ppexpr.specs.code.Pending.{after_close, after_last, step}
use Rattle.ppexpr.specs.declared.parsing.Frame.{Frame}
use Rattle.ppexpr.specs.declared.parsing.Frame.TheVariants.{Group, Sign, Left, Test, Arms}
use Rattle.ppexpr.proofs.MachineCompleteness.{meaning, level_bounds}
use Rattle.ppexpr.proofs.MachineRuns.{run}

-- An expression of a level is also an expression of each looser level.
loosened : (j k : ℕ) {s : List Symbol} {t : Tree} → k ≤ j → Derives j s t → Derives k s t
loosened zero k {s} {t} h d = subst (λ n. Derives n s t) (omega arith) d
loosened (suc j) k {s} {t} h d = elim (leb_tells k j) [ inl w ↦ loosened j k (w.1) (tighter d) | inr w ↦ subst (λ n. Derives n s t) (omega arith) d ]

-- the level of the operand that the innermost frame waits for
abbrev wanted : {A : Type 0} → List (Frame A) → ℕ
wanted [] = 0
wanted (Group ∷ fs) = 0
wanted (Sign o ∷ fs) = 12
wanted (Left o x ∷ fs) = suc o.level
wanted (Test x ∷ fs) = 0
wanted (Arms x y ∷ fs) = 1

-- the frames represent these symbols, after which an operand must follow
data Opens {A : Type 0} (m : Meaning A) : List (Frame A) → List Symbol → Type 0 where
  nothing : Opens m [] []
  group : {fs : List (Frame A)} {xs zs : List Symbol} → Opens m fs xs → zs ≡ xs ++ Open ∷ [] → Opens m (Group ∷ fs) zs
  sign : {fs : List (Frame A)} {xs zs : List Symbol} (c : OperatorSign) (o : Unary) → unary_of c ≡ Some o →
      Opens m fs xs → zs ≡ xs ++ Operator c ∷ [] → Opens m (Sign o ∷ fs) zs
  left : {fs : List (Frame A)} {xs ys zs : List Symbol} {t : Tree} {x : A} (c : OperatorSign) (o : Infix) → binary_of c ≡ Some o →
      Opens m fs xs → wanted fs ≤ o.level → Derives o.level ys t → x ≡ meaning m t →
      zs ≡ xs ++ (ys ++ Operator c ∷ []) → Opens m (Left o x ∷ fs) zs
  test : {fs : List (Frame A)} {xs ys zs : List Symbol} {t : Tree} {x : A} →
      Opens m fs xs → wanted fs ≤ 1 → Derives 2 ys t → x ≡ meaning m t →
      zs ≡ xs ++ (ys ++ Question ∷ []) → Opens m (Test x ∷ fs) zs
  arms : {fs : List (Frame A)} {xs ys ns zs : List Symbol} {t u : Tree} {x y : A} →
      Opens m fs xs → wanted fs ≤ 1 → Derives 2 ys t → x ≡ meaning m t → Derives 0 ns u → y ≡ meaning m u →
      zs ≡ xs ++ (ys ++ (Question ∷ (ns ++ Colon ∷ []))) → Opens m (Arms x y ∷ fs) zs

wanted_small : {A : Type 0} {m : Meaning A} {fs : List (Frame A)} {xs : List Symbol} → Opens m fs xs → wanted fs ≤ 12
wanted_small nothing = omega arith
wanted_small (group outer read) = omega arith
wanted_small (sign c o is outer read) = omega arith
wanted_small (left c o is outer fits first same read) = omega (arith, (level_bounds c o is).high)
wanted_small (test outer fits first same read) = omega arith
wanted_small (arms outer fits first same second like read) = omega arith

-- the frames represent the first symbols, and the others are an operand of this level that fits the frames
record Reads {A : Type 0} (m : Meaning A) (k : ℕ) (fs : List (Frame A)) (z : A) (all : List Symbol) : Type 0 where
  before : List Symbol
  inside : List Symbol
  tree : Tree
  opens : Opens m fs before
  derives : Derives k inside tree
  fits : wanted fs ≤ k
  value : z ≡ meaning m tree
  whole : before ++ inside ≡ all

-- A frame is completed with the operand or stays, depending on its level.
taken_or_kept : {A : Type 0} (m : Meaning A) (p : ℕ) (f : Frame A) (fs : List (Frame A)) (z : A) (all : List Symbol) →
    (p ≤ frame_level f → Reads m p (unreduced p fs) (reduced m p fs (completed m f z)) all) →
    (frame_level f < p → Reads m p (f ∷ fs) z all) →
    Reads m p (unreduced p (f ∷ fs)) (reduced m p (f ∷ fs) z) all
taken_or_kept m p f fs z all taken stays = elim (leb_tells p (frame_level f)) [
  | inl w ↦ subst (λ b. Reads m p (if b then unreduced p fs else (f ∷ fs)) (if b then reduced m p fs (completed m f z) else z) all) (sym w.0) (taken w.1)
  | inr w ↦ subst (λ b. Reads m p (if b then unreduced p fs else (f ∷ fs)) (if b then reduced m p fs (completed m f z) else z) all) (sym w.0) (stays w.1)
]

stays : {A : Type 0} (m : Meaning A) (k p : ℕ) (fs : List (Frame A)) (xs ns all : List Symbol) (t : Tree) (z : A) → Opens m fs xs →
    Derives k ns t → p ≤ k → wanted fs ≤ p → z ≡ meaning m t → xs ++ ns ≡ all → Reads m p fs z all
stays m k p fs xs ns all t z opens operand deep fits means whole = record {
  before = xs;
  inside = ns;
  tree = t;
  opens = opens;
  derives = loosened k p deep operand;
  fits = fits;
  value = means;
  whole = whole;
}

-- ---- concatenated lists of symbols

front : (xs zs ns all : List Symbol) (c : Symbol) → zs ≡ xs ++ c ∷ [] → zs ++ ns ≡ all → xs ++ (c ∷ ns) ≡ all
front xs zs ns all c e w = sym (append_assoc xs (c ∷ []) ns) ∙ ap (λ l. l ++ ns) (sym e) ∙ w

middle : (xs ys zs ns all : List Symbol) (c : Symbol) → zs ≡ xs ++ (ys ++ c ∷ []) → zs ++ ns ≡ all → xs ++ (ys ++ (c ∷ ns)) ≡ all
middle xs ys zs ns all c e w =
    ap (λ l. xs ++ l) (sym (append_assoc ys (c ∷ []) ns)) ∙ sym (append_assoc xs (ys ++ c ∷ []) ns) ∙ ap (λ l. l ++ ns) (sym e) ∙ w

arms_end : (xs ys qs zs ns all : List Symbol) (c d : Symbol) → zs ≡ xs ++ (ys ++ (c ∷ (qs ++ d ∷ []))) → zs ++ ns ≡ all →
    xs ++ (ys ++ (c ∷ (qs ++ (d ∷ ns)))) ≡ all
arms_end xs ys qs zs ns all c d e w =
    ap (λ l. xs ++ (ys ++ (c ∷ l))) (sym (append_assoc qs (d ∷ []) ns))
    ∙ ap (λ l. xs ++ l) (sym (append_assoc ys (c ∷ (qs ++ d ∷ [])) ns))
    ∙ sym (append_assoc xs (ys ++ (c ∷ (qs ++ d ∷ []))) ns) ∙ ap (λ l. l ++ ns) (sym e) ∙ w

-- appends a symbol after the operand
pushed : (xs ys all : List Symbol) (c : Symbol) → xs ++ ys ≡ all → all ++ c ∷ [] ≡ xs ++ (ys ++ c ∷ [])
pushed xs ys all c w = ap (λ l. l ++ c ∷ []) (sym w) ∙ append_assoc xs ys (c ∷ [])

-- ---- the operand completes the frames of a level or tighter

settles : {A : Type 0} (m : Meaning A) (p : ℕ) → 1 ≤ p → {fs : List (Frame A)} {xs : List Symbol} → Opens m fs xs →
    (k : ℕ) (ns all : List Symbol) (t : Tree) (z : A) → Derives k ns t → wanted fs ≤ k → p ≤ k → z ≡ meaning m t → xs ++ ns ≡ all →
    Reads m p (unreduced p fs) (reduced m p fs z) all
settles m p low (nothing) k ns all t z operand fit deep means whole = stays m k p [] [] ns all t z nothing operand deep (omega arith) means whole
settles m p low (group {fs = fs} {zs = zs} outer read) k ns all t z operand fit deep means whole = taken_or_kept m p Group fs z all
    (λ tight. absurd (omega arith))
    (λ loose. stays m k p (Group ∷ fs) zs ns all t z (group outer read) operand deep (omega arith) means whole)
settles m p low (sign {fs = fs} {xs = xs} {zs = zs} c o is outer read) k ns all t z operand fit deep means whole =
    taken_or_kept m p (Sign o) fs z all
    (λ tight. settles m p low outer 12 (Operator c ∷ ns) all (Applied o t) (m.applied o z)
    (unary c o is (loosened k 12 fit operand)) (wanted_small outer) tight (ap (λ y. m.applied o y) means)
    (front xs zs ns all (Operator c) read whole))
    (λ loose. stays m k p (Sign o ∷ fs) zs ns all t z (sign c o is outer read) operand deep (omega arith) means whole)
settles m p low (left {fs = fs} {xs = xs} {ys = ys} {zs = zs} {t = a} {x = x} c o is outer fits first same read) k ns all t z operand fit deep means whole =
    taken_or_kept m p (Left o x) fs z all
    (λ tight. settles m p low outer o.level (ys ++ (Operator c ∷ ns)) all (Joined o.operation a t) (m.joined o.operation x z)
    (binary c o is first (loosened k (suc o.level) fit operand)) fits tight (λ i. m.joined o.operation (same i) (means i))
    (middle xs ys zs ns all (Operator c) read whole))
    (λ loose. stays m k p (Left o x ∷ fs) zs ns all t z (left c o is outer fits first same read) operand deep (omega arith) means whole)
settles m p low (test {fs = fs} {zs = zs} {x = x} outer fits first same read) k ns all t z operand fit deep means whole =
    taken_or_kept m p (Test x) fs z all
    (λ tight. absurd (omega arith))
    (λ loose. stays m k p (Test x ∷ fs) zs ns all t z (test outer fits first same read) operand deep (omega arith) means whole)
settles m p low (arms {fs = fs} {xs = xs} {ys = ys} {ns = qs} {zs = zs} {t = a} {u = b} {x = x} {y = y} outer fits first same second like read)
    k ns all t z operand fit deep means whole =
    taken_or_kept m p (Arms x y) fs z all
    (λ tight. settles m p low outer 1 (ys ++ (Question ∷ (qs ++ (Colon ∷ ns)))) all (Chosen a b t) (m.chosen x y z)
    (conditional first second (loosened k 1 fit operand)) fits tight (λ i. m.chosen (same i) (like i) (means i))
    (arms_end xs ys qs zs ns all Question Colon read whole))
    (λ loose. stays m k p (Arms x y ∷ fs) zs ns all t z (arms outer fits first same second like read) operand deep (omega arith) means whole)

reduce : {A : Type 0} (m : Meaning A) (p k : ℕ) (fs : List (Frame A)) (z : A) (all : List Symbol) → 1 ≤ p → p ≤ k →
    Reads m k fs z all → Reads m p (unreduced p fs) (reduced m p fs z) all
reduce m p k fs z all low deep r = settles m p low r.opens k r.inside all r.tree z r.derives r.fits deep r.value r.whole

-- ---- the machine's steps

-- the state represents the symbols read so far; its operand, if any, is a primary expression at their end
abbrev Stands : {A : Type 0} → Meaning A → State A → List Symbol → Type 0
Stands m (fs, None) xs = Opens m fs xs
Stands m (fs, Some z) xs = Reads m 13 fs z xs

after_sign-stands : {A : Type 0} (m : Meaning A) (fs : List (Frame A)) (xs : List Symbol) (s : OperatorSign) (q : Option Unary) → unary_of s ≡ q →
    Opens m fs xs → IfSome (after_sign fs q) (λ r. Stands m r (xs ++ Operator s ∷ []))
after_sign-stands m fs xs s None e h = tt
after_sign-stands m fs xs s (Some o) e h = sign s o e h refl

after_operator-stands : {A : Type 0} (m : Meaning A) (fs : List (Frame A)) (z : A) (xs : List Symbol) (s : OperatorSign) (q : Option Infix) → binary_of s ≡ q →
    Reads m 13 fs z xs → IfSome (after_operator m fs z q) (λ r. Stands m r (xs ++ Operator s ∷ []))
after_operator-stands m fs z xs s None e h = tt
after_operator-stands m fs z xs s (Some o) e h = opened (reduce m o.level 13 fs z xs (omega (arith, (level_bounds s o e).low)) (omega (arith, (level_bounds s o e).high)) h)
  where
    opened : Reads m o.level (unreduced o.level fs) (reduced m o.level fs z) xs →
        Opens m (Left o (reduced m o.level fs z) ∷ unreduced o.level fs) (xs ++ Operator s ∷ [])
    opened r = left s o e r.opens r.fits r.derives r.value (pushed r.before r.inside xs (Operator s) r.whole)

tested-stands : {A : Type 0} (m : Meaning A) (fs : List (Frame A)) (z : A) (xs : List Symbol) → wanted fs ≤ 1 → Reads m 2 fs z xs →
    Opens m (Test z ∷ fs) (xs ++ Question ∷ [])
tested-stands m fs z xs w r = test r.opens w r.derives r.value (pushed r.before r.inside xs Question r.whole)

-- no frame waits for an operand of level 2
wanted_low : {A : Type 0} {m : Meaning A} {fs : List (Frame A)} {xs : List Symbol} → Opens m fs xs → wanted fs ≤ 2 → wanted fs ≤ 1
wanted_low nothing h = omega arith
wanted_low (group outer read) h = omega arith
wanted_low (sign c o is outer read) h = absurd (omega arith)
wanted_low (left c o is outer fits first same read) h = absurd (omega (arith, (level_bounds c o is).low))
wanted_low (test outer fits first same read) h = omega arith
wanted_low (arms outer fits first same second like read) h = omega arith

after_colon-stands : {A : Type 0} (m : Meaning A) {fs : List (Frame A)} {xs : List Symbol} → Opens m fs xs → (z : A) (ns all : List Symbol) (t : Tree) →
    Derives 1 ns t → z ≡ meaning m t → xs ++ ns ≡ all → IfSome (after_colon fs z) (λ r. Stands m r (all ++ Colon ∷ []))
after_colon-stands m (nothing) z ns all t operand means whole = tt
after_colon-stands m (group outer read) z ns all t operand means whole = tt
after_colon-stands m (sign o u is outer read) z ns all t operand means whole = tt
after_colon-stands m (left o b is outer fits first same read) z ns all t operand means whole = tt
after_colon-stands m (test {xs = xs} {ys = ys} {zs = zs} outer fits first same read) z ns all t operand means whole =
    arms outer fits first same (tighter operand) means
    (pushed xs (ys ++ (Question ∷ ns)) all Colon (middle xs ys zs ns all Question read whole) ∙ ap (λ q. xs ++ q) (append_assoc ys (Question ∷ ns) (Colon ∷ [])))
after_colon-stands m (arms outer fits first same second like read) z ns all t operand means whole = tt

after_close-stands : {A : Type 0} (m : Meaning A) {fs : List (Frame A)} {xs : List Symbol} → Opens m fs xs → (z : A) (ns all : List Symbol) (t : Tree) →
    Derives 1 ns t → z ≡ meaning m t → xs ++ ns ≡ all → IfSome (after_close fs z) (λ r. Stands m r (all ++ Close ∷ []))
after_close-stands m (nothing) z ns all t operand means whole = tt
after_close-stands m (group {fs = fs} {xs = xs} {zs = zs} outer read) z ns all t operand means whole = record {
  before = xs;
  inside = Open ∷ (ns ++ Close ∷ []);
  tree = t;
  opens = outer;
  derives = parentheses (tighter operand);
  fits = omega (arith, wanted_small outer);
  value = means;
  whole = front xs zs (ns ++ Close ∷ []) (all ++ Close ∷ []) Open read (sym (pushed zs ns all Close whole));
}
after_close-stands m (sign o u is outer read) z ns all t operand means whole = tt
after_close-stands m (left o b is outer fits first same read) z ns all t operand means whole = tt
after_close-stands m (test outer fits first same read) z ns all t operand means whole = tt
after_close-stands m (arms outer fits first same second like read) z ns all t operand means whole = tt

-- the symbols are an expression with this meaning
abbrev pub Means : {A : Type 0} → Meaning A → List Symbol → A → Type 0
Means m all z = (t : Tree) × Derives 0 all t × (z ≡ meaning m t)

after_last-means : {A : Type 0} (m : Meaning A) {fs : List (Frame A)} {xs : List Symbol} → Opens m fs xs → (z : A) (ns all : List Symbol) (t : Tree) →
    Derives 1 ns t → z ≡ meaning m t → xs ++ ns ≡ all → IfSome (after_last fs z) (Means m all)
after_last-means m (nothing) z ns all t operand means whole = (t, subst (λ q. Derives 0 q t) whole (tighter operand), means)
after_last-means m (group outer read) z ns all t operand means whole = tt
after_last-means m (sign o u is outer read) z ns all t operand means whole = tt
after_last-means m (left o b is outer fits first same read) z ns all t operand means whole = tt
after_last-means m (test outer fits first same read) z ns all t operand means whole = tt
after_last-means m (arms outer fits first same second like read) z ns all t operand means whole = tt

step-stands : {A : Type 0} (m : Meaning A) (s : State A) (xs : List Symbol) (x : Symbol) → Stands m s xs → IfSome (step m s x) (λ r. Stands m r (xs ++ x ∷ []))
step-stands m (fs, None) xs (Constant v) h = record {
  before = xs;
  inside = Constant v ∷ [];
  tree = Leaf v;
  opens = h;
  derives = constant v;
  fits = omega (arith, wanted_small h);
  value = refl;
  whole = refl;
}
step-stands m (fs, None) xs (Operator o) h = after_sign-stands m fs xs o (unary_of o) refl h
step-stands m (fs, None) xs Open h = group h refl
step-stands m (fs, None) xs Close h = tt
step-stands m (fs, None) xs Question h = tt
step-stands m (fs, None) xs Colon h = tt
step-stands m (fs, None) xs Other h = tt
step-stands m (fs, Some z) xs (Constant v) h = tt
step-stands m (fs, Some z) xs (Operator o) h = after_operator-stands m fs z xs o (binary_of o) refl h
step-stands m (fs, Some z) xs Open h = tt
step-stands m (fs, Some z) xs Close h =
    let r : Reads m 1 (unreduced 1 fs) (reduced m 1 fs z) xs = reduce m 1 13 fs z xs (omega arith) (omega arith) h in
    after_close-stands m r.opens (reduced m 1 fs z) r.inside xs r.tree r.derives r.value r.whole
step-stands m (fs, Some z) xs Question h =
    let r : Reads m 2 (unreduced 2 fs) (reduced m 2 fs z) xs = reduce m 2 13 fs z xs (omega arith) (omega arith) h in
    tested-stands m (unreduced 2 fs) (reduced m 2 fs z) xs (wanted_low r.opens r.fits) r
step-stands m (fs, Some z) xs Colon h =
    let r : Reads m 1 (unreduced 1 fs) (reduced m 1 fs z) xs = reduce m 1 13 fs z xs (omega arith) (omega arith) h in
    after_colon-stands m r.opens (reduced m 1 fs z) r.inside xs r.tree r.derives r.value r.whole
step-stands m (fs, Some z) xs Other h = tt

next-means : {A : Type 0} (m : Meaning A) (q : Option (State A)) (P : State A → Type 0) (xs all : List Symbol) → IfSome q P →
    ((r : State A) → P r → IfSome (run m r xs) (Means m all)) → IfSome (option_and_then (λ r. run m r xs) q) (Means m all)
next-means m None P xs all h k = tt
next-means m (Some r) P xs all h k = k r h

run-means : {A : Type 0} (m : Meaning A) (xs : List Symbol) (s : State A) (ys : List Symbol) → Stands m s ys → IfSome (run m s xs) (Means m (ys ++ xs))
run-means m [] (fs, None) ys h = tt
run-means m [] (fs, Some z) ys h =
    let r : Reads m 1 (unreduced 1 fs) (reduced m 1 fs z) ys = reduce m 1 13 fs z ys (omega arith) (omega arith) h in
    after_last-means m r.opens (reduced m 1 fs z) r.inside (ys ++ []) r.tree r.derives r.value (r.whole ∙ sym (append-nil ys))
run-means m (x ∷ xs) s ys h = next-means m (step m s x) (λ r. Stands m r (ys ++ x ∷ [])) xs (ys ++ x ∷ xs) (step-stands m s ys x h)
    (λ r k. subst (λ l. IfSome (run m r xs) (Means m l)) (append_assoc ys (x ∷ []) xs) (run-means m xs r (ys ++ x ∷ []) k))

pub sound : {A : Type 0} (m : Meaning A) (s : List Symbol) → IfSome (run m ([], None) s) (Means m s)
sound m s = run-means m s ([], None) [] nothing
