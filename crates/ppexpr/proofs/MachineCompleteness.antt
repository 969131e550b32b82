-- The stack machine evaluates each expression to the meaning of its tree.
use Rattle.std.proofs.Common.{◌≡◌, ℕ, suc, ◌≤◌, ◌<◌, List, [], ◌∷◌, ◌++◌, if◌then◌else◌, refl, sym, ap, subst, ◌∙◌, arith, append_assoc, append-nil}
use Rattle.std.specs.Prelude.{Some, None, IfSome, option_and_then}
use Rattle.std.proofs.lemmas.Bool.{le-leb, lt-leb}
use Rattle.ppexpr.specs.declared.operators.Operator.{Operator as OperatorSign}
use Rattle.ppexpr.specs.declared.symbols.Symbol.{Symbol}
use Rattle.ppexpr.specs.declared.symbols.Symbol.TheVariants.{Operator, Open, Close, Question, Colon}
use Rattle.ppexpr.specs.Operators.{unary_of, binary_of}
use Rattle.ppexpr.specs.declared.operators.Operator.TheVariants as sign
use Rattle.ppexpr.specs.declared.operators.Infix.{Infix}
use Rattle.ppexpr.specs.declared.operators.Unary.{Unary}
use Rattle.ppexpr.specs.Grammar.{Tree, Leaf, Applied, Joined, Chosen, Derives, constant, parentheses, unary, binary, conditional, tighter}
use Rattle.ppexpr.specs.code.Pending.{Meaning, frame_level, completed, unreduced, reduced, after_sign, after_operator, after_colon, after_close}
use Rattle.ppexpr.specs.code.Pending.{after_last}
use Rattle.ppexpr.specs.declared.parsing.Frame.{Frame}
use Rattle.ppexpr.specs.declared.parsing.Frame.TheVariants.{Group, Sign, Left, Test, Arms}
use Rattle.ppexpr.proofs.MachineRuns.{run}

-- the value of a tree, by the operations of a `Meaning`
abbrev pub meaning : {A : Type 0} → Meaning A → Tree → A
meaning m (Leaf v) = m.leaf v
meaning m (Applied o t) = m.applied o (meaning m t)
meaning m (Joined o t u) = m.joined o (meaning m t) (meaning m u)
meaning m (Chosen t u w) = m.chosen (meaning m t) (meaning m u) (meaning m w)

-- the level of a binary operator
pub record IsBounded (o : Infix) : Type 0 where
  pub low : 2 ≤ o.level
  pub high : o.level ≤ 11

bounded : (sign : OperatorSign) → IfSome (binary_of sign) IsBounded
bounded sign.Tilde = tt
bounded sign.Bang = tt
bounded _ = record { low = omega arith; high = omega arith }

pub level_bounds : (sign : OperatorSign) (o : Infix) → binary_of sign ≡ Some o → IsBounded o
level_bounds sign o e = subst (λ q. IfSome q IsBounded) e (bounded sign)

-- ---- frames that are reduced, and frames that stay

-- An operator of this level or tighter does not reduce the frames.
abbrev Awaits : {A : Type 0} → ℕ → List (Frame A) → Type 0
Awaits k [] = Unit {0}
Awaits k (f ∷ fs) = (p : ℕ) → 2 ≤ p → k ≤ p → p ≤ 11 → frame_level f < p

Awaits-tighter : {A : Type 0} (k j : ℕ) (fs : List (Frame A)) → k ≤ j → Awaits k fs → Awaits j fs
Awaits-tighter k j [] h w = tt
Awaits-tighter k j (f ∷ fs) h w = λ p low at high. w p low (omega arith) high

-- each frame has this level or a tighter one
abbrev Tight : {A : Type 0} → ℕ → List (Frame A) → Type 0
Tight k [] = Unit {0}
Tight k (f ∷ fs) = (k ≤ frame_level f) × Tight k fs

Tight-looser : {A : Type 0} (k j : ℕ) (fs : List (Frame A)) → k ≤ j → Tight j fs → Tight k fs
Tight-looser k j [] h w = tt
Tight-looser k j (f ∷ fs) h w = (omega (arith, w.0), Tight-looser k j fs h w.1)

Tight-push : {A : Type 0} (k : ℕ) (fs : List (Frame A)) (f : Frame A) → Tight k fs → k ≤ frame_level f → Tight k (fs ++ f ∷ [])
Tight-push k [] f w h = (h, tt)
Tight-push k (g ∷ fs) f w h = (w.0, Tight-push k fs f w.1 h)

-- completes all frames with an operand, the innermost first
abbrev all_completed : {A : Type 0} → Meaning A → List (Frame A) → A → A
all_completed m [] z = z
all_completed m (f ∷ fs) z = all_completed m fs (completed m f z)

all_completed-push : {A : Type 0} (m : Meaning A) (fs : List (Frame A)) (f : Frame A) (z : A) →
    all_completed m (fs ++ f ∷ []) z ≡ completed m f (all_completed m fs z)
all_completed-push m [] f z = refl
all_completed-push m (g ∷ fs) f z = all_completed-push m fs f (completed m g z)

unreduced-tight : {A : Type 0} (p : ℕ) (fs gs : List (Frame A)) → Tight p fs → unreduced p (fs ++ gs) ≡ unreduced p gs
unreduced-tight p [] gs w = refl
unreduced-tight p (f ∷ fs) gs w =
    ap (λ b. if b then unreduced p (fs ++ gs) else (f ∷ (fs ++ gs))) (le-leb p (frame_level f) w.0) ∙ unreduced-tight p fs gs w.1

reduced-tight : {A : Type 0} (m : Meaning A) (p : ℕ) (fs gs : List (Frame A)) (z : A) → Tight p fs →
    reduced m p (fs ++ gs) z ≡ reduced m p gs (all_completed m fs z)
reduced-tight m p [] gs z w = refl
reduced-tight m p (f ∷ fs) gs z w =
    ap (λ b. if b then reduced m p (fs ++ gs) (completed m f z) else z) (le-leb p (frame_level f) w.0)
    ∙ reduced-tight m p fs gs (completed m f z) w.1

unreduced-awaits : {A : Type 0} (p : ℕ) (fs : List (Frame A)) → 2 ≤ p → p ≤ 11 → Awaits p fs → unreduced p fs ≡ fs
unreduced-awaits p [] low high w = refl
unreduced-awaits p (f ∷ fs) low high w =
    ap (λ b. if b then unreduced p fs else (f ∷ fs)) (lt-leb p (frame_level f) (w p low (omega arith) high))

reduced-awaits : {A : Type 0} (m : Meaning A) (p : ℕ) (fs : List (Frame A)) (z : A) → 2 ≤ p → p ≤ 11 → Awaits p fs → reduced m p fs z ≡ z
reduced-awaits m p [] z low high w = refl
reduced-awaits m p (f ∷ fs) z low high w =
    ap (λ b. if b then reduced m p fs (completed m f z) else z) (lt-leb p (frame_level f) (w p low (omega arith) high))

-- ---- the effect of an expression on the machine

-- An expression's symbols push frames and an operand, which complete to the meaning of its tree.
record Reaches {A : Type 0} (m : Meaning A) (k : ℕ) (fs : List (Frame A)) (s : List Symbol) (t : Tree) : Type 0 where
  above : List (Frame A)
  last : A
  tight : Tight k above
  open_none : Tight 1 above
  value : all_completed m above last ≡ meaning m t
  runs : (rest : List Symbol) → run m (fs, None) (s ++ rest) ≡ run m (above ++ fs, Some last) rest

reach_parentheses : {A : Type 0} (m : Meaning A) (fs : List (Frame A)) (s : List Symbol) (t : Tree) →
    Reaches m 0 (Group ∷ fs) s t → Reaches m 13 fs (Open ∷ (s ++ (Close ∷ []))) t
reach_parentheses m fs s t r = record {
  above = [];
  last = meaning m t;
  tight = tt;
  open_none = tt;
  value = refl;
  runs = λ rest.
      ap (λ xs. run m (Group ∷ fs, None) xs) (append_assoc s (Close ∷ []) rest)
      ∙ r.runs (Close ∷ rest)
      ∙ (λ i. option_and_then (λ n. run m n rest) (after_close (unreduced-tight 1 r.above (Group ∷ fs) r.open_none i) ((reduced-tight m 1 r.above (Group ∷ fs) r.last r.open_none ∙ r.value) i)));
}

reach_unary : {A : Type 0} (m : Meaning A) (fs : List (Frame A)) (s : List Symbol) (t : Tree) (sign : OperatorSign) (o : Unary) →
    unary_of sign ≡ Some o → Reaches m 12 (Sign o ∷ fs) s t → Reaches m 12 fs (Operator sign ∷ s) (Applied o t)
reach_unary m fs s t sign o e r = record {
  above = r.above ++ Sign o ∷ [];
  last = r.last;
  tight = Tight-push 12 r.above (Sign o) r.tight (omega arith);
  open_none = Tight-push 1 r.above (Sign o) r.open_none (omega arith);
  value = all_completed-push m r.above (Sign o) r.last ∙ ap (λ z. m.applied o z) r.value;
  runs = λ rest.
      ap (λ q. option_and_then (λ n. run m n (s ++ rest)) (after_sign fs q)) e
      ∙ r.runs rest
      ∙ ap (λ gs. run m (gs, Some r.last) rest) (sym (append_assoc r.above (Sign o ∷ []) fs));
}

reach_binary : {A : Type 0} (m : Meaning A) (fs : List (Frame A)) (s q : List Symbol) (t u : Tree) (sign : OperatorSign) (o : Infix) →
    binary_of sign ≡ Some o → Awaits o.level fs → Reaches m o.level fs s t → Reaches m (suc o.level) (Left o (meaning m t) ∷ fs) q u →
    Reaches m o.level fs (s ++ (Operator sign ∷ q)) (Joined o.operation t u)
reach_binary m fs s q t u sign o e w a b = record {
  above = b.above ++ Left o (meaning m t) ∷ [];
  last = b.last;
  tight = Tight-push o.level b.above (Left o (meaning m t)) (Tight-looser o.level (suc o.level) b.above (omega arith) b.tight) (omega arith);
  open_none = Tight-push 1 b.above (Left o (meaning m t)) b.open_none (omega (arith, (level_bounds sign o e).low));
  value = all_completed-push m b.above (Left o (meaning m t)) b.last ∙ ap (λ z. m.joined o.operation (meaning m t) z) b.value;
  runs = λ rest.
      ap (λ xs. run m (fs, None) xs) (append_assoc s (Operator sign ∷ q) rest)
      ∙ a.runs (Operator sign ∷ (q ++ rest))
      ∙ ap (λ x. option_and_then (λ n. run m n (q ++ rest)) (after_operator m (a.above ++ fs) a.last x)) e
      ∙ (λ i. run m (Left o (left i) ∷ below i, None) (q ++ rest))
      ∙ b.runs rest
      ∙ ap (λ gs. run m (gs, Some b.last) rest) (sym (append_assoc b.above (Left o (meaning m t) ∷ []) fs));
}
  where
    below : unreduced o.level (a.above ++ fs) ≡ fs
    below = unreduced-tight o.level a.above fs a.tight ∙ unreduced-awaits o.level fs (level_bounds sign o e).low (level_bounds sign o e).high w

    left : reduced m o.level (a.above ++ fs) a.last ≡ meaning m t
    left = reduced-tight m o.level a.above fs a.last a.tight ∙ reduced-awaits m o.level fs (all_completed m a.above a.last) (level_bounds sign o e).low (level_bounds sign o e).high w ∙ a.value

reach_conditional : {A : Type 0} (m : Meaning A) (fs : List (Frame A)) (s q n : List Symbol) (t u v : Tree) →
    Awaits 2 fs → Reaches m 2 fs s t → Reaches m 0 (Test (meaning m t) ∷ fs) q u → Reaches m 1 (Arms (meaning m t) (meaning m u) ∷ fs) n v →
    Reaches m 1 fs (s ++ (Question ∷ (q ++ (Colon ∷ n)))) (Chosen t u v)
reach_conditional m fs s q n t u v w a b c = record {
  above = c.above ++ Arms (meaning m t) (meaning m u) ∷ [];
  last = c.last;
  tight = Tight-push 1 c.above (Arms (meaning m t) (meaning m u)) c.tight (omega arith);
  open_none = Tight-push 1 c.above (Arms (meaning m t) (meaning m u)) c.open_none (omega arith);
  value = all_completed-push m c.above (Arms (meaning m t) (meaning m u)) c.last ∙ ap (λ z. m.chosen (meaning m t) (meaning m u) z) c.value;
  runs = λ rest.
      ap (λ xs. run m (fs, None) xs) (append_assoc s (Question ∷ (q ++ (Colon ∷ n))) rest)
      ∙ a.runs (Question ∷ ((q ++ (Colon ∷ n)) ++ rest))
      ∙ (λ i. run m (Test (test i) ∷ below i, None) ((q ++ (Colon ∷ n)) ++ rest))
      ∙ ap (λ xs. run m (Test (meaning m t) ∷ fs, None) xs) (append_assoc q (Colon ∷ n) rest)
      ∙ b.runs (Colon ∷ (n ++ rest))
      ∙ (λ i. option_and_then (λ r. run m r (n ++ rest)) (after_colon (around i) (middle i)))
      ∙ c.runs rest
      ∙ ap (λ gs. run m (gs, Some c.last) rest) (sym (append_assoc c.above (Arms (meaning m t) (meaning m u) ∷ []) fs));
}
  where
    below : unreduced 2 (a.above ++ fs) ≡ fs
    below = unreduced-tight 2 a.above fs a.tight ∙ unreduced-awaits 2 fs (omega arith) (omega arith) w

    around : unreduced 1 (b.above ++ Test (meaning m t) ∷ fs) ≡ Test (meaning m t) ∷ fs
    around = unreduced-tight 1 b.above (Test (meaning m t) ∷ fs) b.open_none

    middle : reduced m 1 (b.above ++ Test (meaning m t) ∷ fs) b.last ≡ meaning m u
    middle = reduced-tight m 1 b.above (Test (meaning m t) ∷ fs) b.last b.open_none ∙ b.value

    test : reduced m 2 (a.above ++ fs) a.last ≡ meaning m t
    test = reduced-tight m 2 a.above fs a.last a.tight ∙ reduced-awaits m 2 fs (all_completed m a.above a.last) (omega arith) (omega arith) w ∙ a.value

reach_tighter : {A : Type 0} (m : Meaning A) (k : ℕ) (fs : List (Frame A)) (s : List Symbol) (t : Tree) → Reaches m (suc k) fs s t → Reaches m k fs s t
reach_tighter m k fs s t r = record {
  above = r.above;
  last = r.last;
  tight = Tight-looser k (suc k) r.above (omega arith) r.tight;
  open_none = r.open_none;
  value = r.value;
  runs = r.runs;
}

reaches : {A : Type 0} (m : Meaning A) {k : ℕ} {s : List Symbol} {t : Tree} → Derives k s t → (fs : List (Frame A)) → Awaits k fs → Reaches m k fs s t
reaches m (constant v) fs w = record { above = []; last = m.leaf v; tight = tt; open_none = tt; value = refl; runs = λ rest. refl }
reaches m (parentheses {s = s} {t = t} d) fs w = reach_parentheses m fs s t (reaches m d (Group ∷ fs) (λ p low least high. omega arith))
reaches m (unary {s = s} {t = t} sign o e d) fs w = reach_unary m fs s t sign o e (reaches m d (Sign o ∷ fs) (λ p low least high. omega arith))
reaches m (binary {s = s} {r = q} {t = t} {u = u} sign o e d f) fs w =
    reach_binary m fs s q t u sign o e w (reaches m d fs w) (reaches m f (Left o (meaning m t) ∷ fs) (λ p low least high. omega arith))
reaches m (conditional {s = s} {r = q} {q = n} {t = t} {u = u} {w = v} d f g) fs w =
    reach_conditional m fs s q n t u v (Awaits-tighter 1 2 fs (omega arith) w)
    (reaches m d fs (Awaits-tighter 1 2 fs (omega arith) w))
    (reaches m f (Test (meaning m t) ∷ fs) (λ p low least high. omega arith))
    (reaches m g (Arms (meaning m t) (meaning m u) ∷ fs) (λ p low least high. omega arith))
reaches m (tighter {k = k} {s = s} {t = t} d) fs w = reach_tighter m k fs s t (reaches m d fs (Awaits-tighter k (suc k) fs (omega arith) w))

pub complete : {A : Type 0} (m : Meaning A) (s : List Symbol) (t : Tree) → Derives 0 s t → run m ([], None) s ≡ Some (meaning m t)
complete m s t d = at_end (reaches m d [] tt)
  where
    at_end : Reaches m 0 [] s t → run m ([], None) s ≡ Some (meaning m t)
    at_end r =
        ap (λ xs. run m ([], None) xs) (sym (append-nil s))
        ∙ r.runs []
        ∙ (λ i. after_last (unreduced-tight 1 r.above [] r.open_none i) ((reduced-tight m 1 r.above [] r.last r.open_none ∙ r.value) i))
