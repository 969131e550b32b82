-- When the search for arguments fails: at an unmatched quote, or because no `)` matches.
use Rattle.std.proofs.Common.{◌≡◌, ◌↔◌, ℕ, zero, suc, ◌<◌, Bool, true, false, List, [], ◌∷◌, ◌++◌, length, Option, refl, sym, ap, ◌∙◌, subst, arith, append_assoc, append-nil}
use Rattle.ppmacro.specs.Hiding.{Hiding}
use Rattle.ppexpand.specs.Arguments.{argument_role, Gathered, Closed, UnmatchedQuote, Unclosed, with_token, with_argument, separates, fewer, gather, ArgumentRole, Quote, Open, Close, Comma, Inner}
use Rattle.ppexpand.specs.Laws.{Nested, nothing, inner, comma, pair, NeverClosed, paired, deeper, StopsAtQuote}
use Rattle.ppexpand.proofs.Invocations.{at_quote, at_inner, at_open, at_close, at_end, at_separator, at_comma, IsClosed, shorter}

-- ---- properties of a search result that earlier tokens preserve

record IsKept (P : Gathered → Type 0) : Type 0 where
  by_token : (t : Hiding) (g : Gathered) → P g → P (with_token t g)
  by_argument : (g : Gathered) → P g → P (with_argument g)

-- A comma preserves such a property, whether or not it separates arguments.
at_any_comma : {P : Gathered → Type 0} → IsKept P → (d : ℕ) (c : Option ℕ) (t : Hiding) (ts : List Hiding) → argument_role t.token ≡ Comma → ((c' : Option ℕ) → P (gather d c' ts)) → P (gather d c (t ∷ ts))
at_any_comma {P = P} k d c t ts e h = elim (separates d c) as (λ b. separates d c ≡ b → P (gather d c (t ∷ ts))) [
  | true ↦ λ cut. subst P (sym (at_separator d c t ts e cut)) (k.by_argument _ (h (fewer c)))
  | false ↦ λ uncut. subst P (sym (at_comma d c t ts e uncut)) (k.by_token t _ (h c))
] refl

emitted : {P : Gathered → Type 0} {b : Bool} {xs : List Hiding} → IsKept P → Nested b xs → (d : ℕ) (ys : List Hiding) → ((c : Option ℕ) → P (gather d c ys)) → (c : Option ℕ) → P (gather d c (xs ++ ys))
emitted k nothing d ys h c = h c
emitted {P = P} k (inner {t = t} {ts = ts} e n) d ys h c = subst P (sym (at_inner d c t (ts ++ ys) e)) (k.by_token t _ (emitted k n d ys h c))
emitted k (comma {t = t} {ts = ts} e n) d ys h c = at_any_comma k d c t (ts ++ ys) e (emitted k n d ys h)
emitted {P = P} k (pair o inside close ts is_open in_budget is_close n) d ys h c =
    let following : (c' : Option ℕ) → P (gather (suc d) c' (close ∷ (ts ++ ys))) = λ c'. subst P (sym (at_close d c' close (ts ++ ys) is_close)) (k.by_token close _ (emitted k n d ys h c')) in
    let all : P (gather (suc d) c (inside ++ close ∷ (ts ++ ys))) = emitted k in_budget (suc d) (close ∷ (ts ++ ys)) following c in
    subst P (sym (at_open d c o ((inside ++ close ∷ ts) ++ ys) is_open))
    (k.by_token o _ (subst (λ xs. P (gather (suc d) c xs)) (sym (append_assoc inside (close ∷ ts) ys)) all))

never : {P : Gathered → Type 0} {xs : List Hiding} → IsKept P → NeverClosed xs → (d : ℕ) (ys : List Hiding) → ((e : ℕ) (c : Option ℕ) → P (gather e c ys)) → (c : Option ℕ) → P (gather d c (xs ++ ys))
never k (paired n) d ys h c = emitted k n d ys (h d) c
never {P = P} k (deeper ts o inside n is_open i) d ys h c =
    let following : (c' : Option ℕ) → P (gather d c' (o ∷ (inside ++ ys))) = λ c'. subst P (sym (at_open d c' o (inside ++ ys) is_open)) (k.by_token o _ (never k i (suc d) ys h c')) in
    subst (λ xs. P (gather d c xs)) (sym (append_assoc ts (o ∷ inside) ys)) (emitted k n d (o ∷ (inside ++ ys)) following c)

kept_quote : (q : Hiding) → IsKept (λ g. g ≡ UnmatchedQuote q)
kept_quote q = record { by_token = λ t g e. ap (with_token t) e; by_argument = λ g e. ap with_argument e }

kept_open : IsKept (λ g. g ≡ Unclosed)
kept_open = record { by_token = λ t g e. ap (with_token t) e; by_argument = λ g e. ap with_argument e }

token_closed : (t : Hiding) (g : Gathered) → IsClosed g → IsClosed (with_token t g)
token_closed t (Closed [] close following) h = tt
token_closed t (Closed (a ∷ as') close following) h = tt
token_closed t (UnmatchedQuote q) h = h
token_closed t Unclosed h = h

argument_closed : (g : Gathered) → IsClosed g → IsClosed (with_argument g)
argument_closed (Closed as' close following) h = tt
argument_closed (UnmatchedQuote q) h = h
argument_closed Unclosed h = h

kept_closed : IsKept IsClosed
kept_closed = record { by_token = token_closed; by_argument = argument_closed }

-- ---- each list has one of three layouts

data Layout : List Hiding → Type 0 where
  ends : (inside : List Hiding) (close : Hiding) (following : List Hiding) → Nested true inside → argument_role close.token ≡ Close → Layout (inside ++ close ∷ following)
  stops : (prefix : List Hiding) (q : Hiding) (following : List Hiding) → NeverClosed prefix → argument_role q.token ≡ Quote → Layout (prefix ++ q ∷ following)
  goes_on : (list : List Hiding) → NeverClosed list → Layout list

abbrev Wraps : List Hiding → Type 0
Wraps prefix = (xs : List Hiding) → Nested true xs → Nested true (prefix ++ xs)

never_behind : (prefix : List Hiding) → Wraps prefix → {xs : List Hiding} → NeverClosed xs → NeverClosed (prefix ++ xs)
never_behind prefix wraps (paired {ts = ts} n) = paired (wraps ts n)
never_behind prefix wraps (deeper ts o inside n e i) = subst NeverClosed (append_assoc prefix ts (o ∷ inside)) (deeper (prefix ++ ts) o inside (wraps ts n) e i)

layout_behind : (prefix : List Hiding) → Wraps prefix → {xs : List Hiding} → Layout xs → Layout (prefix ++ xs)
layout_behind prefix wraps (ends inside close following n e) = subst Layout (append_assoc prefix inside (close ∷ following)) (ends (prefix ++ inside) close following (wraps inside n) e)
layout_behind prefix wraps (stops f q following n e) = subst Layout (append_assoc prefix f (q ∷ following)) (stops (prefix ++ f) q following (never_behind prefix wraps n) e)
layout_behind prefix wraps (goes_on list n) = goes_on (prefix ++ list) (never_behind prefix wraps n)

-- each list shorter than n has a layout
abbrev LayoutsBelow : ℕ → Type 0
LayoutsBelow n = (list : List Hiding) → length list < n → Layout list

layout_at_open : (t : Hiding) {ts : List Hiding} → argument_role t.token ≡ Open → LayoutsBelow (suc (length ts)) → Layout ts → Layout (t ∷ ts)
layout_at_open t e on (ends inside close following n e') =
    let wraps : Wraps (t ∷ (inside ++ close ∷ [])) = λ xs m. subst (λ ys. Nested true (t ∷ ys)) (sym (append_assoc inside (close ∷ []) xs)) (pair t inside close xs e n e' m) in
    let less : length following < length (inside ++ close ∷ following) = shorter (inside ++ close ∷ following) inside close following refl in
    subst (λ ys. Layout (t ∷ ys)) (append_assoc inside (close ∷ []) following) (layout_behind (t ∷ (inside ++ close ∷ [])) wraps (on following (omega arith)))
layout_at_open t e on (stops f q following n e') = stops (t ∷ f) q following (deeper [] t f nothing e n) e'
layout_at_open t e on (goes_on list n) = goes_on (t ∷ list) (deeper [] t list nothing e n)

layout_by : (t : Hiding) (ts : List Hiding) → LayoutsBelow (suc (length ts)) → (m : ArgumentRole) → argument_role t.token ≡ m → Layout (t ∷ ts)
layout_by t ts on Quote e = stops [] t ts (paired nothing) e
layout_by t ts on Open e = layout_at_open t e on (on ts (omega arith))
layout_by t ts on Close e = ends [] t ts nothing e
layout_by t ts on Comma e = layout_behind (t ∷ []) (λ xs n. comma e n) (on ts (omega arith))
layout_by t ts on Inner e = layout_behind (t ∷ []) (λ xs n. inner e n) (on ts (omega arith))

layout : (n : ℕ) → LayoutsBelow n
layout zero list short = absurd (omega arith)
layout (suc n) [] short = goes_on [] (paired nothing)
layout (suc n) (t ∷ ts) short = layout_by t ts (λ list short'. layout n list (omega arith)) (argument_role t.token) refl

-- ---- both directions

when_ended : (c : Option ℕ) (inside : List Hiding) (close : Hiding) (following : List Hiding) → Nested true inside → argument_role close.token ≡ Close → IsClosed (gather 0 c (inside ++ close ∷ following))
when_ended c inside close following n e = emitted kept_closed n 0 (close ∷ following) (λ c'. subst IsClosed (sym (at_end c' close following e)) tt) c

when_stopped : (c : Option ℕ) (prefix : List Hiding) (q : Hiding) (following : List Hiding) → NeverClosed prefix → argument_role q.token ≡ Quote → gather 0 c (prefix ++ q ∷ following) ≡ UnmatchedQuote q
when_stopped c prefix q following n e = never (kept_quote q) n 0 (q ∷ following) (λ d c'. at_quote d c' q following e) c

when_going_on : (c : Option ℕ) (list : List Hiding) → NeverClosed list → gather 0 c list ≡ Unclosed
when_going_on c list n = subst (λ xs. gather 0 c xs ≡ Unclosed) (append-nil list) (never kept_open n 0 [] (λ d c'. refl) c)

same_quote : (p q : Hiding) → UnmatchedQuote p ≡ UnmatchedQuote q → p ≡ q
same_quote p q e = cc

quoted_by : (c : Option ℕ) {list : List Hiding} (q : Hiding) → Layout list → gather 0 c list ≡ UnmatchedQuote q → StopsAtQuote list q
quoted_by c q (ends inside close following n e) g = absurd (subst IsClosed g (when_ended c inside close following n e))
quoted_by c q (stops prefix p following n e) g =
    subst (StopsAtQuote (prefix ++ p ∷ following)) (same_quote p q (sym (when_stopped c prefix p following n e) ∙ g)) (record { prefix = prefix; following = following; laid_out = refl; not_closed = n; lone = e })
quoted_by c q (goes_on list n) g = let u : gather 0 c list ≡ Unclosed = when_going_on c list n in absurd (cc)

open_by : (c : Option ℕ) {list : List Hiding} → Layout list → gather 0 c list ≡ Unclosed → NeverClosed list
open_by c (ends inside close following n e) g = absurd (subst IsClosed g (when_ended c inside close following n e))
open_by c (stops prefix p following n e) g = let u : gather 0 c (prefix ++ p ∷ following) ≡ UnmatchedQuote p = when_stopped c prefix p following n e in absurd (cc)
open_by c (goes_on list n) g = n

pub finds_quote : (c : Option ℕ) (list : List Hiding) (q : Hiding) → (gather 0 c list ≡ UnmatchedQuote q) ↔ StopsAtQuote list q
finds_quote c list q = (quoted_by c q (layout (suc (length list)) list (omega arith)), λ m. ap (gather 0 c) m.laid_out ∙ when_stopped c m.prefix q m.following m.not_closed m.lone)

pub finds_no_end : (c : Option ℕ) (list : List Hiding) → (gather 0 c list ≡ Unclosed) ↔ NeverClosed list
finds_no_end c list = (open_by c (layout (suc (length list)) list (omega arith)), when_going_on c list)
