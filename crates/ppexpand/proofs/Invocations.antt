-- The arguments of an invocation are found if and only if the list has the syntax of an invocation.
use Rattle.std.proofs.Common.{◌≡◌, ◌↔◌, ℕ, zero, suc, ◌<◌, Bool, true, false, not, List, [], ◌∷◌, ◌++◌, length, Option, refl, sym, ap, ◌∙◌, subst, true≢false, arith, append_assoc, length-append}
use Rattle.std.proofs.lemmas.Bool.{not-true}
use Rattle.ppmacro.specs.Hiding.{Hiding}
use Rattle.ppexpand.specs.Arguments.{argument_role, Gathered, Closed, UnmatchedQuote, Unclosed, with_token, with_argument, separates, fewer, gather, ArgumentRole, Quote, Open, Close, Comma, Inner}
use Rattle.ppexpand.specs.Laws.{Nested, nothing, inner, comma, pair, Separated, last, more, IsInvocation}

-- ---- the search, by the role of the first token

pub at_quote : (d : ℕ) (c : Option ℕ) (t : Hiding) (ts : List Hiding) → argument_role t.token ≡ Quote → gather d c (t ∷ ts) ≡ UnmatchedQuote t
at_quote d c t ts e = rw (gather, e) refl

pub at_inner : (d : ℕ) (c : Option ℕ) (t : Hiding) (ts : List Hiding) → argument_role t.token ≡ Inner → gather d c (t ∷ ts) ≡ with_token t (gather d c ts)
at_inner d c t ts e = rw (gather, e) refl

pub at_open : (d : ℕ) (c : Option ℕ) (t : Hiding) (ts : List Hiding) → argument_role t.token ≡ Open → gather d c (t ∷ ts) ≡ with_token t (gather (suc d) c ts)
at_open d c t ts e = rw (gather, e) refl

pub at_close : (d : ℕ) (c : Option ℕ) (t : Hiding) (ts : List Hiding) → argument_role t.token ≡ Close → gather (suc d) c (t ∷ ts) ≡ with_token t (gather d c ts)
at_close d c t ts e = rw (gather, e) refl

pub at_end : (c : Option ℕ) (t : Hiding) (ts : List Hiding) → argument_role t.token ≡ Close → gather zero c (t ∷ ts) ≡ Closed ([] ∷ []) t ts
at_end c t ts e = rw (gather, e) refl

pub at_separator : (d : ℕ) (c : Option ℕ) (t : Hiding) (ts : List Hiding) → argument_role t.token ≡ Comma → separates d c ≡ true → gather d c (t ∷ ts) ≡ with_argument (gather d (fewer c) ts)
at_separator d c t ts e s = rw (gather, e, s) refl

pub at_comma : (d : ℕ) (c : Option ℕ) (t : Hiding) (ts : List Hiding) → argument_role t.token ≡ Comma → separates d c ≡ false → gather d c (t ∷ ts) ≡ with_token t (gather d c ts)
at_comma d c t ts e s = rw (gather, e, s) refl

-- ---- if the list has the syntax of an invocation, its arguments are found

abbrev with_tokens : List Hiding → Gathered → Gathered
with_tokens [] g = g
with_tokens (t ∷ ts) g = with_token t (with_tokens ts g)

with_tokens-append : (xs ys : List Hiding) (g : Gathered) → with_tokens (xs ++ ys) g ≡ with_tokens xs (with_tokens ys g)
with_tokens-append [] ys g = refl
with_tokens-append (x ∷ xs) ys g = ap (with_token x) (with_tokens-append xs ys g)

with_tokens-closed : (xs : List Hiding) (as' : List (List Hiding)) (close : Hiding) (following : List Hiding) → with_tokens xs (Closed ([] ∷ as') close following) ≡ Closed (xs ∷ as') close following
with_tokens-closed [] as' close following = refl
with_tokens-closed (x ∷ xs) as' close following = ap (with_token x) (with_tokens-closed xs as' close following)

-- Nested tokens are added to the current argument: none ends it, and none separates arguments.
passed_over : {b : Bool} {xs : List Hiding} → Nested b xs → (d : ℕ) (c : Option ℕ) → (b ≡ true → separates d c ≡ false) → (ys : List Hiding) → gather d c (xs ++ ys) ≡ with_tokens xs (gather d c ys)
passed_over nothing d c uncut ys = refl
passed_over (inner {t = t} {ts = ts} e n) d c uncut ys = at_inner d c t (ts ++ ys) e ∙ ap (with_token t) (passed_over n d c uncut ys)
passed_over (comma {t = t} {ts = ts} e n) d c uncut ys = at_comma d c t (ts ++ ys) e (uncut refl) ∙ ap (with_token t) (passed_over n d c uncut ys)
passed_over (pair o inside close ts is_open in_budget is_close n) d c uncut ys =
    let shut : gather (suc d) c (inside ++ close ∷ (ts ++ ys)) ≡ with_tokens inside (with_token close (with_tokens ts (gather d c ys))) =
    passed_over in_budget (suc d) c (λ _. refl) (close ∷ (ts ++ ys)) ∙ ap (with_tokens inside) (at_close d c close (ts ++ ys) is_close ∙ ap (with_token close) (passed_over n d c uncut ys)) in
    at_open d c o ((inside ++ close ∷ ts) ++ ys) is_open
    ∙ ap (with_token o) (ap (gather (suc d) c) (append_assoc inside (close ∷ ts) ys) ∙ shut ∙ sym (with_tokens-append inside (close ∷ ts) (gather d c ys)))

found : {c : Option ℕ} {inside : List Hiding} {as' : List (List Hiding)}
    → Separated c inside as'
    → (close : Hiding) (following : List Hiding)
    → argument_role close.token ≡ Close
    → gather 0 c (inside ++ close ∷ following) ≡ Closed as' close following
found {c = c} (last {a = a} n) close following is_close =
    passed_over n 0 c (not-true (separates 0 c)) (close ∷ following) ∙ ap (with_tokens a) (at_end c close following is_close) ∙ with_tokens-closed a [] close following
found {c = c} (more {as' = as'} a t rest cut n e s) close following is_close =
    ap (gather 0 c) (append_assoc a (t ∷ rest) (close ∷ following))
    ∙ passed_over n 0 c (λ h. absurd (true≢false (sym h))) (t ∷ (rest ++ close ∷ following))
    ∙ ap (with_tokens a) (at_separator 0 c t (rest ++ close ∷ following) e cut ∙ ap with_argument (found s close following is_close))
    ∙ with_tokens-closed a as' close following

-- ---- if arguments are found, the list has the syntax of an invocation

abbrev pub IsClosed : Gathered → Type 0
IsClosed (Closed as' close following) = Unit {0}
IsClosed _ = ⊥

closed-token : (t : Hiding) (g : Gathered) → IsClosed (with_token t g) → IsClosed g
closed-token t (Closed as' close following) h = tt
closed-token t (UnmatchedQuote q) h = h
closed-token t Unclosed h = h

closed-argument : (g : Gathered) → IsClosed (with_argument g) → IsClosed g
closed-argument (Closed as' close following) h = tt
closed-argument (UnmatchedQuote q) h = h
closed-argument Unclosed h = h

-- the list begins with nested tokens and a `)`, and the search after them finds a matching `)`
record Matched (d : ℕ) (c : Option ℕ) (list : List Hiding) : Type 0 where
  inside : List Hiding
  mate : Hiding
  rest : List Hiding
  laid_out : list ≡ inside ++ mate ∷ rest
  nested : Nested true inside
  mates : argument_role mate.token ≡ Close
  on : IsClosed (gather d c rest)

pub shorter : (list inside : List Hiding) (t : Hiding) (rest : List Hiding) → list ≡ inside ++ t ∷ rest → length rest < length list
shorter list inside t rest e = rw e (omega (arith, length-append inside (t ∷ rest)))

-- combines a split of a list with a split of its rest
in_parts : (list a rest b following : List Hiding) (m n : Hiding) → list ≡ a ++ m ∷ rest → rest ≡ b ++ n ∷ following → list ≡ (a ++ m ∷ b) ++ n ∷ following
in_parts list a rest b following m n first second =
    let in_budget : a ++ m ∷ rest ≡ a ++ m ∷ (b ++ n ∷ following) = ap (λ xs. a ++ m ∷ xs) second in
    first ∙ in_budget ∙ sym (append_assoc a (m ∷ b) (n ∷ following))

-- `Matched` for a list with one more token at the start
before : {d : ℕ} {c : Option ℕ} {ts : List Hiding} (t : Hiding) → ((xs : List Hiding) → Nested true xs → Nested true (t ∷ xs)) → Matched d c ts → Matched d c (t ∷ ts)
before t wraps m = record { inside = t ∷ m.inside; mate = m.mate; rest = m.rest; laid_out = ap (λ xs. t ∷ xs) m.laid_out; nested = wraps m.inside m.nested; mates = m.mates; on = m.on }

-- `Matched` for a list that begins with a pair of parentheses
wrapped : {d : ℕ} {c : Option ℕ} (t : Hiding) (ts : List Hiding) → argument_role t.token ≡ Open → (m : Matched (suc d) c ts) → Matched d c m.rest → Matched d c (t ∷ ts)
wrapped t ts e m n = record {
  inside = t ∷ (m.inside ++ m.mate ∷ n.inside);
  mate = n.mate;
  rest = n.rest;
  laid_out = ap (λ xs. t ∷ xs) (in_parts ts m.inside m.rest n.inside n.rest m.mate n.mate m.laid_out n.laid_out);
  nested = pair t m.inside m.mate n.inside e m.nested m.mates n.nested;
  mates = n.mates;
  on = n.on;
}

-- If the search one level deeper succeeds in a list shorter than n, the list is `Matched`.
abbrev Matches : ℕ → Type 0
Matches n = (d : ℕ) (c : Option ℕ) (list : List Hiding) → length list < n → IsClosed (gather (suc d) c list) → Matched d c list

matched_by : (d : ℕ) (c : Option ℕ) (t : Hiding) (ts : List Hiding) → Matches (suc (length ts)) → IsClosed (gather (suc d) c (t ∷ ts)) → (m : ArgumentRole) → argument_role t.token ≡ m → Matched d c (t ∷ ts)
matched_by d c t ts on closed Quote e = absurd (subst IsClosed (at_quote (suc d) c t ts e) closed)
matched_by d c t ts on closed Open e =
    let m : Matched (suc d) c ts = on (suc d) c ts (omega arith) (closed-token t _ (subst IsClosed (at_open (suc d) c t ts e) closed)) in
    let less : length m.rest < length ts = shorter ts m.inside m.mate m.rest m.laid_out in
    wrapped t ts e m (on d c m.rest (omega arith) m.on)
matched_by d c t ts on closed Close e = record { inside = []; mate = t; rest = ts; laid_out = refl; nested = nothing; mates = e; on = closed-token t _ (subst IsClosed (at_close d c t ts e) closed) }
matched_by d c t ts on closed Comma e = before t (λ xs n. comma e n) (on d c ts (omega arith) (closed-token t _ (subst IsClosed (at_comma (suc d) c t ts e refl) closed)))
matched_by d c t ts on closed Inner e = before t (λ xs n. inner e n) (on d c ts (omega arith) (closed-token t _ (subst IsClosed (at_inner (suc d) c t ts e) closed)))

matched : (n : ℕ) → Matches n
matched zero d c list short closed = absurd (omega arith)
matched (suc n) d c [] short closed = absurd closed
matched (suc n) d c (t ∷ ts) short closed = matched_by d c t ts (λ d' c' list short'. matched n d' c' list (omega arith)) closed (argument_role t.token) refl

-- Tokens before the first argument become part of it.
in_first : {c : Option ℕ} {inside : List Hiding} {as' : List (List Hiding)} (prefix : List Hiding)
    → ((xs : List Hiding) → Nested (not (separates 0 c)) xs → Nested (not (separates 0 c)) (prefix ++ xs))
    → (separates 0 c ≡ true → (xs : List Hiding) → Nested false xs → Nested false (prefix ++ xs))
    → Separated c inside as' → (bs : List (List Hiding)) × Separated c (prefix ++ inside) bs
in_first prefix alone before (last {a = a} n) = ((prefix ++ a) ∷ [], last (alone a n))
in_first {c = c} prefix alone before (more {as' = as'} a t rest cut n e s) =
    ((prefix ++ a) ∷ as', subst (λ xs. Separated c xs ((prefix ++ a) ∷ as')) (append_assoc prefix a (t ∷ rest)) (more (prefix ++ a) t rest cut (before cut a n) e s))

record LaidOut (c : Option ℕ) (list : List Hiding) : Type 0 where
  arguments : List (List Hiding)
  close : Hiding
  following : List Hiding
  is : IsInvocation c list arguments close following

laid_behind : {c : Option ℕ} {list : List Hiding} (prefix : List Hiding)
    → ((xs : List Hiding) → Nested (not (separates 0 c)) xs → Nested (not (separates 0 c)) (prefix ++ xs))
    → (separates 0 c ≡ true → (xs : List Hiding) → Nested false xs → Nested false (prefix ++ xs))
    → LaidOut c list → LaidOut c (prefix ++ list)
laid_behind {c = c} prefix alone before m =
    let first = in_first prefix alone before m.is.separated in
    record {
      arguments = first.0;
      close = m.close;
      following = m.following;
      is = record { inside = prefix ++ m.is.inside; laid_out = ap (λ xs. prefix ++ xs) m.is.laid_out ∙ sym (append_assoc prefix m.is.inside (m.close ∷ m.following)); closes = m.is.closes; separated = first.1 };
    }

-- If arguments are found in a list shorter than n, the list has the layout of an invocation.
abbrev LaidOutBelow : ℕ → Type 0
LaidOutBelow n = (c : Option ℕ) (list : List Hiding) → length list < n → IsClosed (gather 0 c list) → LaidOut c list

laid_at_separator : (c : Option ℕ) (t : Hiding) (ts : List Hiding) → LaidOutBelow (suc (length ts)) → IsClosed (gather 0 c (t ∷ ts)) → argument_role t.token ≡ Comma → separates 0 c ≡ true → LaidOut c (t ∷ ts)
laid_at_separator c t ts on closed e cut =
    let m : LaidOut (fewer c) ts = on (fewer c) ts (omega arith) (closed-argument _ (subst IsClosed (at_separator 0 c t ts e cut) closed)) in
    record {
      arguments = [] ∷ m.arguments;
      close = m.close;
      following = m.following;
      is = record { inside = t ∷ m.is.inside; laid_out = ap (λ xs. t ∷ xs) m.is.laid_out; closes = m.is.closes; separated = more [] t m.is.inside cut nothing e m.is.separated };
    }

laid_at_comma : (c : Option ℕ) (t : Hiding) (ts : List Hiding) → LaidOutBelow (suc (length ts)) → IsClosed (gather 0 c (t ∷ ts)) → argument_role t.token ≡ Comma → separates 0 c ≡ false → LaidOut c (t ∷ ts)
laid_at_comma c t ts on closed e uncut =
    laid_behind (t ∷ []) (λ xs n. subst (λ b. Nested b (t ∷ xs)) (sym (ap not uncut)) (comma e (subst (λ b. Nested b xs) (ap not uncut) n))) (λ cut. absurd (true≢false (sym cut ∙ uncut)))
    (on c ts (omega arith) (closed-token t _ (subst IsClosed (at_comma 0 c t ts e uncut) closed)))

laid_by : (c : Option ℕ) (t : Hiding) (ts : List Hiding) → LaidOutBelow (suc (length ts)) → IsClosed (gather 0 c (t ∷ ts)) → (m : ArgumentRole) → argument_role t.token ≡ m → LaidOut c (t ∷ ts)
laid_by c t ts on closed Quote e = absurd (subst IsClosed (at_quote 0 c t ts e) closed)
laid_by c t ts on closed Open e =
    let m : Matched 0 c ts = matched (suc (length ts)) 0 c ts (omega arith) (closed-token t _ (subst IsClosed (at_open 0 c t ts e) closed)) in
    let less : length m.rest < length ts = shorter ts m.inside m.mate m.rest m.laid_out in
    let wraps : (b : Bool) (xs : List Hiding) → Nested b xs → Nested b ((t ∷ (m.inside ++ m.mate ∷ [])) ++ xs) =
    λ b xs n. subst (λ ys. Nested b (t ∷ ys)) (sym (append_assoc m.inside (m.mate ∷ []) xs)) (pair t m.inside m.mate xs e m.nested m.mates n) in
    let whole : (t ∷ (m.inside ++ m.mate ∷ [])) ++ m.rest ≡ t ∷ ts = ap (λ xs. t ∷ xs) (append_assoc m.inside (m.mate ∷ []) m.rest ∙ sym m.laid_out) in
    subst (LaidOut c) whole (laid_behind (t ∷ (m.inside ++ m.mate ∷ [])) (wraps (not (separates 0 c))) (λ _. wraps false) (on c m.rest (omega arith) m.on))
laid_by c t ts on closed Close e = record { arguments = [] ∷ []; close = t; following = ts; is = record { inside = []; laid_out = refl; closes = e; separated = last nothing } }
laid_by c t ts on closed Comma e = elim (separates 0 c) as (λ b. separates 0 c ≡ b → LaidOut c (t ∷ ts)) [ true ↦ λ cut. laid_at_separator c t ts on closed e cut | false ↦ λ uncut. laid_at_comma c t ts on closed e uncut ] refl
laid_by c t ts on closed Inner e = laid_behind (t ∷ []) (λ xs n. inner e n) (λ _ xs n. inner e n) (on c ts (omega arith) (closed-token t _ (subst IsClosed (at_inner 0 c t ts e) closed)))

laid : (n : ℕ) → LaidOutBelow n
laid zero c list short closed = absurd (omega arith)
laid (suc n) c [] short closed = absurd closed
laid (suc n) c (t ∷ ts) short closed = laid_by c t ts (λ c' list short'. laid n c' list (omega arith)) closed (argument_role t.token) refl

pub finds : (c : Option ℕ) (list : List Hiding) (as' : List (List Hiding)) (close : Hiding) (following : List Hiding) → (gather 0 c list ≡ Closed as' close following) ↔ IsInvocation c list as' close following
finds c list as' close following = (there, here)
  where
    here : IsInvocation c list as' close following → gather 0 c list ≡ Closed as' close following
    here m = ap (gather 0 c) m.laid_out ∙ found m.separated close following m.closes

    there : gather 0 c list ≡ Closed as' close following → IsInvocation c list as' close following
    there e =
        let m : LaidOut c list = laid (suc (length list)) c list (omega arith) (subst IsClosed (sym e) tt) in
        let same : Closed m.arguments m.close m.following ≡ Closed as' close following = sym (ap (gather 0 c) m.is.laid_out ∙ found m.is.separated m.close m.following m.is.closes) ∙ e in
        let arguments : m.arguments ≡ as' = cc in
        let closes : m.close ≡ close = cc in
        let behinds : m.following ≡ following = cc in
        subst (λ x. IsInvocation c list x close following) arguments (subst (λ x. IsInvocation c list m.arguments x following) closes (subst (λ x. IsInvocation c list m.arguments m.close x) behinds m.is))
