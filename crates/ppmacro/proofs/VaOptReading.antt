-- A replacement list whose contents are taken out from left to right, one token at a time. It has the syntax of `WithContents`.
use Rattle.std.proofs.Common.{◌≡◌, ◌↔◌, ◌∙◌, ℕ, zero, suc, Bool, true, false, List, [], ◌∷◌, ◌++◌, map, Option, Some, None, slice_get, Vec, Global, refl, sym, ap, append-nil, append_assoc, if◌then◌else◌}
use Rattle.std.proofs.Common.{codes, subst, true≢false}
use Rattle.std.specs.Option.{option_map}
use Rattle.std.specs.Str.{bytes_eq}
use Rattle.std.proofs.lemmas.Bool.{and_parts}
use Rattle.pptext.specs.Tokens.{is_identifier, is_punct}
use Rattle.pptext.specs.declared.tokens.Token.{Token}
use Rattle.ppmacro.specs.Laws.{IsContent, empty, other, parenthesized, WithContents, no_tokens, ordinary, with_content}
use Rattle.ppmacro.specs.VaOpt.{Separated, is_va_opt, closed, after, put_first, put, separate}
use Rattle.ppmacro.specs.declared.va_opt.Position.{Position}
use Rattle.ppmacro.specs.declared.va_opt.Position.TheVariants.{Outside, AfterName, Inside}
use Rattle.ppmacro.specs.declared.va_opt.SeparatedList.{SeparatedList}
use Rattle.ppmacro.specs.code.VaOptLists.{before, tokens_at, separated_at, put_all_first, contents_from, followed_by}
use Rattle.ppmacro.proofs.ParameterListSyntax.{no_punct, other_punct}

-- ---- tokens by their indices

before-append : (o : Option Token) (ts us : List Token) → before o (ts ++ us) ≡ before o ts ++ us
before-append None ts us = refl
before-append (Some t) ts us = refl

pub tokens-append : (body : List Token) (is js : List ℕ) → tokens_at body (is ++ js) ≡ tokens_at body is ++ tokens_at body js
tokens-append body [] js = refl
tokens-append body (i ∷ is) js = ap (before (slice_get body i)) (tokens-append body is js) ∙ before-append (slice_get body i) (tokens_at body is) (tokens_at body js)

pub tokens-push : (body : List Token) (is : List ℕ) (i : ℕ) (t : Token) → slice_get body i ≡ Some t → tokens_at body (is ++ i ∷ []) ≡ tokens_at body is ++ t ∷ []
tokens-push body is i t here = tokens-append body is (i ∷ []) ∙ ap (λ o. tokens_at body is ++ before o []) here

-- ---- a token that is put at its position

outside-by : (b : Bool) (next : Position) (current : List Token) (cs : List (List Token)) → (if b then AfterName else Outside) ≡ next → contents_from next current cs ≡ cs
outside-by true next current cs is = ap (λ p. contents_from p current cs) (sym is)
outside-by false next current cs is = ap (λ p. contents_from p current cs) (sym is)

outside-goes-on : (t : Token) (next : Position) (current : List Token) (cs : List (List Token)) → after Outside t ≡ Some next → contents_from next current cs ≡ cs
outside-goes-on t next current cs is = let same : (if is_va_opt t then AfterName else Outside) ≡ next = cc is in outside-by (is_va_opt t) next current cs same

pub put-outside : (body : List Token) (s : SeparatedList) (outside : Vec ℕ Global) (index : ℕ) (t : Token) (next : Position) (rest : Separated)
    → outside.items ≡ s.outside.items ++ index ∷ []
    → slice_get body index ≡ Some t
    → after Outside t ≡ Some next
    → followed_by body next (record { outside = outside; contents = s.contents; current = s.current }) rest ≡ followed_by body Outside s (put t Outside next rest)
put-outside body s outside index t next rest pushed here is =
    let tokens : tokens_at body outside.items ++ rest.outside ≡ tokens_at body s.outside.items ++ t ∷ rest.outside =
    ap (λ is. tokens_at body is ++ rest.outside) pushed
    ∙ ap (λ ts. ts ++ rest.outside) (tokens-push body s.outside.items index t here)
    ∙ append_assoc (tokens_at body s.outside.items) (t ∷ []) rest.outside in
    λ i. record {
      outside = tokens i;
      contents = map (λ c. tokens_at body c.items) s.contents.items ++ outside-goes-on t next (tokens_at body s.current.items) rest.contents is i;
    }

stays-by : (named opens closes : Bool) (depth : ℕ) (next : Position)
    → (if named then None else (if opens then Some (Inside (suc depth)) else (if closes then Some (closed depth) else Some (Inside depth)))) ≡ Some next
    → (next ≡ Outside → ⊥)
    → (e : ℕ) × (next ≡ Inside e)
stays-by true opens closes depth next is inside = absurd (cc is)
stays-by false true closes depth next is inside = let same : next ≡ Inside (suc depth) = cc is in (suc depth, same)
stays-by false false true zero next is inside = let same : next ≡ Outside = cc is in absurd (inside same)
stays-by false false true (suc depth) next is inside = let same : next ≡ Inside depth = cc is in (depth, same)
stays-by false false false depth next is inside = let same : next ≡ Inside depth = cc is in (depth, same)

pub stays-inside : (depth : ℕ) (t : Token) (next : Position) → after (Inside depth) t ≡ Some next → (next ≡ Outside → ⊥) → (e : ℕ) × (next ≡ Inside e)
stays-inside depth t next is inside = stays-by (is_va_opt t) (is_punct (codes "(") t) (is_punct (codes ")") t) depth next is inside

first-grows : (current : List Token) (t : Token) (cs : List (List Token)) → put_all_first (current ++ t ∷ []) cs ≡ put_all_first current (put_first t cs)
first-grows current t [] = refl
first-grows current t (c ∷ cs) = ap (λ ts. ts ∷ cs) (append_assoc current (t ∷ []) c)

pub put-inside : (body : List Token) (s : SeparatedList) (current : Vec ℕ Global) (index depth e : ℕ) (t : Token) (rest : Separated)
    → current.items ≡ s.current.items ++ index ∷ []
    → slice_get body index ≡ Some t
    → followed_by body (Inside e) (record { outside = s.outside; contents = s.contents; current = current }) rest ≡ followed_by body (Inside depth) s (put t (Inside depth) (Inside e) rest)
put-inside body s current index depth e t rest pushed here =
    let contents : put_all_first (tokens_at body current.items) rest.contents ≡ put_all_first (tokens_at body s.current.items) (put_first t rest.contents) =
    ap (λ is. put_all_first (tokens_at body is) rest.contents) pushed
    ∙ ap (λ ts. put_all_first ts rest.contents) (tokens-push body s.current.items index t here)
    ∙ first-grows (tokens_at body s.current.items) t rest.contents in
    λ i. record {
      outside = tokens_at body s.outside.items ++ rest.outside;
      contents = map (λ c. tokens_at body c.items) s.contents.items ++ contents i;
    }

-- ---- the whole list

composed : {A B C : Type 0} (f : B → C) (g : A → B) (h : A → C) → ((x : A) → h x ≡ f (g x)) → (o : Option A) → option_map h o ≡ option_map f (option_map g o)
composed f g h is None = refl
composed f g h is (Some x) = ap Some (is x)

taken : (p : Position) (t : Token) (ts : List Token) (next : Position) → after p t ≡ Some next → option_map (put t p next) (separate next ts) ≡ separate p (t ∷ ts)
taken p t ts next is = rw (separate, is) refl

-- The next token is taken.
pub separate-next : (body : List Token) (position next : Position) (s new : SeparatedList) (t : Token) (ts : List Token)
    → after position t ≡ Some next
    → ((rest : Separated) → followed_by body next new rest ≡ followed_by body position s (put t position next rest))
    → option_map (followed_by body next new) (separate next ts) ≡ option_map (followed_by body position s) (separate position (t ∷ ts))
separate-next body position next s new t ts is same =
    composed (followed_by body position s) (put t position next) (followed_by body next new) same (separate next ts)
    ∙ ap (option_map (followed_by body position s)) (taken position t ts next is)

pub separate-none : (position : Position) (t : Token) (ts : List Token) → after position t ≡ None → separate position (t ∷ ts) ≡ None
separate-none position t ts is = rw (separate, is) refl

pub separate-end : (position : Position) → (position ≡ Outside → ⊥) → separate position [] ≡ None
separate-end Outside out = absurd (out refl)
separate-end AfterName out = refl
separate-end (Inside depth) out = refl

pub ends-outside : (body : List Token) (s : SeparatedList) → separated_at body s ≡ followed_by body Outside s (record { outside = []; contents = [] })
ends-outside body s = λ i. record {
  outside = sym (append-nil (tokens_at body s.outside.items)) i;
  contents = sym (append-nil (map (λ c. tokens_at body c.items) s.contents.items)) i;
}

-- ---- a list with the syntax is separated

not-va-opt : (text : List ℕ) (t : Token) → is_punct text t ≡ true → is_va_opt t ≡ false
not-va-opt text t e = by-name (is_va_opt t) refl
  where
    by-name : (b : Bool) → is_va_opt t ≡ b → is_va_opt t ≡ false
    by-name true named = absurd (true≢false (sym e ∙ no_punct text t ((and_parts (is_identifier t) (bytes_eq t.text (codes "__VA_OPT__")) named).0)))
    by-name false named = named

at-ordinary : (t : Token) → is_va_opt t ≡ false → after Outside t ≡ Some Outside
at-ordinary t e = rw e refl

at-name : (t : Token) → is_va_opt t ≡ true → after Outside t ≡ Some AfterName
at-name t e = rw e refl

at-first-open : (t : Token) → is_punct (codes "(") t ≡ true → after AfterName t ≡ Some (Inside 0)
at-first-open t e = rw e refl

at-other : (depth : ℕ) (t : Token) → is_va_opt t ≡ false → is_punct (codes "(") t ≡ false → is_punct (codes ")") t ≡ false → after (Inside depth) t ≡ Some (Inside depth)
at-other depth t e o c = rw (e, o, c) refl

at-open : (depth : ℕ) (t : Token) → is_punct (codes "(") t ≡ true → after (Inside depth) t ≡ Some (Inside (suc depth))
at-open depth t e = rw (not-va-opt (codes "(") t e, e) refl

at-close : (depth : ℕ) (t : Token) → is_punct (codes ")") t ≡ true → after (Inside depth) t ≡ Some (closed depth)
at-close depth t e = rw (not-va-opt (codes ")") t e, other_punct (codes ")") (codes "(") t refl e, e) refl

step : (p next : Position) (t : Token) (ts : List Token) (s : Separated) → after p t ≡ Some next → separate next ts ≡ Some s → separate p (t ∷ ts) ≡ Some (put t p next s)
step p next t ts s is on = sym (taken p t ts next is) ∙ ap (option_map (put t p next)) on

-- Tokens before the first content.
abbrev before-first : List Token → Separated → Separated
before-first ts s = record { outside = s.outside; contents = put_all_first ts s.contents }

none-first : (s : Separated) → s ≡ before-first [] s
none-first s = λ i. record { outside = s.outside; contents = same s.contents i }
  where
    same : (cs : List (List Token)) → cs ≡ put_all_first [] cs
    same [] = refl
    same (c ∷ cs) = refl

one-first : (t : Token) (ts : List Token) (s : Separated) → record { outside = s.outside; contents = put_first t (put_all_first ts s.contents) } ≡ before-first (t ∷ ts) s
one-first t ts s = λ i. record { outside = s.outside; contents = same s.contents i }
  where
    same : (cs : List (List Token)) → put_first t (put_all_first ts cs) ≡ put_all_first (t ∷ ts) cs
    same [] = refl
    same (c ∷ cs) = refl

append-first : (ts us : List Token) (s : Separated) → before-first ts (before-first us s) ≡ before-first (ts ++ us) s
append-first ts us s = λ i. record { outside = s.outside; contents = same s.contents i }
  where
    same : (cs : List (List Token)) → put_all_first ts (put_all_first us cs) ≡ put_all_first (ts ++ us) cs
    same [] = refl
    same (c ∷ cs) = ap (λ x. x ∷ cs) (sym (append_assoc ts us c))

-- A token inside that doesn't end the content.
step-inside : (depth e : ℕ) (t : Token) (ts us : List Token) (s : Separated)
    → after (Inside depth) t ≡ Some (Inside e)
    → separate (Inside e) us ≡ Some (before-first ts s)
    → separate (Inside depth) (t ∷ us) ≡ Some (before-first (t ∷ ts) s)
step-inside depth e t ts us s is on = step (Inside depth) (Inside e) t us (before-first ts s) is on ∙ ap Some (one-first t ts s)

content-before : {ts : List Token} → IsContent ts → (depth : ℕ) (rest : List Token) (s : Separated)
    → separate (Inside depth) rest ≡ Some s
    → separate (Inside depth) (ts ++ rest) ≡ Some (before-first ts s)
content-before empty depth rest s on = on ∙ ap Some (none-first s)
content-before (other {t = t} {ts = ts} e o c content) depth rest s on =
    step-inside depth depth t ts (ts ++ rest) s (at-other depth t e o c) (content-before content depth rest s on)
content-before (parenthesized opening inner closing ts o content c more) depth rest s on =
    let after-inner : separate (Inside (suc depth)) (closing ∷ (ts ++ rest)) ≡ Some (before-first (closing ∷ ts) s) =
    step-inside (suc depth) depth closing ts (ts ++ rest) s (at-close (suc depth) closing c) (content-before more depth rest s on) in
    let inside : separate (Inside (suc depth)) (inner ++ closing ∷ (ts ++ rest)) ≡ Some (before-first (inner ++ closing ∷ ts) s) =
    content-before content (suc depth) (closing ∷ (ts ++ rest)) (before-first (closing ∷ ts) s) after-inner ∙ ap Some (append-first inner (closing ∷ ts) s) in
    step-inside depth (suc depth) opening (inner ++ closing ∷ ts) ((inner ++ closing ∷ ts) ++ rest) s (at-open depth opening o)
    (ap (separate (Inside (suc depth))) (append_assoc inner (closing ∷ ts) rest) ∙ inside)

read : {ts : List Token} {s : Separated} → WithContents ts s → separate Outside ts ≡ Some s
read no_tokens = refl
read (ordinary {t = t} {ts = ts} {s = s} e on) = step Outside Outside t ts s (at-ordinary t e) (read on)
read (with_content name opening content closing ts {s = s} n o is c on) =
    let ended : separate (Inside 0) (closing ∷ ts) ≡ Some (record { outside = s.outside; contents = [] ∷ s.contents }) =
    step (Inside 0) Outside closing ts s (at-close 0 closing c) (read on) in
    let inside : separate (Inside 0) (content ++ closing ∷ ts) ≡ Some (record { outside = s.outside; contents = content ∷ s.contents }) =
    content-before is 0 (closing ∷ ts) (record { outside = s.outside; contents = [] ∷ s.contents }) ended
    ∙ ap (λ x. Some (record { outside = s.outside; contents = x ∷ s.contents })) (append-nil content) in
    let opened : separate AfterName (opening ∷ (content ++ closing ∷ ts)) ≡ Some (record { outside = s.outside; contents = content ∷ s.contents }) =
    step AfterName (Inside 0) opening (content ++ closing ∷ ts) (record { outside = s.outside; contents = content ∷ s.contents }) (at-first-open opening o) inside in
    step Outside AfterName name (opening ∷ (content ++ closing ∷ ts)) (record { outside = s.outside; contents = content ∷ s.contents }) (at-name name n) opened

-- ---- a list that is separated has the syntax

-- Tokens from the inside of a content on, where this number of inner parentheses is opening: the rest of the content, and what follows.
data Rest : ℕ → List Token → List Token → Separated → Type 0 where
  ends : (content : List Token) (closing : Token) (ts : List Token) {s : Separated}
      → IsContent content
      → is_punct (codes ")") closing ≡ true
      → WithContents ts s
      → Rest 0 (content ++ closing ∷ ts) content s
  closes : (content : List Token) (closing : Token) {depth : ℕ} {ts more : List Token} {s : Separated}
      → IsContent content
      → is_punct (codes ")") closing ≡ true
      → Rest depth ts more s
      → Rest (suc depth) (content ++ closing ∷ ts) (content ++ closing ∷ more) s

other-before : {depth : ℕ} {ts content : List Token} {s : Separated} (t : Token)
    → is_va_opt t ≡ false
    → is_punct (codes "(") t ≡ false
    → is_punct (codes ")") t ≡ false
    → Rest depth ts content s
    → Rest depth (t ∷ ts) (t ∷ content) s
other-before t e o c (ends content closing ts is d on) = ends (t ∷ content) closing ts (other e o c is) d on
other-before t e o c (closes content closing is d on) = closes (t ∷ content) closing (other e o c is) d on

-- A content in parentheses before the rest.
group-before : {depth : ℕ} {ts more : List Token} {s : Separated} (opening : Token) (inner : List Token) (closing : Token)
    → is_punct (codes "(") opening ≡ true
    → IsContent inner
    → is_punct (codes ")") closing ≡ true
    → Rest depth ts more s
    → Rest depth (opening ∷ (inner ++ closing ∷ ts)) (opening ∷ (inner ++ closing ∷ more)) s
group-before opening inner closing o is c (ends content closing' ts {s = s} is' d on) =
    subst (λ us. Rest 0 (opening ∷ us) (opening ∷ (inner ++ closing ∷ content)) s) (append_assoc inner (closing ∷ content) (closing' ∷ ts))
    (ends (opening ∷ (inner ++ closing ∷ content)) closing' ts (parenthesized opening inner closing content o is c is') d on)
group-before opening inner closing o is c (closes content closing' {depth = depth} {ts = ts} {more = more} {s = s} is' d on) =
    subst (λ us. Rest (suc depth) (opening ∷ us) (opening ∷ (inner ++ closing ∷ (content ++ closing' ∷ more))) s) (append_assoc inner (closing ∷ content) (closing' ∷ ts))
    (subst (λ us. Rest (suc depth) (opening ∷ ((inner ++ closing ∷ content) ++ closing' ∷ ts)) (opening ∷ us) s) (append_assoc inner (closing ∷ content) (closing' ∷ more))
    (closes (opening ∷ (inner ++ closing ∷ content)) closing' (parenthesized opening inner closing content o is c is') d on))

open-before : {depth : ℕ} {ts content : List Token} {s : Separated} (opening : Token) → is_punct (codes "(") opening ≡ true → Rest (suc depth) ts content s → Rest depth (opening ∷ ts) (opening ∷ content) s
open-before opening o (closes inner closing is c on) = group-before opening inner closing o is c on

-- A content before those that follow.
abbrev with-first : List Token → Separated → Separated
with-first c s = record { outside = s.outside; contents = c ∷ s.contents }

record InContent (depth : ℕ) (ts : List Token) (s : Separated) : Type 0 where
  content : List Token
  following : Separated
  rest : Rest depth ts content following
  is : with-first content following ≡ s

record AtOpen (ts : List Token) (s : Separated) : Type 0 where
  opening : Token
  inside : List Token
  laid_out : ts ≡ opening ∷ inside
  opens : is_punct (codes "(") opening ≡ true
  in_content : InContent 0 inside s

-- The syntax of the tokens from a position on.
abbrev Form : Position → List Token → Separated → Type 0
Form Outside ts s = WithContents ts s
Form AfterName ts s = AtOpen ts s
Form (Inside depth) ts s = InContent depth ts s

unread : {s : Separated} → None ≡ Some s → ⊥
unread e = cc

nowhere : {p : Position} → None ≡ Some p → ⊥
nowhere e = cc

-- The next token of a list that is separated.
record Next (p : Position) (t : Token) (ts : List Token) (s : Separated) : Type 0 where
  next : Position
  following : Separated
  goes_on : after p t ≡ Some next
  reads : separate next ts ≡ Some following
  is : put t p next following ≡ s

next-by : (p next : Position) (t : Token) (ts : List Token) (s : Separated) → after p t ≡ Some next → (o : Option Separated) → separate next ts ≡ o → option_map (put t p next) o ≡ Some s → Next p t ts s
next-by p next t ts s is None reads e = absurd (unread e)
next-by p next t ts s is (Some following) reads e =
    let same : Some (put t p next following) ≡ Some s = e in
    record { next = next; following = following; goes_on = is; reads = reads; is = cc }

next-of : (p : Position) (t : Token) (ts : List Token) (s : Separated) → separate p (t ∷ ts) ≡ Some s → Next p t ts s
next-of p t ts s e = by-next (after p t) refl
  where
    by-next : (o : Option Position) → after p t ≡ o → Next p t ts s
    by-next None is = absurd (unread (sym (separate-none p t ts is) ∙ e))
    by-next (Some next) is = next-by p next t ts s is (separate next ts) refl (taken p t ts next is ∙ e)

ordinary-form : (t : Token) (ts : List Token) (next : Position) (following : Separated) → after Outside t ≡ Some next → Form next ts following → WithContents (t ∷ ts) (put t Outside next following)
ordinary-form t ts next following is form = by-name (is_va_opt t) refl is
  where
    by-name : (b : Bool) → is_va_opt t ≡ b → Some (if b then AfterName else Outside) ≡ Some next → WithContents (t ∷ ts) (put t Outside next following)
    by-name false e is =
        let same : next ≡ Outside = cc in
        ordinary e (subst (λ p. Form p ts following) same form)
    by-name true e is =
        let same : next ≡ AfterName = cc in
        named e (subst (λ p. Form p ts following) same form)
      where
        from-rest : {us content : List Token} {s : Separated} (opening : Token) → is_va_opt t ≡ true → is_punct (codes "(") opening ≡ true → Rest 0 us content s
            → WithContents (t ∷ (opening ∷ us)) (record { outside = t ∷ s.outside; contents = content ∷ s.contents })
        from-rest opening e o (ends content closing ts is c on) = with_content t opening content closing ts e o is c on

        named : is_va_opt t ≡ true → AtOpen ts following → WithContents (t ∷ ts) (record { outside = t ∷ following.outside; contents = following.contents })
        named e m =
            subst (λ us. WithContents (t ∷ us) (record { outside = t ∷ following.outside; contents = following.contents })) (sym m.laid_out)
            (subst (λ x. WithContents (t ∷ (m.opening ∷ m.inside)) (record { outside = t ∷ x.outside; contents = x.contents })) m.in_content.is
            (from-rest m.opening e m.opens m.in_content.rest))

open-form : (t : Token) (ts : List Token) (next : Position) (following : Separated) → after AfterName t ≡ Some next → Form next ts following → AtOpen (t ∷ ts) following
open-form t ts next following is form = by-open (is_punct (codes "(") t) refl is
  where
    by-open : (b : Bool) → is_punct (codes "(") t ≡ b → (if b then Some (Inside 0) else None) ≡ Some next → AtOpen (t ∷ ts) following
    by-open false e is = absurd (nowhere is)
    by-open true e is =
        let same : next ≡ Inside 0 = cc in
        record { opening = t; inside = ts; laid_out = refl; opens = e; in_content = subst (λ p. Form p ts following) same form }

inside-by : (depth e : ℕ) (t : Token) (ts : List Token) (following : Separated)
    → ((content : List Token) (s : Separated) → Rest e ts content s → Rest depth (t ∷ ts) (t ∷ content) s)
    → InContent e ts following
    → InContent depth (t ∷ ts) (put t (Inside depth) (Inside e) following)
inside-by depth e t ts following on m = record {
  content = t ∷ m.content;
  following = m.following;
  rest = on m.content m.following m.rest;
  is = ap (λ x. record { outside = x.outside; contents = put_first t x.contents }) m.is;
}

close-form : (depth : ℕ) (t : Token) (ts : List Token) (following : Separated) → is_punct (codes ")") t ≡ true → Form (closed depth) ts following
    → InContent depth (t ∷ ts) (put t (Inside depth) (closed depth) following)
close-form zero t ts following c form = record { content = []; following = following; rest = ends [] t ts empty c form; is = refl }
close-form (suc depth) t ts following c form = inside-by (suc depth) depth t ts following (λ content s r. closes [] t empty c r) form

inside-form : (depth : ℕ) (t : Token) (ts : List Token) (next : Position) (following : Separated) → after (Inside depth) t ≡ Some next → Form next ts following
    → InContent depth (t ∷ ts) (put t (Inside depth) next following)
inside-form depth t ts next following is form = by-kind (is_va_opt t) (is_punct (codes "(") t) (is_punct (codes ")") t) refl refl refl is
  where
    at : {p : Position} → p ≡ next → (Form p ts following → InContent depth (t ∷ ts) (put t (Inside depth) p following)) → InContent depth (t ∷ ts) (put t (Inside depth) next following)
    at same on = subst (λ p. Form p ts following → InContent depth (t ∷ ts) (put t (Inside depth) p following)) same on form

    by-kind : (named opens shuts : Bool) → is_va_opt t ≡ named → is_punct (codes "(") t ≡ opens → is_punct (codes ")") t ≡ shuts
        → (if named then None else (if opens then Some (Inside (suc depth)) else (if shuts then Some (closed depth) else Some (Inside depth)))) ≡ Some next
        → InContent depth (t ∷ ts) (put t (Inside depth) next following)
    by-kind true opens shuts e o c is = absurd (nowhere is)
    by-kind false true shuts e o c is =
        let same : Inside (suc depth) ≡ next = cc in
        at same (inside-by depth (suc depth) t ts following (λ content s r. open-before t o r))
    by-kind false false true e o c is =
        let same : closed depth ≡ next = cc in
        at same (close-form depth t ts following c)
    by-kind false false false e o c is =
        let same : Inside depth ≡ next = cc in
        at same (inside-by depth depth t ts following (λ content s r. other-before t e o c r))

form-by : (p : Position) (t : Token) (ts : List Token) (s : Separated) → (m : Next p t ts s) → Form m.next ts m.following → Form p (t ∷ ts) s
form-by Outside t ts s m form = subst (WithContents (t ∷ ts)) m.is (ordinary-form t ts m.next m.following m.goes_on form)
form-by AfterName t ts s m form = subst (AtOpen (t ∷ ts)) m.is (open-form t ts m.next m.following m.goes_on form)
form-by (Inside depth) t ts s m form = subst (InContent depth (t ∷ ts)) m.is (inside-form depth t ts m.next m.following m.goes_on form)

formed : (p : Position) (ts : List Token) (s : Separated) → separate p ts ≡ Some s → Form p ts s
formed Outside [] s e =
    let same : Some (record { outside = []; contents = [] }) ≡ Some s = e in
    let is : record { outside = []; contents = [] } ≡ s = cc in
    subst (WithContents []) is no_tokens
formed AfterName [] s e = absurd (unread e)
formed (Inside depth) [] s e = absurd (unread e)
formed p (t ∷ ts) s e =
    let m : Next p t ts s = next-of p t ts s e in
    form-by p t ts s m (formed m.next ts m.following m.reads)

-- Contents are taken out exactly if the list has the syntax.
pub separates : (tokens : List Token) (s : Separated) → (separate Outside tokens ≡ Some s) ↔ WithContents tokens s
separates tokens s = (formed Outside tokens s, read)
