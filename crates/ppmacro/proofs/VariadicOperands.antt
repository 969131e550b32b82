-- Chains whose last operand may be a variable argument after a comma.
use Rattle.std.proofs.Common.{◌≡◌, ℕ, zero, suc, ◌-◌, ◌<◌, ◌≤◌, List, [], ◌∷◌, ◌++◌, map, take, drop, length, set, get_or, slice_get, unwrap_or, Option, Some, None}
use Rattle.std.proofs.Common.{Vec, Global, Result, Ok, refl, sym, ap, ◌∙◌, subst, arith}
use Rattle.std.proofs.lemmas.List.{map-append, take-map, length-map, take-append-drop}
use Rattle.std.specs.Option.{option_map}
use Rattle.pptext.specs.declared.tokens.Place.{Place}
use Rattle.pptext.specs.declared.tokens.Fault.{Fault}
use Rattle.ppmacro.specs.HideSetPool.{HideSetPool}
use Rattle.ppmacro.specs.Hiding.{Hiding}
use Rattle.ppmacro.specs.HideSets.{hiding, hidings, AllKnown, KeepsSets}
use Rattle.ppmacro.specs.declared.hidden_token.Hidden.{Hidden}
use Rattle.ppmacro.specs.declared.hidden_token.ArgumentExpansion.{ArgumentExpansion}
use Rattle.ppmacro.specs.declared.macros.Chain.{Chain}
use Rattle.ppmacro.specs.declared.macros.Operand.{Operand}
use Rattle.ppmacro.specs.declared.macros.Operand.TheVariants.{Tok, Param, Str, VariadicAfterComma}
use Rattle.ppmacro.specs.Chains.{variadic_after, ending_in_variadic}
use Rattle.ppmacro.specs.Substitution.{Arguments, after_ok, argument_at, join_all, operands_tokens, is_joined, before_variadic, variadic_of, variadic_after_comma, with_variadic_tokens, chain_tokens}
use Rattle.ppmacro.specs.Substituting.{lists_of, ArgumentsKnown, arguments_in}
use Rattle.ppmacro.proofs.PoolGrowthLemmas.{known-append, known-front}
use Rattle.ppmacro.proofs.ChainReplacementLemmas.{arguments-keeps, arguments-known}

-- ---- the last operand of a chain

pub ending-short : (i : ℕ) (os : List Operand) → length os < 2 → os ≡ ending_in_variadic i os
ending-short i [] h = refl
ending-short i (o ∷ []) h = refl
ending-short i (o ∷ (p ∷ os)) h = absurd (omega arith)

ending-two : (i n : ℕ) (os : List Operand) (before last : Operand)
    → length os ≡ suc (suc n)
    → before ≡ get_or os n before
    → last ≡ get_or os (suc n) last
    → set os (suc n) (variadic_after i before last) ≡ ending_in_variadic i os
ending-two i n [] before last h e f = absurd (omega arith)
ending-two i n (o ∷ []) before last h e f = absurd (omega arith)
ending-two i zero (o ∷ (p ∷ [])) before last h e f = λ k. o ∷ (variadic_after i (e k) (f k) ∷ [])
ending-two i (suc n) (o ∷ (p ∷ [])) before last h e f = absurd (omega arith)
ending-two i zero (o ∷ (p ∷ (q ∷ os))) before last h e f = absurd (omega arith)
ending-two i (suc n) (o ∷ (p ∷ (q ∷ os))) before last h e f = ap (λ ps. o ∷ ps) (ending-two i n (p ∷ (q ∷ os)) before last (omega arith) e f)

-- `ending_in_variadic` applies `variadic_after` to the last two operands, and replaces the last.
pub ending-last : (i : ℕ) (os : List Operand) (before last : Operand)
    → 2 ≤ length os
    → before ≡ get_or os (length os - 2) before
    → last ≡ get_or os (length os - 1) last
    → set os (length os - 1) (variadic_after i before last) ≡ ending_in_variadic i os
ending-last i os before last h e f =
    let n : ℕ = length os - 2 in
    let next : length os - 1 ≡ suc n = omega arith in
    ap (λ m. set os m (variadic_after i before last)) next
    ∙ ending-two i n os before last (omega arith) e (f ∙ ap (λ m. get_or os m last) next)

-- ---- the operands before a variable argument after a comma

before-more : (o p : Operand) (os : List Operand) → before_variadic (o ∷ (p ∷ os)) ≡ o ∷ before_variadic (p ∷ os)
before-more (Tok t) p os = refl
before-more (Param j) p os = refl
before-more (Str j at) p os = refl
before-more (VariadicAfterComma j) p os = refl

rest-more : (o p : Operand) (os : List Operand) → variadic_of (o ∷ (p ∷ os)) ≡ variadic_of (p ∷ os)
rest-more (Tok t) p os = refl
rest-more (Param j) p os = refl
rest-more (Str j at) p os = refl
rest-more (VariadicAfterComma j) p os = refl

-- `before_variadic` removes a `VariadicAfterComma` at the end, and `variadic_of` returns its index.
pub before-rest : (front : List Operand) (i : ℕ) → before_variadic (front ++ VariadicAfterComma i ∷ []) ≡ front
before-rest [] i = refl
before-rest (o ∷ []) i = before-more o (VariadicAfterComma i) []
before-rest (o ∷ (p ∷ front)) i = before-more o p (front ++ VariadicAfterComma i ∷ []) ∙ ap (λ os. o ∷ os) (before-rest (p ∷ front) i)

pub rest-last : (front : List Operand) (i : ℕ) → variadic_of (front ++ VariadicAfterComma i ∷ []) ≡ Some i
rest-last [] i = refl
rest-last (o ∷ []) i = rest-more o (VariadicAfterComma i) []
rest-last (o ∷ (p ∷ front)) i = rest-more o p (front ++ VariadicAfterComma i ∷ []) ∙ rest-last (p ∷ front) i

-- The operands don't end in a `VariadicAfterComma`.
abbrev pub Stays : List Operand → Type 0
Stays os = (before_variadic os ≡ os) × (variadic_of os ≡ None)

stays-more : (o p : Operand) (os : List Operand) → Stays (p ∷ os) → Stays (o ∷ (p ∷ os))
stays-more o p os h = (before-more o p os ∙ ap (λ ps. o ∷ ps) h.0, rest-more o p os ∙ h.1)

pub stays : (front : List Operand) (last : Operand) → Stays (last ∷ []) → Stays (front ++ last ∷ [])
stays [] last h = h
stays (o ∷ []) last h = stays-more o last [] h
stays (o ∷ (p ∷ front)) last h = stays-more o p (front ++ last ∷ []) (stays (p ∷ front) last h)

-- ---- the tokens of a variable argument after a comma

option-in : {X Y : Type 0} (f : X → Y) (xs : List X) (i : ℕ) → option_map f (slice_get xs i) ≡ slice_get (map f xs) i
option-in f [] i = refl
option-in f (x ∷ xs) zero = refl
option-in f (x ∷ xs) (suc i) = option-in f xs i

following-in : (s : HideSetPool) (o : Option (List Hidden)) (hs : List Hidden) → hidings s (variadic_after_comma o hs) ≡ variadic_after_comma (option_map (hidings s) o) (hidings s hs)
following-in s None hs = sym (take-map (hiding s) (length hs - 1) hs) ∙ ap (λ n. take (n - 1) (hidings s hs)) (sym (length-map hs (hiding s)))
following-in s (Some argument) hs = map-append (hiding s) hs argument

rest-in : (s : HideSetPool) (given : List (List Hidden)) (rest : Option ℕ) (hs : List Hidden)
    → hidings s (with_variadic_tokens given rest hs) ≡ with_variadic_tokens (map (hidings s) given) rest (hidings s hs)
rest-in s given None hs = refl
rest-in s given (Some i) hs = following-in s (slice_get given i) hs ∙ ap (λ o. variadic_after_comma o (hidings s hs)) (option-in (hidings s) given i)

known-taken : {s : HideSetPool} (n : ℕ) (hs : List Hidden) → AllKnown s hs → AllKnown s (take n hs)
known-taken {s = s} n hs known = known-front (take n hs) (drop n hs) (subst (AllKnown s) (sym (take-append-drop n hs)) known)

known-rest : {s : HideSetPool} (o : Option (List Hidden)) (hs : List Hidden) → AllKnown s (unwrap_or o []) → AllKnown s hs → AllKnown s (variadic_after_comma o hs)
known-rest None hs more known = known-taken (length hs - 1) hs known
known-rest (Some argument) hs more known = known-append hs argument known more

rest-known : {s : HideSetPool} (given : List (List Hidden)) (rest : Option ℕ) (hs : List Hidden)
    → ((i : ℕ) → AllKnown s (argument_at given i))
    → AllKnown s hs
    → AllKnown s (with_variadic_tokens given rest hs)
rest-known given None hs arguments known = known
rest-known given (Some i) hs arguments known = known-rest (slice_get given i) hs (arguments i) known

-- ---- the tokens of a chain

abbrev joined : Arguments → Place → Chain → List (List Hiding) → Result (List Hiding) Fault
joined args used c lists = after_ok (join_all [] lists used) (λ ts. Ok (with_variadic_tokens args.given (variadic_of c.operands) ts))

pub chain-laid : (args : Arguments) (used : Place) (c : Chain) (lists : List (List Hiding)) (ts : List Hiding)
    → Ok lists ≡ operands_tokens (is_joined c.operands) args used (before_variadic c.operands)
    → Ok ts ≡ join_all [] lists used
    → Ok (with_variadic_tokens args.given (variadic_of c.operands) ts) ≡ chain_tokens args used c
chain-laid args used c lists ts l j =
    ap (λ r. after_ok r (λ us. Ok (with_variadic_tokens args.given (variadic_of c.operands) us))) j ∙ ap (λ r. after_ok r (joined args used c)) l

-- A variable argument is appended after a comma while hide sets are added to the pool.
pub rest-laid : {s t : HideSetPool} (given : List (Vec Hidden Global)) (expanded : List ArgumentExpansion) (rest : Option ℕ) (hs new : List Hidden)
    → KeepsSets s t
    → ArgumentsKnown s given expanded
    → new ≡ with_variadic_tokens (lists_of given) rest hs
    → hidings t new ≡ with_variadic_tokens (arguments_in s given expanded).given rest (hidings t hs)
rest-laid {t = t} given expanded rest hs new k known e =
    ap (hidings t) e ∙ rest-in t (lists_of given) rest hs ∙ ap (λ (args : Arguments). with_variadic_tokens args.given rest (hidings t hs)) (arguments-keeps given expanded k known)

pub rest-laid-known : {s t : HideSetPool} (given : List (Vec Hidden Global)) (expanded : List ArgumentExpansion) (rest : Option ℕ) (hs new : List Hidden)
    → KeepsSets s t
    → ArgumentsKnown s given expanded
    → new ≡ with_variadic_tokens (lists_of given) rest hs
    → AllKnown t hs
    → AllKnown t new
rest-laid-known {t = t} given expanded rest hs new k known e here =
    subst (AllKnown t) (sym e) (rest-known (lists_of given) rest hs (arguments-known given expanded k known).given_known here)
