-- Operands that `##` joins to the tokens before them, one after another, beside a join of all their lists at the end.
use Rattle.std.proofs.Common.{◌≡◌, ℕ, suc, zero, ◌+◌, ◌<◌, ◌≤◌, ◌⊎◌, inl, inr, Bool, true, List, [], ◌∷◌, drop, take, length, get_or}
use Rattle.std.proofs.Common.{Result, Ok, Err, refl, sym, ap, ◌∙◌, subst, arith, ◌++◌, map, slice_get, unwrap_or, Option, Some, None}
use Rattle.pptext.specs.declared.tokens.Place.{Place}
use Rattle.pptext.specs.declared.tokens.Fault.{Fault}
use Rattle.pptext.specs.declared.error.Error.{Error}
use Rattle.pptext.specs.Errors.{Returns}
use Rattle.ppmacro.specs.Hiding.{Hiding}
use Rattle.ppmacro.specs.Substitution.{Arguments, after_ok, join, join_all, operand_tokens, operands_tokens, argument_at, stringized, is_joined, before_variadic, variadic_of, variadic_after_comma, with_variadic_tokens, chain_tokens}
use Rattle.ppmacro.specs.declared.macros.Chain.{Chain}
use Rattle.ppmacro.specs.declared.macros.Operand.{Operand}
use Rattle.ppmacro.specs.declared.macros.Operand.TheVariants.{Param, Str, VariadicAfterComma}
use Rattle.ppmacro.specs.code.Replacing.{join_operands, operands_fault}

-- ---- the first operands of a list

-- Of the first n operands, those from index i on are the one with index i and those after it.
pub item-in-front : (os : List Operand) (n i : ℕ) (o : Operand) → i < n → n ≤ length os → o ≡ get_or os i o → drop i (take n os) ≡ o ∷ drop (i + 1) (take n os)
item-in-front [] n i o below count is = absurd (omega arith)
item-in-front (p ∷ os) zero i o below count is = absurd (omega arith)
item-in-front (p ∷ os) (suc n) zero o below count is = ap (λ q. q ∷ take n os) (sym is)
item-in-front (p ∷ os) (suc n) (suc i) o below count is =
    let next : suc i + 1 ≡ suc (i + 1) = omega arith in
    item-in-front os n i o (omega arith) (omega arith) is ∙ ap (λ k. o ∷ drop k (p ∷ take n os)) (sym next)

pub none-after-front : (os : List Operand) (n i : ℕ) → n ≤ i → drop i (take n os) ≡ []
none-after-front [] zero zero h = refl
none-after-front [] zero (suc i) h = refl
none-after-front [] (suc n) zero h = absurd (omega arith)
none-after-front [] (suc n) (suc i) h = refl
none-after-front (o ∷ os) zero zero h = refl
none-after-front (o ∷ os) zero (suc i) h = refl
none-after-front (o ∷ os) (suc n) zero h = absurd (omega arith)
none-after-front (o ∷ os) (suc n) (suc i) h = none-after-front os n i (omega arith)

-- A list is what stands before its last element, and this one.
pub last-behind : (os : List Operand) (n : ℕ) (o : Operand) → length os ≡ suc n → o ≡ get_or os n o → os ≡ take n os ++ o ∷ []
last-behind [] n o size is = absurd (omega arith)
last-behind (p ∷ []) zero o size is = ap (λ q. q ∷ []) (sym is)
last-behind (p ∷ (q ∷ os)) zero o size is = absurd (omega arith)
last-behind (p ∷ os) (suc n) o size is = ap (λ qs. p ∷ qs) (last-behind os n o (omega arith) is)

-- ---- results one after another

-- The result agrees with an equal value.
pub returns-same : {A B : Type 0} (r : Result A Error) (meaning : A → B) (v w : Result B Fault) → Returns r meaning v → v ≡ w → Returns r meaning w
returns-same r meaning v w is same = subst (Returns r meaning) same is

after-after : {A B C : Type 0} (r : Result A Fault) (f : A → Result B Fault) (g : B → Result C Fault) → after_ok (after_ok r f) g ≡ after_ok r (λ a. after_ok (f a) g)
after-after (Ok a) f g = refl
after-after (Err e) f g = refl

after-same : {A B : Type 0} (r : Result A Fault) (f g : A → Result B Fault) → ((a : A) → f a ≡ g a) → after_ok r f ≡ after_ok r g
after-same (Ok a) f g same = same a
after-same (Err e) f g same = refl

abbrev both : Result (List Hiding) Fault → Result (List (List Hiding)) Fault → Result (List (List Hiding)) Fault
both p q = after_ok p (λ ts. after_ok q (λ rest. Ok (ts ∷ rest)))

abbrev pub fault_of : {A : Type 0} → Result A Fault → Result (Unit {0}) Fault
fault_of r = after_ok r (λ a. Ok tt)

-- ---- the faults of operands

fault-behind : (p : Result (List Hiding) Fault) (q : Result (List (List Hiding)) Fault) (u : Unit {0}) → Ok u ≡ fault_of p → fault_of q ≡ fault_of (both p q)
fault-behind (Ok ts) (Ok rest) u h = refl
fault-behind (Ok ts) (Err f) u h = refl
fault-behind (Err f) q u h = absurd (cc h)

fault-here : (p : Result (List Hiding) Fault) (q : Result (List (List Hiding)) Fault) (f : Fault) → Err f ≡ fault_of p → Err f ≡ fault_of (both p q)
fault-here (Ok ts) q f h = absurd (cc h)
fault-here (Err g) q f h = h

pub fault-more : (args : Arguments) (used : Place) (o : Operand) (os : List Operand) (u : Unit {0})
    → Ok u ≡ fault_of (operand_tokens true args used o)
    → operands_fault args used os ≡ operands_fault args used (o ∷ os)
fault-more args used o os u h = fault-behind (operand_tokens true args used o) (operands_tokens true args used os) u h

pub fault-first : (args : Arguments) (used : Place) (o : Operand) (os : List Operand) (f : Fault)
    → Err f ≡ fault_of (operand_tokens true args used o)
    → Err f ≡ operands_fault args used (o ∷ os)
fault-first args used o os f h = fault-here (operand_tokens true args used o) (operands_tokens true args used os) f h

-- ---- operands that are joined one after another

pub operand-joined : (args : Arguments) (used : Place) (left joined : List Hiding) (o : Operand) (os : List Operand)
    → Ok joined ≡ after_ok (operand_tokens true args used o) (λ ts. join left ts used)
    → join_operands args used joined os ≡ join_operands args used left (o ∷ os)
operand-joined args used left joined o os h =
    ap (λ r. after_ok r (λ ts. join_operands args used ts os)) h
    ∙ after-after (operand_tokens true args used o) (λ ts. join left ts used) (λ ts. join_operands args used ts os)

pub operand-refused : (args : Arguments) (used : Place) (left : List Hiding) (o : Operand) (os : List Operand) (f : Fault)
    → Err f ≡ after_ok (operand_tokens true args used o) (λ ts. join left ts used)
    → Err f ≡ join_operands args used left (o ∷ os)
operand-refused args used left o os f h =
    ap (λ r. after_ok r (λ ts. join_operands args used ts os)) h
    ∙ after-after (operand_tokens true args used o) (λ ts. join left ts used) (λ ts. join_operands args used ts os)

-- ---- the tokens of a chain

record Both (p : Result (List Hiding) Fault) (q : Result (List (List Hiding)) Fault) (lists : List (List Hiding)) : Type 0 where
  tokens : List Hiding
  others : List (List Hiding)
  first : p ≡ Ok tokens
  rest : Ok others ≡ q
  is : tokens ∷ others ≡ lists

both-made : (p : Result (List Hiding) Fault) (q : Result (List (List Hiding)) Fault) (lists : List (List Hiding)) → Ok lists ≡ both p q → Both p q lists
both-made (Ok ts) (Ok rest) lists h = record { tokens = ts; others = rest; first = refl; rest = refl; is = cc h }
both-made (Ok ts) (Err f) lists h = absurd (cc h)
both-made (Err f) q lists h = absurd (cc h)

-- Operands without fault 20 are joined one after another as their lists are joined.
pub joined-all : (args : Arguments) (used : Place) (os : List Operand) (lists : List (List Hiding)) (left : List Hiding)
    → Ok lists ≡ operands_tokens true args used os
    → join_operands args used left os ≡ join_all left lists used
joined-all args used [] lists left h = let none : [] ≡ lists = cc h in ap (λ ls. join_all left ls used) none
joined-all args used (o ∷ os) lists left h =
    let parts = both-made (operand_tokens true args used o) (operands_tokens true args used os) lists h in
    ap (λ r. after_ok r (λ ts. after_ok (join left ts used) (λ joined. join_operands args used joined os))) parts.first
    ∙ after-same (join left parts.tokens used) (λ joined. join_operands args used joined os) (λ joined. join_all joined parts.others used) (λ joined. joined-all args used os parts.others joined parts.rest)
    ∙ ap (λ ls. join_all left ls used) parts.is

pub record NoFault (args : Arguments) (used : Place) (os : List Operand) : Type 0 where
  pub lists : List (List Hiding)
  pub is : Ok lists ≡ operands_tokens true args used os

no-fault-of : (r : Result (List (List Hiding)) Fault) (u : Unit {0}) → Ok u ≡ fault_of r → (lists : List (List Hiding)) × (Ok lists ≡ r)
no-fault-of (Ok lists) u h = (lists, refl)
no-fault-of (Err f) u h = absurd (cc h)

pub no-fault : (args : Arguments) (used : Place) (os : List Operand) (u : Unit {0}) → Ok u ≡ operands_fault args used os → NoFault args used os
no-fault args used os u h = let made = no-fault-of (operands_tokens true args used os) u h in record { lists = made.0; is = made.1 }

-- A chain that isn't one operand: `##` joins its operands, or there are none.
pub next-to-paste : (args : Arguments) (used : Place) (os : List Operand)
    → (is_joined os ≡ true) ⊎ (os ≡ [])
    → operands_tokens true args used (before_variadic os) ≡ operands_tokens (is_joined os) args used (before_variadic os)
next-to-paste args used os (inl joined) = ap (λ b. operands_tokens b args used (before_variadic os)) (sym joined)
next-to-paste args used [] h = refl
next-to-paste args used (o ∷ os) (inr none) = absurd (cc none)

fault-is : (r : Result (List (List Hiding)) Fault) (f : Fault) → Err f ≡ fault_of r → Err f ≡ r
fault-is (Ok lists) f h = absurd (cc h)
fault-is (Err g) f h = cc h

-- A chain is one operand, or `##` joins its operands, or it has none.
pub one-operand : (os : List Operand) (o : Operand) → length os ≡ 1 → o ≡ get_or os 0 o → o ∷ [] ≡ os
one-operand [] o h is = absurd (cc h)
one-operand (p ∷ []) o h is = ap (λ q. q ∷ []) is
one-operand (p ∷ (q ∷ os)) o h is = absurd (omega arith)

pub several-operands : (os : List Operand) → (length os ≡ 1 → ⊥) → (is_joined os ≡ true) ⊎ (os ≡ [])
several-operands [] h = inr refl
several-operands (o ∷ []) h = absurd (h refl)
several-operands (o ∷ (p ∷ os)) h = inl refl

-- The first `#` of a chain whose text isn't a string literal decides.
pub chain-refused : (args : Arguments) (used : Place) (c : Chain) (f : Fault)
    → (is_joined c.operands ≡ true) ⊎ (c.operands ≡ [])
    → Err f ≡ operands_fault args used (before_variadic c.operands)
    → Err f ≡ chain_tokens args used c
chain-refused args used c f joined h =
    ap (λ r. after_ok r (λ lists. after_ok (join_all [] lists used) (λ ts. Ok (with_variadic_tokens args.given (variadic_of c.operands) ts))))
    (fault-is (operands_tokens true args used (before_variadic c.operands)) f h ∙ next-to-paste args used c.operands joined)

-- A paste of a chain fails.
pub chain-unpasted : (args : Arguments) (used : Place) (c : Chain) (lists : List (List Hiding)) (f : Fault)
    → Ok lists ≡ operands_tokens (is_joined c.operands) args used (before_variadic c.operands)
    → Err f ≡ join_all [] lists used
    → Err f ≡ chain_tokens args used c
chain-unpasted args used c lists f made h =
    ap (λ r. after_ok r (λ ts. Ok (with_variadic_tokens args.given (variadic_of c.operands) ts))) h
    ∙ ap (λ r. after_ok r (λ ls. after_ok (join_all [] ls used) (λ ts. Ok (with_variadic_tokens args.given (variadic_of c.operands) ts)))) made

-- ---- chains of one operand

-- A variable argument after a comma that stands alone, since the comma is a chain of its own.
variadic-alone : {X : Type 0} (o : Option (List X)) → variadic_after_comma o [] ≡ unwrap_or o []
variadic-alone None = refl
variadic-alone (Some argument) = refl

-- An argument that isn't expanded, as the operand of a chain.
pub argument-alone : (args : Arguments) (used : Place) (space : Bool) (i : ℕ)
    → Ok (argument_at args.given i) ≡ chain_tokens args used (record { space = space; operands = VariadicAfterComma i ∷ [] })
argument-alone args used space i = ap Ok (sym (variadic-alone (slice_get args.given i)))

-- The result of a `#` as the only operand of a chain.
literal-joined : (r : Result Hiding Fault) (used : Place)
    → after_ok r (λ t. Ok (t ∷ [])) ≡ after_ok (both (after_ok r (λ t. Ok (t ∷ []))) (Ok [])) (λ lists. after_ok (join_all [] lists used) (λ ts. Ok ts))
literal-joined (Ok t) used = refl
literal-joined (Err f) used = refl

pub literal-alone : (args : Arguments) (used : Place) (space : Bool) (i : ℕ) (at : Place) (r : Result Hiding Fault)
    → r ≡ stringized (map (λ t. t.token) (argument_at args.given i)) at used
    → after_ok r (λ t. Ok (t ∷ [])) ≡ chain_tokens args used (record { space = space; operands = Str i at ∷ [] })
literal-alone args used space i at r h =
    literal-joined r used ∙ ap (λ q. after_ok (both (after_ok q (λ t. Ok (t ∷ []))) (Ok [])) (λ lists. after_ok (join_all [] lists used) (λ ts. Ok ts))) h

-- An argument next to `##`, which isn't expanded.
pub argument-joined : (args : Arguments) (used : Place) (left : List Hiding) (o : Operand) (i : ℕ)
    → (o ≡ Param i) ⊎ (o ≡ VariadicAfterComma i)
    → join left (argument_at args.given i) used ≡ after_ok (operand_tokens true args used o) (λ ts. join left ts used)
argument-joined args used left o i (inl is) = ap (λ p. after_ok (operand_tokens true args used p) (λ ts. join left ts used)) (sym is)
argument-joined args used left o i (inr is) = ap (λ p. after_ok (operand_tokens true args used p) (λ ts. join left ts used)) (sym is)
