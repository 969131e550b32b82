-- Symbols of tokens that are read in several parts.
use Rattle.std.proofs.Common.{◌≡◌, ◌∙◌, List, [], ◌∷◌, ◌++◌, append_assoc, append-nil, Result, Ok, Err, sym, ap, refl}
use Rattle.pptext.specs.declared.tokens.Place.{Place}
use Rattle.pptext.specs.declared.tokens.Token.{Token}
use Rattle.pptext.specs.declared.tokens.Fault.{Fault}
use Rattle.ppexpr.specs.declared.symbols.Symbol.{Symbol}
use Rattle.ppexpr.specs.Tokens.{symbol_of, symbol_then, symbols_of}
use Rattle.ppexpr.specs.code.Symbols.{with_prefix}

-- the symbols of two lists of tokens, one after the other, or the first fault
abbrev pub joined : Result (List Symbol) Fault → Result (List Symbol) Fault → Result (List Symbol) Fault
joined (Ok ss) r = with_prefix ss r
joined (Err f) r = Err f

joined-then : (a : Result Symbol Fault) (r q : Result (List Symbol) Fault) → symbol_then a (joined r q) ≡ joined (symbol_then a r) q
joined-then (Ok s) (Ok ss) (Ok ts) = refl
joined-then (Ok s) (Ok ss) (Err f) = refl
joined-then (Ok s) (Err f) q = refl
joined-then (Err f) r q = refl

pub after_none : (r : Result (List Symbol) Fault) → with_prefix [] r ≡ r
after_none (Ok ss) = refl
after_none (Err f) = refl

symbols_of-append : (at : Place) (xs ys : List Token) → symbols_of at (xs ++ ys) ≡ joined (symbols_of at xs) (symbols_of at ys)
symbols_of-append at [] ys = sym (after_none (symbols_of at ys))
symbols_of-append at (t ∷ xs) ys = ap (symbol_then (symbol_of at t)) (symbols_of-append at xs ys) ∙ joined-then (symbol_of at t) (symbols_of at xs) (symbols_of at ys)

onward_by : (ss ts : List Symbol) (r q : Result (List Symbol) Fault) → Ok ts ≡ with_prefix ss r → with_prefix ts q ≡ with_prefix ss (joined r q)
onward_by ss ts (Ok us) (Ok vs) e = let same : ts ≡ ss ++ us = cc in (λ i. Ok (same i ++ vs)) ∙ ap (λ (l : List Symbol). Ok l) (append_assoc ss us vs)
onward_by ss ts (Ok us) (Err f) e = refl
onward_by ss ts (Err f) q e = cc

stopped_by : (ss : List Symbol) (r q : Result (List Symbol) Fault) (f : Fault) → Err f ≡ with_prefix ss r → Err f ≡ with_prefix ss (joined r q)
stopped_by ss (Ok us) q f e = cc
stopped_by ss (Err g) q f e = e

-- The symbols `ts` are those of `ss` and of the tokens `xs`: what follows is what followed.
pub onward : (at : Place) (ss ts : List Symbol) (xs ys : List Token) → Ok ts ≡ with_prefix ss (symbols_of at xs)
    → with_prefix ts (symbols_of at ys) ≡ with_prefix ss (symbols_of at (xs ++ ys))
onward at ss ts xs ys e = onward_by ss ts (symbols_of at xs) (symbols_of at ys) e ∙ ap (with_prefix ss) (sym (symbols_of-append at xs ys))

-- A fault of the first tokens is the fault of all.
pub stopped_at : (at : Place) (ss : List Symbol) (xs ys : List Token) (f : Fault) → Err f ≡ with_prefix ss (symbols_of at xs)
    → Err f ≡ with_prefix ss (symbols_of at (xs ++ ys))
stopped_at at ss xs ys f e = stopped_by ss (symbols_of at xs) (symbols_of at ys) f e ∙ ap (with_prefix ss) (sym (symbols_of-append at xs ys))

-- A step of a loop over parts: `all` is `xs` and then `ys`, and `xs` is read.
pub read_on : (at : Place) (ss ts : List Symbol) (xs ys all : List Token) (r : Result (List Symbol) Fault)
    → all ≡ xs ++ ys
    → Ok ts ≡ with_prefix ss (symbols_of at xs)
    → with_prefix ss (symbols_of at all) ≡ r
    → with_prefix ts (symbols_of at ys) ≡ r
read_on at ss ts xs ys all r parts e before = onward at ss ts xs ys e ∙ ap (λ (l : List Token). with_prefix ss (symbols_of at l)) (sym parts) ∙ before

-- The loop stops at the fault of `xs`.
pub stop_there : (at : Place) (ss : List Symbol) (xs ys all : List Token) (f : Fault) (r : Result (List Symbol) Fault)
    → all ≡ xs ++ ys
    → Err f ≡ with_prefix ss (symbols_of at xs)
    → with_prefix ss (symbols_of at all) ≡ r
    → Err f ≡ r
stop_there at ss xs ys all f r parts e before = stopped_at at ss xs ys f e ∙ ap (λ (l : List Token). with_prefix ss (symbols_of at l)) (sym parts) ∙ before

-- The loop ends where nothing is left.
pub read_all : (at : Place) (ss : List Symbol) (all : List Token) (r : Result (List Symbol) Fault) → all ≡ [] → with_prefix ss (symbols_of at all) ≡ r → Ok ss ≡ r
read_all at ss all r none before =
    ap (λ (l : List Symbol). Ok l) (sym (append-nil ss)) ∙ ap (λ (l : List Token). with_prefix ss (symbols_of at l)) (sym none) ∙ before

-- A fault of the first tokens, or of those after them, is the fault of all.
pub both_parts : (at : Place) (ss ts : List Symbol) (xs ys : List Token) (r : Result (List Symbol) Fault)
    → ss ≡ []
    → Ok ts ≡ with_prefix ss (symbols_of at xs)
    → r ≡ with_prefix ts (symbols_of at ys)
    → r ≡ symbols_of at (xs ++ ys)
both_parts at ss ts xs ys r none e after =
    after ∙ onward at ss ts xs ys e ∙ ap (λ (l : List Symbol). with_prefix l (symbols_of at (xs ++ ys))) none ∙ after_none (symbols_of at (xs ++ ys))

pub first_part : (at : Place) (ss : List Symbol) (xs ys : List Token) (f : Fault)
    → ss ≡ []
    → Err f ≡ with_prefix ss (symbols_of at xs)
    → Err f ≡ symbols_of at (xs ++ ys)
first_part at ss xs ys f none e =
    stopped_at at ss xs ys f e ∙ ap (λ (l : List Symbol). with_prefix l (symbols_of at (xs ++ ys))) none ∙ after_none (symbols_of at (xs ++ ys))
