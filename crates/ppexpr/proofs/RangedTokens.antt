-- Constants, and the values of expressions of tokens, lie in the range of their type.
use Rattle.std.proofs.Common.{◌≡◌, ℕ, pos, ◌^◌, ◌<◌, ◌≤◌, Bool, true, false, nat_lt, nat_le, List, [], ◌∷◌, ◌++◌, Option, Some, None, Result, Ok, Err, refl, arith, subst, drop}
use Rattle.std.specs.Prelude.{if◌then◌else◌, option_and_then, nat_eq, codes, take}
use Rattle.std.specs.List.{starts_with}
use Rattle.std.specs.Str.{bytes_eq}
use Rattle.std.proofs.lemmas.Bool.Decides.{nat_tests}
use Rattle.pptext.specs.declared.tokens.Place.{Place}
use Rattle.pptext.specs.declared.tokens.Token.{Token}
use Rattle.pptext.specs.declared.tokens.Kind.{Kind}
use Rattle.pptext.specs.declared.tokens.Kind.TheVariants.{Ident, Number, CharConst, Str, Punct, Header, Other as OtherKind}
use Rattle.pptext.specs.declared.tokens.Fault.{Fault}
use Rattle.ppexpr.specs.declared.symbols.Value.{Value}
use Rattle.ppexpr.specs.declared.symbols.Value.TheVariants.{Signed, Unsigned}
use Rattle.ppexpr.specs.declared.operators.Operator.{Operator as OperatorSign}
use Rattle.ppexpr.specs.declared.symbols.Symbol.{Symbol}
use Rattle.ppexpr.specs.declared.symbols.Symbol.TheVariants.{Constant, Operator, Open, Close, Question, Colon, Other}
use Rattle.ppexpr.specs.Grammar.{Tree, Derives, constant, parentheses, unary, binary, conditional, tighter, Parses}
use Rattle.ppexpr.specs.Integers.{as_uintmax, typed, in_base, integer_of, is_one_of, plain_suffixes, unsigned_suffixes, is_hexadecimal, digits_len}
use Rattle.ppexpr.specs.Integers.{number}
use Rattle.ppexpr.specs.Characters.{up_to, of_type, character_of, character, unquoted}
use Rattle.ppexpr.specs.Operators.{operator_of}
use Rattle.ppexpr.specs.Tokens.{other_punctuator, operator_or, constant_or, symbol_by, symbol_of, symbol_then, symbols_of}
use Rattle.ppexpr.specs.Laws.{IsInRange}
use Rattle.ppexpr.specs.Values.{evaluation_of}
use Rattle.ppexpr.proofs.Ranges.{AreLeavesInRange, tree_in_range}

-- a value, if there is one, is in range
abbrev IfInRange : Option Value → Type 0
IfInRange None = Unit {0}
IfInRange (Some v) = IsInRange v

-- ---- constants

range-uintmax : (n : ℕ) → IfInRange (as_uintmax n)
range-uintmax n = by (nat_lt n (2 ^ 64)) refl
  where
    by : (b : Bool) → nat_lt n (2 ^ 64) ≡ b → IfInRange (if b then Some (Unsigned n) else None)
    by true e = grind (arith, nat_tests)
    by false e = tt

choice : (b : Bool) (x y : Option Value) → IfInRange x → IfInRange y → IfInRange (if b then x else y)
choice true x y h k = h
choice false x y h k = k

range-signed : (n : ℕ) (later : Option Value) → IfInRange later → IfInRange (if nat_lt n (2 ^ 63) then Some (Signed (pos n)) else later)
range-signed n later h = by (nat_lt n (2 ^ 63)) refl
  where
    by : (b : Bool) → nat_lt n (2 ^ 63) ≡ b → IfInRange (if b then Some (Signed (pos n)) else later)
    by true e = grind (arith, nat_tests)
    by false e = h

range-typed : (decimal : Bool) (suffix : List ℕ) (n : ℕ) → IfInRange (typed decimal suffix n)
range-typed decimal suffix n =
    let later : Option Value = if decimal then None else as_uintmax n in
    let plain : Option Value = if nat_lt n (2 ^ 63) then Some (Signed (pos n)) else later in
    let with_p : Option Value = if is_one_of plain_suffixes suffix then plain else None in
    choice (is_one_of unsigned_suffixes suffix) (as_uintmax n) with_p (range-uintmax n)
    (choice (is_one_of plain_suffixes suffix) plain None (range-signed n later (choice decimal None (as_uintmax n) tt (range-uintmax n))) tt)

range-in_base : (base : ℕ) (decimal : Bool) (s : List ℕ) → IfInRange (in_base base decimal s)
range-in_base base decimal s =
    let len = digits_len base s in
    choice (nat_lt 0 len) (typed decimal (drop len s) (number base (take len s))) None (range-typed decimal (drop len s) (number base (take len s))) tt

range-integer : (s : List ℕ) → IfInRange (integer_of s)
range-integer s =
    let later : Option Value = if starts_with nat_eq s (codes "0") then in_base 8 false s else in_base 10 true s in
    choice (is_hexadecimal s) (in_base 16 false (drop 2 s)) later (range-in_base 16 false (drop 2 s))
    (choice (starts_with nat_eq s (codes "0")) (in_base 8 false s) (in_base 10 true s) (range-in_base 8 false s) (range-in_base 10 true s))

range-up_to : (greatest : ℕ) (unsigned : Bool) (n : ℕ) → greatest < 2 ^ 63 → IfInRange (up_to greatest unsigned n)
range-up_to greatest unsigned n h = by (nat_le n greatest) refl unsigned
  where
    by : (b : Bool) → nat_le n greatest ≡ b → (u : Bool) → IfInRange (if b then Some (if u then Unsigned n else Signed (pos n)) else None)
    by true e true = let l : n ≤ greatest = grind (arith, nat_tests) in omega arith
    by true e false = let l : n ≤ greatest = grind (arith, nat_tests) in let m : n < 2 ^ 63 = omega arith in grind (arith, nat_tests)
    by false e u = tt

range-number : (greatest : ℕ) (unsigned : Bool) (o : Option ℕ) → greatest < 2 ^ 63 → IfInRange (option_and_then (up_to greatest unsigned) o)
range-number greatest unsigned None h = tt
range-number greatest unsigned (Some n) h = range-up_to greatest unsigned n h

range-of_type : (greatest : ℕ) (unsigned : Bool) (s : List ℕ) → greatest < 2 ^ 63 → IfInRange (of_type greatest unsigned s)
range-of_type greatest unsigned s h = range-number greatest unsigned (option_and_then character (unquoted s)) h

range-character : (s : List ℕ) → IfInRange (character_of s)
range-character s =
    let plain : Option Value = of_type 255 false s in
    let wide : Option Value = if starts_with nat_eq s (codes "L") then of_type 4294967295 false (drop 1 s) else plain in
    let long : Option Value = if starts_with nat_eq s (codes "U") then of_type 4294967295 true (drop 1 s) else wide in
    choice (starts_with nat_eq s (codes "u")) (of_type 65535 true (drop 1 s)) long (range-of_type 65535 true (drop 1 s) (omega arith))
    (choice (starts_with nat_eq s (codes "U")) (of_type 4294967295 true (drop 1 s)) wide (range-of_type 4294967295 true (drop 1 s) (omega arith))
    (choice (starts_with nat_eq s (codes "L")) (of_type 4294967295 false (drop 1 s)) plain (range-of_type 4294967295 false (drop 1 s) (omega arith)) (range-of_type 255 false s (omega arith))))

pub integer_in_range : (s : List ℕ) (v : Value) → integer_of s ≡ Some v → IsInRange v
integer_in_range s v e = subst IfInRange e (range-integer s)

pub character_in_range : (s : List ℕ) (v : Value) → character_of s ≡ Some v → IsInRange v
character_in_range s v e = subst IfInRange e (range-character s)

-- ---- symbols

abbrev IsRanged : Symbol → Type 0
IsRanged (Constant v) = IsInRange v
IsRanged _ = Unit {0}

abbrev AreRanged : List Symbol → Type 0
AreRanged [] = Unit {0}
AreRanged (s ∷ ss) = IsRanged s × AreRanged ss

abbrev IfRanged : Result Symbol Fault → Type 0
IfRanged (Ok s) = IsRanged s
IfRanged (Err f) = Unit {0}

abbrev IfAreRanged : Result (List Symbol) Fault → Type 0
IfAreRanged (Ok ss) = AreRanged ss
IfAreRanged (Err f) = Unit {0}

either : (b : Bool) (x y : Symbol) → IsRanged x → IsRanged y → IsRanged (if b then x else y)
either true x y h k = h
either false x y h k = k

range-other : (s : List ℕ) → IsRanged (other_punctuator s)
range-other s =
    let colon : Symbol = if bytes_eq (codes ":") s then Colon else Other in
    let defined_use : Symbol = if bytes_eq (codes "?") s then Question else colon in
    let close : Symbol = if bytes_eq (codes ")") s then Close else defined_use in
    either (bytes_eq (codes "(") s) Open close tt
    (either (bytes_eq (codes ")") s) Close defined_use tt
    (either (bytes_eq (codes "?") s) Question colon tt (either (bytes_eq (codes ":") s) Colon Other tt tt)))

range-operator : (s : Symbol) (o : Option OperatorSign) → IsRanged s → IsRanged (operator_or s o)
range-operator s (Some o) h = tt
range-operator s None h = h

range-constant : (f : Fault) (o : Option Value) → IfInRange o → IfRanged (constant_or f o)
range-constant f None h = tt
range-constant f (Some v) h = h

range-symbol : (at : Place) (k : Kind) (s : List ℕ) → IfRanged (symbol_by at k s)
range-symbol at Ident s = refl
range-symbol at Number s = range-constant _ (integer_of s) (range-integer s)
range-symbol at CharConst s = range-constant _ (character_of s) (range-character s)
range-symbol at Str s = tt
range-symbol at Punct s = range-operator (other_punctuator s) (operator_of s) (range-other s)
range-symbol at Header s = tt
range-symbol at OtherKind s = tt

range-then : (s : Result Symbol Fault) (ss : Result (List Symbol) Fault) → IfRanged s → IfAreRanged ss → IfAreRanged (symbol_then s ss)
range-then (Ok s) (Ok ss) h k = (h, k)
range-then (Ok s) (Err f) h k = tt
range-then (Err f) ss h k = tt

range-symbols : (at : Place) (ts : List Token) → IfAreRanged (symbols_of at ts)
range-symbols at [] = tt
range-symbols at (t ∷ ts) = range-then (symbol_of at t) (symbols_of at ts) (range-symbol at t.kind t.text) (range-symbols at ts)

-- ---- trees of symbols

parts : (ss rs : List Symbol) → AreRanged (ss ++ rs) → AreRanged ss × AreRanged rs
parts [] rs h = (tt, h)
parts (s ∷ ss) rs h = let k = parts ss rs h.1 in ((h.0, k.0), k.1)

leaves : {k : ℕ} {s : List Symbol} {t : Tree} → Derives k s t → AreRanged s → AreLeavesInRange t
leaves (constant v) h = h.0
leaves (parentheses {s = s} d) h = leaves d (parts s (Close ∷ []) h.1).0
leaves (unary sign o is d) h = leaves d h.1
leaves (binary {s = s} {r = r} sign o is d e) h = let p = parts s (Operator sign ∷ r) h in (leaves d p.0, leaves e p.1.1)
leaves (conditional {s = s} {r = r} {q = q} d e g) h =
    let p = parts s (Question ∷ (r ++ (Colon ∷ q))) h in
    let m = parts r (Colon ∷ q) p.1.1 in
    (leaves d p.0, leaves e m.0, leaves g m.1.1)
leaves (tighter d) h = leaves d h

pub tokens_in_range : (at : Place) (ts : List Token) (s : List Symbol) (t : Tree) (v : Value) → symbols_of at ts ≡ Ok s → Parses s t → (evaluation_of t).value ≡ Ok v → IsInRange v
tokens_in_range at ts s t v e d is = tree_in_range t v (leaves d (subst IfAreRanged e (range-symbols at ts))) is
