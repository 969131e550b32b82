-- A text is read as an integer constant if and only if it has the syntax of one.
use Rattle.std.proofs.Common.{◌≡◌, ◌≢◌, ℕ, zero, suc, pos, ◌+◌, ◌*◌, ◌^◌, ◌<◌, ◌≤◌, Bool, true, false, cond, ◌||◌, ◌&&◌, nat_lt, nat_eq}
use Rattle.std.proofs.Common.{List, [], ◌∷◌, ◌++◌, length, take, drop, Option, Some, None}
use Rattle.std.proofs.Common.{refl, sym, ap, ◌∙◌, subst, arith}
use Rattle.std.specs.Prelude.{if◌then◌else◌, codes}
use Rattle.std.specs.List.{fold, starts_with}
use Rattle.std.specs.Str.{bytes_eq}
use Rattle.std.specs.Char.{is_digit, digit_value}
use Rattle.std.proofs.lemmas.Bool.{and_parts, false≢true}
use Rattle.std.proofs.lemmas.Bool.Decides.{nat_tests}
use Rattle.std.proofs.lemmas.List.{take-append-drop}
use Rattle.std.proofs.lemmas.Option.{none-some, same_Some}
use Rattle.std.proofs.lemmas.Slice.Eq.{bytes_eq-Decides}
use Rattle.ppexpr.specs.declared.symbols.Value.{Value}
use Rattle.ppexpr.specs.declared.symbols.Value.TheVariants.{Signed, Unsigned}
use Rattle.ppexpr.specs.Integers.{digits_len, number, is_one_of, plain_suffixes, unsigned_suffixes, as_uintmax, typed, in_base, is_hexadecimal}
use Rattle.ppexpr.specs.Integers.{integer_of}
use Rattle.ppexpr.specs.Constants.{Continues, done, digit, Writes, Base, Decimal, Octal, Hexadecimal, is_decimal, IsX, small_x, large_x, IsNumeral}
use Rattle.ppexpr.specs.Constants.{decimal, octal, hexadecimal, IsUnsignedSuffix, small_u, large_u, IsLongSuffix, small_l, large_l, small_ll}
use Rattle.ppexpr.specs.Constants.{large_ll, IsSuffix, no_suffix, long, unsigned, unsigned_long, long_unsigned, HasValue, is_unsigned, is_signed}
use Rattle.ppexpr.specs.Constants.{too_large, IsInteger}

-- ---- digits

abbrev step : ℕ → ℕ → ℕ → ℕ
step base n c = n * base + digit_value c

-- The number that digits denote is the number that is read.
pub number_is : {base m n : ℕ} {digits : List ℕ} → Continues base m digits n → fold (step base) m digits ≡ n
number_is done = refl
number_is (digit e w) = number_is w

-- The leading digits of a text denote the number that is read from them.
begin_by : (base m c : ℕ) (s : List ℕ) (b : Bool)
    → is_digit c base ≡ b
    → Continues base (step base m c) (take (digits_len base s) s) (fold (step base) (step base m c) (take (digits_len base s) s))
    → Continues base m (take (cond b (1 + digits_len base s) 0) (c ∷ s)) (fold (step base) m (take (cond b (1 + digits_len base s) 0) (c ∷ s)))
begin_by base m c s true e later =
    let P : ℕ → Type 0 = λ k. Continues base m (take k (c ∷ s)) (fold (step base) m (take k (c ∷ s))) in
    let next : suc (digits_len base s) ≡ 1 + digits_len base s = omega arith in
    subst P next (digit e later)
begin_by base m c s false e later = done

pub begin : (base m : ℕ) (s : List ℕ) → Continues base m (take (digits_len base s) s) (fold (step base) m (take (digits_len base s) s))
begin base m [] = done
begin base m (c ∷ s) = begin_by base m c s (is_digit c base) refl (begin base (step base m c) s)

-- the text does not begin with a digit of this base
abbrev pub NoDigit : ℕ → List ℕ → Type 0
NoDigit base [] = Unit {0}
NoDigit base (c ∷ s) = is_digit c base ≡ false

pub length_is : {base m n : ℕ} {digits : List ℕ} (rest : List ℕ) → NoDigit base rest → Continues base m digits n → digits_len base (digits ++ rest) ≡ length digits
length_is [] none done = refl
length_is (c ∷ rest) none done = rw none refl
length_is {base = base} rest none (digit {c = c} {digits = digits} e w) = rw e (let l = length_is rest none w in omega arith)

pub all_digits : {base m n : ℕ} {digits : List ℕ} → Continues base m digits n → digits_len base digits ≡ length digits
all_digits done = refl
all_digits (digit e w) = rw e (let l = all_digits w in omega arith)

-- ---- suffixes

abbrev Each : (List ℕ → Type 0) → List (List ℕ) → Type 0
Each P [] = Unit {0}
Each P (t ∷ ts) = P t × Each P ts

among_by : (P : List ℕ → Type 0) (t : List ℕ) (ts : List (List ℕ)) (s : List ℕ) (b : Bool) → P t → bytes_eq t s ≡ b → (is_one_of ts s ≡ true → P s) → (b || is_one_of ts s) ≡ true → P s
among_by P t ts s true p f later g = subst P ((bytes_eq-Decides t s).0 f) p
among_by P t ts s false p f later g = later g

among : (P : List ℕ → Type 0) (ts : List (List ℕ)) (s : List ℕ) → Each P ts → is_one_of ts s ≡ true → P s
among P [] s all e = absurd (false≢true e)
among P (t ∷ ts) s all e = among_by P t ts s (bytes_eq t s) all.0 refl (among P ts s all.1) e

plain_suffix : (s : List ℕ) → is_one_of plain_suffixes s ≡ true → IsSuffix false s
plain_suffix s e = among (IsSuffix false) plain_suffixes s (no_suffix, (long small_l, (long large_l, (long small_ll, (long large_ll, tt))))) e

unsigned_suffix : (s : List ℕ) → is_one_of unsigned_suffixes s ≡ true → IsSuffix true s
unsigned_suffix s e =
    among (IsSuffix true) unsigned_suffixes s (
      unsigned small_u,
      (
        unsigned_long small_u small_l,
        (
          unsigned_long small_u large_l,
          (
            unsigned_long small_u small_ll,
            (
              unsigned_long small_u large_ll,
              (
                long_unsigned small_l small_u,
                (
                  long_unsigned large_l small_u,
                  (
                    long_unsigned small_ll small_u,
                    (
                      long_unsigned large_ll small_u,
                      (
                        unsigned large_u,
                        (
                          unsigned_long large_u small_l,
                          (
                            unsigned_long large_u large_l,
                            (
                              unsigned_long large_u small_ll,
                              (
                                unsigned_long large_u large_ll,
                                (long_unsigned small_l large_u, (long_unsigned large_l large_u, (long_unsigned small_ll large_u, (long_unsigned large_ll large_u, tt)))),
                              ),
                            ),
                          ),
                        ),
                      ),
                    ),
                  ),
                ),
              ),
            ),
          ),
        ),
      ),
    )
    e

-- the suffix is in the list of unsigned suffixes, or only in the list of plain ones
abbrev Tested : Bool → List ℕ → Type 0
Tested true s = is_one_of unsigned_suffixes s ≡ true
Tested false s = (is_one_of unsigned_suffixes s ≡ false) × (is_one_of plain_suffixes s ≡ true)

tested_long : (l : List ℕ) → IsLongSuffix l → Tested false l
tested_long l small_l = (refl, refl)
tested_long l large_l = (refl, refl)
tested_long l small_ll = (refl, refl)
tested_long l large_ll = (refl, refl)

tested_unsigned : (u : List ℕ) → IsUnsignedSuffix u → Tested true u
tested_unsigned u small_u = refl
tested_unsigned u large_u = refl

tested_unsigned_long : (u l : List ℕ) → IsUnsignedSuffix u → IsLongSuffix l → Tested true (u ++ l)
tested_unsigned_long u l small_u small_l = refl
tested_unsigned_long u l small_u large_l = refl
tested_unsigned_long u l small_u small_ll = refl
tested_unsigned_long u l small_u large_ll = refl
tested_unsigned_long u l large_u small_l = refl
tested_unsigned_long u l large_u large_l = refl
tested_unsigned_long u l large_u small_ll = refl
tested_unsigned_long u l large_u large_ll = refl

tested_long_unsigned : (u l : List ℕ) → IsLongSuffix l → IsUnsignedSuffix u → Tested true (l ++ u)
tested_long_unsigned u l small_l small_u = refl
tested_long_unsigned u l small_l large_u = refl
tested_long_unsigned u l large_l small_u = refl
tested_long_unsigned u l large_l large_u = refl
tested_long_unsigned u l small_ll small_u = refl
tested_long_unsigned u l small_ll large_u = refl
tested_long_unsigned u l large_ll small_u = refl
tested_long_unsigned u l large_ll large_u = refl

tested : (b : Bool) (s : List ℕ) → IsSuffix b s → Tested b s
tested b s no_suffix = (refl, refl)
tested b s (long {l = l} h) = tested_long l h
tested b s (unsigned {u = u} h) = tested_unsigned u h
tested b s (unsigned_long {u = u} {l = l} h k) = tested_unsigned_long u l h k
tested b s (long_unsigned {u = u} {l = l} h k) = tested_long_unsigned u l h k

-- the text does not begin with a digit of base 8, 10 or 16
abbrev HasNoDigit : List ℕ → Type 0
HasNoDigit s = NoDigit 8 s × NoDigit 10 s × NoDigit 16 s

long_no_digit : (l : List ℕ) → IsLongSuffix l → HasNoDigit l
long_no_digit l small_l = (refl, refl, refl)
long_no_digit l large_l = (refl, refl, refl)
long_no_digit l small_ll = (refl, refl, refl)
long_no_digit l large_ll = (refl, refl, refl)

unsigned_no_digit : (u more : List ℕ) → IsUnsignedSuffix u → HasNoDigit (u ++ more)
unsigned_no_digit u more small_u = (refl, refl, refl)
unsigned_no_digit u more large_u = (refl, refl, refl)

long_more_no_digit : (l more : List ℕ) → IsLongSuffix l → HasNoDigit (l ++ more)
long_more_no_digit l more small_l = (refl, refl, refl)
long_more_no_digit l more large_l = (refl, refl, refl)
long_more_no_digit l more small_ll = (refl, refl, refl)
long_more_no_digit l more large_ll = (refl, refl, refl)

single_no_digit : (u : List ℕ) → IsUnsignedSuffix u → HasNoDigit u
single_no_digit u small_u = (refl, refl, refl)
single_no_digit u large_u = (refl, refl, refl)

no_digit : (b : Bool) (s : List ℕ) → IsSuffix b s → HasNoDigit s
no_digit b s no_suffix = (tt, tt, tt)
no_digit b s (long {l = l} h) = long_no_digit l h
no_digit b s (unsigned {u = u} h) = single_no_digit u h
no_digit b s (unsigned_long {u = u} {l = l} h k) = unsigned_no_digit u l h
no_digit b s (long_unsigned {u = u} {l = l} h k) = long_more_no_digit l u h

-- ---- the value of a number with a suffix

record Valued (base : Base) (suffix : List ℕ) (n : ℕ) (v : Value) : Type 0 where
  pub with_u : Bool
  pub ends : IsSuffix with_u suffix
  pub value : HasValue base with_u n v

uintmax_is : (n : ℕ) (v : Value) → as_uintmax n ≡ Some v → (n < 2 ^ 64) × (Unsigned n ≡ v)
uintmax_is n v = by (nat_lt n (2 ^ 64)) refl
  where
    by : (b : Bool) → nat_lt n (2 ^ 64) ≡ b → (if b then Some (Unsigned n) else None) ≡ Some v → (n < 2 ^ 64) × (Unsigned n ≡ v)
    by true e f = (grind (arith, nat_tests), same_Some (Unsigned n) v f)
    by false e f = absurd (none-some v f)

valued_by : (base : Base) (suffix : List ℕ) (n : ℕ) (v : Value) (u p s d : Bool)
    → is_one_of unsigned_suffixes suffix ≡ u
    → is_one_of plain_suffixes suffix ≡ p
    → nat_lt n (2 ^ 63) ≡ s
    → is_decimal base ≡ d
    → (if u then as_uintmax n else (if p then (if s then Some (Signed (pos n)) else (if d then None else as_uintmax n)) else None)) ≡ Some v
    → Valued base suffix n v
valued_by base suffix n v true p s d e f g h is =
    let r = uintmax_is n v is in
    record { with_u = true; ends = unsigned_suffix suffix e; value = subst (λ (x : Value). HasValue base true n x) r.1 (is_unsigned r.0) }
valued_by base suffix n v false false s d e f g h is = absurd (none-some v is)
valued_by base suffix n v false true true d e f g h is =
    let l : n < 2 ^ 63 = grind (arith, nat_tests) in
    record { with_u = false; ends = plain_suffix suffix f; value = subst (λ (x : Value). HasValue base false n x) (same_Some (Signed (pos n)) v is) (is_signed l) }
valued_by base suffix n v false true false true e f g h is = absurd (none-some v is)
valued_by base suffix n v false true false false e f g h is =
    let r = uintmax_is n v is in
    let l : 2 ^ 63 ≤ n = grind (arith, nat_tests) in
    record { with_u = false; ends = plain_suffix suffix f; value = subst (λ (x : Value). HasValue base false n x) r.1 (too_large h l r.0) }

valued : (base : Base) (suffix : List ℕ) (n : ℕ) (v : Value) → typed (is_decimal base) suffix n ≡ Some v → Valued base suffix n v
valued base suffix n v e = valued_by base suffix n v (is_one_of unsigned_suffixes suffix) (is_one_of plain_suffixes suffix) (nat_lt n (2 ^ 63)) (is_decimal base) refl refl refl refl e

uintmax_of : (n : ℕ) → n < 2 ^ 64 → as_uintmax n ≡ Some (Unsigned n)
uintmax_of n h = let e : nat_lt n (2 ^ 64) ≡ true = grind (arith, nat_tests) in rw e refl

typed_of : (base : Base) (u : Bool) (suffix : List ℕ) (n : ℕ) (v : Value) → Tested u suffix → HasValue base u n v → typed (is_decimal base) suffix n ≡ Some v
typed_of base u suffix n v t (is_unsigned h) = rw t (uintmax_of n h)
typed_of base u suffix n v t (is_signed h) = let e : nat_lt n (2 ^ 63) ≡ true = grind (arith, nat_tests) in rw (t.0, t.1, e) refl
typed_of base u suffix n v t (too_large d low h) = let e : nat_lt n (2 ^ 63) ≡ false = grind (arith, nat_tests) in rw (t.0, t.1, e, d) (uintmax_of n h)

-- ---- digits and a suffix

-- a text that is read as a number in a base: at least one digit, and a suffix
record Parts (base : Base) (radix : ℕ) (text : List ℕ) (v : Value) : Type 0 where
  pub first : ℕ
  pub digits : List ℕ
  pub suffix : List ℕ
  pub number : ℕ
  pub laid_out : text ≡ (first ∷ digits) ++ suffix
  pub writes : Writes radix (first ∷ digits) number
  pub valued : Valued base suffix number v

parts_by : (base : Base) (radix : ℕ) (text front suffix : List ℕ) (n : ℕ) (v : Value)
    → 0 < length front
    → text ≡ front ++ suffix
    → Writes radix front n
    → Valued base suffix n v
    → Parts base radix text v
parts_by base radix text [] suffix n v some e w h = absurd (omega arith)
parts_by base radix text (c ∷ digits) suffix n v some e w h = record { first = c; digits = digits; suffix = suffix; number = n; laid_out = e; writes = w; valued = h }

some_front : (radix : ℕ) (s : List ℕ) → 0 < digits_len radix s → 0 < length (take (digits_len radix s) s)
some_front radix [] h = absurd (omega arith)
some_front radix (c ∷ s) h = by (is_digit c radix) h
  where
    by : (b : Bool) → 0 < cond b (1 + digits_len radix s) 0 → 0 < length (take (cond b (1 + digits_len radix s) 0) (c ∷ s))
    by true h =
        let P : ℕ → Type 0 = λ k. 0 < length (take k (c ∷ s)) in
        let next : suc (digits_len radix s) ≡ 1 + digits_len radix s = omega arith in
        subst P next (omega arith)
    by false h = absurd (omega arith)

parts : (base : Base) (radix : ℕ) (s : List ℕ) (v : Value) → in_base radix (is_decimal base) s ≡ Some v → Parts base radix s v
parts base radix s v = by (nat_lt 0 (digits_len radix s)) refl
  where
    by : (b : Bool) → nat_lt 0 (digits_len radix s) ≡ b
        → (if b then typed (is_decimal base) (drop (digits_len radix s) s) (number radix (take (digits_len radix s) s)) else None) ≡ Some v
        → Parts base radix s v
    by true e f =
        let len = digits_len radix s in
        let some : 0 < len = grind (arith, nat_tests) in
        parts_by base radix s (take len s) (drop len s) (number radix (take len s)) v (some_front radix s some) (sym (take-append-drop len s)) (begin radix 0 s)
        (valued base (drop len s) (number radix (take len s)) v f)
    by false e f = absurd (none-some v f)

front_of : (d r : List ℕ) (n : ℕ) → n ≡ length d → take n (d ++ r) ≡ d
front_of [] r zero e = refl
front_of [] r (suc n) e = absurd (omega arith)
front_of (c ∷ d) r zero e = absurd (omega arith)
front_of (c ∷ d) r (suc n) e = ap (λ (x : List ℕ). c ∷ x) (front_of d r n (omega arith))

rest_of : (d r : List ℕ) (n : ℕ) → n ≡ length d → drop n (d ++ r) ≡ r
rest_of [] r zero e = refl
rest_of [] r (suc n) e = absurd (omega arith)
rest_of (c ∷ d) r zero e = absurd (omega arith)
rest_of (c ∷ d) r (suc n) e = rest_of d r n (omega arith)

in_base_of : (base : Base) (radix : ℕ) (c : ℕ) (digits suffix : List ℕ) (n : ℕ) (u : Bool) (v : Value)
    → NoDigit radix suffix
    → Writes radix (c ∷ digits) n
    → IsSuffix u suffix
    → HasValue base u n v
    → in_base radix (is_decimal base) ((c ∷ digits) ++ suffix) ≡ Some v
in_base_of base radix c digits suffix n u v none w ends value =
    let s : List ℕ = (c ∷ digits) ++ suffix in
    let len : digits_len radix s ≡ length (c ∷ digits) = length_is suffix none w in
    let some : nat_lt 0 (digits_len radix s) ≡ true = let l = len in grind (arith, nat_tests) in
    let front : take (digits_len radix s) s ≡ c ∷ digits = front_of (c ∷ digits) suffix (digits_len radix s) len in
    let rest : drop (digits_len radix s) s ≡ suffix = rest_of (c ∷ digits) suffix (digits_len radix s) len in
    let num : number radix (take (digits_len radix s) s) ≡ n = ap (number radix) front ∙ number_is w in
    rw (some, rest, num) (typed_of base u suffix n v (tested u suffix ends) value)

-- ---- prefixes

starts_by : (a b c d : ℕ) → (nat_eq a b && (nat_eq c d && true)) ≡ true → (a ≡ b) × (c ≡ d)
starts_by a b c d e = let p = and_parts (nat_eq a b) (nat_eq c d && true) e in let q = and_parts (nat_eq c d) true p.1 in (grind (arith, nat_tests), grind (arith, nat_tests))

abbrev Prefixed : List ℕ → Type 0
Prefixed s = (x : ℕ) × (rest : List ℕ) × (s ≡ 48 ∷ x ∷ rest) × IsX x

prefixed_by : (a b : ℕ) (r : List ℕ) (t : Bool) → (nat_eq 48 a && (nat_eq 120 b && true)) ≡ t → (t || (nat_eq 48 a && (nat_eq 88 b && true))) ≡ true → Prefixed (a ∷ b ∷ r)
prefixed_by a b r true e f = let p = starts_by 48 a 120 b e in (120, r, ap (λ (x : ℕ). x ∷ b ∷ r) (sym p.0) ∙ ap (λ (x : ℕ). 48 ∷ x ∷ r) (sym p.1), small_x)
prefixed_by a b r false e f = let p = starts_by 48 a 88 b f in (88, r, ap (λ (x : ℕ). x ∷ b ∷ r) (sym p.0) ∙ ap (λ (x : ℕ). 48 ∷ x ∷ r) (sym p.1), large_x)

prefixed : (s : List ℕ) → is_hexadecimal s ≡ true → Prefixed s
prefixed [] e = absurd (false≢true e)
prefixed (a ∷ []) e = by (nat_eq 48 a) e
  where
    by : (b : Bool) → ((b && false) || (b && false)) ≡ true → Prefixed (a ∷ [])
    by true e = absurd (false≢true e)
    by false e = absurd (false≢true e)
prefixed (a ∷ b ∷ r) e = prefixed_by a b r (nat_eq 48 a && (nat_eq 120 b && true)) refl e

-- If `starts_with` finds the byte k, k is the first byte of the text.
pub starts : (k c : ℕ) (s : List ℕ) → starts_with nat_eq (c ∷ s) (k ∷ []) ≡ true → c ≡ k
starts k c s e = let p = and_parts (nat_eq k c) true e in let t = p.0 in grind (arith, nat_tests)

zero_first : (c : ℕ) (s : List ℕ) → starts_with nat_eq (c ∷ s) (codes "0") ≡ true → c ≡ 48
zero_first c s e = let p = and_parts (nat_eq 48 c) true e in grind (arith, nat_tests)

other_first : (c : ℕ) (s : List ℕ) → starts_with nat_eq (c ∷ s) (codes "0") ≡ false → c ≢ 48
other_first c s e same = false≢true (sym e ∙ ap (λ (x : ℕ). nat_eq 48 x && true) same)

-- ---- a text that is read has the syntax of an integer constant

abbrev Reads : Bool → Bool → List ℕ → Option Value
Reads h o s = if h then in_base 16 false (drop 2 s) else (if o then in_base 8 false s else in_base 10 true s)

whole : (base : Base) (text numeral suffix : List ℕ) (n : ℕ) (v : Value) → text ≡ numeral ++ suffix → IsNumeral base numeral n → Valued base suffix n v → IsInteger text v
whole base text numeral suffix n v e w h = record { base = base; numeral = numeral; suffix = suffix; number = n; with_u = h.with_u; laid_out = e; writes = w; ends = h.ends; value = h.value }

read_hexadecimal : (s : List ℕ) (v : Value) → Prefixed s → in_base 16 false (drop 2 s) ≡ Some v → IsInteger s v
read_hexadecimal s v (x, rest, is, ex) e =
    let at : in_base 16 false rest ≡ Some v = ap (λ (t : List ℕ). in_base 16 false (drop 2 t)) (sym is) ∙ e in
    let p : Parts Hexadecimal 16 rest v = parts Hexadecimal 16 rest v at in
    whole Hexadecimal s (48 ∷ x ∷ p.first ∷ p.digits) p.suffix p.number v (is ∙ ap (λ (t : List ℕ). 48 ∷ x ∷ t) p.laid_out) (hexadecimal ex p.writes) p.valued

octal_by : (s : List ℕ) (v : Value) (p : Parts Octal 8 s v) → p.first ≡ 48 → IsInteger s v
octal_by s v p z =
    let w : Writes 8 (48 ∷ p.digits) p.number = subst (λ (c : ℕ). Writes 8 (c ∷ p.digits) p.number) z p.writes in
    whole Octal s (48 ∷ p.digits) p.suffix p.number v (p.laid_out ∙ ap (λ (c : ℕ). (c ∷ p.digits) ++ p.suffix) z) (octal w) p.valued

read_by : (s : List ℕ) (v : Value) (h o : Bool) → is_hexadecimal s ≡ h → starts_with nat_eq s (codes "0") ≡ o → Reads h o s ≡ Some v → IsInteger s v
read_by s v true o e f is = read_hexadecimal s v (prefixed s e) is
read_by s v false true e f is =
    let p : Parts Octal 8 s v = parts Octal 8 s v is in
    octal_by s v p (zero_first p.first (p.digits ++ p.suffix) (ap (λ (t : List ℕ). starts_with nat_eq t (codes "0")) (sym p.laid_out) ∙ f))
read_by s v false false e f is =
    let p : Parts Decimal 10 s v = parts Decimal 10 s v is in
    let other : p.first ≢ 48 = other_first p.first (p.digits ++ p.suffix) (ap (λ (t : List ℕ). starts_with nat_eq t (codes "0")) (sym p.laid_out) ∙ f) in
    whole Decimal s (p.first ∷ p.digits) p.suffix p.number v p.laid_out (decimal other p.writes) p.valued

pub integer_laid_out : (s : List ℕ) (v : Value) → integer_of s ≡ Some v → IsInteger s v
integer_laid_out s v e = read_by s v (is_hexadecimal s) (starts_with nat_eq s (codes "0")) refl refl e

-- ---- a text with the syntax of an integer constant is read

-- The byte after the 0 of an octal constant is neither `x` nor `X`.
no_x : (digits suffix : List ℕ) (m n : ℕ) (u : Bool) → Continues 8 m digits n → IsSuffix u suffix → is_hexadecimal (48 ∷ (digits ++ suffix)) ≡ false
no_x digits suffix m n u (digit {c = c} e w) ends = by (nat_eq 120 c) (nat_eq 88 c) refl refl
  where
    by : (a b : Bool) → nat_eq 120 c ≡ a → nat_eq 88 c ≡ b → ((a && true) || (b && true)) ≡ false
    by true b f g = let is : 120 ≡ c = grind (arith, nat_tests) in absurd (false≢true (ap (λ (x : ℕ). is_digit x 8) is ∙ e))
    by false true f g = let is : 88 ≡ c = grind (arith, nat_tests) in absurd (false≢true (ap (λ (x : ℕ). is_digit x 8) is ∙ e))
    by false false f g = refl
no_x digits suffix m n u done ends = suffix_no_x u suffix ends
  where
    after_long : (l more : List ℕ) → IsLongSuffix l → is_hexadecimal (48 ∷ (l ++ more)) ≡ false
    after_long l more small_l = refl
    after_long l more large_l = refl
    after_long l more small_ll = refl
    after_long l more large_ll = refl

    only_long : (l : List ℕ) → IsLongSuffix l → is_hexadecimal (48 ∷ l) ≡ false
    only_long l small_l = refl
    only_long l large_l = refl
    only_long l small_ll = refl
    only_long l large_ll = refl

    after_unsigned : (l more : List ℕ) → IsUnsignedSuffix l → is_hexadecimal (48 ∷ (l ++ more)) ≡ false
    after_unsigned l more small_u = refl
    after_unsigned l more large_u = refl

    only_unsigned : (l : List ℕ) → IsUnsignedSuffix l → is_hexadecimal (48 ∷ l) ≡ false
    only_unsigned l small_u = refl
    only_unsigned l large_u = refl

    suffix_no_x : (u : Bool) (s : List ℕ) → IsSuffix u s → is_hexadecimal (48 ∷ s) ≡ false
    suffix_no_x u s no_suffix = refl
    suffix_no_x u s (long {l = l} h) = only_long l h
    suffix_no_x u s (unsigned {u = l} h) = only_unsigned l h
    suffix_no_x u s (unsigned_long {u = l} {l = more} h k) = after_unsigned l more h
    suffix_no_x u s (long_unsigned {u = more} {l = l} h k) = after_long l more h

not_hexadecimal : (c : ℕ) (s : List ℕ) → c ≢ 48 → is_hexadecimal (c ∷ s) ≡ false
not_hexadecimal c s other = let e : nat_eq 48 c ≡ false = grind (arith, nat_tests) in rw e refl

not_octal : (c : ℕ) (s : List ℕ) → c ≢ 48 → starts_with nat_eq (c ∷ s) (codes "0") ≡ false
not_octal c s other = let e : nat_eq 48 c ≡ false = grind (arith, nat_tests) in rw e refl

is_prefixed : (x : ℕ) (s : List ℕ) → IsX x → is_hexadecimal (48 ∷ x ∷ s) ≡ true
is_prefixed x s small_x = refl
is_prefixed x s large_x = refl

after_first : {base c n : ℕ} {digits : List ℕ} → Writes base (c ∷ digits) n → Continues base (0 * base + digit_value c) digits n
after_first (digit e w) = w

numeral_read : (base : Base) (numeral suffix : List ℕ) (n : ℕ) (u : Bool) (v : Value) → IsNumeral base numeral n → IsSuffix u suffix → HasValue base u n v → integer_of (numeral ++ suffix) ≡ Some v
numeral_read base numeral suffix n u v (decimal {c = c} {digits = digits} other w) ends value =
    rw (not_hexadecimal c (digits ++ suffix) other, not_octal c (digits ++ suffix) other) (in_base_of Decimal 10 c digits suffix n u v (no_digit u suffix ends).1 w ends value)
numeral_read base numeral suffix n u v (octal {digits = digits} w) ends value =
    rw (no_x digits suffix 0 n u (after_first w) ends) (in_base_of Octal 8 48 digits suffix n u v (no_digit u suffix ends).0 w ends value)
numeral_read base numeral suffix n u v (hexadecimal {x = x} {c = c} {digits = digits} ex w) ends value =
    rw (is_prefixed x ((c ∷ digits) ++ suffix) ex) (in_base_of Hexadecimal 16 c digits suffix n u v (no_digit u suffix ends).2 w ends value)

pub integer_read : (s : List ℕ) (v : Value) → IsInteger s v → integer_of s ≡ Some v
integer_read s v i = ap integer_of i.laid_out ∙ numeral_read i.base i.numeral i.suffix i.number i.with_u v i.writes i.ends i.value
