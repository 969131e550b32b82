-- An integer constant whose number is 2^64 or more has no value.
use Rattle.std.proofs.Common.{◌≡◌, ℕ, ◌^◌, ◌<◌, ◌≤◌, Bool, true, false, List, Option, Some, None, arith, refl, ap, ◌∙◌, drop, take, nat_lt, nat_le}
use Rattle.std.specs.Prelude.{IfSome, option_and_then, if◌then◌else◌}
use Rattle.std.proofs.lemmas.Bool.Decides.{nat_tests}
use Rattle.ppexpr.specs.declared.symbols.Value.{Value}
use Rattle.ppexpr.specs.Integers.{digits_len, number, is_one_of, plain_suffixes, unsigned_suffixes, as_uintmax, typed, in_base}
use Rattle.ppexpr.specs.Characters.{unquoted, character, up_to, of_type}

uintmax_large : (n : ℕ) → 2 ^ 64 ≤ n → as_uintmax n ≡ None
uintmax_large n h = grind (arith, nat_tests)

-- A number that is too large has no value, whatever its suffix is.
by_suffix : (u p s d : Bool) (a b : Option Value) → a ≡ None → s ≡ false →
    (if u then a else (if p then (if s then b else (if d then None else a)) else None)) ≡ None
by_suffix true p s d a b e f = e
by_suffix false false s d a b e f = refl
by_suffix false true true d a b e f = cc
by_suffix false true false true a b e f = refl
by_suffix false true false false a b e f = e

typed_large : (decimal : Bool) (suffix : List ℕ) (n : ℕ) → 2 ^ 64 ≤ n → typed decimal suffix n ≡ None
typed_large decimal suffix n h =
    let above : nat_lt n (2 ^ 63) ≡ false = grind (arith, nat_tests) in
    by_suffix (is_one_of unsigned_suffixes suffix) (is_one_of plain_suffixes suffix) (nat_lt n (2 ^ 63)) decimal (as_uintmax n) _ (uintmax_large n h) above

pub in_base_large : (base : ℕ) (decimal : Bool) (s : List ℕ) → 2 ^ 64 ≤ number base (take (digits_len base s) s) → in_base base decimal s ≡ None
in_base_large base decimal s h =
    elim (nat_lt 0 (digits_len base s)) as (λ b. (if b then typed decimal (drop (digits_len base s) s) (number base (take (digits_len base s) s)) else None) ≡ None)
    [ true ↦ typed_large decimal (drop (digits_len base s) s) (number base (take (digits_len base s) s)) h | false ↦ refl ]

no_character : (greatest : ℕ) (unsigned : Bool) (o : Option ℕ) → greatest < 2 ^ 63 → IfSome o (λ n. 2 ^ 64 ≤ n) → option_and_then (up_to greatest unsigned) o ≡ None
no_character greatest unsigned None g h = refl
no_character greatest unsigned (Some n) g h =
    let above : nat_le n greatest ≡ false = grind (arith, nat_tests) in
    rw above refl

pub of_type_large : (greatest : ℕ) (unsigned : Bool) (s body : List ℕ) → greatest < 2 ^ 63 → unquoted s ≡ Some body → IfSome (character body) (λ n. 2 ^ 64 ≤ n) → of_type greatest unsigned s ≡ None
of_type_large greatest unsigned s body g e h = ap (λ x. option_and_then (up_to greatest unsigned) (option_and_then character x)) e ∙ no_character greatest unsigned (character body) g h
