-- Bounds on counts of symbols rule out nesting that is too deep.
use Rattle.std.proofs.Common.{◌≡◌, ℕ, zero, suc, ◌+◌, ◌≤◌, List, [], ◌∷◌, length, take, count_by, arith, refl, ap}
use Rattle.std.specs.List.{suffix_len}
use Rattle.ppexpr.specs.declared.symbols.Symbol.{Symbol}
use Rattle.ppexpr.specs.Nesting.{is_open, is_close, is_sign, most_levels, NestsParentheses, NestsSigns}

-- For every k, `take k s` is `take j s` for some j up to the length of the list.
beginning_within : (s : List Symbol) (k : ℕ) → (j : ℕ) × (j ≤ length s) × (take k s ≡ take j s)
beginning_within [] zero = (0, omega arith, refl)
beginning_within [] (suc k) = (0, omega arith, refl)
beginning_within (x ∷ s) zero = (0, omega arith, refl)
beginning_within (x ∷ s) (suc k) = let w = beginning_within s k in (suc w.0, omega (arith, w.1), ap (λ l. x ∷ l) w.2)

pub nests_not : (s : List Symbol)
    → ((k : ℕ) → k ≤ length s → count_by is_open (take k s) ≤ count_by is_close (take k s) + most_levels)
    → ¬ NestsParentheses s
nests_not s shallow (k, deep) =
    let w = beginning_within s k in
    let opened = ap (count_by is_open) w.2 in
    let closed = ap (count_by is_close) w.2 in
    absurd (omega (arith, deep, opened, closed, shallow w.0 w.1))

pub nests_signs_not : (s : List Symbol) → ((k : ℕ) → k ≤ length s → suffix_len is_sign (take k s) ≤ most_levels) → ¬ NestsSigns s
nests_signs_not s few (k, deep) =
    let w = beginning_within s k in
    absurd (omega (arith, deep, ap (suffix_len is_sign) w.2, few w.0 w.1))
