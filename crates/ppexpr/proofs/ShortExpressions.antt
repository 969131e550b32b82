-- A list of at most `most_levels` symbols is not nested too deep.
use Rattle.std.proofs.Common.{ℕ, ◌≤◌, List, length, take, inl, inr, arith, length-take}
use Rattle.std.proofs.lemmas.List.Sums.{count_by-le-length, suffix_len-le-length}
use Rattle.ppexpr.specs.declared.symbols.Symbol.{Symbol}
use Rattle.ppexpr.specs.Nesting.{most_levels, IsTooNested, is_open, is_question, is_sign}

few : (s : List Symbol) (k : ℕ) → length (take k s) ≤ length s
few s k = omega (arith, length-take k s)

pub few_shallow : (s : List Symbol) → length s ≤ most_levels → ¬ IsTooNested s
few_shallow s h (inl (k, deep)) = absurd (omega (arith, few s k, count_by-le-length is_open (take k s)))
few_shallow s h (inr (inl many)) = absurd (omega (arith, count_by-le-length is_question s))
few_shallow s h (inr (inr (k, deep))) = absurd (omega (arith, few s k, suffix_len-le-length is_sign (take k s)))
