use Rattle.std.proofs.Common.{◌≡◌, ℕ, ◌≤◌, take}
use Rattle.std.specs.List.{suffix_len}
use Rattle.ppexpr.specs.Nesting.{is_sign, most_levels}
use Rattle.ppexpr.proofs.nesting.nests_signs.Given as goal

abbrev pub invariant-loop-symbol : goal.invariant-loop-symbol
invariant-loop-symbol l = record {
  counted : l.signs ≡ suffix_len is_sign (take l.symbol-index l.symbols);
  few : (k : ℕ) → k ≤ l.symbol-index → suffix_len is_sign (take k l.symbols) ≤ most_levels;
}
