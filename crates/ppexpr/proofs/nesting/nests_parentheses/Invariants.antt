use Rattle.std.proofs.Common.{◌≡◌, ℕ, ◌+◌, ◌≤◌, take, count_by}
use Rattle.ppexpr.specs.Nesting.{is_open, is_close, most_levels}
use Rattle.ppexpr.proofs.nesting.nests_parentheses.Given as goal

abbrev pub invariant-loop-symbol : goal.invariant-loop-symbol
invariant-loop-symbol l = record {
  opened : l.open ≡ count_by is_open (take l.symbol-index l.symbols);
  closed : l.close ≡ count_by is_close (take l.symbol-index l.symbols);
  shallow : (k : ℕ) → k ≤ l.symbol-index → count_by is_open (take k l.symbols) ≤ count_by is_close (take k l.symbols) + most_levels;
}
