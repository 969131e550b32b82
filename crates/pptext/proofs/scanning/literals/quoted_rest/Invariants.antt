use Rattle.std.proofs.Common.{ℕ, ◌+◌, ◌-◌, ◌≤◌, length, drop}
use Rattle.pptext.specs.code.Scanning.{NoPrefix, IsOnly, IsQuoted}
use Rattle.pptext.proofs.Literals.{Passed}
use Rattle.pptext.proofs.scanning.literals.quoted_rest.Given as goal

-- If the text is closed from `at` on, it is closed from the start; if not from `at` on, then not at all.
abbrev pub invariant-loop-at : goal.invariant-loop-at
invariant-loop-at l = record {
  within : l.at ≤ length l.text;
  closes : (k : ℕ) → IsOnly (IsQuoted l.quote) (drop l.at l.text) k → IsOnly (IsQuoted l.quote) l.text (l.at + k);
  lacks : NoPrefix (IsQuoted l.quote) (drop l.at l.text) → NoPrefix (IsQuoted l.quote) l.text;
  consumed : Passed l.quote l.text l.at;
}

abbrev pub decreases-loop-at : goal.decreases-loop-at
decreases-loop-at l = length l.text - l.at
