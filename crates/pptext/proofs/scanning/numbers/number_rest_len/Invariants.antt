use Rattle.std.proofs.Common.{ℕ, ◌+◌, ◌-◌, ◌≤◌, length, drop}
use Rattle.pptext.specs.Languages.{Longest, Repeated}
use Rattle.pptext.specs.Spellings.{IsNumberPart}
use Rattle.pptext.proofs.scanning.numbers.number_rest_len.Given as goal

-- The longest prefix from `at` on completes the longest prefix of the text.
abbrev pub invariant-loop-at : goal.invariant-loop-at
invariant-loop-at l = record {
  within : l.at ≤ length l.text;
  completes : (k : ℕ) → Longest (Repeated IsNumberPart) (drop l.at l.text) k → Longest (Repeated IsNumberPart) l.text (l.at + k);
}

abbrev pub decreases-loop-at : goal.decreases-loop-at
decreases-loop-at l = length l.text - l.at
