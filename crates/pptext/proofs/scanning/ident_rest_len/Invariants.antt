use Rattle.std.proofs.Common.{ℕ, ◌+◌, ◌-◌, ◌≤◌, length, drop}
use Rattle.pptext.specs.Languages.{Longest, Repeated, Either, One}
use Rattle.pptext.specs.Spellings.{IsNondigit, is_digit}
use Rattle.pptext.proofs.scanning.ident_rest_len.Given as goal

-- The longest prefix from `at` on completes the longest prefix of the text.
abbrev pub invariant-loop-at : goal.invariant-loop-at
invariant-loop-at l = record {
  within : l.at ≤ length l.text;
  completes : (k : ℕ) → Longest (Repeated (Either IsNondigit (One is_digit))) (drop l.at l.text) k → Longest (Repeated (Either IsNondigit (One is_digit))) l.text (l.at + k);
}

abbrev pub decreases-loop-at : goal.decreases-loop-at
decreases-loop-at l = length l.text - l.at
