use Rattle.std.proofs.Common.{ℕ, ◌+◌, ◌-◌, ◌≤◌, length, drop}
use Rattle.pptext.specs.code.Scanning.{NoPrefix, IsOnly}
use Rattle.pptext.proofs.Literals.{Inner, Closed}
use Rattle.pptext.proofs.scanning.headers.between_rest_len.Given as goal

-- If the text is closed from `at` on, it is closed from the start; if not from `at` on, then not at all.
abbrev pub invariant-loop-at : goal.invariant-loop-at
invariant-loop-at l = record {
  within : l.at ≤ length l.text;
  closes : (k : ℕ) → IsOnly (Closed (Inner l.closing) l.closing) (drop l.at l.text) k → IsOnly (Closed (Inner l.closing) l.closing) l.text (l.at + k);
  lacks : NoPrefix (Closed (Inner l.closing) l.closing) (drop l.at l.text) → NoPrefix (Closed (Inner l.closing) l.closing) l.text;
}

abbrev pub decreases-loop-at : goal.decreases-loop-at
decreases-loop-at l = length l.text - l.at
