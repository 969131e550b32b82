use Rattle.std.proofs.Common.{◌≡◌, ◌-◌, ◌≤◌, length, drop}
use Rattle.pptext.specs.Clean.{codes_of}
use Rattle.pptext.specs.code.Scanning.{KnowsUnmatched}
use Rattle.pptext.specs.code.CleanedText.{InLine}
use Rattle.pptext.proofs.TokenizationLoop.{State}
use Rattle.pptext.proofs.lexer.tokenize_lines.Given as goal

abbrev pub invariant-loop-at : goal.invariant-loop-at
invariant-loop-at l = record {
  same : l.places.chars ≡ l.text;
  consumed : l.places.consumed ≤ l.at;
  in_line : InLine (codes_of l.text) l.line l.at;
  state : State l.profile l.text l.at l.start l.space l.tokens.items l.lines.items;
  unmatched : KnowsUnmatched (drop l.at (codes_of l.text)) l.unmatched.single l.unmatched.double;
}

abbrev pub decreases-loop-at : goal.decreases-loop-at
decreases-loop-at l = length l.text - l.at
