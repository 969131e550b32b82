use Rattle.std.proofs.Common.{◌≡◌, ◌+◌, ◌-◌, ◌≤◌, length, drop}
use Rattle.pptext.specs.Clean.{place}
use Rattle.pptext.specs.code.Steps.{place_after}
use Rattle.pptext.proofs.characters.advance.move_after_lines.Given as goal

abbrev pub invariant-loop-len : goal.invariant-loop-len
invariant-loop-len l = record {
  within : l.from ≤ length l.bytes;
  sofar : place_after (place l.fn.place.file l.line l.col) (drop l.from l.bytes) ≡ place_after l.fn.place l.bytes;
  lines : l.line ≤ l.fn.place.line + l.from;
  cols : l.col ≤ l.fn.place.col + l.from;
}

abbrev pub decreases-loop-len : goal.decreases-loop-len
decreases-loop-len l = length l.bytes - l.from
