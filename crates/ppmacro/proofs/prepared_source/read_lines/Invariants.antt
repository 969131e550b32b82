use Rattle.std.proofs.Common.{◌≡◌, ◌<◌, ℕ, IfSome, None, length, get_or}
use Rattle.pptext.specs.IndexedLines.{line_at}
use Rattle.ppmacro.specs.DefineLines.{DefineLine, IsDefineLine}
use Rattle.ppmacro.specs.code.PreparedDefinitions.{IsReadFrom}
use Rattle.ppmacro.proofs.prepared_source.read_lines.Given as goal

abbrev pub invariant-loop-index : goal.invariant-loop-index
invariant-loop-index l = record {
  count : length l.reads.items ≡ l.index;
  read : (i : ℕ) → i < l.index → IfSome (get_or l.reads.items i None) (λ r. (d : DefineLine) × IsDefineLine (line_at l.source i) d × IsReadFrom r.value d.at d.tokens);
}
