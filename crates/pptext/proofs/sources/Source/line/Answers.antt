use Rattle.std.proofs.Common.{rules, ◌≡◌, ◌<◌, ◌+◌, ℕ, List, suc, length, take, drop, get_or, ap, ◌∙◌, sym, arith}
use Rattle.pptext.specs.declared.sources.Line.{Line}
use Rattle.pptext.specs.Sources.{line_tokens}
use Rattle.pptext.proofs.Spans.{no_line, span}
use Rattle.pptext.specs.IndexedLines.{line_at}
use Rattle.pptext.proofs.IndexedLines.{spans_length, line_is, has_hash}
use Rattle.pptext.proofs.sources.Source.line.Goals as goal

pub bounds-lines-index : goal.bounds-lines-index
bounds-lines-index c = omega (arith, ap length c.lines.ensures.spans, spans_length 0 0 c.args.self.now)

pub offset_bounds-lines-index : goal.offset_bounds-lines-index
offset_bounds-lines-index c =
    let below : c.args.index < length c.lines.result.now = omega (arith, ap length c.lines.ensures.spans, spans_length 0 0 c.args.self.now) in
    search rules

pub returns : goal.returns
returns c =
    let lines = c.args.self.now in
    let x = get_or c.lines.result.now c.args.index no_line in
    let is : x ≡ span c.args.index (length (line_tokens (take c.args.index lines))) (line_at lines c.args.index) (drop (suc c.args.index) lines) = ap
    (λ (z : List Line). get_or z c.args.index no_line) c.lines.ensures.spans
    ∙ line_is lines c.args.index no_line c.requires in
    record {
      few = omega (arith, ap length c.lines.ensures.spans, spans_length 0 0 c.args.self.now, c.lines.type_inv);
      start = ap (λ (z : Line). z.start) is;
      end = ap (λ (z : Line). z.end) is ∙ ap (λ (z : ℕ). z + length (line_at lines c.args.index).tokens) (sym (ap (λ (z : Line). z.start) is));
      number = ap (λ (z : Line). z.number) is;
      directive = ap (λ (z : Line). z.directive) is;
      hash = λ asked. omega (arith, ap (λ (z : Line). z.start) is, ap (λ (z : Line). z.end) is, has_hash lines c.args.index c.lines.ensures.directed c.requires asked);
      next = ap (λ (z : Line). z.next_branch) is;
    }
