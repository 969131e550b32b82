use Rattle.std.proofs.Common.{rules, ◌≤◌, ◌-◌, List, length, take, drop, ap, ◌∙◌, arith}
use Rattle.pptext.specs.declared.tokens.Token.{Token}
use Rattle.pptext.proofs.IndexedLines.{between_line, one_line}
use Rattle.pptext.proofs.sources.Source.line_tokens.Goals as goal

pub offset_bounds-tokens-line : goal.offset_bounds-tokens-line
offset_bounds-tokens-line c =
    let b = between_line c.args.self.now c.args.index c.line-line.result.now.start c.line-line.result.now.end c.requires c.line-line.ensures.start c.line-line.ensures.end in
    let fits : c.line-line.result.now.end ≤ length c.tokens.result.now = omega (arith, b.ends, ap length c.tokens.ensures) in
    let begins : c.line-line.result.now.start ≤ c.line-line.result.now.end = b.begins in
    search rules

pub slice_bounds-result-end : goal.slice_bounds-result-end
slice_bounds-result-end c =
    let b = between_line c.args.self.now c.args.index c.line-line.result.now.start c.line-line.result.now.end c.requires c.line-line.ensures.start c.line-line.ensures.end in
    let fits : c.line-line.result.now.end ≤ length c.tokens.result.now = omega (arith, b.ends, ap length c.tokens.ensures) in
    let begins : c.line-line.result.now.start ≤ c.line-line.result.now.end = b.begins in
    search rules

pub returns : goal.returns
returns c =
    let b = between_line c.args.self.now c.args.index c.line-line.result.now.start c.line-line.result.now.end c.requires c.line-line.ensures.start c.line-line.ensures.end in
    ap (λ (z : List Token). take (c.line-line.result.now.end - c.line-line.result.now.start) (drop c.line-line.result.now.start z)) c.tokens.ensures ∙ b.tokens ∙ one_line c.args.self.now c.args.index c.requires
