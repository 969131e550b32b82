use Rattle.std.proofs.Common.{rules, ◌≤◌, ◌-◌, List, length, take, drop, ap, ◌∙◌, arith}
use Rattle.pptext.specs.declared.tokens.Token.{Token}
use Rattle.pptext.proofs.IndexedLines.{between_lines}
use Rattle.pptext.proofs.sources.Source.tokens_between.Goals as goal

pub offset_bounds-tokens-line : goal.offset_bounds-tokens-line
offset_bounds-tokens-line c =
    let b = between_lines c.args.self.now c.args.start c.args.end c.line.result.now.start c.line-2.result.now.start c.line-2.result.now.end
    c.requires.some c.requires.within c.line.ensures.start c.line-2.ensures.start c.line-2.ensures.end in
    let fits : c.line-2.result.now.end ≤ length c.tokens.result.now = omega (arith, b.ends, ap length c.tokens.ensures) in
    let begins : c.line.result.now.start ≤ c.line-2.result.now.end = b.begins in
    search rules

pub slice_bounds-result-count : goal.slice_bounds-result-count
slice_bounds-result-count c =
    (between_lines c.args.self.now c.args.start c.args.end c.line.result.now.start c.line-2.result.now.start c.line-2.result.now.end c.requires.some
    c.requires.within c.line.ensures.start c.line-2.ensures.start c.line-2.ensures.end).begins

pub slice_bounds-result-start : goal.slice_bounds-result-start
slice_bounds-result-start c =
    let b = between_lines c.args.self.now c.args.start c.args.end c.line.result.now.start c.line-2.result.now.start c.line-2.result.now.end
    c.requires.some c.requires.within c.line.ensures.start c.line-2.ensures.start c.line-2.ensures.end in
    let fits : c.line-2.result.now.end ≤ length c.tokens.result.now = omega (arith, b.ends, ap length c.tokens.ensures) in
    let begins : c.line.result.now.start ≤ c.line-2.result.now.end = b.begins in
    search rules

pub slice_bounds-result-end : goal.slice_bounds-result-end
slice_bounds-result-end c =
    let b = between_lines c.args.self.now c.args.start c.args.end c.line.result.now.start c.line-2.result.now.start c.line-2.result.now.end
    c.requires.some c.requires.within c.line.ensures.start c.line-2.ensures.start c.line-2.ensures.end in
    let fits : c.line-2.result.now.end ≤ length c.tokens.result.now = omega (arith, b.ends, ap length c.tokens.ensures) in
    let begins : c.line.result.now.start ≤ c.line-2.result.now.end = b.begins in
    search rules

pub returns : goal.returns
returns c =
    ap (λ (z : List Token). take (c.line-2.result.now.end - c.line.result.now.start) (drop c.line.result.now.start z)) c.tokens.ensures
    ∙ (between_lines c.args.self.now c.args.start c.args.end c.line.result.now.start c.line-2.result.now.start c.line-2.result.now.end
    c.requires.some c.requires.within c.line.ensures.start c.line-2.ensures.start c.line-2.ensures.end).tokens
