use Rattle.std.proofs.Common.{arith}
use Rattle.pptext.proofs.Literals.{angled_header, quoted_header}
use Rattle.pptext.proofs.scanning.headers.header_len.Goals as goal

pub returns-then-angled-gt0 : goal.returns-then-angled-gt0
returns-then-angled-gt0 c = angled_header c.args.text.now c.between_len-angled.result c.between_len-angled.ensures c.if-angled-gt0.true

pub returns : goal.returns
returns c = quoted_header c.args.text.now c.between_len-angled.result c.between_len.result c.between_len-angled.ensures (λ s. omega (arith, s, c.if-angled-gt0.false)) c.between_len.ensures
