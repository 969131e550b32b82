use Rattle.std.proofs.Common.{◌≡◌, arith}
use Rattle.pptext.proofs.LongestOf.{ident_longest, number_longest, punct_longest, other_here, other_longest}
use Rattle.pptext.proofs.longest_token.plain_token_at.Goals as goal

pub returns-then-ident-gt0-clause-longest : goal.returns-then-ident-gt0-clause-longest
returns-then-ident-gt0-clause-longest c =
    ident_longest c.args.text.now c.ident_len-ident.result c.if-ident-gt0.true (c.ident_len-ident.ensures.1 c.if-ident-gt0.true) c.in_default.ensures.none.0 c.in_default.ensures.none.1

pub returns-then-number-gt0-clause-longest : goal.returns-then-number-gt0-clause-longest
returns-then-number-gt0-clause-longest c =
    let ident : c.ident_len-ident.result ≡ 0 = omega arith in
    number_longest c.args.text.now c.number_len-number.result c.if-number-gt0.true (c.number_len-number.ensures.1 c.if-number-gt0.true) c.in_default.ensures.none.0 c.in_default.ensures.none.1 (c.ident_len-ident.ensures.0 ident)

pub returns-then-punct-gt0-clause-longest : goal.returns-then-punct-gt0-clause-longest
returns-then-punct-gt0-clause-longest c =
    let ident : c.ident_len-ident.result ≡ 0 = omega arith in
    let number : c.number_len-number.result ≡ 0 = omega arith in
    punct_longest c.args.text.now c.punct_len-punct.result c.if-punct-gt0.true (c.punct_len-punct.ensures.1 c.if-punct-gt0.true) c.in_default.ensures.none.0
    c.in_default.ensures.none.1 (c.ident_len-ident.ensures.0 ident) (c.number_len-number.ensures.0 number)

pub returns-clause-spelled : goal.returns-clause-spelled
returns-clause-spelled c =
    let ident : c.ident_len-ident.result ≡ 0 = omega arith in
    let number : c.number_len-number.result ≡ 0 = omega arith in
    let punct : c.punct_len-punct.result ≡ 0 = omega arith in
    other_here c.args.text.now c.requires.some c.requires.no_blank c.requires.no_newline (c.ident_len-ident.ensures.0 ident) (c.number_len-number.ensures.0 number) (c.punct_len-punct.ensures.0 punct)

pub returns-clause-longest : goal.returns-clause-longest
returns-clause-longest c =
    let ident : c.ident_len-ident.result ≡ 0 = omega arith in
    let number : c.number_len-number.result ≡ 0 = omega arith in
    let punct : c.punct_len-punct.result ≡ 0 = omega arith in
    other_longest c.args.text.now c.requires.some (returns-clause-spelled c) c.in_default.ensures.none.0 c.in_default.ensures.none.1
    (c.ident_len-ident.ensures.0 ident) (c.number_len-number.ensures.0 number) (c.punct_len-punct.ensures.0 punct)
