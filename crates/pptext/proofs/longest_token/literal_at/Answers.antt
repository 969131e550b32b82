use Rattle.std.proofs.Common.{◌≡◌, arith, rules}
use Rattle.pptext.proofs.LongestOf.{char_longest, str_longest}
use Rattle.pptext.proofs.longest_token.literal_at.Goals as goal

pub returns-then-char_const-gt0-clause-longest : goal.returns-then-char_const-gt0-clause-longest
returns-then-char_const-gt0-clause-longest c = char_longest c.args.text.now c.char_const_len-char_const.result (c.char_const_len-char_const.ensures.part.1 c.if-char_const-gt0.true)

pub returns-then-string-gt0-clause-longest : goal.returns-then-string-gt0-clause-longest
returns-then-string-gt0-clause-longest c =
    let char_const : c.char_const_len-char_const.result ≡ 0 = omega arith in
    str_longest c.args.text.now c.str_len-string.result (c.str_len-string.ensures.part.1 c.if-string-gt0.true) (c.char_const_len-char_const.ensures.part.0 char_const)

pub returns-clause-none : goal.returns-clause-none
returns-clause-none c =
    let char_const : c.char_const_len-char_const.result ≡ 0 = omega arith in
    let string : c.str_len-string.result ≡ 0 = omega arith in
    (c.char_const_len-char_const.ensures.part.0 char_const, c.str_len-string.ensures.part.0 string)

pub returns-then-not-may_open_literal-clause-none : goal.returns-then-not-may_open_literal-clause-none
returns-then-not-may_open_literal-clause-none c = search rules
