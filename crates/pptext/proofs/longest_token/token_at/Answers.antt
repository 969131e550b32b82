use Rattle.std.proofs.Common.{◌≡◌, inr, ⊎_elim, arith}
use Rattle.pptext.proofs.longest_token.token_at.Goals as goal

pub returns-clause-is_there : goal.returns-clause-is_there
returns-clause-is_there c =
    let none : c.header_at-header.result ≡ 0 = omega arith in
    inr (record {
      no_comment = λ o. ⊎_elim c.requires.no_block c.requires.no_line o;
      no_header = c.header_at-header.ensures.none none;
      longest = c.plain_token_at.ensures.longest;
      spelled = c.plain_token_at.ensures.spelled;
    })
