use Rattle.pptext.proofs.longest_token.header_at.Goals as goal

pub returns-clause-none : goal.returns-clause-none
returns-clause-none c = λ z m h. c.header_len.ensures.0 z m h.fits h.spelled
