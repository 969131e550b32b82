use Rattle.pptext.proofs.TokenContinuation.{continued_token}
use Rattle.pptext.proofs.ContinuationCompleteness.{continues_token}
use Rattle.pptext.proofs.laws.continued_token.Goals as goal

pub returns : goal.returns
returns c = record {
  sound = λ text more k one rest. (continued_token text more k one rest).0;
  complete = λ text more k one word whole. continues_token text more k one word whole;
}
