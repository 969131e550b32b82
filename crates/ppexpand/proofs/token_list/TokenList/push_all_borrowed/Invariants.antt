use Rattle.std.proofs.Common.{◌≡◌, ◌++◌, drop}
use Rattle.ppexpand.proofs.token_list.TokenList.push_all_borrowed.Given as goal

abbrev pub invariant-loop-token : goal.invariant-loop-token
invariant-loop-token l = l.self ++ drop l.token-index l.tokens ≡ l.initial.self ++ l.tokens
