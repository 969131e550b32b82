use Rattle.ppserve.proofs.LeastRefusal as refusing
use Rattle.ppserve.proofs.laws.refuses_by_the_least.Goals as goal

pub returns-clause-refused : goal.returns-clause-refused
returns-clause-refused c = refusing.refuses_by_the_least

pub returns-clause-accepted : goal.returns-clause-accepted
returns-clause-accepted c = refusing.takes_the_rest
