use Rattle.ppshelf.proofs.NameRows.{names_from_test, test_of_names}
use Rattle.ppshelf.proofs.laws.names_decide.Goals as goal

pub returns : goal.returns
returns c = λ names. (names_from_test names, test_of_names names)
