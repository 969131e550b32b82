use Rattle.pptext.proofs.TextKinds.{tests_are_languages}
use Rattle.pptext.proofs.laws.tests_are_languages.Goals as goal

pub returns : goal.returns
returns c = tests_are_languages
