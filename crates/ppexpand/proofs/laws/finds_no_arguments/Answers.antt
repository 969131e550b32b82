use Rattle.ppexpand.proofs.FailedSearches.{finds_quote, finds_no_end}
use Rattle.ppexpand.proofs.laws.finds_no_arguments.Goals as goal

pub returns : goal.returns
returns c = record { quote = finds_quote; no_end = finds_no_end }
