use Rattle.ppshelf.proofs.NameRows.{Indexed}
use Rattle.ppserve.specs.Listing.{names_of}
use Rattle.ppserve.proofs.list.validation.index_files.Given as goal

abbrev pub invariant-loop-file : goal.invariant-loop-file
invariant-loop-file l = Indexed (names_of l.files) l.file-index l.index.names
