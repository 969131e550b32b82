use Rattle.std.proofs.Common.{◌≡◌, length, map}
use Rattle.std.specs.String.{string_bytes}
use Rattle.ppshelf.proofs.NameRows.{Indexed}
use Rattle.ppshelf.proofs.file_names.FileNames.from_strings.Given as goal

abbrev pub invariant-loop-name : goal.invariant-loop-name
invariant-loop-name l = record {
  names_are : Indexed (map string_bytes l.fn.strings.items) (length l.yielded) l.names.names;
  hashing_is : l.names.hashing ≡ l.fn.hashing;
}
