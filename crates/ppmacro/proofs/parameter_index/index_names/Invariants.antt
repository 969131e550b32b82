use Rattle.std.proofs.Common.{◌≡◌, take, false}
use Rattle.std.specs.HashSet.{hasher_of}
use Rattle.ppmacro.specs.Define.{repeats}
use Rattle.ppmacro.proofs.parameter_index.index_names.Given as goal

abbrev pub invariant-loop-name : goal.invariant-loop-name
invariant-loop-name l = (l.index.keys ≡ take l.name-index l.names) × (repeats (take l.name-index l.names) ≡ false) × (hasher_of l.index ≡ l.fn.hashing)
