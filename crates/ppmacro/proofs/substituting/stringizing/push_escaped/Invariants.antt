use Rattle.std.proofs.Common.{◌≡◌, ◌++◌, take}
use Rattle.ppmacro.specs.Substitution.{escaped_literal}
use Rattle.ppmacro.proofs.substituting.stringizing.push_escaped.Given as goal

abbrev pub invariant-loop-byte : goal.invariant-loop-byte
invariant-loop-byte l = l.text.items ≡ l.fn.text.items ++ escaped_literal (take l.byte-index l.spelling)
