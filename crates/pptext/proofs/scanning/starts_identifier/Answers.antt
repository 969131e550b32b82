use Rattle.std.proofs.Common.{nat_eq, get_or, refl, arith}
use Rattle.std.proofs.lemmas.Bool.{agree_below_at}
use Rattle.pptext.specs.declared.scanning.TheConstants.{WORD_STARTS}
use Rattle.pptext.specs.code.FoundLexemes.{starts_identifier}
use Rattle.pptext.proofs.scanning.starts_identifier.Goals as goal

-- The table is compared with the definition for each of the 256 bytes, by computation.
pub returns : goal.returns
returns c = agree_below_at (λ k. nat_eq (get_or WORD_STARTS k 0) 49) starts_identifier 256 c.args.c refl (omega arith)
