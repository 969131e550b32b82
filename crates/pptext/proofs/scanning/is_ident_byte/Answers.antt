use Rattle.std.proofs.Common.{nat_eq, get_or, refl, arith}
use Rattle.std.proofs.lemmas.Bool.{agree_below_at}
use Rattle.pptext.specs.declared.scanning.TheConstants.{IDENT_BYTES}
use Rattle.pptext.specs.code.Scanning.{is_ident_byte}
use Rattle.pptext.proofs.scanning.is_ident_byte.Goals as goal

-- The table is compared with the definition for each of the 256 bytes, by computation.
pub returns : goal.returns
returns c = agree_below_at (λ k. nat_eq (get_or IDENT_BYTES k 0) 49) is_ident_byte 256 c.args.c refl (omega arith)
