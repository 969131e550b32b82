use Rattle.std.proofs.Common.{arith, sym, ◌∙◌}
use Rattle.std.proofs.lemmas.Bool.Decides.{nat_tests}
use Rattle.pptext.proofs.LanguagePrefixes.{nondigit_here, nondigit_later}
use Rattle.pptext.proofs.scanning.nondigit_len.Goals as goal

pub returns-then-is_nondigit : goal.returns-then-is_nondigit
returns-then-is_nondigit c = nondigit_here c.args.text.now (grind (arith, nat_tests)) (sym c.is_nondigit.ensures ∙ c.if-is_nondigit.true)

pub returns : goal.returns
returns c = nondigit_later c.args.text.now c.universal_len.result (sym c.is_nondigit.ensures ∙ c.if-is_nondigit.false) c.universal_len.ensures
