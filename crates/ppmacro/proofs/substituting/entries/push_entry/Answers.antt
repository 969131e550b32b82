use Rattle.std.proofs.Common.{sym, subst}
use Rattle.ppmacro.specs.HideSets.{AllKnown}
use Rattle.ppmacro.proofs.substituting.entries.push_entry.Goals as goal

pub returns-in_ok-pending-in-Param-clause-known : goal.returns-in_ok-pending-in-Param-clause-known
returns-in_ok-pending-in-Param-clause-known c =
    let s = c.args.sets.now in
    c.in_ok-pending-in-Param.ensures.known s c.requires.tokens (subst (AllKnown s) (sym c.expansion.ensures) (c.requires.arguments.expanded_known _))
