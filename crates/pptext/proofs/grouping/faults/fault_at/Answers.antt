use Rattle.std.proofs.Common.{◌≡◌, subst, IfOk}
use Rattle.pptext.specs.declared.tokens.Fault.{Fault}
use Rattle.pptext.proofs.Spans.{no_line}
use Rattle.pptext.proofs.Faults.{no_token, named_within, fault_is}
use Rattle.pptext.proofs.grouping.faults.fault_at.Goals as goal

pub fault_of-requires : goal.fault_of-requires
fault_of-requires c = named_within c.args.tokens.now c.args.lines.now c.requires.are_lines c.args.at no_line c.requires.within (c.requires.branching no_line)

pub returns : goal.returns
returns c r =
    let d = c.fault_of.ensures no_token in
    subst (λ (z : Fault). IfOk c.fault_of.result (λ f. f ≡ z)) (fault_is c.args.tokens.now c.args.lines.now c.requires.are_lines c.args.at c.args.number no_line no_token r c.requires.within (c.requires.branching no_line)) d
