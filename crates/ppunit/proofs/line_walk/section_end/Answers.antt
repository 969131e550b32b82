use Rattle.std.proofs.Common.{◌∙◌, sym, arith}
use Rattle.ppunit.proofs.SectionWalks.{section_more, section_done, next_inside}
use Rattle.ppunit.proofs.LineDecisions.{none_of}
use Rattle.ppunit.proofs.line_walk.section_end.Goals as goal

pub loop-next-smaller : goal.loop-next-smaller
loop-next-smaller c =
    let inside = next_inside c.args.source.now c.loop-next.index c.in-Some.next c.loop-next.invariant.within (sym c.line.ensures.next ∙ c.in-Some.is) in omega (arith, inside.0, inside.1, c.loop-next.invariant.within)

pub loop-next-preserved : goal.loop-next-preserved
loop-next-preserved c = section_more c.args.source.now c.args.branch c.loop-next.index c.in-Some.next (sym c.line.ensures.next ∙ c.in-Some.is) c.loop-next.invariant

pub returns-clause-end : goal.returns-clause-end
returns-clause-end c = section_done c.args.source.now c.args.branch c.loop-next.index c.loop-next.invariant (sym c.line.ensures.next ∙ none_of c.line.result.now.next_branch c.in_default.not-Some)
