use Rattle.std.proofs.Common.{◌∙◌, [], ap, sym, length, arith}
use Rattle.pptext.specs.Tree.{group_fault}
use Rattle.pptext.specs.Sources.{lines_from}
use Rattle.pptext.specs.code.Grouping.{GroupsInto}
use Rattle.pptext.proofs.ErrorReturns.{raised}
use Rattle.pptext.proofs.NextBranchFacts.{linked_are, linked_length}
use Rattle.pptext.proofs.Spans.{same_lines}
use Rattle.pptext.proofs.grouping.group_lines.Goals as goal

pub first_fault-requires-clause-are_lines : goal.first_fault-requires-clause-are_lines
first_fault-requires-clause-are_lines c =
    rw (c.as_slice.ensures.value, c.as_slice-2.ensures.value) (linked_are c.args.tokens.items c.args.lines.items c.in_ok-lines.lines.items c.requires.are_line_spans c.in_ok-lines.ensures).1

pub first_fault-requires-clause-few : goal.first_fault-requires-clause-few
first_fault-requires-clause-few c = omega (arith, ap length (c.as_slice-2.ensures.value ∙ c.in_ok-lines.ensures), linked_length 0 c.args.lines.items, c.requires.few)

pub returns-in-Some : goal.returns-in-Some
returns-in-Some c =
    let are = linked_are c.args.tokens.items c.args.lines.items c.in_ok-lines.lines.items c.requires.are_line_spans c.in_ok-lines.ensures in
    let same = same_lines c.args.tokens.items c.as_slice.result.now c.in_ok-lines.lines.items c.as_slice-2.result.now c.as_slice.ensures.value c.as_slice-2.ensures.value in
    raised c.of.result c.in-Some.fault (GroupsInto (lines_from c.args.tokens.items c.args.lines.items)) c.of.ensures (ap (group_fault []) (sym (same ∙ are.0)) ∙ sym c.in_ok-fault.ensures ∙ c.in-Some.is)

pub source_of-requires-clause-are_lines : goal.source_of-requires-clause-are_lines
source_of-requires-clause-are_lines c = (linked_are c.args.tokens.items c.args.lines.items c.in_ok-lines.lines.items c.requires.are_line_spans c.in_ok-lines.ensures).1

pub source_of-requires-clause-no_fault : goal.source_of-requires-clause-no_fault
source_of-requires-clause-no_fault c =
    let same = same_lines c.args.tokens.items c.as_slice.result.now c.in_ok-lines.lines.items c.as_slice-2.result.now c.as_slice.ensures.value c.as_slice-2.ensures.value in
    ap (group_fault []) (sym same) ∙ sym c.in_ok-fault.ensures ∙ c.in_default.is

pub returns : goal.returns
returns c =
    let are = linked_are c.args.tokens.items c.args.lines.items c.in_ok-lines.lines.items c.requires.are_line_spans c.in_ok-lines.ensures in
    let same = same_lines c.args.tokens.items c.as_slice.result.now c.in_ok-lines.lines.items c.as_slice-2.result.now c.as_slice.ensures.value c.as_slice-2.ensures.value in
    (c.source_of.ensures ∙ are.0, ap (group_fault []) (sym (same ∙ are.0)) ∙ sym c.in_ok-fault.ensures ∙ c.in_default.is)
