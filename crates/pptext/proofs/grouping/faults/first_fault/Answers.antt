use Rattle.std.proofs.Common.{◌≡◌, ◌∙◌, ℕ, Option, None, Some, ap, sym, subst, Bool, List, [], ◌∷◌, ◌++◌, reverse, get_or}
use Rattle.std.proofs.lemmas.List.{nil_from_length, reverse-append}
use Rattle.pptext.specs.Sources.{lines_from}
use Rattle.pptext.specs.Tree.{after_line, fault_at_end, group_fault}
use Rattle.pptext.specs.code.Grouping.{line_role, LineTakes}
use Rattle.pptext.proofs.Spans.{no_line}
use Rattle.pptext.proofs.Faults.{FaultsSoFar, blank_line, branching_here, faults_start, faults_step, fault_here, open_lines, fault_at_last, fault_last, opens_branching}
use Rattle.pptext.proofs.grouping.faults.first_fault.Goals as goal

pub loop-at-init : goal.loop-at-init
loop-at-init c = rw c.in_ok-open_sections.ensures.items (faults_start c.args.tokens.now c.args.lines.now)

pub fault_at-requires-clause-branching : goal.fault_at-requires-clause-branching
fault_at-requires-clause-branching c =
    let role = line_role (get_or c.args.lines.now c.loop-at.at no_line) in
    let before = reverse c.loop-at.open_sections.items in
    let after = reverse c.take_line.new.open_sections.items in
    let step : (after_line role c.loop-at.at before).0 ≡ Some c.in-Some.number =
    subst (λ (z : Option ℕ). LineTakes (after_line role c.loop-at.at before) z after) c.in-Some.is c.in_ok-number.ensures in
    λ d. branching_here c.args.tokens.now c.args.lines.now c.requires.are_lines c.loop-at.at c.in-Some.number before no_line d c.loop-at-test.true step

pub returns-in-Some : goal.returns-in-Some
returns-in-Some c =
    let role = line_role (get_or c.args.lines.now c.loop-at.at no_line) in
    let before = reverse c.loop-at.open_sections.items in
    let after = reverse c.take_line.new.open_sections.items in
    let step : (after_line role c.loop-at.at before).0 ≡ Some c.in-Some.number =
    subst (λ (z : Option ℕ). LineTakes (after_line role c.loop-at.at before) z after) c.in-Some.is c.in_ok-number.ensures in
    ap Some (c.in_ok-fault_at.ensures blank_line) ∙ fault_here c.args.tokens.now c.args.lines.now c.requires.are_lines c.loop-at.at c.in-Some.number before no_line c.loop-at-test.true c.loop-at.invariant step

pub loop-at-preserved : goal.loop-at-preserved
loop-at-preserved c =
    let role = line_role (get_or c.args.lines.now c.loop-at.at no_line) in
    let before = reverse c.loop-at.open_sections.items in
    let after = reverse c.take_line.new.open_sections.items in
    let step : after_line role c.loop-at.at before ≡ (None, after) =
    subst (λ (z : Option ℕ). LineTakes (after_line role c.loop-at.at before) z after) c.in_default.is c.in_ok-number.ensures in
    faults_step c.args.tokens.now c.args.lines.now c.requires.are_lines c.loop-at.at before after no_line c.loop-at-test.true c.loop-at.invariant step

pub returns-in-None : goal.returns-in-None
returns-in-None c =
    let none : c.loop-at.open_sections.items ≡ [] = nil_from_length c.loop-at.open_sections.items (sym c.loop-at.open_sections.ok.0 ∙ c.in-None.ensures.cases.0) in
    let ended = fault_at_last c.args.tokens.now c.args.lines.now c.requires.are_lines c.loop-at.at (reverse c.loop-at.open_sections.items) c.loop-at-test.false c.loop-at.invariant in
    subst (λ (z : List (ℕ × Bool)). fault_at_end (open_lines (lines_from c.args.tokens.now c.args.lines.now) (reverse z)) ≡ group_fault [] (lines_from c.args.tokens.now c.args.lines.now)) none ended

pub fault_at-requires-in-Some-pop-clause-within : goal.fault_at-requires-in-Some-pop-clause-within
fault_at-requires-in-Some-pop-clause-within c =
    let section : ℕ × Bool = (c.section.inside.opening, c.section.inside.has_else) in
    let items = c.in-Some-pop.ensures.items ∙ ap (λ (z : ℕ × Bool). c.pop.new.self.items ++ z ∷ []) (sym c.section.view_is) in
    let top = ap reverse items ∙ reverse-append c.pop.new.self.items (section ∷ []) in
    let sofar = subst (FaultsSoFar c.args.tokens.now c.args.lines.now c.loop-at.at) top c.loop-at.invariant in
    sofar.opens.0.within

pub fault_at-requires-in-Some-pop-clause-branching : goal.fault_at-requires-in-Some-pop-clause-branching
fault_at-requires-in-Some-pop-clause-branching c =
    let section : ℕ × Bool = (c.section.inside.opening, c.section.inside.has_else) in
    let items = c.in-Some-pop.ensures.items ∙ ap (λ (z : ℕ × Bool). c.pop.new.self.items ++ z ∷ []) (sym c.section.view_is) in
    let top = ap reverse items ∙ reverse-append c.pop.new.self.items (section ∷ []) in
    let sofar = subst (FaultsSoFar c.args.tokens.now c.args.lines.now c.loop-at.at) top c.loop-at.invariant in
    opens_branching c.args.tokens.now c.args.lines.now c.requires.are_lines c.section.inside.opening sofar.opens.0

pub returns : goal.returns
returns c =
    let section : ℕ × Bool = (c.section.inside.opening, c.section.inside.has_else) in
    let items = c.in-Some-pop.ensures.items ∙ ap (λ (z : ℕ × Bool). c.pop.new.self.items ++ z ∷ []) (sym c.section.view_is) in
    let top = ap reverse items ∙ reverse-append c.pop.new.self.items (section ∷ []) in
    let sofar = subst (FaultsSoFar c.args.tokens.now c.args.lines.now c.loop-at.at) top c.loop-at.invariant in
    fault_last c.args.tokens.now c.args.lines.now c.requires.are_lines c.loop-at.at section
    (reverse c.pop.new.self.items) c.in_ok-fault_at-in-Some-pop.field-0 c.loop-at-test.false sofar (c.in_ok-fault_at-in-Some-pop.ensures blank_line)
