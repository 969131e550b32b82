use Rattle.std.proofs.Common.{sym, ◌∙◌}
use Rattle.ppunit.proofs.guards.guard_changes_nothing.Goals as goal
use Rattle.ppunit.proofs.GuardedFiles.{guards_leave_out}
use Rattle.ppunit.proofs.GroupUniqueness.{opened_once}

pub returns-clause-leaves_out : goal.returns-clause-leaves_out
returns-clause-leaves_out c = guards_leave_out

pub returns-clause-only : goal.returns-clause-only
returns-clause-only c = λ context depth row directory at s bytes lines x end names fits is reads guarded known some new empty opens.
    let left_out = guards_leave_out context depth row directory at s bytes lines x fits is reads guarded known some new empty in
    sym (opened_once (λ m e meter ts a b p q. let one = c.one_expansion.ensures m e meter ts in one.only a p ∙ sym (one.only b q))
    c.one_condition.ensures c.one_reading.ensures c.one_tree.ensures (λ names once cs a b. c.one_row.ensures names cs a b once)
    context names left_out.0 end opens)
