use Rattle.std.proofs.Common.{◌≡◌, ℕ, ◌+◌, ◌-◌, ◌<◌, length, drop, sym, ap, ◌∙◌, subst, arith, length-drop}
use Rattle.std.proofs.lemmas.List.{take_rest}
use Rattle.pptext.specs.code.LineNotes.{PlainRun}
use Rattle.pptext.specs.declared.characters.steps.CharStep as code
use Rattle.pptext.specs.declared.characters.steps.CharStep.TheVariants as variant
use Rattle.pptext.specs.code.Steps.{CharStep, Code, Removed, lacks_newline, step_of}
use Rattle.pptext.proofs.CleanedCopies.{Counted, code_at, counted_all, counted_code, counted_last, counted_removed, removed_at}
use Rattle.pptext.proofs.cleaning.count_notes.Goals as goal
use Rattle.pptext.proofs.cleaning.count_notes.Goals.{in-Code, in-Removed-2}

-- the step that a step of the code represents
abbrev spec_step : code.CharStep → CharStep
spec_step (variant.Code code n) = Code code n
spec_step (variant.Removed n) = Removed n

-- After a line note, fewer bytes are left.
nearer : (start ahead len end : ℕ) → start + ahead < end → 0 < len → end - (start + ahead + len) < end - start
nearer start ahead len end lt some = omega arith

pub overflow_add-start : goal.overflow_add-start
overflow_add-start c =
    let raw = c.args.raw.now in
    let at = c.loop-ahead.start + c.in-Some.ahead in
    let ahead = simp take_rest at c.in-Some.ensures in
    let l = length-drop c.loop-ahead.start raw in
    let is : step_of c.args.profile (lacks_newline raw) (drop at raw) ≡ Code c.in-Code.field-0 c.in-Code.len = ap (λ s. step_of c.args.profile s (drop at raw)) (sym c.requires) ∙ sym (simp take_rest at c.in-Code.ensures) in
    let here : at < length raw = omega (arith, ahead.0) in
    omega (arith, (code_at c.args.profile 0 raw at c.in-Code.field-0 c.in-Code.len here is).fits)

pub overflow_add-at-in-Removed-1 : goal.overflow_add-at-in-Removed-1
overflow_add-at-in-Removed-1 c =
    let raw = c.args.raw.now in
    let at = c.loop-ahead.start + c.in-Some.ahead in
    let ahead = simp take_rest at c.in-Some.ensures in
    let l = length-drop c.loop-ahead.start raw in
    let is : step_of c.args.profile (lacks_newline raw) (drop at raw) ≡ Removed c.in-Removed.len = ap (λ s. step_of c.args.profile s (drop at raw)) (sym c.requires) ∙ sym (simp take_rest at c.in-Removed.ensures) in
    let here : at < length raw = omega (arith, ahead.0) in
    omega (arith, (removed_at c.args.profile 0 raw at c.in-Removed.len here is).fits)

pub overflow_add-start-in-Removed-2 : goal.overflow_add-start-in-Removed-2
overflow_add-start-in-Removed-2 c =
    let raw = c.args.raw.now in
    let at = c.loop-ahead.start + c.in-Some.ahead in
    let ahead = simp take_rest at c.in-Some.ensures in
    let l = length-drop c.loop-ahead.start raw in
    let is : step_of c.args.profile (lacks_newline raw) (drop at raw) ≡ Removed c.in-Removed.len = ap (λ s. step_of c.args.profile s (drop at raw)) (sym c.requires) ∙ sym (simp take_rest at c.in-Removed.ensures) in
    let here : at < length raw = omega (arith, ahead.0) in
    omega (arith, (removed_at c.args.profile 0 raw at c.in-Removed.len here is).fits)

pub loop-ahead-smaller : goal.loop-ahead-smaller
loop-ahead-smaller c =
    let raw = c.args.raw.now in
    let start = c.loop-ahead.start in
    let n = c.in-Some.ahead in
    let ahead = simp take_rest at c.in-Some.ensures in
    let l = length-drop start raw in
    let here : start + n < length raw = omega (arith, ahead.0) in
    let step : step_of c.args.profile (lacks_newline raw) (drop (start + n) raw) ≡ spec_step c.next_step.result = ap (λ s. step_of c.args.profile s (drop (start + n) raw)) (sym c.requires) ∙ sym (simp take_rest at c.next_step.ensures) in
    elim c.match-next_step.branch [
      | in-Code w ↦ rw w.start-is (nearer start n w.in-Code.len (length raw) here (code_at c.args.profile 0 raw (start + n) w.in-Code.field-0 w.in-Code.len here (step ∙ ap spec_step w.in-Code.is)).some)
      | in-Removed-2 w ↦ rw w.start-is (nearer start n w.in-Removed.len (length raw) here (removed_at c.args.profile 0 raw (start + n) w.in-Removed.len here (step ∙ ap spec_step w.in-Removed.is)).some)
    ]

pub returns-in-Removed : goal.returns-in-Removed
returns-in-Removed c =
    let raw = c.args.raw.now in
    let start = c.loop-ahead.start in
    let n = c.in-Some.ahead in
    let len = c.in-Removed.len in
    let ahead = simp take_rest at c.in-Some.ensures in
    let plain_run : PlainRun c.args.profile (lacks_newline raw) (drop start raw) n = subst (λ s. PlainRun c.args.profile s (drop start raw) n) c.requires ahead.1 in
    let is : step_of c.args.profile (lacks_newline raw) (drop (start + n) raw) ≡ Removed len = ap (λ s. step_of c.args.profile s (drop (start + n) raw)) (sym c.requires) ∙ sym (simp take_rest at c.in-Removed.ensures) in
    counted_last c.args.profile raw start c.loop-ahead.count n len c.loop-ahead.invariant ahead.0 plain_run is c.if-at-len.true

pub loop-ahead-preserved : goal.loop-ahead-preserved
loop-ahead-preserved c =
    let raw = c.args.raw.now in
    let start = c.loop-ahead.start in
    let count = c.loop-ahead.count in
    let n = c.in-Some.ahead in
    let ahead = simp take_rest at c.in-Some.ensures in
    let plain_run : PlainRun c.args.profile (lacks_newline raw) (drop start raw) n = subst (λ s. PlainRun c.args.profile s (drop start raw) n) c.requires ahead.1 in
    let step : step_of c.args.profile (lacks_newline raw) (drop (start + n) raw) ≡ spec_step c.next_step.result = ap (λ s. step_of c.args.profile s (drop (start + n) raw)) (sym c.requires) ∙ sym (simp take_rest at c.next_step.ensures) in
    elim c.match-next_step.branch [
      | in-Code w ↦
          subst (λ k. Counted c.args.profile raw k (count + 1)) (sym w.start-is) (counted_code c.args.profile raw start count n w.in-Code.field-0 w.in-Code.len c.loop-ahead.invariant ahead.0 plain_run (step ∙ ap spec_step w.in-Code.is))
      | in-Removed-2 w ↦
          subst (λ k. Counted c.args.profile raw k (count + 1)) (sym w.start-is) (counted_removed c.args.profile raw start count n w.in-Removed.len c.loop-ahead.invariant ahead.0 plain_run (step ∙ ap spec_step w.in-Removed.is) w.if-at-len.false)
    ]

pub returns : goal.returns
returns c =
    let raw = c.args.raw.now in
    let start = c.loop-ahead.start in
    let last : PlainRun c.args.profile (lacks_newline raw) (drop start raw) (length (drop start raw)) = subst (λ s. PlainRun c.args.profile s (drop start raw) (length (drop start raw))) c.requires (simp take_rest at c.in_default.ensures) in
    counted_all c.args.profile raw start c.loop-ahead.count c.loop-ahead.invariant last
