use Rattle.std.proofs.Common.{◌≡◌, ℕ, List, [], ◌∷◌, ◌+◌, ◌-◌, ◌<◌, ◌++◌, length, drop, take, sym, ap, subst, ◌∙◌, arith, length-drop}
use Rattle.std.proofs.lemmas.List.{take_rest}
use Rattle.pptext.specs.code.LineNotes.{PlainRun}
use Rattle.pptext.specs.code.Steps.{Code, Removed, lacks_newline, step_of}
use Rattle.pptext.proofs.CleanedCopies.{code_at, copies_all, copies_code, copies_removed, removed_at, whole_closed, whole_open}
use Rattle.pptext.proofs.cleaning.copy_cleaned.Goals as goal
use Rattle.pptext.proofs.cleaning.copy_cleaned.Goals.{then-supplied+in_ok-push-2, else-supplied}

-- The codes that are copied from a plain run.
stretch_codes : (raw codes : List ℕ) (start n : ℕ) → codes ++ take (start + n - start) (drop start raw) ≡ codes ++ take n (drop start raw)
stretch_codes raw codes start n = ap (λ k. codes ++ take k (drop start raw)) (omega arith)

-- After a line note, fewer bytes are left.
nearer : (start ahead len end : ℕ) → start + ahead < end → 0 < len → end - (start + ahead + len) < end - start
nearer start ahead len end lt some = omega arith

pub overflow_add-start : goal.overflow_add-start
overflow_add-start c =
    let raw = c.args.raw.now in
    let at = c.loop-ahead.start + c.in-Some.ahead in
    let ahead = simp take_rest at c.in-Some.ensures in
    let l = length-drop c.loop-ahead.start raw in
    let is : step_of c.args.profile (lacks_newline raw) (drop at raw) ≡ Code c.in-Code.code c.in-Code.len = ap (λ s. step_of c.args.profile s (drop at raw)) (sym c.requires.supplied) ∙ sym (simp take_rest at c.in-Code.ensures) in
    let here : at < length raw = omega (arith, ahead.0) in
    omega (arith, (code_at c.args.profile 0 raw at c.in-Code.code c.in-Code.len here is).fits, c.requires.small)

pub overflow_add-start-in-Removed : goal.overflow_add-start-in-Removed
overflow_add-start-in-Removed c =
    let raw = c.args.raw.now in
    let at = c.loop-ahead.start + c.in-Some.ahead in
    let ahead = simp take_rest at c.in-Some.ensures in
    let l = length-drop c.loop-ahead.start raw in
    let is : step_of c.args.profile (lacks_newline raw) (drop at raw) ≡ Removed c.in-Removed.len = ap (λ s. step_of c.args.profile s (drop at raw)) (sym c.requires.supplied) ∙ sym (simp take_rest at c.in-Removed.ensures) in
    let here : at < length raw = omega (arith, ahead.0) in
    omega (arith, (removed_at c.args.profile 0 raw at c.in-Removed.len here is).fits, c.requires.small)

pub loop-ahead-smaller-in-Code : goal.loop-ahead-smaller-in-Code
loop-ahead-smaller-in-Code c =
    let raw = c.args.raw.now in
    let at = c.loop-ahead.start + c.in-Some.ahead in
    let ahead = simp take_rest at c.in-Some.ensures in
    let l = length-drop c.loop-ahead.start raw in
    let is : step_of c.args.profile (lacks_newline raw) (drop at raw) ≡ Code c.in-Code.code c.in-Code.len = ap (λ s. step_of c.args.profile s (drop at raw)) (sym c.requires.supplied) ∙ sym (simp take_rest at c.in-Code.ensures) in
    let here : at < length raw = omega (arith, ahead.0) in
    nearer c.loop-ahead.start c.in-Some.ahead c.in-Code.len (length raw) here (code_at c.args.profile 0 raw at c.in-Code.code c.in-Code.len here is).some

pub loop-ahead-smaller : goal.loop-ahead-smaller
loop-ahead-smaller c =
    let raw = c.args.raw.now in
    let at = c.loop-ahead.start + c.in-Some.ahead in
    let ahead = simp take_rest at c.in-Some.ensures in
    let l = length-drop c.loop-ahead.start raw in
    let is : step_of c.args.profile (lacks_newline raw) (drop at raw) ≡ Removed c.in-Removed.len = ap (λ s. step_of c.args.profile s (drop at raw)) (sym c.requires.supplied) ∙ sym (simp take_rest at c.in-Removed.ensures) in
    let here : at < length raw = omega (arith, ahead.0) in
    nearer c.loop-ahead.start c.in-Some.ahead c.in-Removed.len (length raw) here (removed_at c.args.profile 0 raw at c.in-Removed.len here is).some

pub loop-ahead-preserved-in-Code : goal.loop-ahead-preserved-in-Code
loop-ahead-preserved-in-Code c =
    let raw = c.args.raw.now in
    let start = c.loop-ahead.start in
    let n = c.in-Some.ahead in
    let ahead = simp take_rest at c.in-Some.ensures in
    let plain_run : PlainRun c.args.profile (lacks_newline raw) (drop start raw) n = subst (λ s. PlainRun c.args.profile s (drop start raw) n) c.requires.supplied ahead.1 in
    let is : step_of c.args.profile (lacks_newline raw) (drop (start + n) raw) ≡ Code c.in-Code.code c.in-Code.len = ap (λ s. step_of c.args.profile s (drop (start + n) raw)) (sym c.requires.supplied) ∙ sym (simp take_rest at c.in-Code.ensures) in
    let codes = c.in_ok-push-in-Code.ensures.items ∙ ap (λ z. z ++ c.in-Code.code ∷ []) (c.in_ok-extend_from_slice.ensures.items ∙ stretch_codes raw c.loop-ahead.codes.items start n) in
    rw (codes, c.in_ok-push.ensures.items) (copies_code c.args.profile raw start n c.in-Code.code c.in-Code.len c.loop-ahead.codes.items c.loop-ahead.line_notes.items c.loop-ahead.invariant ahead.0 plain_run is)

pub loop-ahead-preserved : goal.loop-ahead-preserved
loop-ahead-preserved c =
    let raw = c.args.raw.now in
    let start = c.loop-ahead.start in
    let n = c.in-Some.ahead in
    let ahead = simp take_rest at c.in-Some.ensures in
    let plain_run : PlainRun c.args.profile (lacks_newline raw) (drop start raw) n = subst (λ s. PlainRun c.args.profile s (drop start raw) n) c.requires.supplied ahead.1 in
    let is : step_of c.args.profile (lacks_newline raw) (drop (start + n) raw) ≡ Removed c.in-Removed.len = ap (λ s. step_of c.args.profile s (drop (start + n) raw)) (sym c.requires.supplied) ∙ sym (simp take_rest at c.in-Removed.ensures) in
    let codes = c.in_ok-extend_from_slice.ensures.items ∙ stretch_codes raw c.loop-ahead.codes.items start n in
    rw (codes, c.in_ok-push.ensures.items) (copies_removed c.args.profile raw start n c.in-Removed.len c.loop-ahead.codes.items c.loop-ahead.line_notes.items c.loop-ahead.invariant (c.requires.line_notes.ends 0) ahead.0 plain_run is)

pub returns : goal.returns
returns c =
    let raw = c.args.raw.now in
    let start = c.loop-ahead.start in
    let line_notes = c.loop-ahead.line_notes.items in
    let last : PlainRun c.args.profile (lacks_newline raw) (drop start raw) (length (drop start raw)) = subst (λ s. PlainRun c.args.profile s (drop start raw) (length (drop start raw))) c.requires.supplied (simp take_rest at c.in_default.ensures) in
    let all = copies_all c.args.profile raw start c.loop-ahead.codes.items line_notes c.loop-ahead.invariant last in
    let same = simp take_rest at c.in_ok-extend_from_slice-2.ensures.items in
    elim c.if-supplied.branch [
      | then-supplied+in_ok-push-2 w ↦ rw (w.codes-is, w.in_ok-push-2.ensures.items, same) (whole_open c.args.profile raw (c.loop-ahead.codes.items ++ drop start raw) line_notes all.0 all.1 (sym c.requires.supplied ∙ w.if-supplied.true))
      | else-supplied w ↦ rw (w.codes-is, same) (whole_closed c.args.profile raw (c.loop-ahead.codes.items ++ drop start raw) line_notes all.0 all.1 (sym c.requires.supplied ∙ w.if-supplied.false))
    ]
