use Rattle.std.proofs.Common.{◌≡◌, ℕ, Bool, List, ◌+◌, ◌-◌, ◌<◌, ◌≤◌, length, drop, get_or, sym, ap, ◌∙◌, subst, arith}
use Rattle.std.proofs.lemmas.List.{take_rest}
use Rattle.pptext.specs.declared.sources.Profile.{Profile}
use Rattle.pptext.specs.code.Steps.{CharStep, Code, Removed, lacks_newline, step_of}
use Rattle.pptext.specs.code.CleanedText.{TextCursor, IsCursorAt, text_from}
use Rattle.pptext.proofs.CleanedCopies.{code_at, removed_at}
use Rattle.pptext.proofs.Cursors.{arrives, bounds, after_line, pass_code, pass_plain, skip_removed, stands_at_code, stands_at_end}
use Rattle.pptext.proofs.cleaned_text.TextCursor.advanced_over_notes.Goals as goal

-- The step at this offset is the one that the call returned.
step_here : (profile : Profile) (raw : List ℕ) (supplied : Bool) (asked offset : ℕ) (step : CharStep) → supplied ≡ lacks_newline raw → asked ≡ offset → step ≡ step_of profile supplied (drop asked raw) → step_of profile (lacks_newline raw) (drop offset raw) ≡ step
step_here profile raw supplied asked offset step end same is = ap (λ s. step_of profile s (drop offset raw)) (sym end) ∙ ap (λ k. step_of profile supplied (drop k raw)) (sym same) ∙ sym is

pub pass-requires-then-cursor-gt0-clause-line : goal.pass-requires-then-cursor-gt0-clause-line
pass-requires-then-cursor-gt0-clause-line c = (bounds c.args.profile c.args.self.at.file c.args.raw.now c.args.line_notes.now c.loop-cursor.cursor c.loop-cursor.invariant.is_there).line

pub pass-requires-then-cursor-gt0-clause-col : goal.pass-requires-then-cursor-gt0-clause-col
pass-requires-then-cursor-gt0-clause-col c = (bounds c.args.profile c.args.self.at.file c.args.raw.now c.args.line_notes.now c.loop-cursor.cursor c.loop-cursor.invariant.is_there).col

pub skip-cursor-requires-clause-line : goal.skip-cursor-requires-clause-line
skip-cursor-requires-clause-line c = (bounds c.args.profile c.args.self.at.file c.args.raw.now c.args.line_notes.now c.loop-cursor.cursor c.loop-cursor.invariant.is_there).line

pub skip-cursor-requires-clause-col : goal.skip-cursor-requires-clause-col
skip-cursor-requires-clause-col c = (bounds c.args.profile c.args.self.at.file c.args.raw.now c.args.line_notes.now c.loop-cursor.cursor c.loop-cursor.invariant.is_there).col

pub skip-cursor-requires-in-Code-clause-line : goal.skip-cursor-requires-in-Code-clause-line
skip-cursor-requires-in-Code-clause-line c = (bounds c.args.profile c.args.self.at.file c.args.raw.now c.args.line_notes.now c.loop-cursor.cursor c.loop-cursor.invariant.is_there).line

pub skip-cursor-requires-in-Code-clause-col : goal.skip-cursor-requires-in-Code-clause-col
skip-cursor-requires-in-Code-clause-col c = (bounds c.args.profile c.args.self.at.file c.args.raw.now c.args.line_notes.now c.loop-cursor.cursor c.loop-cursor.invariant.is_there).col

pub pass-requires-clause-line : goal.pass-requires-clause-line
pass-requires-clause-line c = (bounds c.args.profile c.args.self.at.file c.args.raw.now c.args.line_notes.now c.loop-cursor.cursor c.loop-cursor.invariant.is_there).line

pub pass-requires-clause-col : goal.pass-requires-clause-col
pass-requires-clause-col c = (bounds c.args.profile c.args.self.at.file c.args.raw.now c.args.line_notes.now c.loop-cursor.cursor c.loop-cursor.invariant.is_there).col

pub skip-cursor-requires-clause-fits : goal.skip-cursor-requires-clause-fits
skip-cursor-requires-clause-fits c =
    let same = after_line c.cursor.inside c.loop-cursor.cursor c.cursor.view_is in
    let raw = c.args.raw.now in
    let cursor = c.loop-cursor.cursor in
    let o = cursor.offset in
    let n = c.in-Removed.len in
    let is = step_here c.args.profile raw c.lacks_newline-supplied.result c.cursor.inside.offset o (Removed n) c.lacks_newline-supplied.ensures same.offset (simp take_rest at c.in-Removed.ensures) in
    (removed_at c.args.profile 0 raw o n (omega (arith, same.offset, c.loop-cursor-test.true)) is).fits

pub skip-cursor-requires-in-Code-clause-fits : goal.skip-cursor-requires-in-Code-clause-fits
skip-cursor-requires-in-Code-clause-fits c =
    let same = after_line c.cursor.inside c.loop-cursor.cursor c.cursor.view_is in
    let raw = c.args.raw.now in
    let cursor = c.loop-cursor.cursor in
    let o = cursor.offset in
    let n = c.in-Code.len in
    let is = step_here c.args.profile raw c.lacks_newline-supplied.result c.cursor.inside.offset o (Code c.in-Code.field-0 n) c.lacks_newline-supplied.ensures same.offset (simp take_rest at c.in-Code.ensures) in
    (code_at c.args.profile 0 raw o c.in-Code.field-0 n (omega (arith, same.offset, c.loop-cursor-test.true)) is).fits

pub returns-then-ahead-cursor : goal.returns-then-ahead-cursor
returns-then-ahead-cursor c =
    let same = after_line c.cursor.inside c.loop-cursor.cursor c.cursor.view_is in
    let there =
    arrives c.args.profile c.args.self.at.file c.args.raw.now c.args.line_notes.now c.loop-cursor.cursor c.pass.new.self c.args.to
    c.loop-cursor.invariant.is_there c.loop-cursor.invariant.forward (omega (arith, same.consumed, same.plain, c.if-ahead-cursor.true)) (rw same.consumed at c.pass.ensures) in
    record { is_there = there.is_there; consumed = there.consumed; file = there.same_file; place = there.place }

pub loop-cursor-preserved-then-cursor-gt0 : goal.loop-cursor-preserved-then-cursor-gt0
loop-cursor-preserved-then-cursor-gt0 c =
    let same = after_line c.cursor.inside c.loop-cursor.cursor c.cursor.view_is in
    let raw = c.args.raw.now in
    let cursor = c.loop-cursor.cursor in
    let s = pass_plain c.args.profile c.args.self.at.file raw c.args.line_notes.now cursor c.cursor.inside.plain c.loop-cursor.invariant.is_there (omega (arith, same.plain)) in
    let consumed : c.pass-then-cursor-gt0.new.self.consumed ≡ cursor.consumed + c.cursor.inside.plain = ap (λ (x : TextCursor). x.consumed) c.pass-then-cursor-gt0.ensures in
    record {
      forward = omega (arith, same.consumed, same.plain, c.if-ahead-cursor.false, c.loop-cursor.invariant.forward);
      is_there = subst (IsCursorAt c.args.profile c.args.self.at.file raw c.args.line_notes.now) (sym c.pass-then-cursor-gt0.ensures) s.1;
    }

pub loop-cursor-smaller-in-Removed : goal.loop-cursor-smaller-in-Removed
loop-cursor-smaller-in-Removed c =
    let same = after_line c.cursor.inside c.loop-cursor.cursor c.cursor.view_is in
    let raw = c.args.raw.now in
    let cursor = c.loop-cursor.cursor in
    let o = cursor.offset in
    let is_there = c.loop-cursor.invariant.is_there in
    let n = c.in-Removed.len in
    let is = step_here c.args.profile raw c.lacks_newline-supplied.result c.cursor.inside.offset o (Removed n) c.lacks_newline-supplied.ensures same.offset (simp take_rest at c.in-Removed.ensures) in
    let s = skip_removed c.args.profile c.args.self.at.file raw c.args.line_notes.now cursor n is_there (omega (arith, same.plain)) (omega (arith, same.offset, c.loop-cursor-test.true)) is in
    let skip : c.skip-cursor.result.offset ≡ o + n = ap (λ (x : TextCursor). x.offset) c.skip-cursor.ensures in
    let less : length raw - c.skip-cursor.result.offset < length raw - o = omega (arith, s.0) in
    less

pub loop-cursor-preserved-in-Removed : goal.loop-cursor-preserved-in-Removed
loop-cursor-preserved-in-Removed c =
    let same = after_line c.cursor.inside c.loop-cursor.cursor c.cursor.view_is in
    let raw = c.args.raw.now in
    let cursor = c.loop-cursor.cursor in
    let o = cursor.offset in
    let is_there = c.loop-cursor.invariant.is_there in
    let n = c.in-Removed.len in
    let is = step_here c.args.profile raw c.lacks_newline-supplied.result c.cursor.inside.offset o (Removed n) c.lacks_newline-supplied.ensures same.offset (simp take_rest at c.in-Removed.ensures) in
    let s = skip_removed c.args.profile c.args.self.at.file raw c.args.line_notes.now cursor n is_there (omega (arith, same.plain)) (omega (arith, same.offset, c.loop-cursor-test.true)) is in
    let consumed = ap (λ (x : TextCursor). x.consumed) c.skip-cursor.ensures in
    record { forward = omega (arith, c.loop-cursor.invariant.forward); is_there = subst (IsCursorAt c.args.profile c.args.self.at.file raw c.args.line_notes.now) (sym c.skip-cursor.ensures) s.2 }

pub returns-then-cursor-to-clause-file : goal.returns-then-cursor-to-clause-file
returns-then-cursor-to-clause-file c = (bounds c.args.profile c.args.self.at.file c.args.raw.now c.args.line_notes.now c.loop-cursor.cursor c.loop-cursor.invariant.is_there).same_file

pub returns-then-cursor-to-clause-place : goal.returns-then-cursor-to-clause-place
returns-then-cursor-to-clause-place c =
    let same = after_line c.cursor.inside c.loop-cursor.cursor c.cursor.view_is in
    let raw = c.args.raw.now in
    let cursor = c.loop-cursor.cursor in
    let o = cursor.offset in
    let is_there = c.loop-cursor.invariant.is_there in
    let n = c.in-Code.len in
    let code = c.in-Code.field-0 in
    let is = step_here c.args.profile raw c.lacks_newline-supplied.result c.cursor.inside.offset o (Code code n) c.lacks_newline-supplied.ensures same.offset (simp take_rest at c.in-Code.ensures) in
    let here : o < length raw = omega (arith, same.offset, c.loop-cursor-test.true) in
    λ d. stands_at_code c.args.profile c.args.self.at.file raw c.args.line_notes.now cursor code n d is_there here is ∙ ap (λ k. (get_or (text_from c.args.profile c.args.self.at.file raw 0) k d).at) (sym same.consumed ∙ c.if-cursor-to.true)

pub loop-cursor-smaller : goal.loop-cursor-smaller
loop-cursor-smaller c =
    let same = after_line c.cursor.inside c.loop-cursor.cursor c.cursor.view_is in
    let raw = c.args.raw.now in
    let cursor = c.loop-cursor.cursor in
    let o = cursor.offset in
    let is_there = c.loop-cursor.invariant.is_there in
    let n = c.in-Code.len in
    let code = c.in-Code.field-0 in
    let is = step_here c.args.profile raw c.lacks_newline-supplied.result c.cursor.inside.offset o (Code code n) c.lacks_newline-supplied.ensures same.offset (simp take_rest at c.in-Code.ensures) in
    let s = pass_code c.args.profile c.args.self.at.file raw c.args.line_notes.now cursor code n is_there (omega (arith, same.plain)) (omega (arith, same.offset, c.loop-cursor-test.true)) is in
    let skip : c.skip-cursor-in-Code.result.offset ≡ o + n = ap (λ (x : TextCursor). x.offset) c.skip-cursor-in-Code.ensures in
    let after = after_line c.cursor-in-Code.inside c.skip-cursor-in-Code.result c.cursor-in-Code.view_is in
    let less : length raw - c.cursor-in-Code.inside.offset < length raw - o = omega (arith, s.0, after.offset) in
    less

pub loop-cursor-preserved : goal.loop-cursor-preserved
loop-cursor-preserved c =
    let same = after_line c.cursor.inside c.loop-cursor.cursor c.cursor.view_is in
    let raw = c.args.raw.now in
    let cursor = c.loop-cursor.cursor in
    let o = cursor.offset in
    let is_there = c.loop-cursor.invariant.is_there in
    let n = c.in-Code.len in
    let code = c.in-Code.field-0 in
    let is = step_here c.args.profile raw c.lacks_newline-supplied.result c.cursor.inside.offset o (Code code n) c.lacks_newline-supplied.ensures same.offset (simp take_rest at c.in-Code.ensures) in
    let s = pass_code c.args.profile c.args.self.at.file raw c.args.line_notes.now cursor code n is_there (omega (arith, same.plain)) (omega (arith, same.offset, c.loop-cursor-test.true)) is in
    let after = after_line c.cursor-in-Code.inside c.skip-cursor-in-Code.result c.cursor-in-Code.view_is in
    let consumed = ap (λ (x : TextCursor). x.consumed) c.skip-cursor-in-Code.ensures in
    record {
      forward = omega (arith, same.consumed, after.consumed, c.loop-cursor.invariant.forward, c.if-cursor-to.false);
      is_there = subst (λ (x : TextCursor). IsCursorAt c.args.profile c.args.self.at.file raw c.args.line_notes.now (record { consumed = x.consumed + 1; offset = x.offset; plain = x.plain; next = x.next; at = x.at }))
          (sym (c.cursor-in-Code.view_is ∙ c.skip-cursor-in-Code.ensures)) s.2;
    }

pub returns-clause-consumed : goal.returns-clause-consumed
returns-clause-consumed c =
    let same = after_line c.cursor.inside c.loop-cursor.cursor c.cursor.view_is in
    let past : length c.args.raw.now ≤ c.loop-cursor.cursor.offset = omega (arith, same.offset, c.loop-cursor-test.false) in
    (stands_at_end c.args.profile c.args.self.at.file c.args.raw.now c.args.line_notes.now c.loop-cursor.cursor c.args.to c.loop-cursor.invariant.is_there past c.loop-cursor.invariant.forward c.requires.within).0

pub returns-clause-file : goal.returns-clause-file
returns-clause-file c = (bounds c.args.profile c.args.self.at.file c.args.raw.now c.args.line_notes.now c.loop-cursor.cursor c.loop-cursor.invariant.is_there).same_file

pub returns-clause-place : goal.returns-clause-place
returns-clause-place c =
    let same = after_line c.cursor.inside c.loop-cursor.cursor c.cursor.view_is in
    let past : length c.args.raw.now ≤ c.loop-cursor.cursor.offset = omega (arith, same.offset, c.loop-cursor-test.false) in
    (stands_at_end c.args.profile c.args.self.at.file c.args.raw.now c.args.line_notes.now c.loop-cursor.cursor c.args.to c.loop-cursor.invariant.is_there past c.loop-cursor.invariant.forward c.requires.within).1
