use Rattle.std.proofs.Common.{◌-◌, arith}
use Rattle.pptext.proofs.Cursors.{arrives, arrives_along, bounds, after_line, pass_plain}
use Rattle.pptext.proofs.cleaned_text.TextCursor.seek.Goals as goal

pub pass-requires-clause-line : goal.pass-requires-clause-line
pass-requires-clause-line c = (bounds c.args.profile c.args.self.now.at.file c.args.raw.now c.args.line_notes.now c.args.self.now c.requires.is_there).line

pub pass-requires-clause-col : goal.pass-requires-clause-col
pass-requires-clause-col c = (bounds c.args.profile c.args.self.now.at.file c.args.raw.now c.args.line_notes.now c.args.self.now c.requires.is_there).col

pub pass_along-requires-clause-col : goal.pass_along-requires-clause-col
pass_along-requires-clause-col c = (bounds c.args.profile c.args.self.now.at.file c.args.raw.now c.args.line_notes.now c.args.self.now c.requires.is_there).col

pub pass_along-requires-clause-offset : goal.pass_along-requires-clause-offset
pass_along-requires-clause-offset c =
    let same = after_line c.self.inside c.args.self.now c.self.view_is in
    let cursor = c.args.self.now in
    let ahead = c.args.to - cursor.consumed in
    let in_bounds = (pass_plain c.args.profile cursor.at.file c.args.raw.now c.args.line_notes.now cursor ahead c.requires.is_there (omega (arith, same.consumed, same.plain, c.if-ahead-self.false))).0 in
    omega (arith, same.consumed, same.offset, c.requires.small)

pub returns-then-line-self : goal.returns-then-line-self
returns-then-line-self c =
    let same = after_line c.self.inside c.args.self.now c.self.view_is in
    let there =
    arrives_along c.args.profile c.args.self.now.at.file c.args.raw.now c.args.line_notes.now c.args.self.now c.pass_along.new.self c.args.to c.args.line
    c.requires.is_there c.requires.forward (omega (arith, same.consumed, same.plain, c.if-ahead-self.false)) (omega (arith, same.consumed, c.if-line-self.true)) c.requires.line (rw same.consumed at c.pass_along.ensures) in
    record { is_there = there.is_there; consumed = there.consumed; file = there.same_file; place = there.place }

pub returns : goal.returns
returns c =
    let same = after_line c.self.inside c.args.self.now c.self.view_is in
    let there =
    arrives c.args.profile c.args.self.now.at.file c.args.raw.now c.args.line_notes.now c.args.self.now c.pass.new.self c.args.to
    c.requires.is_there c.requires.forward (omega (arith, same.consumed, same.plain, c.if-ahead-self.false)) (rw same.consumed at c.pass.ensures) in
    record { is_there = there.is_there; consumed = there.consumed; file = there.same_file; place = there.place }
