use Rattle.std.proofs.Common.{◌∙◌}
use Rattle.ppserve.specs.declared.line_cursor.LineCursor.{LineCursor}
use Rattle.ppserve.proofs.RecordLines.{refilled}
use Rattle.ppserve.proofs.line_cursor.LineCursor.next_dumped.Goals as goal

pub returns-in-Some-Tokens-clause-yields : goal.returns-in-Some-Tokens-clause-yields
returns-in-Some-Tokens-clause-yields c =
    let lines = c.next_tokens.ensures.yields in
    let new = c.next_items.new.self in
    let refill : LineCursor = record { output = new.output; tokens = c.in-Some-Tokens.tokens; items = new.items; last = new.last; next_unit = new.next_unit; systems = new.systems } in
    let is = c.in-Some-Tokens.ensures {u = tt} in
    let items = is.items.1 in
    let next = rw c.in-Some-Tokens.field-0-is at items in
    (lines.0, lines.1, refilled c.args.self.now refill c.requires.mode c.requires.tokens next is.output is.systems is.last is.next_unit ∙ lines.2)
