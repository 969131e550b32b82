use Rattle.std.proofs.Common.{◌≡◌, codes, ◌++◌, ◌∙◌, ◌∷◌, [], append_assoc, sym}
use Rattle.ppserve.specs.code.LinePrefix.{before_spelling}
use Rattle.ppserve.specs.Output.{percent_encoded}
use Rattle.ppserve.proofs.BufferedPrinting.{puts_as, puts_here, puts_then, puts_joined}
use Rattle.ppserve.proofs.output.put_token_line.Goals as goal
use Rattle.ppserve.proofs.output.put_token_line.Goals.{in-Some+else-add_short_spelling, in_default}

pub returns-then-add_short_spelling : goal.returns-then-add_short_spelling
returns-then-add_short_spelling g c =
    let before = before_spelling c.args.fields.at c.args.fields.used c.args.fields.kind c.args.fields.space in
    let buf = c.add_short_spelling.ensures.added c.if-add_short_spelling.true in
    puts_then c.ensure_capacity.ensures.out (puts_joined _ (codes "tok") before (percent_encoded c.args.spelling.now) (10 ∷ []) (rw (c.add_line_prefix.ensures.text, c.in-Some.ensures.some.1) at buf))

pub returns : goal.returns
returns g c =
    let before = before_spelling c.args.fields.at c.args.fields.used c.args.fields.kind c.args.fields.space in
    let same : c.match-in_place.buf ≡ c.add_line_prefix.new.self = elim c.match-in_place.branch [
      | in-Some+else-add_short_spelling w ↦ w.buf-is ∙ w.add_short_spelling.ensures.refused w.if-add_short_spelling.false
      | in_default w ↦ w.buf-is
    ] in
    let buf = same ∙ (c.add_line_prefix.ensures.text ∙ append_assoc _ (codes "tok") before) in
    puts_as (rw c.as_bytes.ensures (sym (append_assoc (codes "tok" ++ before) (percent_encoded c.args.spelling.now) (10 ∷ []))))
    (puts_then (puts_then c.ensure_capacity.ensures.out (puts_here buf)) c.put_spelling_and_newline.ensures)
