use Rattle.std.proofs.Common.{◌≡◌, ◌∙◌, sym, ap, append-nil}
use Rattle.ppserve.specs.code.TextPieces.{token_bytes}
use Rattle.ppserve.proofs.BufferedPrinting.{puts_as, puts_here, puts_then}
use Rattle.ppserve.proofs.text_output.put_spelling.Goals as goal
use Rattle.ppserve.proofs.text_output.put_spelling.Goals.{in-Some+else-add_short_token, in_default}

pub returns-then-add_short_token : goal.returns-then-add_short_token
returns-then-add_short_token g c =
    let buf = c.add_short_token.ensures.added c.if-add_short_token.true in
    puts_then c.ensure_capacity.ensures.out (puts_as (ap (token_bytes c.args.step.is_first c.args.step.spaces) c.in-Some.ensures.some.1) (puts_here buf))

pub returns : goal.returns
returns g c =
    let same : c.match-in_place.buf ≡ c.ensure_capacity.new.self = elim c.match-in_place.branch [
      | in-Some+else-add_short_token w ↦ w.buf-is ∙ w.add_short_token.ensures.refused w.if-add_short_token.false
      | in_default w ↦ w.buf-is
    ] in
    let here = puts_then c.ensure_capacity.ensures.out (puts_here (same ∙ sym (append-nil c.ensure_capacity.new.self))) in
    puts_as (ap (token_bytes c.args.step.is_first c.args.step.spaces) c.as_bytes.ensures) (puts_then here c.put_any_spelling.ensures)
