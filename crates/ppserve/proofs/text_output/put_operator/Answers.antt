use Rattle.std.proofs.Common.{true, [], ◌∷◌, sym, ap, ◌∙◌}
use Rattle.ppprint.specs.Operators.{left_to_compilers, tokens_after}
use Rattle.ppprint.specs.code.Tokens.{printed_token}
use Rattle.ppprint.proofs.HeldOperators.{operator_makes, operator_stays}
use Rattle.ppserve.specs.code.TextPieces.{place_in, shown_tokens}
use Rattle.ppserve.proofs.TextItems.{left_tokens, none_of, shown_as, shown_then, some_at, some_of}
use Rattle.ppserve.proofs.text_output.put_operator.Goals as goal

pub returns-then-is_pragma-clause-items : goal.returns-then-is_pragma-clause-items
returns-then-is_pragma-clause-items g c =
    let o = c.args.operator in
    let n = c.args.printer.now.numbering in
    let text = tokens_after 0 true c.new-text.result in
    let found = some_of text (sym (c.if-is_pragma.ensures {u = tt})) in
    let makes = operator_makes (place_in n) (printed_token o.name) (printed_token o.open) (printed_token o.literal) (printed_token o.close) [] c.requires found.0 (ap (tokens_after 0 true) (sym c.new-text.ensures) ∙ found.1) in
    shown_as (ap left_to_compilers (sym makes)) (some_at text _ found.0 found.1 c.put_operator_pragma.ensures.items)

pub returns-clause-items : goal.returns-clause-items
returns-clause-items g c =
    let o = c.args.operator in
    let n = c.args.printer.now.numbering in
    let name = printed_token o.name in
    let open_paren = printed_token o.open in
    let literal = printed_token o.literal in
    let close = printed_token o.close in
    let none = none_of (tokens_after 0 true c.new-text.result) (sym (c.if-is_pragma.ensures {u = tt})) in
    let stays = operator_stays (place_in n) name open_paren literal close [] c.requires (ap (tokens_after 0 true) (sym c.new-text.ensures) ∙ none) in
    let first = c.put_located.ensures.numbering in
    let second = c.put_located-2.ensures.numbering ∙ first in
    let third = c.put_located-3.ensures.numbering ∙ second in
    let a = c.put_located.ensures.items in
    let b = shown_as (ap (λ m. shown_tokens m (open_paren ∷ [])) first) c.put_located-2.ensures.items in
    let d = shown_as (ap (λ m. shown_tokens m (literal ∷ [])) second) c.put_located-3.ensures.items in
    let e = shown_as (ap (λ m. shown_tokens m (close ∷ [])) third) c.put_located-4.ensures.items in
    shown_as (sym (ap left_to_compilers stays ∙ left_tokens n (name ∷ open_paren ∷ literal ∷ close ∷ []))) (shown_then a (shown_then b (shown_then d e)))
