use Rattle.std.proofs.Common.{[], refl, sym, ap, ◌∙◌}
use Rattle.ppprint.specs.Operators.{left_to_compilers, with_operators}
use Rattle.ppprint.specs.code.Held.{held_tokens, operator_tokens}
use Rattle.ppprint.specs.code.Tokens.{printed_token}
use Rattle.ppserve.specs.code.TextPieces.{items_left, shown_tokens}
use Rattle.ppserve.proofs.TextItems.{broken_split, held_few, held_split, items_behind, items_shown, next_part, no_part, shown_none, whole_split}
use Rattle.ppserve.proofs.text_output.put_operator_part.Goals as goal

pub returns-in-Held : goal.returns-in-Held
returns-in-Held g c =
    let n = c.args.text.now.printer.numbering in
    let ts = held_tokens c.args.text.now.held in
    let t = printed_token c.args.token in
    let next = next_part ts (held_tokens c.in-Held.held) t (c.in-Held.ensures {u = tt}) c.requires in
    record { held = next.1; items = items_shown [] refl (λ rest. held_split n ts t rest ∙ ap (λ z. items_left n z rest) (sym next.0)) shown_none }

pub put_operator-requires : goal.put_operator-requires
put_operator-requires g c =
    (next_part (held_tokens c.args.text.now.held) (operator_tokens c.in-Operator.operator) (printed_token c.args.token) (c.in-Operator.ensures {u = tt}) c.requires).1

pub returns-in-Operator : goal.returns-in-Operator
returns-in-Operator g c =
    let n = c.args.text.now.printer.numbering in
    let ts = held_tokens c.args.text.now.held in
    let t = printed_token c.args.token in
    let o = c.in-Operator.operator in
    let next = next_part ts (operator_tokens o) t (c.in-Operator.ensures {u = tt}) c.requires in
    record {
      held = refl;
      items = items_shown (left_to_compilers (with_operators 0 (shown_tokens n (operator_tokens o)))) c.put_operator.ensures.numbering
          (λ rest. whole_split n ts t (printed_token o.name) (printed_token o.open) (printed_token o.literal) (printed_token o.close) rest next.0 next.1) c.put_operator.ensures.items;
    }

pub returns-in-Broken : goal.returns-in-Broken
returns-in-Broken g c =
    let n = c.args.text.now.printer.numbering in
    let ts = held_tokens c.args.text.now.held in
    let t = printed_token c.args.token in
    let breaks = no_part ts t (c.in-Broken.ensures {u = tt}) in
    record {
      held = c.put_first_part.ensures.held;
      items = items_behind (shown_tokens n ts) c.put_held.ensures.numbering (λ rest. broken_split n ts t rest (held_few c.args.text.now.held) c.requires breaks) c.put_held.ensures.items c.put_first_part.ensures.items;
    }
