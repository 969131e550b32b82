use Rattle.std.proofs.Common.{List, [], ◌∷◌, ◌++◌, map, refl, sym, ap, ◌∙◌}
use Rattle.ppunit.specs.BorrowedItems.{slice_items}
use Rattle.ppprint.specs.Located.{location, located, pragma_token, Numbering}
use Rattle.ppprint.specs.Operators.{left_to_compilers}
use Rattle.ppprint.specs.Shown.{Shown, ShowsPragma}
use Rattle.ppprint.specs.code.Held.{held_tokens}
use Rattle.ppserve.specs.code.TextPieces.{shown_tokens}
use Rattle.ppserve.proofs.TextItems.{held_few, items_as, items_shown, pragma_split, shown_as, shown_then}
use Rattle.ppserve.proofs.text_output.put_items.Goals as goal

pub returns-in-Pragma-clause-items : goal.returns-in-Pragma-clause-items
returns-in-Pragma-clause-items g c =
    let n = c.args.text.now.printer.numbering in
    let ts = held_tokens c.args.text.now.held in
    let us = map pragma_token c.in-Pragma.tokens.now in
    let line = c.in-Pragma.at.line in
    let left : Numbering → List Shown = λ m. left_to_compilers (ShowsPragma (location m line m.row) us ∷ []) in
    let pragma = shown_as (ap left c.put_held.ensures.numbering) c.put_pragma.ensures.items in
    items_as refl (sym c.put_held.ensures.held) (sym (ap slice_items c.in-Pragma.is))
    (items_shown (shown_tokens n ts ++ left n) (c.put_pragma.ensures.numbering ∙ c.put_held.ensures.numbering)
    (λ rest. pragma_split n ts (ShowsPragma (location n line n.row) us) (location n line n.row) us (located n rest) refl (held_few c.args.text.now.held))
    (shown_then c.put_held.ensures.items pragma))
