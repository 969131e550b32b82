use Rattle.std.proofs.Common.{[], ◌∷◌, refl, sym}
use Rattle.ppprint.specs.code.Tokens.{printed_token}
use Rattle.ppserve.specs.code.TextPieces.{shown_tokens}
use Rattle.ppserve.proofs.TextItems.{held_split, items_as, items_shown, passes_is, shown_none, token_split}
use Rattle.ppserve.proofs.text_output.put_first_part.Goals as goal

pub returns-else-passes-clause-items : goal.returns-else-passes-clause-items
returns-else-passes-clause-items g c = items_shown [] refl (λ rest. held_split c.args.text.now.printer.numbering [] (printed_token c.args.token) rest) shown_none

pub returns-then-passes-clause-items : goal.returns-then-passes-clause-items
returns-then-passes-clause-items g c =
    let n = c.args.text.now.printer.numbering in
    let t = printed_token c.args.token in
    let passes = passes_is _ _ (c.if-passes.ensures {u = tt}) in
    items_as refl (sym passes.0) refl (items_shown (shown_tokens n (t ∷ [])) c.put_located.ensures.numbering (λ rest. token_split n t rest passes.1) c.put_located.ensures.items)
