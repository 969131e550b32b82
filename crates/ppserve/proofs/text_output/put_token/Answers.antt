use Rattle.std.proofs.Common.{[], ◌∷◌, refl, sym}
use Rattle.ppprint.specs.code.Tokens.{printed_token}
use Rattle.ppserve.specs.code.TextPieces.{shown_tokens}
use Rattle.ppserve.proofs.TextItems.{items_as, items_shown, passes_is, token_split}
use Rattle.ppserve.proofs.text_output.put_token.Goals as goal

pub returns-then-passes-clause-items : goal.returns-then-passes-clause-items
returns-then-passes-clause-items g c =
    let n = c.args.text.now.printer.numbering in
    let t = printed_token c.args.token in
    let passes = passes_is _ _ (c.if-passes.ensures {u = tt}) in
    items_as (sym passes.0) (sym passes.0) refl (items_shown (shown_tokens n (t ∷ [])) c.put_located.ensures.numbering (λ rest. token_split n t rest passes.1) c.put_located.ensures.items)
