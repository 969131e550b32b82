use Rattle.std.proofs.Common.{◌≡◌, true, false, ◌++◌, None, codes, sym}
use Rattle.ppprint.specs.Operators.{is_own, tokens_after}
use Rattle.ppprint.specs.code.Tokens.{printed_token}
use Rattle.ppserve.specs.code.TextPieces.{barred_way, own_marker, place_in, pragma_bytes}
use Rattle.ppserve.proofs.BufferedPrinting.{puts_then}
use Rattle.ppserve.proofs.TextItems.{if_some, is_left, is_owned, pragma_puts, shown_as, shown_none, some_at}
use Rattle.ppserve.proofs.text_output.put_operator_pragma.Goals as goal

pub returns-then-is_own-clause-items : goal.returns-then-is_own-clause-items
returns-then-is_own-clause-items g c =
    if_some (tokens_after 0 true c.args.text.now) _ (λ ts e.
    let own : true ≡ is_own ts = some_at (tokens_after 0 true c.args.text.now) (λ us. true ≡ is_own us) ts e (c.if-is_own.ensures {u = tt}) in
    shown_as (sym (is_owned (place_in c.args.printer.now.numbering (printed_token c.args.name)) ts (sym own))) shown_none)

pub returns-clause-items : goal.returns-clause-items
returns-clause-items g c =
    let at = place_in c.args.printer.now.numbering (printed_token c.args.name) in
    let s = c.operator-step.result in
    if_some (tokens_after 0 true c.args.text.now) _ (λ ts e.
    let own : false ≡ is_own ts = some_at (tokens_after 0 true c.args.text.now) (λ us. false ≡ is_own us) ts e (c.if-is_own.ensures {u = tt}) in
    shown_as (sym (is_left at ts (sym own))) (record {
      bytes = barred_way s.way at ++ own_marker s.has_own_marker at ++ codes "|#pragma" ++ pragma_bytes None ts;
      out = puts_then (c.put_pragma_start.ensures at c.operator-step.ensures.step.marker) (some_at (tokens_after 0 true c.args.text.now) _ ts e c.put_operator_tokens.ensures);
      left = λ rest. pragma_puts c.args.printer.now.line at ts s c.operator-step.new.self.line rest c.operator-step.ensures.step c.operator-step.ensures.line;
    }))
