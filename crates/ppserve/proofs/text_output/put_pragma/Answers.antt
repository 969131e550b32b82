use Rattle.std.proofs.Common.{◌≡◌, ℕ, List, ◌++◌, map, None, codes, sym, ap, ◌∙◌}
use Rattle.std.specs.Option.{option_map}
use Rattle.std.specs.Prelude.{Option, slice_get}
use Rattle.pptext.specs.declared.tokens.Token.{Token}
use Rattle.ppprint.specs.Located.{location, pragma_token}
use Rattle.ppprint.specs.Operators.{are_own, is_own}
use Rattle.ppserve.specs.code.TextPieces.{barred_way, own_marker, pragma_bytes}
use Rattle.ppserve.proofs.BufferedPrinting.{puts_then}
use Rattle.ppserve.proofs.TextItems.{is_left, is_owned, own_is, pragma_puts, shown_as, shown_none}
use Rattle.ppserve.proofs.text_output.put_pragma.Goals as goal

owned_by : (ts : List Token) (a b : Option (List ℕ)) → a ≡ option_map (λ (t : Token). t.text) (slice_get ts 0) → b ≡ option_map (λ (t : Token). t.text) (slice_get ts 1) → are_own a b ≡ is_own (map pragma_token ts)
owned_by ts a b first second = ap (λ x. are_own x b) first ∙ ap (λ x. are_own (option_map (λ (t : Token). t.text) (slice_get ts 0)) x) second ∙ own_is ts

pub returns-then-is_own_pragma-clause-items : goal.returns-then-is_own_pragma-clause-items
returns-then-is_own_pragma-clause-items g c =
    let n = c.args.printer.now.numbering in
    let ts = map pragma_token c.args.tokens.now in
    let own = owned_by c.args.tokens.now _ _ c.spelling_at.ensures c.spelling_at-2.ensures in
    shown_as (sym (is_owned (location n c.args.at.line n.row) ts (sym (c.if-is_own_pragma.ensures {u = tt} ∙ own)))) shown_none

pub returns-clause-items : goal.returns-clause-items
returns-clause-items g c =
    let n = c.args.printer.now.numbering in
    let at = location n c.args.at.line n.row in
    let ts = map pragma_token c.args.tokens.now in
    let own = owned_by c.args.tokens.now _ _ c.spelling_at.ensures c.spelling_at-2.ensures in
    let s = c.pragma-step.result in
    shown_as (sym (is_left at ts (sym (c.if-is_own_pragma.ensures {u = tt} ∙ own)))) (record {
      bytes = barred_way s.way at ++ own_marker s.has_own_marker at ++ codes "|#pragma" ++ pragma_bytes None ts;
      out = puts_then (c.put_pragma_start.ensures at c.pragma-step.ensures.step.marker) c.put_pragma_tokens.ensures;
      left = λ rest. pragma_puts c.args.printer.now.line at ts s c.pragma-step.new.self.line rest c.pragma-step.ensures.step c.pragma-step.ensures.line;
    })
