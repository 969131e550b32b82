use Rattle.std.proofs.Common.{[], ◌++◌, sym, ap, ◌∙◌}
use Rattle.ppprint.specs.Text.{pragma_tokens_text}
use Rattle.ppprint.specs.code.PragmaText.{printed_pragma_token, tokens_left}
use Rattle.ppserve.specs.code.TextPieces.{with_bars}
use Rattle.ppserve.proofs.BarredLines.{token_done, tokens_done}
use Rattle.ppserve.proofs.BufferedPrinting.{puts_as, puts_none, puts_then}
use Rattle.ppserve.proofs.TextItems.{if_some, left_more, left_none}
use Rattle.ppserve.proofs.text_output.put_operator_tokens.Goals as goal

pub loop-token-init : goal.loop-token-init
loop-token-init g c = record {
  done = [];
  left = λ ts e. (ts, (c.tokens-tokens.ensures.left ∙ e, ap (λ l. with_bars (pragma_tokens_text l ts)) c.new-line.ensures));
  out = puts_none;
}

pub loop-token-preserved : goal.loop-token-preserved
loop-token-preserved g c =
    let t = printed_pragma_token c.in-Some.token in
    let inv = c.loop-token.invariant in
    record {
      done = _;
      left = λ ts e.
          let now = inv.left ts e in
          let more = left_more (tokens_left c.next.new.self) t now.0 (sym now.1.0 ∙ (c.in-Some.ensures {u = tt}).some) in (
            more.0,
            (
              more.1.0,
              token_done inv.done _ c.loop-token.line c.put_pragma_token.new.line t more.0 c.put_pragma_token.ensures.last
                  (ap (λ us. inv.done ++ with_bars (pragma_tokens_text c.loop-token.line us)) (sym more.1.1) ∙ now.1.1),
            ),
          );
      out = puts_then inv.out c.put_pragma_token.ensures.out;
    }

pub returns : goal.returns
returns g c =
    let inv = c.loop-token.invariant in
    if_some _ _ (λ ts e.
    let now = inv.left ts e in
    let none = left_none c.next.new.self.is_broken now.0 (sym now.1.0 ∙ (c.in_default.ensures {u = tt}).none) in
    puts_as (tokens_done inv.done _ c.loop-token.line (ap (λ us. inv.done ++ with_bars (pragma_tokens_text c.loop-token.line us)) (sym none) ∙ now.1.1))
    (puts_then inv.out c.put_pragma_end.ensures))
