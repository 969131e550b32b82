use Rattle.std.proofs.Common.{◌≡◌, suc, ◌+◌, [], ◌∷◌, ◌++◌, map, drop, sym, ap, ◌∙◌, arith}
use Rattle.std.proofs.Math.Seq.{drop-cons}
use Rattle.std.proofs.lemmas.List.{drop_all}
use Rattle.ppprint.specs.Located.{pragma_token}
use Rattle.ppprint.specs.Text.{pragma_space, pragma_tokens_text, spaces}
use Rattle.ppprint.specs.Shown.{PragmaToken}
use Rattle.ppserve.specs.code.TextPieces.{with_bars}
use Rattle.ppserve.proofs.BarredLines.{token_done, tokens_done}
use Rattle.ppserve.proofs.BufferedPrinting.{puts_as, puts_none, puts_then}
use Rattle.ppserve.proofs.text_output.put_pragma_tokens.Goals as goal

pub loop-token-init : goal.loop-token-init
loop-token-init g c = record { done = []; whole = ap (λ l. with_bars (pragma_tokens_text l (map pragma_token c.args.tokens.now))) c.new-line.ensures; out = puts_none }

pub loop-token-preserved : goal.loop-token-preserved
loop-token-preserved g c =
    let x = c.token-item.result in
    let xs = c.args.tokens.now in
    let i = c.loop-token.token-index in
    let inv = c.loop-token.invariant in
    let t : PragmaToken = record { kind = x.kind; text = c.as_bytes.result.now; space = x.space } in
    let same : t ≡ pragma_token x = ap (λ s. record { kind = x.kind; text = s; space = x.space }) c.as_bytes.ensures in
    let one : suc i ≡ i + 1 = omega arith in
    let rest : drop i xs ≡ x ∷ drop (i + 1) xs = drop-cons xs i x c.loop-token-test.true ∙ ap (λ z. z ∷ drop (suc i) xs) (sym c.token-item.is) ∙ ap (λ n. x ∷ drop n xs) one in
    let more = map pragma_token (drop (i + 1) xs) in
    record {
      done = inv.done ++ (spaces (pragma_space c.loop-token.line t) ++ with_bars t.text);
      whole = token_done inv.done _ c.loop-token.line c.put_pragma_token.new.line t more c.put_pragma_token.ensures.last
          (ap (λ z. inv.done ++ with_bars (pragma_tokens_text c.loop-token.line z)) (ap (λ z. z ∷ more) same ∙ sym (ap (map pragma_token) rest)) ∙ inv.whole);
      out = puts_then inv.out c.put_pragma_token.ensures.out;
    }

pub returns : goal.returns
returns g c =
    let inv = c.loop-token.invariant in
    let none : drop c.loop-token.token-index c.args.tokens.now ≡ [] = drop_all c.loop-token.token-index c.args.tokens.now c.loop-token-test.false in
    puts_as (tokens_done inv.done _ c.loop-token.line (ap (λ z. inv.done ++ with_bars (pragma_tokens_text c.loop-token.line (map pragma_token z))) (sym none) ∙ inv.whole))
    (puts_then inv.out c.put_pragma_end.ensures)
