use Rattle.std.proofs.Common.{◌≡◌, [], ◌∷◌, ◌-◌, ◌++◌, length, take, drop, refl, sym, ap, ◌∙◌, arith, append_assoc}
use Rattle.std.proofs.lemmas.List.{take_rest}
use Rattle.ppserve.specs.code.TextPieces.{with_bars}
use Rattle.ppserve.proofs.BarredLines.{fails, free_bars, line_bars}
use Rattle.ppserve.proofs.BufferedPrinting.{puts_as, puts_none, puts_then}
use Rattle.ppserve.proofs.text_output.put_text.Goals as goal

pub loop-end-init : goal.loop-end-init
loop-end-init g c = record { done = []; whole = refl; out = puts_none }

pub loop-end-preserved : goal.loop-end-preserved
loop-end-preserved g c =
    let rest = c.loop-end.rest.now in
    let k = c.in-Some.end in
    let front = c.split_at.result.0.now in
    let others = c.split_at.result.1.now in
    let found = c.in-Some.ensures {u = tt} in
    let bars = line_bars rest k found.0.high (λ j before. fails _ (found.0.before j (omega arith) before)) found.1 in
    let more = drop 1 (drop k rest) in
    let tail : more ≡ take (length others - 1) (drop 1 others) = ap (drop 1) (sym c.split_at.ensures.back) ∙ sym (take_rest others 1) in
    let split : with_bars rest ≡ front ++ 10 ∷ 124 ∷ with_bars more = bars ∙ ap (λ z. z ++ 10 ∷ 124 ∷ with_bars more) (sym c.split_at.ensures.front) in
    let done = c.loop-end.invariant.done in
    record {
      done = done ++ front ++ 10 ∷ 124 ∷ [];
      whole =
          ap (λ z. (done ++ front ++ 10 ∷ 124 ∷ []) ++ with_bars z) (sym tail)
          ∙ append_assoc (done ++ front) (10 ∷ 124 ∷ []) (with_bars more)
          ∙ append_assoc done front (10 ∷ 124 ∷ with_bars more)
          ∙ ap (λ z. done ++ z) (sym split)
          ∙ c.loop-end.invariant.whole;
      out = puts_then (puts_then c.loop-end.invariant.out c.put.ensures) c.put-in-Some.ensures;
    }

pub returns : goal.returns
returns g c =
    let rest = c.loop-end.rest.now in
    let free = free_bars rest (λ k lt. fails _ (c.in_default.ensures {u = tt} k (omega arith) lt)) in
    puts_as (ap (λ z. c.loop-end.invariant.done ++ z) (sym free) ∙ c.loop-end.invariant.whole) (puts_then c.loop-end.invariant.out c.put-2.ensures)
