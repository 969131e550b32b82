use Rattle.std.proofs.Common.{◌≡◌, ◌+◌, List, length, length-append, arith, sym, subst}
use Rattle.std.specs.Prelude.{All}
use Rattle.std.proofs.lemmas.List.Elements.{All-push}
use Rattle.ppserve.specs.declared.rounds.Page.{Page}
use Rattle.ppserve.specs.code.Records.{IsOver}
use Rattle.ppserve.specs.code.Rounds.{IsEmpty}
use Rattle.ppserve.proofs.rounds.new_pages.Goals as goal

pub loop-preserved : goal.loop-preserved
loop-preserved c =
    let before = c.loop.pages.items in
    let page = c.in_ok-new.field-0 in
    let items = c.in_ok-push.ensures.items in
    let over : Page → Type 0 = λ p. IsOver c.args.output p.start in
    let counted : List Page → Type 0 = λ l. length l ≡ c.loop.counter + 1 in
    record {
      count = subst counted (sym items) (simp length-append (omega (arith, c.loop.invariant.count)));
      empty = subst (All IsEmpty) (sym items) (All-push IsEmpty before page c.loop.invariant.empty c.in_ok-new.ensures.empty);
      over = subst (All over) (sym items) (All-push over before page c.loop.invariant.over c.in_ok-new.ensures.over);
    }
