use Rattle.std.proofs.Common.{rules, ◌≡◌, ◌+◌, ◌<◌, suc, length, drop, sym, subst, ◌∙◌, arith}
use Rattle.std.proofs.lemmas.List.{drop-set-lt}
use Rattle.std.proofs.lemmas.List.Elements.{All-set, AllWithin-more_set}
use Rattle.ppserve.specs.code.Records.{record_lines}
use Rattle.ppserve.specs.code.Rounds.{IsAlike, IsEmpty, IsFilled}
use Rattle.ppserve.proofs.PageRecords.{same_from, one_more_page}
use Rattle.ppserve.proofs.BufferedPrinting.{puts_as, puts_then}
use Rattle.ppserve.proofs.rounds.write_all.Goals as goal

pub write_out-requires : goal.write_out-requires
write_out-requires g c =
    let i = c.loop-page.page-index in
    let below : i < length c.loop-page.pages = search rules in
    let same = same_from i c.loop-page.pages c.args.pages.now c.page-item.result below c.loop-page.invariant.rest in
    subst (IsFilled c.args.names.now) (sym same.1) (c.requires i c.page-item.result same.0)

pub loop-page-preserved : goal.loop-page-preserved
loop-page-preserved g c =
    let i = c.loop-page.page-index in
    let now = c.loop-page.pages in
    let left = c.write_out.new.self in
    let below : i < length now = search rules in
    let same = same_from i now c.args.pages.now c.page-item.result below c.loop-page.invariant.rest in
    let more : i + 1 ≡ suc i = omega arith in
    record {
      out = puts_as (one_more_page (record_lines c.args.names.now) c.args.pages.now i c.page-item.result _ same.0 same.1) (puts_then c.loop-page.invariant.out c.write_out.ensures.out);
      rest = drop-set-lt (i + 1) now i left (omega arith) ∙ ((λ j. drop (more j) now) ∙ (same.2 ∙ (λ j. drop (sym more j) c.args.pages.now)));
      empty = AllWithin-more_set now i left below IsEmpty c.loop-page.invariant.empty c.write_out.ensures.empty;
      alike = λ at all.
          let before = c.loop-page.invariant.alike at all in
          let page : IsAlike at left = rw c.write_out.ensures.start (before i c.page-item.result below) in
          All-set (IsAlike at) now i left page before;
    }
