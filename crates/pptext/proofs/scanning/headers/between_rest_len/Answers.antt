use Rattle.std.proofs.Common.{◌≡◌, ◌+◌, drop, get_or, arith, sym, ◌∙◌}
use Rattle.pptext.proofs.Literals.{Closed, Inner, closes_here, closes_nowhere, one_more, closing_lacks, newline_lacks, inner_here, inner_empty}
use Rattle.pptext.proofs.LanguagePrefixes.{only_zero, only_some, head_at, room_at, end_at}
use Rattle.pptext.proofs.scanning.headers.between_rest_len.Goals as goal

pub returns-then-text-at : goal.returns-then-text-at
returns-then-text-at c =
    let text = c.args.text.now in
    let at = c.loop-at.at in
    let q = c.args.closing in
    let e : get_or (drop at text) 0 0 ≡ q = head_at text at ∙ c.if-text-at.true in
    only_some (Closed (Inner q) q) text (at + 1) (c.loop-at.invariant.closes 1 (closes_here (Inner q) q (drop at text) (room_at text at c.loop-at-test.true) e (closing_lacks q (drop at text) e)))

pub returns-then-text-at-eq10 : goal.returns-then-text-at-eq10
returns-then-text-at-eq10 c =
    let text = c.args.text.now in
    let at = c.loop-at.at in
    let q = c.args.closing in
    let e : get_or (drop at text) 0 0 ≡ 10 = head_at text at ∙ c.if-text-at-eq10.true in
    only_zero (Closed (Inner q) q) text (c.loop-at.invariant.lacks (closes_nowhere (Inner q) q (drop at text) (λ h. c.if-text-at.false (sym (head_at text at) ∙ h.1)) (newline_lacks q (drop at text) e)))

pub loop-at-preserved : goal.loop-at-preserved
loop-at-preserved c =
    let text = c.args.text.now in
    let at = c.loop-at.at in
    let q = c.args.closing in
    let part = inner_here q (drop at text) (room_at text at c.loop-at-test.true) (λ h. c.if-text-at.false (sym (head_at text at) ∙ h)) (λ h. c.if-text-at-eq10.false (sym (head_at text at) ∙ h)) in
    let more = one_more (Inner q) q text at 1 c.loop-at.invariant.within (λ h. c.if-text-at.false (sym (head_at text at) ∙ h)) part c.loop-at.invariant.closes c.loop-at.invariant.lacks in
    record { within = more.0; closes = more.1; lacks = more.2 }

pub returns : goal.returns
returns c =
    let text = c.args.text.now in
    let at = c.loop-at.at in
    let q = c.args.closing in
    let l = end_at text at c.loop-at-test.false in
    only_zero (Closed (Inner q) q) text (c.loop-at.invariant.lacks (closes_nowhere (Inner q) q (drop at text) (λ h. omega (arith, h.0, l)) (inner_empty q (drop at text) l)))
