use Rattle.std.proofs.Common.{◌≡◌, ◌<◌, drop, get_or, arith, sym, ◌∙◌}
use Rattle.std.proofs.lemmas.List.{take_rest}
use Rattle.pptext.specs.code.Scanning.{OnlyPart, NoPrefix, IsQuoted}
use Rattle.pptext.specs.Spellings.{IsElement}
use Rattle.pptext.proofs.Literals.{closes_here, closes_nowhere, one_more, quote_lacks, empty_lacks, passed_more}
use Rattle.pptext.proofs.LanguagePrefixes.{head_at, room_at, end_at, lacks_nothing}
use Rattle.pptext.proofs.scanning.literals.quoted_rest.Goals as goal

pub returns-then-text-at : goal.returns-then-text-at
returns-then-text-at c =
    let text = c.args.text.now in
    let at = c.loop-at.at in
    let quote = c.args.quote in
    let e : get_or (drop at text) 0 0 ≡ quote = head_at text at ∙ c.if-text-at.true in
    c.loop-at.invariant.closes 1 (closes_here (IsElement quote) quote (drop at text) (room_at text at c.loop-at-test.true) e (quote_lacks quote (drop at text) c.requires e))

pub returns-then-n-eq0 : goal.returns-then-n-eq0
returns-then-n-eq0 c =
    let text = c.args.text.now in
    let at = c.loop-at.at in
    let quote = c.args.quote in
    let p : OnlyPart (IsElement quote) (drop at text) c.element_len-n.result = simp take_rest at c.element_len-n.ensures in
    let none : NoPrefix (IsQuoted quote) (drop at text) = closes_nowhere (IsElement quote) quote (drop at text) (λ h. c.if-text-at.false (sym (head_at text at) ∙ h.1)) (p.0 c.if-n-eq0.true) in
    (c.loop-at.invariant.within, c.loop-at.invariant.lacks none, λ r lt e. c.loop-at.invariant.consumed r lt e none)

pub loop-at-preserved : goal.loop-at-preserved
loop-at-preserved c =
    let text = c.args.text.now in
    let at = c.loop-at.at in
    let quote = c.args.quote in
    let p : OnlyPart (IsElement quote) (drop at text) c.element_len-n.result = simp take_rest at c.element_len-n.ensures in
    let some : 0 < c.element_len-n.result = omega arith in
    let apart = λ (h : get_or (drop at text) 0 0 ≡ quote). c.if-text-at.false (sym (head_at text at) ∙ h) in
    let more = one_more (IsElement quote) quote text at c.element_len-n.result c.loop-at.invariant.within apart (p.1 some) c.loop-at.invariant.closes c.loop-at.invariant.lacks in
    record { within = more.0; closes = more.1; lacks = more.2; consumed = passed_more quote text at c.element_len-n.result c.requires apart (p.1 some) c.loop-at.invariant.consumed }

pub returns : goal.returns
returns c =
    let text = c.args.text.now in
    let at = c.loop-at.at in
    let quote = c.args.quote in
    let l = end_at text at c.loop-at-test.false in
    let none : NoPrefix (IsQuoted quote) (drop at text) = closes_nowhere (IsElement quote) quote (drop at text) (λ h. omega (arith, h.0, l)) (lacks_nothing (IsElement quote) (drop at text) (empty_lacks quote) l) in
    (c.loop-at.invariant.within, c.loop-at.invariant.lacks none, λ r lt e. c.loop-at.invariant.consumed r lt e none)
