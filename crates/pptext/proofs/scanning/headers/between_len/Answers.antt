use Rattle.std.proofs.Common.{◌≡◌, drop, get_or, arith}
use Rattle.std.proofs.lemmas.List.{take_rest}
use Rattle.pptext.specs.code.Scanning.{OnlyPart}
use Rattle.pptext.proofs.Literals.{Closed, Inner, between_none, between_some}
use Rattle.pptext.proofs.scanning.headers.between_len.Goals as goal

pub returns-then-rest-eq0 : goal.returns-then-rest-eq0
returns-then-rest-eq0 c =
    let q : OnlyPart (Closed (Inner c.args.closing) c.args.closing) (drop 2 c.args.text.now) c.between_rest_len-rest.result = simp take_rest at c.between_rest_len-rest.ensures in
    let e : get_or c.args.text.now 0 0 ≡ c.args.opening = omega arith in
    between_none c.args.opening c.args.closing c.args.text.now c.between_rest_len-rest.result c.if-text-lt2.false e c.if-text-closing.false c.if-text-eq10.false q c.if-rest-eq0.true

pub returns : goal.returns
returns c =
    let q : OnlyPart (Closed (Inner c.args.closing) c.args.closing) (drop 2 c.args.text.now) c.between_rest_len-rest.result = simp take_rest at c.between_rest_len-rest.ensures in
    let e : get_or c.args.text.now 0 0 ≡ c.args.opening = omega arith in
    between_some c.args.opening c.args.closing c.args.text.now c.between_rest_len-rest.result c.if-text-lt2.false e c.if-text-closing.false c.if-text-eq10.false q c.if-rest-eq0.false
