use Rattle.std.proofs.Common.{◌≡◌, ◌+◌, ◌-◌, ◌≤◌, length, drop, arith, subst}
use Rattle.std.proofs.lemmas.List.{take_rest, length-drop}
use Rattle.pptext.specs.code.Scanning.{NoPrefix, IsOnly, IsQuoted, AreUnmatched}
use Rattle.pptext.proofs.Literals.{lone_opening, lone_literal}
use Rattle.pptext.proofs.scanning.literals.literal_len.Goals as goal

pub returns-then-unknown_len-text-clause-none : goal.returns-then-unknown_len-text-clause-none
returns-then-unknown_len-text-clause-none c = λ _. lone_opening c.args.quote c.args.text.now c.args.opening (length c.args.text.now - c.args.unknown_len.now) c.requires.some (omega arith) c.requires.last c.requires.unmatched

pub returns-in-Closed-clause-some : goal.returns-in-Closed-clause-some
returns-in-Closed-clause-some c =
    let found : IsOnly (IsQuoted c.args.quote) (drop c.args.opening c.args.text.now) c.in-Closed.n = simp take_rest at c.in-Closed.ensures in
    let e : c.in-Closed.n ≡ c.args.opening + c.in-Closed.n - c.args.opening = omega arith in
    λ _. (omega (arith, found.positive), subst (λ i. IsOnly (IsQuoted c.args.quote) (drop c.args.opening c.args.text.now) i) e found)

pub returns-in-Unmatched-clause-none : goal.returns-in-Unmatched-clause-none
returns-in-Unmatched-clause-none c =
    let found : (c.in-Unmatched.n ≤ length (drop c.args.opening c.args.text.now))
    × NoPrefix (IsQuoted c.args.quote) (drop c.args.opening c.args.text.now)
    × AreUnmatched c.args.quote (drop c.args.opening c.args.text.now) c.in-Unmatched.n =
    simp take_rest at c.in-Unmatched.ensures in
    λ _. found.1

pub returns-in-Unmatched-clause-unmatched : goal.returns-in-Unmatched-clause-unmatched
returns-in-Unmatched-clause-unmatched c =
    let text = c.args.text.now in
    let opening = c.args.opening in
    let n = c.in-Unmatched.n in
    let found : (n ≤ length (drop opening text)) × NoPrefix (IsQuoted c.args.quote) (drop opening text) × AreUnmatched c.args.quote (drop opening text) n = simp take_rest at c.in-Unmatched.ensures in
    let d : length (drop opening text) ≡ length text - opening = length-drop opening text in
    let e : opening + n ≡ length text - (length text - opening - n) = omega (arith, found.0, d) in
    subst (λ i. AreUnmatched c.args.quote text i) e (lone_literal c.args.quote text opening n c.requires.first found.1 found.2)
