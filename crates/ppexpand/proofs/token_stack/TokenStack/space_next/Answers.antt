use Rattle.std.proofs.lemmas.Grind.{common_steps}
use Rattle.std.proofs.Common.{◌∙◌, ◌-◌, ◌<◌, ◌≤◌, suc, length, true, vec_len, ap, sym, arith}
use Rattle.ppexpand.proofs.SpaceFlags.{spaced-top, with_space}
use Rattle.ppexpand.specs.code.Lists.{spaced}
use Rattle.ppexpand.proofs.token_stack.TokenStack.space_next.Goals as goal

pub returns-in-Some : goal.returns-in-Some
returns-in-Some c =
    let v = c.self.inside.pushed in
    let one : 0 < length v.items = c.in-Some.ensures.item.3.0 in
    let low : vec_len v - 1 < length v.items = omega arith in
    let last : length v.items ≤ suc (vec_len v - 1) = omega arith in
    spaced-top v.items (vec_len v - 1) c.set_space.new.self c.in-Some.last.now (spaced c.self.inside.pending c.self.inside.below) low last (c.set_space.ensures ∙ ap with_space c.in-Some.ensures.item.1)
    ∙ ap (spaced true) c.self.view_is
    ∙ ap (λ b. spaced b c.args.self.now) (sym c.if-not-pending.false)

pub returns : goal.returns
returns c = grind (arith, common_steps)
