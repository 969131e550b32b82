use Rattle.std.proofs.Common.{rules, ◌≡◌, ◌≤◌, ◌-◌, ◌∙◌, ap, length, take, vec_len}
use Rattle.ppmacro.specs.Substitution.{variadic_after_comma}
use Rattle.ppmacro.proofs.JoinLemmas.{argument-absent}
use Rattle.ppmacro.proofs.substituting.append_variadic.Goals as goal

pub returns-in-None : goal.returns-in-None
returns-in-None c =
    let tokens = c.args.tokens.now in
    let absent : length c.args.given.now ≤ c.in-Some.index = search rules in
    let size : vec_len tokens ≡ length tokens.items = tokens.ok.0 in
    rw c.in-Some.is
    (c.pop.ensures.rest ∙ ap (λ n. take (n - 1) tokens.items) size
    ∙ ap (λ o. variadic_after_comma o tokens.items) (argument-absent c.args.given.now c.in-Some.index absent))
