use Rattle.std.proofs.Common.{◌≡◌, ◌∙◌, ◌||◌, ◌+◌, ◌*◌, ◌/◌, ◌%◌, nat_eq, arith, sym}
use Rattle.ppmacro.specs.code.Nodes.{member}
use Rattle.ppmacro.proofs.Tries.{member-inserted}
use Rattle.ppmacro.proofs.ExistingSets.{more-words}
use Rattle.ppmacro.proofs.hide_sets.nodes.insert.Goals as goal

pub returns-clause-set : goal.returns-clause-set
returns-clause-set c = λ x.
    let old = c.args.nodes.now.keys in
    let n = c.args.number in
    let whole : n / 64 * 64 + n % 64 ≡ n = omega arith in
    member-inserted old c.insert_bit.new.nodes.keys c.args.set c.in_ok-more.more (n / 64) (n % 64) (omega arith) c.in_ok-more.ensures.set x ∙ (λ i. nat_eq x (whole i) || member old c.args.set x)

pub returns-clause-there : goal.returns-clause-there
returns-clause-there c = λ n l h.
    let old = c.args.nodes.now.keys in
    let x = c.args.number in
    let whole : x / 64 * 64 + x % 64 ≡ x = omega arith in
    c.in_ok-more.ensures.there n l (more-words old n c.args.set (x / 64) (x % 64) c.requires.pool l c.requires.known (omega arith) (λ y. h y ∙ (λ i. nat_eq y (sym whole i) || member old c.args.set y)))

pub returns-in_err-more-clause-there : goal.returns-in_err-more-clause-there
returns-in_err-more-clause-there c = λ n l h.
    let old = c.args.nodes.now.keys in
    let x = c.args.number in
    let whole : x / 64 * 64 + x % 64 ≡ x = omega arith in
    absurd (cc (c.in_err-more.ensures.there n l
    (more-words old n c.args.set (x / 64) (x % 64) c.requires.pool l c.requires.known (omega arith) (λ y. h y ∙ (λ i. nat_eq y (sym whole i) || member old c.args.set y)))).0)
