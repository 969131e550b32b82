use Rattle.std.proofs.lemmas.Grind.{common_steps}
use Rattle.std.proofs.Common.{◌≡◌, ◌∙◌, sym, ap, Some, arith}
use Rattle.std.specs.FinSet as set
use Rattle.ppmacro.specs.HideSets.{set_at, hidden_names, hide_of}
use Rattle.ppmacro.proofs.AddedNames.{hsadd-set_use, first-within, second-within}
use Rattle.ppmacro.proofs.substituting.hsadd.hsadd_to_two.Goals as goal

pub returns-then-is_subset-clause-is : goal.returns-then-is_subset-clause-is
returns-then-is_subset-clause-is c =
    let s = c.args.sets.now in
    let hidden = c.args.hidden.now in
    let added = set_at s c.args.added in
    let two : hide_of s hidden ≡ set.union (set_at s hidden.hide) (set_at s c.args.extra) = ap (hidden_names s hidden.hide) c.requires.two in
    hsadd-set_use s s hidden c.set_use_with_extra.new.self c.args.used c.hide-hide.result (Some c.args.added) added c.set_use_with_extra.ensures
    ((λ i. set.union (set_at s (c.hide-hide.ensures i)) added)
    ∙ second-within (set_at s hidden.hide) (set_at s c.args.extra) added (c.is_subset.ensures c.if-is_subset.true s c.requires.within)
    ∙ (λ i. set.union (sym two i) added))

pub returns-then-is_subset-2-clause-is : goal.returns-then-is_subset-2-clause-is
returns-then-is_subset-2-clause-is c =
    let s = c.args.sets.now in
    let hidden = c.args.hidden.now in
    let added = set_at s c.args.added in
    let two : hide_of s hidden ≡ set.union (set_at s hidden.hide) (set_at s c.args.extra) = ap (hidden_names s hidden.hide) c.requires.two in
    let within : set.union (set_at s hidden.hide) added ≡ added = (λ i. set.union (set_at s (sym c.hide-hide.ensures i)) added) ∙ c.is_subset-2.ensures c.if-is_subset-2.true s c.requires.within in
    hsadd-set_use s s hidden c.set_use_with_extra-then-is_subset-2.new.self c.args.used c.args.extra (Some c.args.added) added c.set_use_with_extra-then-is_subset-2.ensures
    (first-within (set_at s hidden.hide) (set_at s c.args.extra) added within ∙ (λ i. set.union (sym two i) added))

pub returns-clause-is : goal.returns-clause-is
returns-clause-is c = grind (arith, common_steps)
