use Rattle.std.proofs.Common.{rules, ◌≡◌, ◌∙◌, sym, ap, None}
use Rattle.std.specs.FinSet as set
use Rattle.ppmacro.specs.HideSets.{set_at, hidden_names, hide_of}
use Rattle.ppmacro.proofs.NodeHideSets.{union-none}
use Rattle.ppmacro.proofs.AddedNames.{hsadd-set_use}
use Rattle.ppmacro.proofs.substituting.hsadd.hsadd_to_one.Goals as goal

pub returns-then-eq-clause-is : goal.returns-then-eq-clause-is
returns-then-eq-clause-is c =
    let s = c.args.sets.now in
    let hidden = c.args.hidden.now in
    let added = set_at s c.args.added in
    let same : c.hide-hide.result ≡ c.empty.result = search rules in
    let none : set_at s hidden.hide ≡ set.empty = ap (set_at s) (sym c.hide-hide.ensures ∙ same) ∙ c.empty.ensures.set in
    let one : hide_of s hidden ≡ set_at s hidden.hide = ap (hidden_names s hidden.hide) c.requires.one in
    hsadd-set_use s s hidden c.set_use.new.self c.args.used c.args.added None added c.set_use.ensures
    (sym ((λ i. set.union ((one ∙ none) i) added) ∙ union-none added))
