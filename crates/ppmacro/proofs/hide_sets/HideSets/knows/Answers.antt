use Rattle.std.proofs.Common.{rules, ◌<◌, ◌↔◌, IsTrue, nat_lt, length, subst, sym, ap}
use Rattle.ppmacro.proofs.HideSetViews.{known-seen, node-known}
use Rattle.ppmacro.proofs.hide_sets.HideSets.knows.Goals as goal

pub returns : goal.returns
returns c =
    let names = c.self.inside.names.names in
    let ns = c.self.inside.nodes.keys in
    let sets = ap (λ s. s.sets) c.self.view_is in
    let tests : IsTrue (nat_lt c.hide.inside.number (length ns)) ↔ (c.hide.inside.number < length ns) = search rules in
    let is : IsTrue (nat_lt c.hide.inside.number c.len.result) ↔ (c.hide.inside.number < length ns) = subst (λ k. IsTrue (nat_lt c.hide.inside.number k) ↔ (c.hide.inside.number < length ns)) (sym c.len.ensures.len) tests in (
      λ t. known-seen names ns c.args.self.now c.hide.inside.number c.args.hide sets c.hide.view_is (is.0 t),
      λ k. is.1 (node-known names ns c.args.self.now c.hide.inside.number c.args.hide sets c.hide.view_is k),
    )
