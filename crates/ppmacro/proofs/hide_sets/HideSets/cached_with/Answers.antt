use Rattle.std.proofs.Common.{length, refl, sym, ap, ◌∙◌}
use Rattle.ppmacro.proofs.HideSetViews.{cached-seen, known-seen, sets_are_unique-seen}
use Rattle.ppmacro.proofs.hide_sets.HideSets.cached_with.Goals as goal

pub returns-clause-set : goal.returns-clause-set
returns-clause-set c =
    let cached = c.in_ok-addition.ensures (length c.self.inside.names.names) c.self.inside.nodes.keys c.self.invariant.additions in
    let named = c.if-not-is_name.ensures refl in
    cached-seen c.self.inside c.in_ok-addition.addition c.args.name.now c.self.view_is c.self.invariant.consistent cached (c.if-addition-hide.false ∙ c.hide.view_is) named.1

pub returns-clause-known : goal.returns-clause-known
returns-clause-known c =
    let cached = c.in_ok-addition.ensures (length c.self.inside.names.names) c.self.inside.nodes.keys c.self.invariant.additions in
    known-seen c.self.inside.names.names c.self.inside.nodes.keys c.args.self.now c.in_ok-addition.addition.result _ (ap (λ v. v.sets) c.self.view_is) refl cached.within

pub returns-clause-unique : goal.returns-clause-unique
returns-clause-unique c = λ n k e.
    let sets = ap (λ v. v.sets) c.self.view_is in
    sets_are_unique-seen c.self.inside.names.names c.self.inside.nodes.keys c.self.inside.unions.results c.self.inside.intersections.results
    c.args.self.now c.in_ok-addition.addition.result n sets c.self.invariant.consistent (returns-clause-known c) k (returns-clause-set c ∙ sym e)
