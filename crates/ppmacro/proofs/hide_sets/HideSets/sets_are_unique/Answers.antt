use Rattle.std.proofs.Common.{ap}
use Rattle.ppmacro.proofs.HideSetViews.{sets_are_unique-seen}
use Rattle.ppmacro.proofs.hide_sets.HideSets.sets_are_unique.Goals as goal

pub returns : goal.returns
returns c = λ m n km kn e. sets_are_unique-seen c.self.inside.names.names c.self.inside.nodes.keys c.self.inside.unions.results c.self.inside.intersections.results
    c.args.self.now m n (ap (λ s. s.sets) c.self.view_is) c.self.invariant.consistent km kn e
