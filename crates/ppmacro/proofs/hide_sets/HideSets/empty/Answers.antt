use Rattle.std.proofs.Common.{refl, ap}
use Rattle.ppmacro.proofs.HideSetViews.{empty-seen, known-seen}
use Rattle.ppmacro.proofs.hide_sets.HideSets.empty.Goals as goal

pub returns-clause-set : goal.returns-clause-set
returns-clause-set c = empty-seen c.self.inside.names.names c.self.inside.nodes.keys c.args.self.now 0 (ap (λ s. s.sets) c.self.view_is) refl c.self.invariant.consistent.pool

pub returns-clause-known : goal.returns-clause-known
returns-clause-known c = known-seen c.self.inside.names.names c.self.inside.nodes.keys c.args.self.now 0 0 (ap (λ s. s.sets) c.self.view_is) refl c.self.invariant.consistent.pool.some
