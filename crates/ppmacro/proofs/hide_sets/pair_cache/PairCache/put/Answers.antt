use Rattle.std.proofs.Common.{◌≡◌, ◌∙◌, ◌++◌, ◌∷◌, [], None, ap}
use Rattle.indexmap.proofs.CallerLemmas.{insert_entry-new}
use Rattle.ppmacro.specs.PairCache.{same_pair, cached_result}
use Rattle.ppmacro.proofs.hide_sets.pair_cache.PairCache.put.Goals as goal

pub returns-clause-ok : goal.returns-clause-ok
returns-clause-ok c =
    let none : cached_result c.self.inside.results.entries c.args.left c.args.right ≡ None = ap (λ p. cached_result p.results c.args.left c.args.right) c.self.view_is ∙ c.requires in
    c.in-Ok.ensures.entries
    ∙ insert_entry-new same_pair c.self.inside.results (c.args.left, c.args.right) c.args.combined none
    ∙ ap (λ p. p.results ++ ((c.args.left, c.args.right), c.args.combined) ∷ []) c.self.view_is
