use Rattle.std.proofs.Common.{◌≡◌, ◌∙◌, refl, sym, subst}
use Rattle.ppmacro.specs.PairCache.{cached_result}
use Rattle.ppmacro.specs.code.Operations.{member_rule}
use Rattle.ppmacro.specs.code.PoolInvariant.{AreCachedResults}
use Rattle.ppmacro.proofs.Tries.{sets_are_unique, member-member_rule}
use Rattle.ppmacro.proofs.CachedResults.{known-is, unknown, known-by, results-keep, results-put, combined-put, is-combined}
use Rattle.ppmacro.proofs.ExistingSets.{combine-words, refused}
use Rattle.ppmacro.proofs.hide_sets.nodes.combine.Goals as goal

pub returns-in-Some-clause-known : goal.returns-in-Some-clause-known
returns-in-Some-clause-known c = (known-is c.args.operation c.args.nodes.now.keys c.args.pairs.now.results c.args.one c.args.two c.in-Some.number c.requires.pool
    c.requires.results c.requires.one c.requires.two (sym c.known.ensures ∙ c.in-Some.is)).within

pub returns-in-Some-clause-set : goal.returns-in-Some-clause-set
returns-in-Some-clause-set c = (known-is c.args.operation c.args.nodes.now.keys c.args.pairs.now.results c.args.one c.args.two c.in-Some.number c.requires.pool
    c.requires.results c.requires.one c.requires.two (sym c.known.ensures ∙ c.in-Some.is)).is

pub returns-in_err-both-in-None-clause-results : goal.returns-in_err-both-in-None-clause-results
returns-in_err-both-in-None-clause-results c = results-keep (member_rule c.args.operation) c.args.nodes.now.keys c.compute.new.nodes.keys c.args.pairs.now.results c.requires.pool c.compute.ensures.keeps c.requires.results

pub returns-in_err-put-in-None-clause-results : goal.returns-in_err-put-in-None-clause-results
returns-in_err-put-in-None-clause-results c =
    subst (λ p. AreCachedResults (member_rule c.args.operation) c.compute.new.nodes.keys p.results) (sym c.in_err-put-in-None.ensures.err)
    (results-keep (member_rule c.args.operation) c.args.nodes.now.keys c.compute.new.nodes.keys c.args.pairs.now.results c.requires.pool c.compute.ensures.keeps
    c.requires.results)

pub returns-in_ok-put-in-None-clause-set : goal.returns-in_ok-put-in-None-clause-set
returns-in_ok-put-in-None-clause-set c = member-member_rule c.args.operation c.args.nodes.now.keys c.compute.new.nodes.keys c.args.one c.args.two c.in_ok-both-in-None.both c.in_ok-both-in-None.ensures.set

pub returns-in_ok-put-in-None-clause-results : goal.returns-in_ok-put-in-None-clause-results
returns-in_ok-put-in-None-clause-results c =
    let old = c.args.nodes.now.keys in
    let new = c.compute.new.nodes.keys in
    subst (AreCachedResults (member_rule c.args.operation) new) (sym c.in_ok-put-in-None.ensures.ok)
    (results-put (member_rule c.args.operation) new c.args.pairs.now.results ((c.args.one, c.args.two), c.in_ok-both-in-None.both)
    (results-keep (member_rule c.args.operation) old new c.args.pairs.now.results c.requires.pool c.compute.ensures.keeps c.requires.results)
    (is-combined (member_rule c.args.operation) old new c.args.one c.args.two c.in_ok-both-in-None.both c.requires.pool c.compute.ensures.keeps c.requires.one
    c.requires.two c.in_ok-both-in-None.ensures.known (returns-in_ok-put-in-None-clause-set c)))

pub returns-in_ok-put-in-None-clause-remembered : goal.returns-in_ok-put-in-None-clause-remembered
returns-in_ok-put-in-None-clause-remembered c =
    let k = unknown c.args.operation c.args.pairs.now.results c.args.one c.args.two (sym c.known.ensures ∙ c.in-None.is) in
    known-by c.args.operation c.args.pairs.now.results c.put.new.self.results c.args.one c.args.two c.in_ok-both-in-None.both k
    ((λ i. cached_result (c.in_ok-put-in-None.ensures.ok i) c.args.one c.args.two) ∙ combined-put c.args.pairs.now.results c.args.one c.args.two c.in_ok-both-in-None.both k.none)

pub returns-in-Some-clause-there : goal.returns-in-Some-clause-there
returns-in-Some-clause-there c = λ n l h.
    let old = c.args.nodes.now.keys in
    (sets_are_unique old c.in-Some.number n c.requires.pool (returns-in-Some-clause-known c) l (λ x. returns-in-Some-clause-set c x ∙ sym (h x)), refl, tt)

pub returns-in_err-both-in-None-clause-there : goal.returns-in_err-both-in-None-clause-there
returns-in_err-both-in-None-clause-there c = λ n l h.
    absurd (cc (c.in_err-both-in-None.ensures.there n l (combine-words c.args.operation c.args.nodes.now.keys n c.args.one c.args.two c.requires.pool l c.requires.one c.requires.two h)).0)

pub returns-in_err-put-in-None-clause-there : goal.returns-in_err-put-in-None-clause-there
returns-in_err-put-in-None-clause-there c = λ n l h.
    let made = c.in_ok-both-in-None.ensures.there n l (combine-words c.args.operation c.args.nodes.now.keys n c.args.one c.args.two c.requires.pool l c.requires.one c.requires.two h) in
    let told = refused c.from_residual-in_err-put-in-None.result (λ m. m ≡ n) (c.put.new.self ≡ c.args.pairs.now) c.from_residual-in_err-put-in-None.ensures.0 c.in_err-put-in-None.ensures.err in
    (told.0, made.1, told.1)

pub returns-in_ok-put-in-None-clause-there : goal.returns-in_ok-put-in-None-clause-there
returns-in_ok-put-in-None-clause-there c = λ n l h.
    let made = c.in_ok-both-in-None.ensures.there n l (combine-words c.args.operation c.args.nodes.now.keys n c.args.one c.args.two c.requires.pool l c.requires.one c.requires.two h) in
    (cc made.0, made.1, tt)
