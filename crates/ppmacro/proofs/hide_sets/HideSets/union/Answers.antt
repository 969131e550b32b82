use Rattle.std.proofs.Common.{◌≡◌, length, arith, ◌∙◌, refl, sym, ap}
use Rattle.ppmacro.specs.code.Members.{hide_sets}
use Rattle.ppmacro.specs.code.Operations.{Union}
use Rattle.ppmacro.proofs.PoolGrowthLemmas.{pairs-are}
use Rattle.ppmacro.proofs.HideSetViews.{both-seen, node-asked, keeps-seen, made-seen, selected-made}
use Rattle.ppmacro.proofs.CachedAdditions.{additions-keep}
use Rattle.ppmacro.proofs.NodeHideSets.{known-at}
use Rattle.ppmacro.proofs.ExistingSets.{refused}
use Rattle.ppmacro.proofs.hide_sets.HideSets.union.Goals as goal

pub combine-requires-clause-one : goal.combine-requires-clause-one
combine-requires-clause-one c = node-asked c.self.inside c.self.view_is c.left.view_is c.requires.left

pub combine-requires-clause-two : goal.combine-requires-clause-two
combine-requires-clause-two c = node-asked c.self.inside c.self.view_is c.right.view_is c.requires.right

pub invariant_of-self : goal.invariant_of-self
invariant_of-self c =
    record {
      consistent = selected-made Union c.self.inside c.self.invariant.consistent c.combine.ensures.pool c.combine.ensures.keeps c.combine.ensures.bounded c.combine.ensures.results;
      additions = additions-keep (length c.self.inside.names.names) (length c.self.inside.names.names) c.self.inside.nodes.keys c.combine.new.nodes.keys
          c.self.inside.additions (omega arith) c.self.invariant.consistent.pool c.combine.ensures.keeps c.self.invariant.additions;
      names_hashing = c.self.invariant.names_hashing ∙ sym c.combine.ensures.hashing;
      unions_hashing = c.combine.ensures.pairs_hashing ∙ c.self.invariant.unions_hashing ∙ sym c.combine.ensures.hashing;
      intersections_hashing = c.self.invariant.intersections_hashing ∙ sym c.combine.ensures.hashing;
    }

pub invariant_of-self-2 : goal.invariant_of-self-2
invariant_of-self-2 c =
    record {
      consistent = selected-made Union c.self.inside c.self.invariant.consistent c.combine.ensures.pool c.combine.ensures.keeps c.combine.ensures.bounded c.combine.ensures.results;
      additions = additions-keep (length c.self.inside.names.names) (length c.self.inside.names.names) c.self.inside.nodes.keys c.combine.new.nodes.keys
          c.self.inside.additions (omega arith) c.self.invariant.consistent.pool c.combine.ensures.keeps c.self.invariant.additions;
      names_hashing = c.self.invariant.names_hashing ∙ sym c.combine.ensures.hashing;
      unions_hashing = c.combine.ensures.pairs_hashing ∙ c.self.invariant.unions_hashing ∙ sym c.combine.ensures.hashing;
      intersections_hashing = c.self.invariant.intersections_hashing ∙ sym c.combine.ensures.hashing;
    }

pub returns-in_err-number-clause-keeps : goal.returns-in_err-number-clause-keeps
returns-in_err-number-clause-keeps c =
    keeps-seen c.self.inside c.combine.new.nodes.keys c.self.view_is c.combine.ensures.hashing c.self.invariant.consistent.pool c.in_err-number.ensures.keeps c.combine.ensures.pairs (pairs-are refl)

pub returns-clause-keeps : goal.returns-clause-keeps
returns-clause-keeps c = keeps-seen c.self.inside c.combine.new.nodes.keys c.self.view_is c.combine.ensures.hashing c.self.invariant.consistent.pool c.in_ok-number.ensures.keeps c.combine.ensures.pairs (pairs-are refl)

pub returns-clause-known : goal.returns-clause-known
returns-clause-known c = known-at c.self.inside.names.names c.combine.new.nodes.keys c.in_ok-number.number c.in_ok-number.ensures.known

pub returns-clause-set : goal.returns-clause-set
returns-clause-set c =
    made-seen Union c.self.inside c.combine.new.nodes.keys c.self.view_is c.self.invariant.consistent.distinct c.left.view_is c.right.view_is c.requires.left
    c.requires.right c.in_ok-number.ensures.known c.in_ok-number.ensures.set

pub returns-in_err-number-clause-there : goal.returns-in_err-number-clause-there
returns-in_err-number-clause-there c = λ n k e.
    let members = both-seen Union c.self.inside n c.self.view_is c.self.invariant.consistent c.left.view_is c.right.view_is c.requires.left c.requires.right k e in
    let found = c.in_err-number.ensures.there n (node-asked c.self.inside c.self.view_is refl k) members in
    let same = (λ i. record { sets = hide_sets c.self.inside.names.names (found.1 i); unions = (found.2 i).results; intersections = c.self.inside.intersections.results; hashing = c.combine.ensures.hashing i }) ∙ c.self.view_is in
    let told = refused c.from_residual.result (λ m. m ≡ n) _ c.from_residual.ensures.0 same in
    (told.0, ap (λ v. v.sets) same, told.1)

pub returns-clause-there : goal.returns-clause-there
returns-clause-there c = λ n k e.
    let members = both-seen Union c.self.inside n c.self.view_is c.self.invariant.consistent c.left.view_is c.right.view_is c.requires.left c.requires.right k e in
    let found = c.in_ok-number.ensures.there n (node-asked c.self.inside c.self.view_is refl k) members in
    (found.0, (λ i. hide_sets c.self.inside.names.names (found.1 i)) ∙ ap (λ v. v.sets) c.self.view_is, tt)
