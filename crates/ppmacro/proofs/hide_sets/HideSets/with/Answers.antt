use Rattle.std.proofs.Common.{◌≡◌, ◌<◌, [], length, get_or, refl, sym, ap, ◌∙◌, subst, Ok}
use Rattle.std.specs.HashSet.{hasher_of}
use Rattle.ppmacro.specs.code.Members.{hide_sets}
use Rattle.ppmacro.proofs.HideSetViews.{node-asked, more-there, more-seen, node-known, keeps-named, selected-named, with-seen}
use Rattle.ppmacro.specs.HideSets.{KeepsSets}
use Rattle.ppmacro.proofs.PoolGrowthLemmas.{keeps-all}
use Rattle.ppmacro.proofs.CachedAdditions.{additions-keep, is-addition, names-grown}
use Rattle.ppmacro.proofs.NodeHideSets.{known-at, more-named}
use Rattle.ppmacro.proofs.hide_sets.HideSets.with.Goals as goal

pub insert-requires-clause-known : goal.insert-requires-clause-known
insert-requires-clause-known c = node-known c.self.inside.names.names c.self.inside.nodes.keys c.args.self.now c.hide.inside.number c.args.hide (ap (λ s. s.sets) c.self.view_is) c.hide.view_is c.requires

pub invariant_of-self-in_err-number : goal.invariant_of-self-in_err-number
invariant_of-self-in_err-number c = record {
  consistent = selected-named c.self.inside.names.names c.in_ok-named.ensures.keeps.0 c.number_for.new.self.names c.self.inside.nodes.keys
      c.insert.new.nodes.keys c.self.inside.unions.results c.self.inside.intersections.results c.in_ok-named.named c.in_ok-named.ensures.keeps.1 c.in_ok-named.ensures.distinct
      c.in_ok-named.ensures.found.0 c.self.invariant.consistent c.insert.ensures.pool c.insert.ensures.keeps c.insert.ensures.bounded;
  additions = additions-keep (length c.self.inside.names.names) (length c.number_for.new.self.names) c.self.inside.nodes.keys c.insert.new.nodes.keys c.self.inside.additions
      (names-grown c.self.inside.names.names c.in_ok-named.ensures.keeps.0 c.number_for.new.self.names c.in_ok-named.ensures.keeps.1) c.self.invariant.consistent.pool
      c.insert.ensures.keeps c.self.invariant.additions;
  names_hashing = c.in_ok-named.ensures.hashing ∙ c.self.invariant.names_hashing ∙ sym c.insert.ensures.hashing;
  unions_hashing = c.self.invariant.unions_hashing ∙ sym c.insert.ensures.hashing;
  intersections_hashing = c.self.invariant.intersections_hashing ∙ sym c.insert.ensures.hashing;
}

pub invariant_of-self-2 : goal.invariant_of-self-2
invariant_of-self-2 c = record {
  consistent = selected-named c.self.inside.names.names c.in_ok-named.ensures.keeps.0 c.number_for.new.self.names c.self.inside.nodes.keys c.insert.new.nodes.keys
      c.self.inside.unions.results c.self.inside.intersections.results c.in_ok-named.named c.in_ok-named.ensures.keeps.1 c.in_ok-named.ensures.distinct c.in_ok-named.ensures.found.0
      c.self.invariant.consistent c.insert.ensures.pool c.insert.ensures.keeps c.insert.ensures.bounded;
  additions = c.put.ensures (length c.number_for.new.self.names) c.insert.new.nodes.keys
      (additions-keep (length c.self.inside.names.names) (length c.number_for.new.self.names) c.self.inside.nodes.keys c.insert.new.nodes.keys c.self.inside.additions
      (names-grown c.self.inside.names.names c.in_ok-named.ensures.keeps.0 c.number_for.new.self.names c.in_ok-named.ensures.keeps.1) c.self.invariant.consistent.pool
      c.insert.ensures.keeps c.self.invariant.additions)
      (is-addition (length c.number_for.new.self.names) c.self.inside.nodes.keys c.insert.new.nodes.keys _ c.self.invariant.consistent.pool c.insert.ensures.keeps
      (node-asked c.self.inside c.self.view_is c.hide.view_is c.requires) c.in_ok-named.ensures.found.0 c.in_ok-number.ensures.known c.in_ok-number.ensures.set);
  names_hashing = c.in_ok-named.ensures.hashing ∙ c.self.invariant.names_hashing ∙ sym c.insert.ensures.hashing;
  unions_hashing = c.self.invariant.unions_hashing ∙ sym c.insert.ensures.hashing;
  intersections_hashing = c.self.invariant.intersections_hashing ∙ sym c.insert.ensures.hashing;
}

pub returns-in_err-named-clause-keeps : goal.returns-in_err-named-clause-keeps
returns-in_err-named-clause-keeps c =
    let same = (λ i. record {
      sets = hide_sets (c.in_err-named.ensures.err i).names c.self.inside.nodes.keys;
      unions = c.self.inside.unions.results;
      intersections = c.self.inside.intersections.results;
      hashing = hasher_of c.self.inside.nodes;
    }) ∙ c.self.view_is in
    subst (KeepsSets c.args.self.now) (sym same) (keeps-all c.args.self.now)

pub returns-in_err-number-clause-keeps : goal.returns-in_err-number-clause-keeps
returns-in_err-number-clause-keeps c =
    keeps-named c.self.inside.names.names c.in_ok-named.ensures.keeps.0 c.number_for.new.self.names c.self.inside.nodes.keys c.insert.new.nodes.keys c.self.inside.unions.results
    c.self.inside.intersections.results (hasher_of c.self.inside.nodes) (hasher_of c.insert.new.nodes) c.args.self.now _ c.in_ok-named.ensures.keeps.1 c.insert.ensures.hashing
    c.self.view_is refl c.self.invariant.consistent c.insert.ensures.keeps

pub returns-clause-keeps : goal.returns-clause-keeps
returns-clause-keeps c =
    keeps-named c.self.inside.names.names c.in_ok-named.ensures.keeps.0 c.number_for.new.self.names c.self.inside.nodes.keys c.insert.new.nodes.keys c.self.inside.unions.results
    c.self.inside.intersections.results (hasher_of c.self.inside.nodes) (hasher_of c.insert.new.nodes) c.args.self.now _ c.in_ok-named.ensures.keeps.1 c.insert.ensures.hashing
    c.self.view_is refl c.self.invariant.consistent c.insert.ensures.keeps

pub returns-clause-known : goal.returns-clause-known
returns-clause-known c = known-at c.number_for.new.self.names c.insert.new.nodes.keys c.in_ok-number.number c.in_ok-number.ensures.known

pub returns-clause-set : goal.returns-clause-set
returns-clause-set c =
    let names = c.self.inside.names.names in
    let ns = c.self.inside.nodes.keys in
    let sets = ap (λ s. s.sets) c.self.view_is in
    let l = node-known names ns c.args.self.now c.hide.inside.number c.args.hide sets c.hide.view_is c.requires in
    with-seen names c.in_ok-named.ensures.keeps.0 c.number_for.new.self.names ns c.insert.new.nodes.keys c.args.self.now c.hide.inside.number c.args.hide
    c.in_ok-named.named c.in_ok-number.number c.args.name.now c.in_ok-named.ensures.keeps.1 c.in_ok-named.ensures.distinct c.in_ok-named.ensures.found.0
    c.in_ok-named.ensures.found.1 sets c.self.invariant.consistent.bounded c.hide.view_is l c.in_ok-number.ensures.known c.in_ok-number.ensures.set

-- If the resulting set exists already, the call returns its number and changes nothing.

pub returns-in_err-named-clause-there : goal.returns-in_err-named-clause-there
returns-in_err-named-clause-there c = λ n k e.
    let is = more-there c.self.inside n c.args.name.now c.self.view_is c.hide.view_is c.requires k e in
    let named = more-named c.self.inside.names.names c.self.inside.nodes.keys n _ c.args.name.now c.self.invariant.consistent.distinct is in
    absurd (cc (c.in_err-named.ensures.there named).0)

pub returns-in_err-number-clause-there : goal.returns-in_err-number-clause-there
returns-in_err-number-clause-there c = λ n k e.
    let is = more-there c.self.inside n c.args.name.now c.self.view_is c.hide.view_is c.requires k e in
    let named = more-named c.self.inside.names.names c.self.inside.nodes.keys n _ c.args.name.now c.self.invariant.consistent.distinct is in
    let same = (c.in_ok-named.ensures.there named).1 in
    let lx = subst (λ ns. c.in_ok-named.named < length ns.names) same c.in_ok-named.ensures.found.0 in
    let at = subst (λ ns. get_or ns.names c.in_ok-named.named [] ≡ c.args.name.now) same c.in_ok-named.ensures.found.1 in
    let members = more-seen c.self.inside n c.in_ok-named.named c.args.name.now c.self.view_is c.self.invariant.consistent c.hide.view_is c.requires k lx at e in
    absurd (cc (c.in_err-number.ensures.there n (node-asked c.self.inside c.self.view_is refl k) members).0)

pub returns-clause-there : goal.returns-clause-there
returns-clause-there c = λ n k e.
    let is = more-there c.self.inside n c.args.name.now c.self.view_is c.hide.view_is c.requires k e in
    let named = more-named c.self.inside.names.names c.self.inside.nodes.keys n _ c.args.name.now c.self.invariant.consistent.distinct is in
    let same = (c.in_ok-named.ensures.there named).1 in
    let lx = subst (λ ns. c.in_ok-named.named < length ns.names) same c.in_ok-named.ensures.found.0 in
    let at = subst (λ ns. get_or ns.names c.in_ok-named.named [] ≡ c.args.name.now) same c.in_ok-named.ensures.found.1 in
    let members = more-seen c.self.inside n c.in_ok-named.named c.args.name.now c.self.view_is c.self.invariant.consistent c.hide.view_is c.requires k lx at e in
    let found = c.in_ok-number.ensures.there n (node-asked c.self.inside c.self.view_is refl k) members in
    (ap Ok (cc found.0), (λ i. record { sets = hide_sets (same i).names (found.1 i); unions = c.self.inside.unions.results; intersections = c.self.inside.intersections.results; hashing = c.insert.ensures.hashing i }) ∙ c.self.view_is)
