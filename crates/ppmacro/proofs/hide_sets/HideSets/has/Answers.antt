use Rattle.std.proofs.Common.{◌∙◌, ap, sym}
use Rattle.std.specs.Ordering.{nat_cmp}
use Rattle.std.specs.Cmp.Lexicographic.{slice_cmp}
use Rattle.std.specs.FinSet as set
use Rattle.ppmacro.proofs.HideSetViews.{node-known, set-seen, empty-seen}
use Rattle.ppmacro.proofs.NodeHideSets.{has-own, has-none}
use Rattle.ppmacro.proofs.hide_sets.HideSets.has.Goals as goal

pub has-requires-clause-known : goal.has-requires-clause-known
has-requires-clause-known c = node-known c.self.inside.names.names c.self.inside.nodes.keys c.args.self.now c.hide.inside.number c.args.hide (ap (λ s. s.sets) c.self.view_is) c.hide.view_is c.requires

pub returns-then-hide-eq0 : goal.returns-then-hide-eq0
returns-then-hide-eq0 c =
    let none = empty-seen c.self.inside.names.names c.self.inside.nodes.keys c.args.self.now c.args.hide (ap (λ s. s.sets) c.self.view_is) (sym c.if-hide-eq0.true ∙ c.hide.view_is) c.self.invariant.consistent.pool in
    sym (ap (λ s. set.contains s c.args.name.now) none ∙ set.contains-empty (slice_cmp nat_cmp) c.args.name.now)

pub returns-in-Some : goal.returns-in-Some
returns-in-Some c =
    let names = c.self.inside.names.names in
    let ns = c.self.inside.nodes.keys in
    let sets = ap (λ s. s.sets) c.self.view_is in
    let l = node-known names ns c.args.self.now c.hide.inside.number c.args.hide sets c.hide.view_is c.requires in
    let found = c.in-Some.ensures.found in
    c.has.ensures
    ∙ has-own names ns c.hide.inside.number c.in-Some.number c.args.name.now c.self.invariant.consistent.distinct found.0 found.1
    ∙ ap (λ s. set.contains s c.args.name.now) (set-seen names ns c.args.self.now c.hide.inside.number c.args.hide sets c.hide.view_is l)

pub returns-in-None : goal.returns-in-None
returns-in-None c =
    let names = c.self.inside.names.names in
    let ns = c.self.inside.nodes.keys in
    let sets = ap (λ s. s.sets) c.self.view_is in
    let l = node-known names ns c.args.self.now c.hide.inside.number c.args.hide sets c.hide.view_is c.requires in
    has-none names ns c.hide.inside.number c.args.name.now c.self.invariant.consistent.distinct c.in-None.ensures.none
    ∙ ap (λ s. set.contains s c.args.name.now) (set-seen names ns c.args.self.now c.hide.inside.number c.args.hide sets c.hide.view_is l)
