use Rattle.std.proofs.Common.{◌≡◌, ◌∙◌, ◌++◌, sym, ap}
use Rattle.std.specs.List.{list_any}
use Rattle.std.specs.Str.{bytes_eq}
use Rattle.std.proofs.lemmas.Slice.Eq.{bytes_eq-Decides}
use Rattle.ppmacro.proofs.NameNumbers.{distinct-names, name-got, names-keep}
use Rattle.ppmacro.proofs.hide_sets.names.NameNumbers.number_for.Goals as goal

pub invariant_of-self-2 : goal.invariant_of-self-2
invariant_of-self-2 c = distinct-names c.insert_full.new.self.keys c.in-Ok.ensures.unique

pub returns-clause-found : goal.returns-clause-found
returns-clause-found c =
    let k = c.in-Ok.ensures.stored in
    let spelled : c.in_ok-text.text.items ≡ c.args.name.now = c.in_ok-text.ensures.items_if_clones_equal (λ x y e. e) in
    (c.in-Ok.ensures.within, name-got c.insert_full.new.self.keys c.in-Ok.number k.0 k.1 ∙ sym ((bytes_eq-Decides c.in_ok-text.text.items k.0).0 k.2) ∙ spelled)

pub returns-clause-keeps : goal.returns-clause-keeps
returns-clause-keeps c =
    let ks = c.self.inside.names.keys in
    let k = names-keep (list_any (λ y. bytes_eq c.in_ok-text.text.items y) ks) ks c.in_ok-text.text.items in
    (k.0, c.in-Ok.ensures.keys ∙ k.1 ∙ ap (λ s. s.names ++ k.0) c.self.view_is)

pub returns-clause-distinct : goal.returns-clause-distinct
returns-clause-distinct c = distinct-names c.insert_full.new.self.keys c.in-Ok.ensures.unique
