use Rattle.std.proofs.Common.{◌≡◌, sym, ap, subst, ◌<◌, length, get_or, [], false}
use Rattle.std.specs.Option.{IfSome, IfNone}
use Rattle.std.specs.List.{AllByRecursion}
use Rattle.ppmacro.specs.code.Members.{same_name}
use Rattle.ppmacro.proofs.NameNumbers.{Found, found-at, if-found, if-none}
use Rattle.ppmacro.proofs.hide_sets.names.NameNumbers.number_of.Goals as goal

pub returns-clause-found : goal.returns-clause-found
returns-clause-found c =
    let ks = c.self.inside.names.keys in
    let q = c.args.name.now in
    let h = subst (Found q 0 ks) (sym c.get_index_of.ensures.index) (found-at q ks) in
    subst (λ xs. IfSome c.get_index_of.result (λ n. (n < length xs) × (get_or xs n [] ≡ q))) (ap (λ s. s.names) c.self.view_is) (if-found q ks c.get_index_of.result h)

pub returns-clause-none : goal.returns-clause-none
returns-clause-none c =
    let ks = c.self.inside.names.keys in
    let q = c.args.name.now in
    let h = subst (Found q 0 ks) (sym c.get_index_of.ensures.index) (found-at q ks) in
    subst (λ xs. IfNone c.get_index_of.result (AllByRecursion (λ y. same_name q y ≡ false) xs)) (ap (λ s. s.names) c.self.view_is) (if-none q ks c.get_index_of.result h)
