use Rattle.std.proofs.Common.{sym, ◌∙◌, ap, subst, get_or, ◌<◌, length, []}
use Rattle.std.proofs.lemmas.Slice.Eq.{bytes_eq-Decides}
use Rattle.ppmacro.proofs.NameNumbers.{name-got, name-within}
use Rattle.ppmacro.proofs.hide_sets.names.NameNumbers.is_name.Goals as goal

pub returns-in-Some : goal.returns-in-Some
returns-in-Some c = λ t.
    let keys = c.self.inside.names.keys in
    let got = sym c.in-Some.ensures.key in
    let same = (bytes_eq-Decides c.eq.inside.bytes.now c.args.name.now).0 (sym c.eq-in-Some.ensures ∙ t) in (
      subst (λ v. c.args.number < length v.names) c.self.view_is (name-within keys c.args.number _ got),
      ap (λ v. get_or v.names c.args.number []) (sym c.self.view_is) ∙ name-got keys c.args.number _ got ∙ sym (c.eq.view_is ∙ c.key.ensures) ∙ same,
    )
