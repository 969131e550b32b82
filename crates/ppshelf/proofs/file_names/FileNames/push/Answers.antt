use Rattle.std.proofs.Common.{◌≡◌, List, ℕ, true, sym, ap, subst, refl, ◌∙◌}
use Rattle.std.specs.String.{string_bytes}
use Rattle.ppshelf.specs.Names.{IsAppended, is_file_name}
use Rattle.ppshelf.specs.NamesView.{NamesView}
use Rattle.ppshelf.proofs.NameRows.{pushed}
use Rattle.ppshelf.proofs.file_names.FileNames.push.Goals as goal

pub returns-clause-put : goal.returns-clause-put
returns-clause-put c =
    let keys = c.self.inside.names.keys in
    let after = c.insert.new.self.keys in
    let new = c.in_ok-new.new in
    let value = c.new.result in
    let form : is_file_name value ≡ true = ap is_file_name (c.new.ensures ∙ sym c.as_bytes.ensures.value) ∙ (sym c.is_file_name.ensures ∙ c.if-not-is_file_name.false) in
    let P : List ℕ → List (List ℕ) → Type 0 = λ name names. IsAppended names name new after in
    subst (P (string_bytes c.args.name)) (ap (λ (n : NamesView). n.names) c.self.view_is)
    (subst (λ name. P name keys) c.new.ensures (pushed value keys after new _ form refl c.in_ok-new.ensures.added c.in_ok-new.ensures.keys))
