use Rattle.std.proofs.Common.{◌≡◌, ◌∙◌, sym, ap}
use Rattle.std.proofs.lemmas.List.{take_rest}
use Rattle.ppmacro.specs.Define.{insert_definition, after_define}
use Rattle.ppmacro.specs.code.Defining.{unless_conflicting}
use Rattle.ppmacro.proofs.TableFreeDefinitions.{conflict-last}
use Rattle.ppmacro.proofs.define_lines.define_as.Goals as goal

pub returns-clause-defined : goal.returns-clause-defined
returns-clause-defined c =
    let m = c.args.table.now.macros in
    let p = c.args.profile in
    let at = c.args.at in
    let line = c.args.line.now in
    let defined = c.args.defined.now in
    let shared = simp take_rest at c.shared-definition.ensures in
    let final : insert_definition m (unless_conflicting p m at (record { name = c.as_bytes-name.result.now; definition = c.shared-definition.result })) ≡ after_define p m at line =
    (λ i. insert_definition m (unless_conflicting p m at (record { name = c.as_bytes-name.ensures i; definition = shared i })))
    ∙ ap (insert_definition m) (sym (conflict-last p m at line _ (c.requires.defines c.index-line-0.result))) in
    rw final at c.insert_definition.ensures.defined
