use Rattle.std.proofs.Common.{◌∙◌, Ok, sym, ap, subst}
use Rattle.std.specs.FinMap as table
use Rattle.ppmacro.specs.code.Defining.{IsEnd}
use Rattle.ppmacro.specs.code.PreparedDefinitions.{IsPrepared}
use Rattle.ppmacro.proofs.TableFreeDefinitions.{Defines, line-defines}
use Rattle.ppmacro.proofs.define_lines.read_defined.Goals as goal

pub prepare-requires : goal.prepare-requires
prepare-requires c =
    let line = c.args.line.now in
    let all = subst (Defines line) (sym c.in_ok-definition.ensures) (line-defines c.args.profile table.empty c.args.at line) in
    subst (λ n. IsEnd n.definition.body line) (sym c.definition.view_is) all.2

pub returns : goal.returns
returns c =
    let line = c.args.line.now in
    let d = c.in_ok-defined.defined in
    let all = subst (Defines line) (sym c.in_ok-definition.ensures) (line-defines c.args.profile table.empty c.args.at line) in
    let definition = ap (λ n. n.definition) (sym c.definition.view_is) ∙ (λ i. record { kind = sym c.in_ok-defined.ensures.kind i; body = sym c.in_ok-defined.ensures.body i }) in
    record {
      some = all.0;
      within = c.in_ok-defined.ensures.within;
      defines = λ t. sym c.in_ok-definition.ensures ∙ (λ i. Ok (record { name = all.1 t i; definition = definition i }));
      prepared = subst (IsPrepared d.definition) (sym c.in_ok-defined.ensures.body) c.in_ok-defined.ensures.prepared;
    }
