use Rattle.std.proofs.Common.{◌≡◌, ◌∙◌, Ok, ap, sym}
use Rattle.pptext.specs.Tokens.{fault}
use Rattle.ppmacro.specs.Define.{read_definition, check_body, refusal_of, number_of, with_macro_name}
use Rattle.std.specs.Option.{option_map}
use Rattle.std.specs.FinMap as table
use Rattle.ppmacro.specs.Names.{Macros}
use Rattle.pptext.proofs.ErrorReturns.{raised}
use Rattle.ppmacro.proofs.CheckedDefinitions.{body_refused, body_accepted}
use Rattle.ppmacro.proofs.defining.read_body.Goals as goal

pub returns-in-Some : goal.returns-in-Some
returns-in-Some c =
    let p = c.args.profile in
    let m : Macros = table.empty in
    let at = c.args.defined.at in
    let name = c.args.defined.name.now.text in
    let d = c.in_ok-definition.definition in
    let number = ap (λ b. option_map number_of (refusal_of p m name (record { kind = d.kind; body = b }))) (sym c.as_slice-body.ensures) ∙ sym (c.in_ok-number.ensures name) ∙ c.in-Some.is in
    raised c.refuse.result (fault c.in-Some.number at name) (λ r. r ≡ with_macro_name at name (check_body p m name (read_definition p c.args.line.now))) c.refuse.ensures
    (body_refused p m at name (read_definition p c.args.line.now) d c.in_ok-definition.ensures c.in-Some.number number)

pub returns : goal.returns
returns c =
    let p = c.args.profile in
    let m : Macros = table.empty in
    let at = c.args.defined.at in
    let name = c.args.defined.name.now.text in
    let d = c.in_ok-definition.definition in
    let none = ap (λ b. option_map number_of (refusal_of p m name (record { kind = d.kind; body = b }))) (sym c.as_slice-body.ensures) ∙ sym (c.in_ok-number.ensures name) ∙ c.in-None.is in
    ap (λ n. Ok (record { name = n; definition = d })) c.of.ensures ∙ body_accepted p m at name (read_definition p c.args.line.now) d c.in_ok-definition.ensures none
