use Rattle.std.proofs.Common.{◌≡◌, List, ◌∷◌, true, false, drop, refl, sym, ap, subst, ◌∙◌, Result}
use Rattle.std.proofs.lemmas.List.{take_rest}
use Rattle.std.specs.FinMap as table
use Rattle.pptext.specs.declared.sources.Profile.{Profile}
use Rattle.pptext.specs.declared.tokens.Fault.{Fault}
use Rattle.pptext.specs.declared.tokens.Place.{Place}
use Rattle.pptext.specs.declared.tokens.Token.{Token}
use Rattle.pptext.specs.Tokens.{is_identifier}
use Rattle.pptext.specs.Errors.{UnlessOutOfMemory}
use Rattle.ppmacro.specs.Names.{Macros}
use Rattle.ppmacro.specs.Define.{Named, check_body, is_reserved, check_define, read_definition, with_macro_name}
use Rattle.ppmacro.proofs.JoinLemmas.{split-first}
use Rattle.ppmacro.proofs.defining.read_define.Goals as goal

-- If the name isn't reserved, `check_define` checks the rest of the line.
allowed : (p : Profile) (m : Macros) (at : Place) (t : Token) (ts : List Token)
    → is_identifier t ≡ true
    → is_reserved p t.text ≡ false
    → with_macro_name at t.text (check_body p m t.text (read_definition p ts)) ≡ check_define p m at (t ∷ ts)
allowed p m at t ts named free = rw named (rw free refl)

pub returns : goal.returns
returns c =
    let at = c.args.at in
    let p = c.args.profile in
    let m : Macros = table.empty in
    let name = c.in-Some.name.now in
    let line = split-first c.args.line.now name c.in-Some.ensures.value in
    let named : is_identifier name ≡ true = sym c.is_identifier.ensures ∙ c.if-not-is_identifier.false in
    let free : is_reserved p name.text ≡ false = ap (is_reserved p) (sym c.as_bytes.ensures) ∙ sym c.is_reserved.ensures ∙ c.if-is_reserved.false in
    let is = allowed p m at name (drop 1 c.args.line.now) named free ∙ ap (check_define p m at) (sym line) in
    subst (λ (z : Result Named Fault). UnlessOutOfMemory c.read_body.result (λ r. r ≡ z)) is (simp take_rest at c.read_body.ensures)
