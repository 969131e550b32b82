use Rattle.std.proofs.Common.{rules, ◌≡◌, ◌∙◌, ◌+◌, Bool, sym, ap, List, [], ◌∷◌, ◌++◌, Option, Some, None, refl, true, false, drop, codes, if◌then◌else◌, append_assoc}
use Rattle.std.specs.Option.{option_map}
use Rattle.pptext.specs.declared.tokens.Token.{Token}
use Rattle.pptext.specs.Tokens.{is_identifier, is_punct}
use Rattle.ppmacro.specs.Names.{Name}
use Rattle.ppmacro.specs.ParsedParameters.{ParsedParameters}
use Rattle.ppmacro.specs.Define.{after_parameter_name, with_name, parameters_from}
use Rattle.ppmacro.specs.code.ChainParts.{with_names}
use Rattle.ppmacro.proofs.ChainReplacementLemmas.{drop-item}
use Rattle.ppmacro.proofs.defining.parameter_lists.parameters.Goals as goal

names-more : (ns : List Name) (n : Name) (h : Option ParsedParameters) → option_map (with_names (ns ++ n ∷ [])) h ≡ option_map (with_names ns) (option_map (with_name n) h)
names-more ns n None = refl
names-more ns n (Some h) = ap (λ ms. Some (record h { names = ms })) (append_assoc ns (n ∷ []) h.names)

takes_name : (gnu : Bool) (ns more : List Name) (t : Token) (ts : List Token)
    → more ≡ ns ++ t.text ∷ []
    → is_punct (codes "...") t ≡ false
    → is_identifier t ≡ true
    → option_map (with_names more) (parameters_from gnu true ts) ≡ option_map (with_names ns) (parameters_from gnu false (t ∷ ts))
takes_name gnu ns more t ts grown plain name =
    ap (λ m. option_map (with_names m) (parameters_from gnu true ts)) grown
    ∙ names-more ns t.text (parameters_from gnu true ts)
    ∙ rw (plain, name) refl

pub loop-i-preserved : goal.loop-i-preserved
loop-i-preserved c =
    let line = c.args.line.now in
    let gnu = c.args.gnu in
    let i = c.loop-i.i in
    let token = c.index-line-i.result in
    let rest = drop (i + 1) line in
    let names = c.loop-i.names.items in
    let grown : c.push.new.self.items ≡ names ++ token.text ∷ [] = search rules in
    let plain : is_punct (codes "...") token ≡ false = sym c.is_punct-in-loop-i.ensures ∙ c.if-is_punct.false in
    let name : is_identifier token ≡ true = sym c.is_identifier.ensures ∙ c.if-not-is_identifier.false in
    takes_name gnu names c.push.new.self.items token rest grown plain name
    ∙ ap (λ named. option_map (with_names names) (parameters_from gnu named (token ∷ rest))) (sym c.if-named.false)
    ∙ ap (λ ts. option_map (with_names names) (parameters_from gnu c.loop-i.named ts)) (sym (drop-item line i token c.loop-i-test.true c.index-line-i.is))
    ∙ c.loop-i.invariant

pub loop-i-preserved-then-named : goal.loop-i-preserved-then-named
loop-i-preserved-then-named c =
    let line = c.args.line.now in
    let gnu = c.args.gnu in
    let i = c.loop-i.i in
    let token = c.index-line-i.result in
    let rest = drop (i + 1) line in
    let before = option_map (with_names c.loop-i.names.items) in
    let comma : is_punct (codes ",") token ≡ true = sym c.is_punct.ensures ∙ c.if-not-is_punct.false in
    ap (λ b. before (if b then parameters_from gnu false rest else after_parameter_name gnu (token ∷ rest))) (sym comma)
    ∙ ap (λ named. before (parameters_from gnu named (token ∷ rest))) (sym c.if-named.true)
    ∙ ap (λ ts. before (parameters_from gnu c.loop-i.named ts)) (sym (drop-item line i token c.loop-i-test.true c.index-line-i.is))
    ∙ c.loop-i.invariant
