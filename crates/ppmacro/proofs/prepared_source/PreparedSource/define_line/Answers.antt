use Rattle.std.proofs.Common.{◌∙◌, ◌<◌, None, sym, ap, subst, length, drop, arith}
use Rattle.pptext.specs.IndexedLines.{line_at}
use Rattle.pptext.specs.Tree.{hash_place}
use Rattle.ppmacro.specs.DefineLines.{IsDefineLine}
use Rattle.ppmacro.specs.code.PreparedDefinitions.{IsReadFrom}
use Rattle.ppmacro.proofs.DefineLines.{any-default, found-line}
use Rattle.ppmacro.proofs.prepared_source.PreparedSource.define_line.Goals as goal

pub new-requires : goal.new-requires
new-requires c =
    let found = c.in-Some-split_directive in
    let within = subst (λ xs. c.args.index < length xs) (sym c.self.view_is) c.requires in
    let is = any-default c.self.inside.definitions.items c.args.index None c.index.result.now (omega (arith, within, c.self.invariant.0)) ∙ sym c.index.ensures ∙ c.in-Some.is in
    let line = found-line c.self.inside.source c.self.inside.definitions.items c.args.index c.in-Some.read (record { at = found.at; tokens = found.line.now }) c.self.invariant within is
    (found.ensures.at ∙ ap hash_place c.line_tokens.ensures) (found.ensures.tokens ∙ ap (drop 2) c.line_tokens.ensures) in
    subst (λ r. IsReadFrom r found.at found.line.now) (sym c.deref.ensures) line.1

pub returns : goal.returns
returns c =
    let found = c.in-Some-split_directive in
    let within = subst (λ xs. c.args.index < length xs) (sym c.self.view_is) c.requires in
    let is = any-default c.self.inside.definitions.items c.args.index None c.index.result.now (omega (arith, within, c.self.invariant.0)) ∙ sym c.index.ensures ∙ c.in-Some.is in
    let line = found-line c.self.inside.source c.self.inside.definitions.items c.args.index c.in-Some.read (record { at = found.at; tokens = found.line.now }) c.self.invariant within is
    (found.ensures.at ∙ ap hash_place c.line_tokens.ensures) (found.ensures.tokens ∙ ap (drop 2) c.line_tokens.ensures) in
    subst (λ xs. IsDefineLine (line_at xs c.args.index) c.new.result) c.self.view_is (subst (IsDefineLine (line_at c.self.inside.source c.args.index)) (sym c.new.ensures) line.0)
