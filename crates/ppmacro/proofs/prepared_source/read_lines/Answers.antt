use Rattle.std.proofs.Common.{◌≡◌, ◌∙◌, ◌+◌, ◌<◌, ℕ, Option, None, IfSome, Box, length, get_or, sym, ap, subst, arith}
use Rattle.std.specs.Global.{Global}
use Rattle.std.proofs.lemmas.List.{length-append}
use Rattle.pptext.specs.IndexedLines.{line_at}
use Rattle.ppmacro.specs.declared.define_lines.ReadDefinition.{ReadDefinition}
use Rattle.ppmacro.specs.DefineLines.{DefineLine, IsDefineLine}
use Rattle.ppmacro.specs.code.PreparedDefinitions.{IsReadFrom}
use Rattle.ppmacro.proofs.DefineLines.{each-more}
use Rattle.ppmacro.proofs.prepared_source.read_lines.Goals as goal

pub loop-index-init : goal.loop-index-init
loop-index-init c = record { count = ap length c.in_ok-reads.ensures.items; read = λ i less. absurd (omega (arith, less)) }

pub loop-index-preserved : goal.loop-index-preserved
loop-index-preserved c =
    let P : ℕ → Option (Box ReadDefinition Global) → Type 0 = λ i o. IfSome o (λ r. (d : DefineLine) × IsDefineLine (line_at c.args.source.now i) d × IsReadFrom r.value d.at d.tokens) in
    let before = c.loop-index.invariant in
    let old = c.loop-index.reads.items in
    let one = c.in_ok-read_line.field-0 in
    let longer = c.in_ok-push.ensures.items in
    record {
      count = ap length longer ∙ length-append _ _ ∙ ap (λ n. n + 1) before.count;
      read = λ i less. subst (λ xs. P i (get_or xs i None)) (sym longer)
          (each-more P None old one (λ j l. before.read j (subst (λ n. j < n) before.count l)) (subst (λ n. P n one) (sym before.count) c.in_ok-read_line.ensures) i (omega (arith, less, before.count)));
    }

pub returns : goal.returns
returns c =
    let count = sym c.line_count-count.ensures in
    let end : c.loop-index.index ≡ length c.args.source.now = omega (arith, c.line_count-count.ensures, c.loop-index-test.false, c.loop-index.auto.index-end) in
    (c.loop-index.invariant.count ∙ end, λ i less. c.loop-index.invariant.read i (subst (λ n. i < n) (sym end) less))
