use Rattle.std.proofs.Common.{◌+◌, ◌<◌, suc, length, drop, sym, ap, ◌∙◌, arith, length-drop}
use Rattle.std.proofs.lemmas.List.{take_rest, drop-drop}
use Rattle.pptext.specs.declared.tokens.Place.{Place}
use Rattle.pptext.specs.Clean.{place}
use Rattle.pptext.specs.code.Steps.{place_after}
use Rattle.pptext.proofs.Locations.{along_line, line_passed}
use Rattle.pptext.proofs.characters.advance.move_after_lines.Goals as goal

pub loop-len-preserved : goal.loop-len-preserved
loop-len-preserved c =
    let bytes = c.args.bytes.now in
    let from = c.loop-len.from in
    let n = c.in-Some.len in
    let l = length-drop from bytes in
    let found = simp take_rest at c.in-Some.ensures in
    let at : Place = place c.args.place.now.file c.loop-len.line c.loop-len.col in
    let next : Place = place c.args.place.now.file (c.loop-len.line + 1) 1 in
    let lt : n < length (drop from bytes) = found.0.high in
    record {
      within = omega arith;
      sofar = ap (λ k. place_after next (drop k bytes)) (omega arith)
          ∙ ap (place_after next) (sym (drop-drop (suc n) from bytes))
          ∙ sym (line_passed n (drop from bytes) at lt (λ k below. found.0.before k (omega arith) below) found.1)
          ∙ c.loop-len.invariant.sofar;
      lines = omega (arith, c.loop-len.invariant.lines);
      cols = omega arith;
    }

pub returns : goal.returns
returns c =
    let bytes = c.args.bytes.now in
    let from = c.loop-len.from in
    let l = length-drop from bytes in
    let none = simp take_rest at c.in_default.ensures in
    let at : Place = place c.args.place.now.file c.loop-len.line c.loop-len.col in
    ap (place c.args.place.now.file c.loop-len.line) (omega arith)
    ∙ sym (along_line (drop from bytes) at (λ k below. none k (omega arith) below))
    ∙ c.loop-len.invariant.sofar
