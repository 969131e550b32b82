use Rattle.std.proofs.Common.{◌≡◌, ◌<◌, [], length, sym, subst, arith}
use Rattle.std.proofs.lemmas.List.Elements.{All-nil, All-push, All-same}
use Rattle.pptext.specs.declared.sources.Profile.TheVariants.{C11}
use Rattle.ppunit.specs.declared.units.FirstFile.{FirstFile}
use Rattle.ppunit.specs.Unit.{IsUnitOf}
use Rattle.ppruntests.proofs.pool.lists.units_of.Goals as goal

pub loop-file-preserved : goal.loop-file-preserved
loop-file-preserved c =
    let n = length c.args.shelf.now.names in
    let unit = c.in_ok-unit_of.field-0 in
    let is = c.in_ok-unit_of.ensures {u = tt} in
    let IsRow = λ (f : FirstFile). f.file < n in
    let low : unit.file < n = omega (arith, is.0, c.if-file-len.false, c.len.ensures.count) in
    let here : IsUnitOf n C11 unit = ((low, All-same IsRow unit.first [] is.1 (All-nil IsRow)), is.2) in
    All-same (IsUnitOf n C11) c.push.new.self.items _ c.in_ok-push.ensures.items (All-push (IsUnitOf n C11) c.loop-file.units.items unit c.loop-file.invariant here)
