use Rattle.std.proofs.Common.{List, length, arith, subst}
use Rattle.std.proofs.lemmas.List.{take_all}
use Rattle.ppunit.specs.declared.units.Unit.{Unit as UnitOfList}
use Rattle.pppool.specs.Retained.{AreRetained}
use Rattle.ppserve.proofs.UnitsInTurn.{retained_next, observed_by}
use Rattle.ppserve.proofs.in_memory.Alone.run.Goals as goal

pub loop-unit-preserved : goal.loop-unit-preserved
loop-unit-preserved g c =
    let self = c.args.self.now in
    let at = c.loop-unit in
    let e = c.in_ok-out.ensures in (
      e.shelf,
      retained_next c.list_growth.ensures self.retain self.shelf.now.names at.pass.files c.unit_output.new.pass.files self.setting.now c.args.units.now at.unit-index c.unit-item.result
          at.outs.items c.push.new.self.items c.in_ok-out.out c.loop-unit-test.true c.unit-item.is c.in_ok-push.ensures.items e.grows at.invariant.1 e.is,
    )

pub returns : goal.returns
returns g c =
    let self = c.args.self.now in
    let at = c.loop-unit in
    let e = c.contents_permitted.ensures in
    let P : List UnitOfList → Type 0 = λ us. AreRetained self.retain self.shelf.now.names at.pass.files self.setting.now us at.outs.items in
    record {
      files = at.pass.files;
      observed = observed_by g.D.Disk.may self.shelf.now at.pass at.invariant.0 e.contents_permitted e.filled e.rows;
      retained = subst P (take_all at.unit-index c.args.units.now (omega (arith, c.loop-unit-test.false))) at.invariant.1;
    }
