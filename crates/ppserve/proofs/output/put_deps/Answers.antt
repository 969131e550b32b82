use Rattle.std.proofs.Common.{flat_map, refl}
use Rattle.ppserve.specs.Output.{dep_line}
use Rattle.ppserve.proofs.BufferedPrinting.{more_of, puts_all, puts_none, puts_turn}
use Rattle.ppserve.proofs.output.put_deps.Goals as goal

pub loop-row-init : goal.loop-row-init
loop-row-init g c = puts_none

pub loop-row-preserved : goal.loop-row-preserved
loop-row-preserved g c =
    puts_turn (flat_map (dep_line c.args.names.now)) c.args.rows.now c.loop-row.row-index 0 _ c.loop-row-test.true refl
    (λ before. more_of (dep_line c.args.names.now) before _) c.loop-row.invariant c.put_dep.ensures

pub returns : goal.returns
returns g c = puts_all (flat_map (dep_line c.args.names.now)) c.args.rows.now c.loop-row.row-index c.loop-row-test.false c.loop-row.invariant
