use Rattle.std.proofs.Common.{sym, subst}
use Rattle.ppserve.specs.CompilationList.{CompilationList}
use Rattle.ppserve.specs.Listing.{IsRunnable}
use Rattle.ppserve.proofs.Delivery.{delivers_as}
use Rattle.ppserve.proofs.ServedOutput.{output_in_list, runs_over}
use Rattle.ppserve.proofs.run_list.run_with_contents.Goals as goal

pub filled_shelf-requires-clause-small : goal.filled_shelf-requires-clause-small
filled_shelf-requires-clause-small g c = (subst IsRunnable (sym c.list.view_is) c.requires.runnable).small

pub run_over-requires-clause-runnable : goal.run_over-requires-clause-runnable
run_over-requires-clause-runnable g c κs within =
    runs_over _ c.in_ok-shelf.shelf (subst IsRunnable (sym c.list.view_is) c.requires.runnable) c.in_ok-shelf.ensures.names

pub returns : goal.returns
returns g c =
    let parts = c.list.inside in
    let list : CompilationList = record { setting = parts.setting; names = parts.names.names; contents = parts.contents; units = parts.units } in
    let shelf = c.in_ok-shelf in
    let whole = output_in_list c.list_growth.ensures _ shelf.shelf c.args.options.mode list shelf.ensures.names shelf.ensures.full shelf.ensures.files in
    rw (← c.list.view_is) (delivers_as whole c.run_over.ensures)
