use Rattle.std.proofs.Common.{sym, subst}
use Rattle.pppool.proofs.SlotFilling.{if_ok_then}
use Rattle.ppserve.specs.CompilationList.{CompilationList}
use Rattle.ppserve.specs.Listing.{IsRunnable}
use Rattle.ppserve.proofs.ServedOutput.{output_in_list, runs_over}
use Rattle.ppserve.proofs.in_memory.print_list.Goals as goal

pub filled_shelf-requires-clause-small : goal.filled_shelf-requires-clause-small
filled_shelf-requires-clause-small c = (subst IsRunnable (sym c.list.view_is) c.requires.runnable).small

pub print_run-requires-clause-runnable : goal.print_run-requires-clause-runnable
print_run-requires-clause-runnable c =
    runs_over _ c.in_ok-shelf.shelf (subst IsRunnable (sym c.list.view_is) c.requires.runnable) c.in_ok-shelf.ensures.names

pub returns : goal.returns
returns c =
    let parts = c.list.inside in
    let list : CompilationList = record { setting = parts.setting; names = parts.names.names; contents = parts.contents; units = parts.units } in
    let shelf = c.in_ok-shelf in
    let whole = output_in_list c.list_growth.ensures _ shelf.shelf c.args.mode list shelf.ensures.names shelf.ensures.full shelf.ensures.files in
    rw (← c.list.view_is) (if_ok_then c.print_run.result c.print_run.ensures (λ p is. whole p.any_fault p.text.items is))
