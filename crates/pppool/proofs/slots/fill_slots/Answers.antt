use Rattle.std.proofs.Common.{sym, ap, ◌∙◌, set, length, List, Option, Some}
use Rattle.std.proofs.lemmas.List.{length-set}
use Rattle.ppunit.specs.declared.units.UnitOut.{UnitOut}
use Rattle.pppool.proofs.SlotFilling.{placed_push}
use Rattle.pppool.proofs.slots.fill_slots.Goals as goal

pub loop-unit_result-preserved : goal.loop-unit_result-preserved
loop-unit_result-preserved c =
    let k = c.loop-unit_result.invariant in
    let a = c.in-Some.unit_result in (
      ap length c.fill_slot.ensures ∙ (length-set c.loop-unit_result.slots.items a.unit (Some a.out) ∙ k.0),
      c.fill_slot.ensures ∙ (ap (λ (l : List (Option UnitOut)). set l a.unit (Some a.out)) k.1 ∙ sym (placed_push c.args.slots.now.items c.loop-unit_result.yielded a)),
    )
