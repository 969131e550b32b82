use Rattle.std.proofs.Common.{◌∷◌, [], ap, refl}
use Rattle.ppunit.specs.declared.units.UnitOut.{UnitOut}
use Rattle.pppool.proofs.SlotFilling.{if_ok_then}
use Rattle.ppserve.proofs.in_memory.Alone.unit_output.Goals as goal

pub returns-in-Everything-clause-is : goal.returns-in-Everything-clause-is
returns-in-Everything-clause-is g c =
    rw c.in-Everything.is (if_ok_then c.preprocess.result c.preprocess.ensures.is (λ out is. record { wholes = out ∷ []; values = (is, tt); same = refl }))

pub returns-in-WithoutItems-clause-is : goal.returns-in-WithoutItems-clause-is
returns-in-WithoutItems-clause-is g c =
    rw c.in-WithoutItems.is (if_ok_then c.preprocess_without_items.result c.preprocess_without_items.ensures.is (λ out is. record {
      wholes = is.whole ∷ [];
      values = (is.value, tt);
      same = ap (λ (o : UnitOut). o ∷ []) is.is_output;
    }))
