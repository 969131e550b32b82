-- Retained outputs of units.
use Rattle.std.proofs.Common.{ℕ, ◌≡◌, List, [], ◌∷◌, map, refl, sym, ap, ◌∙◌, subst}
use Rattle.ppshelf.specs.Files.{Files, Extends}
use Rattle.ppunit.specs.declared.units.Unit.{Unit as UnitOfList}
use Rattle.pppool.specs.code.Workers.{IsRetained}
use Rattle.ppunit.specs.declared.units.Setting.{Setting}
use Rattle.ppunit.specs.declared.units.UnitOut.{UnitOut}
use Rattle.ppunit.specs.Laws.{Grows}
use Rattle.ppunit.specs.Units.{AreUnits}
use Rattle.pppool.specs.declared.retention.Retain.{Retain}
use Rattle.pppool.specs.declared.retention.Retain.TheVariants.{Everything}
use Rattle.pppool.specs.Retained.{AreRetained, retained}

-- The retained output of a unit over some files is also its retained output over any larger set.
pub kept_grows : Grows
    → (retain : Retain) (names : List (List ℕ)) (old new : Files) (setting : Setting) (unit : UnitOfList) (out : UnitOut)
    → Extends new old
    → IsRetained retain names old setting unit out
    → IsRetained retain names new setting unit out
kept_grows grows retain names old new setting unit out more is =
    record { whole = is.whole; value = (grows names old new setting unit is.whole more is.value).0; same = is.same }

map_whole : (outs : List UnitOut) → map (retained Everything) outs ≡ outs
map_whole [] = refl
map_whole (out ∷ outs) = ap (λ (os : List UnitOut). out ∷ os) (map_whole outs)

-- If everything is retained, the retained outputs are the units' values.
pub all_kept : (names : List (List ℕ)) (files : Files) (setting : Setting) (units : List UnitOfList) (outs : List UnitOut) → AreRetained Everything names files setting units outs → AreUnits names files setting units outs
all_kept names files setting units outs are =
    let P : List UnitOut → Type 0 = AreUnits names files setting units in
    subst P (sym (are.same ∙ map_whole are.wholes)) are.values
