-- Retained outputs print the same text as whole outputs.
use Rattle.std.proofs.Common.{Bool, ℕ, suc, ◌≡◌, List, [], ◌∷◌, ◌++◌, map, refl, ap, ◌∙◌}
use Rattle.std.specs.Prelude.{◌||◌}
use Rattle.std.specs.Option.{is_some}
use Rattle.ppunit.specs.declared.units.Unit.{Unit as UnitOfList}
use Rattle.ppunit.specs.declared.units.UnitOut.{UnitOut}
use Rattle.pppool.specs.Retained.{retained}
use Rattle.ppserve.specs.declared.output.Mode.{Mode}
use Rattle.ppserve.specs.declared.output.Mode.TheVariants.{Dump, Deps, Faults, Text}
use Rattle.ppserve.specs.code.NeededRetention.{needed_retention}
use Rattle.ppserve.specs.Output.{numbered, unit_lines}
use Rattle.ppserve.specs.Serving.{any_fault}

-- The retained output of a unit prints as the whole output.
lines_kept : (mode : Mode) (names : List (List ℕ)) (i : ℕ) (unit : UnitOfList) (out : UnitOut) → unit_lines mode names i unit (retained (needed_retention mode) out) ≡ unit_lines mode names i unit out
lines_kept Dump names i unit out = refl
lines_kept Deps names i unit out = refl
lines_kept Faults names i unit out = refl
lines_kept Text names i unit out = refl

-- The retained outputs of all units print as the whole outputs.
pub text_kept : (mode : Mode) (names : List (List ℕ)) (i : ℕ) (units : List UnitOfList) (outs : List UnitOut)
    → numbered (unit_lines mode names) i units (map (retained (needed_retention mode)) outs) ≡ numbered (unit_lines mode names) i units outs
text_kept mode names i [] outs = refl
text_kept mode names i (u ∷ units) [] = refl
text_kept mode names i (u ∷ units) (out ∷ outs) =
    ap (λ (l : List ℕ). l ++ numbered (unit_lines mode names) (suc i) units (map (retained (needed_retention mode)) outs)) (lines_kept mode names i u out)
    ∙ ap (λ (l : List ℕ). unit_lines mode names i u out ++ l) (text_kept mode names (suc i) units outs)

fault_kept : (mode : Mode) (out : UnitOut) → is_some (retained (needed_retention mode) out).fault ≡ is_some out.fault
fault_kept Dump out = refl
fault_kept Deps out = refl
fault_kept Faults out = refl
fault_kept Text out = refl

-- Retaining preserves whether some unit has a fault.
pub some_fault_kept : (mode : Mode) (outs : List UnitOut) → any_fault (map (retained (needed_retention mode)) outs) ≡ any_fault outs
some_fault_kept mode [] = refl
some_fault_kept mode (out ∷ outs) =
    ap (λ (b : Bool). b || any_fault (map (retained (needed_retention mode)) outs)) (fault_kept mode out) ∙ ap (λ (b : Bool). is_some out.fault || b) (some_fault_kept mode outs)
