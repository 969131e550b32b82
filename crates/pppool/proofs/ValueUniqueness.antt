-- Units' values are unique, and stay so over more files. If all files are known, units have values.
use Rattle.std.proofs.Common.{◌≡◌, ℕ, suc, List, [], ◌∷◌, length, map, refl, sym, ap, ◌∙◌, subst, arith}
use Rattle.std.proofs.lemmas.List.Elements.{All-head}
use Rattle.ppshelf.specs.Names.{AreNames}
use Rattle.ppshelf.specs.Files.{Files, Extends}
use Rattle.ppunit.specs.declared.units.Unit.{Unit as UnitOfList}
use Rattle.ppunit.specs.declared.units.Setting.{Setting}
use Rattle.ppunit.specs.declared.units.UnitOut.{UnitOut}
use Rattle.ppunit.specs.Unit.{IsUnit, HasRows}
use Rattle.ppunit.specs.Units.{AreUnits}
use Rattle.ppunit.specs.Laws.{HasOneValue, HasSomeValue, Grows}
use Rattle.pppool.specs.Retained.{AreRetained, retained}
use Rattle.pppool.specs.Laws.{IsOnlyValue, EachHasOneValue, RetainsOneList, HasSomeValues}
use Rattle.pppool.proofs.SlotFilling.{list_grows}

module _ (one : HasOneValue) (grows : Grows) where
  only_value : (names : List (List ℕ)) (files more : Files) (setting : Setting) (unit : UnitOfList) (out : UnitOut)
      → AreNames names
      → Extends more files
      → IsUnit names files setting unit out
      → IsOnlyValue names more setting unit out
  only_value names files more setting unit out named extends is other =
      let there : IsUnit names more setting unit out = (grows names files more setting unit out extends is).0 in
      ((λ is_other. (one names more setting unit other out named is_other there).0), (λ same. subst (λ o. IsUnit names more setting unit o) (sym same) there))

  pub each_once : EachHasOneValue
  each_once names files more setting [] [] named are extends = tt
  each_once names files more setting [] (out ∷ outs) named are extends = elim are [ ]
  each_once names files more setting (unit ∷ units) [] named are extends = elim are [ ]
  each_once names files more setting (unit ∷ units) (out ∷ outs) named are extends =
      (only_value names files more setting unit out named extends are.0, each_once names files more setting units outs named are.1 extends)

  same_list : (names : List (List ℕ)) (files : Files) (setting : Setting) (units : List UnitOfList) (outs others : List UnitOut)
      → AreNames names
      → AreUnits names files setting units outs
      → AreUnits names files setting units others
      → others ≡ outs
  same_list names files setting [] [] [] named are too = refl
  same_list names files setting [] [] (other ∷ others) named are too = elim too [ ]
  same_list names files setting [] (out ∷ outs) others named are too = elim are [ ]
  same_list names files setting (unit ∷ units) [] others named are too = elim are [ ]
  same_list names files setting (unit ∷ units) (out ∷ outs) [] named are too = elim too [ ]
  same_list names files setting (unit ∷ units) (out ∷ outs) (other ∷ others) named are too =
      ap (λ (o : UnitOut). o ∷ others) (one names files setting unit other out named too.0 are.0).0
      ∙ ap (λ (os : List UnitOut). out ∷ os) (same_list names files setting units outs others named are.1 too.1)

  pub kept_once : RetainsOneList
  kept_once retain names files more setting units outs others named are extends =
      let there : AreUnits names more setting units are.wholes = list_grows grows names files more setting units are.wholes extends are.values in
      let same : AreRetained retain names more setting units others → others ≡ outs =
      λ too.
      let wholes : too.wholes ≡ are.wholes = same_list names more setting units are.wholes too.wholes named there too.values in
      too.same ∙ (ap (λ (ws : List UnitOut). map (retained retain) ws) wholes ∙ sym are.same) in
      let is : AreRetained retain names more setting units outs = record { wholes = are.wholes; values = there; same = are.same } in
      (same, (λ s. subst (λ os. AreRetained retain names more setting units os) (sym s) is))

pub some_list : HasSomeValue → HasSomeValues
some_list some names files setting [] knows within = ([], tt)
some_list some names files setting (unit ∷ units) knows within =
    let here = some names files setting unit knows (All-head (HasRows (length names)) unit units within) in
    let rest = some_list some names files setting units knows (λ k d below. within (suc k) d (omega arith)) in
    (here.0 ∷ rest.0, (here.1, rest.1))
