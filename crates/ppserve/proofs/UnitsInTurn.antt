-- Units that are preprocessed one after another, over files that grow.
use Rattle.std.proofs.Common.{◌≡◌, ℕ, ◌+◌, ◌<◌, List, [], ◌∷◌, ◌++◌, length, take, get_or, map, sym, ap, ◌∙◌, subst}
use Rattle.std.proofs.lemmas.List.{map-append, take_more}
use Rattle.std.specs.List.{AllZip}
use Rattle.ppshelf.specs.Content.{Content}
use Rattle.ppshelf.specs.Files.{Files, ShelfView, PassView, Extends, Agree, AllPermitted}
use Rattle.ppunit.specs.declared.units.Setting.{Setting}
use Rattle.ppunit.specs.declared.units.Unit.{Unit as UnitOfList}
use Rattle.ppunit.specs.declared.units.UnitOut.{UnitOut}
use Rattle.ppunit.specs.Unit.{IsUnit}
use Rattle.pppool.specs.declared.retention.Retain.{Retain}
use Rattle.pppool.specs.Laws.{ListGrows}
use Rattle.pppool.specs.Retained.{AreRetained, retained}
use Rattle.ppserve.specs.code.Runs.{AreObserved}

zip_append : {A B : Type 0} (R : A → B → Type 0) (xs vs : List A) (ys ws : List B) → AllZip R xs ys → AllZip R vs ws → AllZip R (xs ++ vs) (ys ++ ws)
zip_append R [] vs [] ws all more = more
zip_append R [] vs (y ∷ ys) ws all more = elim all [ ]
zip_append R (x ∷ xs) vs [] ws all more = elim all [ ]
zip_append R (x ∷ xs) vs (y ∷ ys) ws all more = (all.0, zip_append R xs vs ys ws all.1 more)

-- The retained outputs of units, and of one more over a larger set of files, are those of all over these files.
pub retained_more : ListGrows
    → (retain : Retain) (names : List (List ℕ)) (old new : Files) (setting : Setting) (units : List UnitOfList) (outs : List UnitOut) (unit : UnitOfList) (out : UnitOut)
    → Extends new old
    → AreRetained retain names old setting units outs
    → AreRetained retain names new setting (unit ∷ []) (out ∷ [])
    → AreRetained retain names new setting (units ++ unit ∷ []) (outs ++ out ∷ [])
retained_more grows retain names old new setting units outs unit out more are one =
    let f = retained retain in
    record {
      wholes = are.wholes ++ one.wholes;
      values = zip_append (λ u o. IsUnit names new setting u o) units (unit ∷ []) are.wholes one.wholes (grows names old new setting units are.wholes more are.values) one.values;
      same = ap (λ (l : List UnitOut). l ++ out ∷ []) are.same ∙ (ap (λ (l : List UnitOut). map f are.wholes ++ l) one.same ∙ sym (map-append f are.wholes one.wholes));
    }

-- The same of the first units of a list, of which the next one was preprocessed.
pub retained_next : ListGrows
    → (retain : Retain) (names : List (List ℕ)) (old new : Files) (setting : Setting) (units : List UnitOfList) (i : ℕ) (unit : UnitOfList) (outs all : List UnitOut) (out : UnitOut)
    → i < length units
    → unit ≡ get_or units i unit
    → all ≡ outs ++ out ∷ []
    → Extends new old
    → AreRetained retain names old setting (take i units) outs
    → AreRetained retain names new setting (unit ∷ []) (out ∷ [])
    → AreRetained retain names new setting (take (i + 1) units) all
retained_next grows retain names old new setting units i unit outs all out below is pushed more are one =
    let P : List UnitOfList → Type 0 = λ us. AreRetained retain names new setting us (outs ++ out ∷ []) in
    let Q : List UnitOut → Type 0 = λ os. AreRetained retain names new setting (take (i + 1) units) os in
    let taken : take i units ++ unit ∷ [] ≡ take (i + 1) units = ap (λ (u : UnitOfList). take i units ++ u ∷ []) is ∙ sym (take_more units i unit below) in
    subst Q (sym pushed) (subst P taken (retained_more grows retain names old new setting (take i units) outs unit out more are one))

-- A pass has observed files that a run over its file table observes.
pub observed_by : (may : List ℕ → Content → Type 0) (shelf : ShelfView) (pass : PassView)
    → pass.shelf ≡ shelf
    → AllPermitted may pass.shelf.names pass.files
    → Agree pass.shelf.filled pass.files
    → length pass.files ≡ length pass.shelf.names
    → AreObserved may shelf pass.files
observed_by may shelf pass same permitted agree rows =
    let P : ShelfView → Type 0 = λ s. AreObserved may s pass.files in
    subst P same (record { rows = rows; agree = agree; contents_permitted = permitted })
