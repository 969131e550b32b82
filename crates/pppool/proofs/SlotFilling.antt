-- Filling the units' slots with results.
use Rattle.std.proofs.Common.{ℕ, suc, zero, ◌≡◌, ◌<◌, ◌/◌, List, [], ◌∷◌, ◌++◌, length, length-append, get_or, set, map, true, replicate, All, Option, Some}
use Rattle.std.proofs.Common.{None, IsSome, IfSome, Result, Ok, Err, IfOk, refl, sym, ap, ◌∙◌, subst, arith, inl, inr}
use Rattle.std.specs.List.{AllZip}
use Rattle.std.proofs.lemmas.Bool.{cases_lt, cases_eq}
use Rattle.std.proofs.lemmas.List.{length-set, get_or-set_same, get_or-set_other, get_or_default, set_past}
use Rattle.std.proofs.lemmas.Slice.Zip.{AllZip-long}
use Rattle.ppshelf.specs.Names.{AreNames}
use Rattle.ppshelf.specs.Files.{Files, Extends, ShelfView}
use Rattle.ppunit.specs.declared.units.Unit.{Unit as UnitOfList}
use Rattle.ppunit.specs.declared.units.Setting.{Setting}
use Rattle.ppunit.specs.declared.units.UnitOut.{UnitOut}
use Rattle.ppunit.specs.Laws.{Grows}
use Rattle.ppunit.specs.Unit.{IsUnit}
use Rattle.pppool.specs.declared.retention.Retain.{Retain}
use Rattle.pppool.specs.Retained.{AreRetained, retained}
use Rattle.pppool.proofs.RetainedOutputs.{kept_grows}
use Rattle.ppunit.specs.Capped.{IsInBudget, IsCappedOver, StaysInBudget, BudgetCaps}
use Rattle.ppunit.specs.Units.{AreUnits, AreInBudget, AreCapped}
use Rattle.ppshelf.specs.Events.{times}
use Rattle.pppool.specs.Desk.{DeskId, SeatView, claims_of, once_below}
use Rattle.pppool.specs.Laws.{ListGrows}
use Rattle.pppool.specs.code.Workers.{IsRetained, UnitResult, AreUnitResults, AllFilled, FitSlots, result_units, filled_slots}
use Rattle.pppool.proofs.WorkerResults.{times_other}
use Rattle.pppool.proofs.SeatJoining.{claims-append}
use Rattle.pppool.proofs.SeatTotals.{times-append, below_once_one}

pub placed_push : (slots : List (Option UnitOut)) (results : List UnitResult) (a : UnitResult) → filled_slots slots (results ++ a ∷ []) ≡ set (filled_slots slots results) a.unit (Some a.out)
placed_push slots [] a = refl
placed_push slots (x ∷ results) a = placed_push (set slots x.unit (Some x.out)) results a

-- Setting an element of the second list preserves `AllZip`, if the new element is related to its partner.
zip_set : {A B : Type 0} (R : A → B → Type 0) (xs : List A) (ys : List B) (k : ℕ) (y : B) → AllZip R xs ys → ((d : A) → k < length xs → R (get_or xs k d) y) → AllZip R xs (set ys k y)
zip_set R [] [] k y all here = tt
zip_set R [] (z ∷ ys) k y all here = elim all [ ]
zip_set R (x ∷ xs) [] k y all here = elim all [ ]
zip_set R (x ∷ xs) (z ∷ ys) zero y all here = (here x (omega arith), all.1)
zip_set R (x ∷ xs) (z ∷ ys) (suc k) y all here = (all.0, zip_set R xs ys k y all.1 (λ d w. here d (omega arith)))

zip_map : {A B : Type 0} (R Q : A → B → Type 0) (xs : List A) (ys : List B) → ((x : A) (y : B) → R x y → Q x y) → AllZip R xs ys → AllZip Q xs ys
zip_map R Q [] [] more all = tt
zip_map R Q [] (y ∷ ys) more all = elim all [ ]
zip_map R Q (x ∷ xs) [] more all = elim all [ ]
zip_map R Q (x ∷ xs) (y ∷ ys) more all = (more x y all.0, zip_map R Q xs ys more all.1)

if_some_map : {T : Type 0} (P Q : T → Type 0) (o : Option T) → ((x : T) → P x → Q x) → IfSome o P → IfSome o Q
if_some_map P Q None more h = tt
if_some_map P Q (Some x) more h = more x h

-- `FitSlots` over some files implies `FitSlots` over any larger set.
pub slots_grow : Grows
    → (retain : Retain) (shelf : ShelfView) (old new : Files) (setting : Setting) (units : List UnitOfList) (slots : List (Option UnitOut))
    → Extends new old
    → FitSlots retain shelf old setting units slots
    → FitSlots retain shelf new setting units slots
slots_grow grows retain shelf old new setting units slots more fit =
    let At : Files → UnitOfList → UnitOut → Type 0 = λ files unit out. IsRetained retain shelf.names files setting unit out in
    zip_map (λ unit slot. IfSome slot (At old unit)) (λ unit slot. IfSome slot (At new unit)) units slots
    (λ unit slot h. if_some_map (At old unit) (At new unit) slot (λ out is. kept_grows grows retain shelf.names old new setting unit out more is) h) fit

-- Filling slots with the results of their units preserves `FitSlots`.
pub slots_placed : (retain : Retain) (shelf : ShelfView) (files : Files) (setting : Setting) (units : List UnitOfList) (slots : List (Option UnitOut))
    (results : List UnitResult)
    → FitSlots retain shelf files setting units slots
    → AreUnitResults retain shelf files setting units results
    → FitSlots retain shelf files setting units (filled_slots slots results)
slots_placed retain shelf files setting units slots [] fit all = fit
slots_placed retain shelf files setting units slots (a ∷ results) fit all =
    let first = all 0 a (omega arith) in
    let R : UnitOfList → Option UnitOut → Type 0 = λ unit slot. IfSome slot (λ out. IsRetained retain shelf.names files setting unit out) in
    slots_placed retain shelf files setting units (set slots a.unit (Some a.out)) results (zip_set R units slots a.unit (Some a.out) fit (λ d w. first.value d)) (λ k d w. all (suc k) d (omega arith))

none_fit : (retain : Retain) (shelf : ShelfView) (files : Files) (setting : Setting) (units : List UnitOfList) → FitSlots retain shelf files setting units (replicate (length units) None)
none_fit retain shelf files setting [] = tt
none_fit retain shelf files setting (u ∷ units) = (tt, none_fit retain shelf files setting units)

-- Empty slots satisfy `FitSlots`.
pub slots_empty : (retain : Retain) (shelf : ShelfView) (files : Files) (setting : Setting) (units : List UnitOfList) (slots : List (Option UnitOut))
    → slots ≡ replicate (length units) None
    → FitSlots retain shelf files setting units slots
slots_empty retain shelf files setting units slots is =
    let P : List (Option UnitOut) → Type 0 = FitSlots retain shelf files setting units in
    subst P (sym is) (none_fit retain shelf files setting units)

-- A full slot stays full, and the slot of each result becomes full.
full_set : (slots : List (Option UnitOut)) (j i : ℕ) (out : UnitOut) → IsSome (get_or slots i None) → IsSome (get_or (set slots j (Some out)) i None)
full_set slots j i out h =
    let P : Option UnitOut → Type 0 = IsSome in
    elim (cases_eq i j) [
      | inl e ↦ elim (cases_lt j (length slots)) [
        | inl w ↦ subst P (sym (ap (λ k. get_or (set slots j (Some out)) k None) e ∙ get_or-set_same slots j (Some out) None w)) refl
        | inr w ↦ let Q : List (Option UnitOut) → Type 0 = λ xs. IsSome (get_or xs i None) in subst Q (sym (set_past slots j (Some out) w)) h
      ]
      | inr e ↦ subst P (sym (get_or-set_other slots j i (Some out) None e)) h
    ]

pub placed_stays : (slots : List (Option UnitOut)) (results : List UnitResult) (i : ℕ) → IsSome (get_or slots i None) → IsSome (get_or (filled_slots slots results) i None)
placed_stays slots [] i h = h
placed_stays slots (a ∷ results) i h = placed_stays (set slots a.unit (Some a.out)) results i (full_set slots a.unit i a.out h)

pub placed_fills : (slots : List (Option UnitOut)) (results : List UnitResult) (i : ℕ) → i < length slots → 0 < times i (result_units results) → IsSome (get_or (filled_slots slots results) i None)
placed_fills slots [] i w h = absurd (omega arith)
placed_fills slots (a ∷ results) i w h =
    let P : Option UnitOut → Type 0 = IsSome in
    elim (cases_eq i a.unit) [
      | inl e ↦ placed_stays (set slots a.unit (Some a.out)) results i (subst P (sym (ap (λ k. get_or (set slots a.unit (Some a.out)) k None) e ∙ get_or-set_same slots a.unit (Some a.out) None (omega arith))) refl)
      | inr e ↦
          let none = times_other i a.unit e in
          let sum = times-append i (a.unit ∷ []) (result_units results) in
          placed_fills (set slots a.unit (Some a.out)) results i (let l = length-set slots a.unit (Some a.out) in omega arith) (omega arith)
    ]

-- If all slots are full and fit, they hold the retained outputs of the units.
pub are_kept : (retain : Retain) (shelf : ShelfView) (files : Files) (setting : Setting) (units : List UnitOfList) (outs : List UnitOut)
    → FitSlots retain shelf files setting units (map (λ x. Some x) outs)
    → AreRetained retain shelf.names files setting units outs
are_kept retain shelf files setting [] [] fit = record { wholes = []; values = tt; same = refl }
are_kept retain shelf files setting [] (out ∷ outs) fit = elim fit [ ]
are_kept retain shelf files setting (u ∷ units) [] fit = elim fit [ ]
are_kept retain shelf files setting (u ∷ units) (out ∷ outs) fit =
    let rest = are_kept retain shelf files setting units outs fit.1 in
    record {
      wholes = fit.0.whole ∷ rest.wholes;
      values = (fit.0.value, rest.values);
      same = ap (λ (o : UnitOut). o ∷ outs) fit.0.same ∙ ap (λ (os : List UnitOut). retained retain fit.0.whole ∷ os) rest.same;
    }

-- ---- the results of finished workers

-- each unit has a slot
pub slots_long : (retain : Retain) (shelf : ShelfView) (files : Files) (setting : Setting) (units : List UnitOfList) (slots : List (Option UnitOut))
    → FitSlots retain shelf files setting units slots
    → (i : ℕ)
    → i < length units
    → i < length slots
slots_long retain shelf files setting units slots fit i w =
    let long = AllZip-long (λ unit slot. IfSome slot (λ out. IsRetained retain shelf.names files setting unit out)) units slots fit in
    omega arith

-- Each result has a slot.
pub within_slots : (retain : Retain) (shelf : ShelfView) (mine theirs : Files) (setting : Setting) (units : List UnitOfList) (slots : List (Option UnitOut))
    (results : List UnitResult)
    → FitSlots retain shelf mine setting units slots
    → AreUnitResults retain shelf theirs setting units results
    → All (λ a. a.unit < length slots) results
within_slots retain shelf mine theirs setting units slots results fit all k d w = slots_long retain shelf mine setting units slots fit (get_or results k d).unit (all k d w).within

-- Appending a seat preserves `AllFilled`, if the slots of its blocks are full.
pub filled_push : (count block : ℕ) (seats more : List SeatView) (seat : SeatView) (old new : List (Option UnitOut)) → more ≡ seats ++ seat ∷ [] → AllFilled count block (claims_of seats) old
    → ((i : ℕ) → IsSome (get_or old i None) → IsSome (get_or new i None)) → ((i : ℕ) → i < count → 0 < times (i / block) seat.claims → IsSome (get_or new i None)) → AllFilled count block (claims_of more) new
filled_push count block seats more seat old new is all stay claims_filled i w h =
    let sum = ap (λ l. times (i / block) (claims_of l)) is ∙ claims-append (i / block) seats seat in
    elim (cases_lt 0 (times (i / block) seat.claims)) [
      | inl e ↦ claims_filled i w e
      | inr e ↦ stay i (all i w (omega arith))
    ]

pub filled_none : (count block : ℕ) (seats : List SeatView) (slots : List (Option UnitOut)) → seats ≡ [] → AllFilled count block (claims_of seats) slots
filled_none count block seats slots is i w h = let e = ap (λ l. times (i / block) (claims_of l)) is in absurd (omega arith)

pub none_at : (desk : DeskId) (seats : List SeatView) → seats ≡ [] → All (λ s. s.desk ≡ desk) seats
none_at desk seats is k d w = let e = ap length is in absurd (omega arith)

pub none_told : (seats : List SeatView) → seats ≡ [] → All (λ s. s.found_empty ≡ true) seats
none_told seats is k d w = let e = ap length is in absurd (omega arith)

-- Appending an element to each of two lists of equal length keeps the lengths equal.
pub one_more : {A B : Type 0} (xs more : List A) (x : A) (ys : List B) (y : B) → more ≡ xs ++ x ∷ [] → length xs ≡ length ys → length more ≡ length (ys ++ y ∷ [])
one_more xs more x ys y is same = let a = ap length is in let b = length-append xs (x ∷ []) in let c = length-append ys (y ∷ []) in omega arith

-- `IfOk` is monotone in its predicate.
pub if_ok_then : {T E : Type 0} (r : Result T E) {P Q : T → Type 0} → IfOk r P → ((x : T) → P x → Q x) → IfOk r Q
if_ok_then (Ok x) p more = more x p
if_ok_then (Err e) p more = tt

-- If each block was claimed, all slots are full.
pub all_full : (retain : Retain) (shelf : ShelfView) (files : Files) (setting : Setting) (units : List UnitOfList) (block blocks : ℕ) (claims : List ℕ) (slots : List (Option UnitOut)) → FitSlots retain shelf files setting units slots
    → AllFilled (length units) block claims slots → ((x : ℕ) → times x claims ≡ once_below x blocks) → ((i : ℕ) → i < length units → i / block < blocks) → All (λ s. IsSome s) slots
all_full retain shelf files setting units block blocks claims slots fit full whole below k d w =
    let long = AllZip-long (λ unit slot. IfSome slot (λ out. IsRetained retain shelf.names files setting unit out)) units slots fit in
    let u : k < length units = omega arith in
    let P : Option UnitOut → Type 0 = IsSome in
    let once = below_once_one (k / block) blocks (below k u) in
    let claimed = whole (k / block) in
    subst P (get_or_default slots k None d w) (full k u (omega arith))

pub list_grows : Grows → ListGrows
list_grows grows names files more setting units results extends are =
    zip_map (λ unit out. IsUnit names files setting unit out) (λ unit out. IsUnit names more setting unit out) units results (λ unit out is. (grows names files more setting unit out extends is).0) are

-- The replacements and opened files of each unit total at most its budget.
pub are_within : StaysInBudget → (names : List (List ℕ)) (files : Files) (setting : Setting) (units : List UnitOfList) (results : List UnitOut)
    → AreUnits names files setting units results → AreInBudget names files setting units results
are_within stays names files setting units results are =
    let Is : UnitOfList → UnitOut → Type 0 = λ unit out. IsUnit names files setting unit out in
    let Within : UnitOfList → UnitOut → Type 0 = λ unit out. IsInBudget names files setting unit out in
    zip_map Is Within units results (λ unit out is. stays names files setting unit out) are

-- The values of units over some files are capped by the budget, over these files and any larger set.
pub are_capped : BudgetCaps → (names : List (List ℕ)) (files : Files) (setting : Setting) (units : List UnitOfList) (results : List UnitOut) → AreNames names
    → AreUnits names files setting units results → AreCapped names files setting units results
are_capped caps names files setting units results named are =
    let Is : UnitOfList → UnitOut → Type 0 = λ unit out. IsUnit names files setting unit out in
    let IsCapped : UnitOfList → UnitOut → Type 0 = λ unit out. IsCappedOver names files setting unit out in
    zip_map Is IsCapped units results (λ unit out is. caps names files setting unit out named is) are
