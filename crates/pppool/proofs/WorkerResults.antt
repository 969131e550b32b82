-- The invariants of a worker's results are preserved when files, results or blocks are added.
use Rattle.std.proofs.Common.{ℕ, ◌≡◌, ◌+◌, ◌/◌, ◌<◌, ◌≤◌, List, [], ◌∷◌, ◌++◌, length, get_or, refl, sym, ap, ◌∙◌, subst, arith, inl, inr}
use Rattle.std.proofs.lemmas.Bool.{cases_lt, cases_eq}
use Rattle.std.proofs.lemmas.Bool.Decides.{nat_tests}
use Rattle.std.proofs.lemmas.List.{get_or_read}
use Rattle.std.proofs.lemmas.List.Elements.{All-push}
use Rattle.ppshelf.specs.Files.{Files, Extends, ShelfView}
use Rattle.ppunit.specs.declared.units.Unit.{Unit as UnitOfList}
use Rattle.ppunit.specs.declared.units.Setting.{Setting}
use Rattle.ppunit.specs.declared.units.UnitOut.{UnitOut}
use Rattle.ppunit.specs.Laws.{Grows}
use Rattle.pppool.specs.declared.retention.Retain.{Retain}
use Rattle.pppool.proofs.RetainedOutputs.{kept_grows}
use Rattle.ppshelf.specs.Events.{times}
use Rattle.pppool.specs.code.Workers.{IsRetained, UnitResult, IsUnitResult, AreUnitResults, AllHaveResults, result_units}
use Rattle.pppool.proofs.SeatTotals.{times-append, times_at}

-- Unit results over some files are unit results over any larger set.
pub answers_grow : Grows
    → (retain : Retain) (shelf : ShelfView) (old new : Files) (setting : Setting) (units : List UnitOfList) (results : List UnitResult)
    → Extends new old
    → AreUnitResults retain shelf old setting units results
    → AreUnitResults retain shelf new setting units results
answers_grow grows retain shelf old new setting units results more all k d w =
    let a = all k d w in
    record { within = a.within; value = λ u. kept_grows grows retain shelf.names old new setting (get_or units (get_or results k d).unit u) (get_or results k d).out more (a.value u) }

-- Appending a unit's retained output preserves `AreUnitResults`, even over a larger set of files.
pub answers_push : Grows → (retain : Retain) (shelf : ShelfView) (old new : Files) (setting : Setting) (units : List UnitOfList) (results : List UnitResult) (number : ℕ) (unit : UnitOfList) (out : UnitOut)
    → Extends new old → AreUnitResults retain shelf old setting units results → number < length units → unit ≡ get_or units number unit → IsRetained retain shelf.names new setting unit out
    → AreUnitResults retain shelf new setting units (results ++ record { unit = number; out = out } ∷ [])
answers_push grows retain shelf old new setting units results number unit out more all w read is =
    let P : UnitResult → Type 0 = IsUnitResult retain shelf new setting units in
    let Q : UnitOfList → Type 0 = λ u. IsRetained retain shelf.names new setting u out in
    All-push P results (record { unit = number; out = out }) (answers_grow grows retain shelf old new setting units results more all)
    (record { within = w; value = λ u. subst Q (get_or_read units number unit w read u) is })

pub answered_push : (results : List UnitResult) (a : UnitResult) → result_units (results ++ a ∷ []) ≡ result_units results ++ a.unit ∷ []
answered_push [] a = refl
answered_push (x ∷ results) a = ap (λ l. x.unit ∷ l) (answered_push results a)

pub times_more : (i : ℕ) (xs ys : List ℕ) → 0 < times i xs → 0 < times i (xs ++ ys)
times_more i xs ys h = let e = times-append i xs ys in omega arith

pub times_one : (i : ℕ) → 0 < times i (i ∷ [])
times_one i = times_at (i ∷ []) 0 0 (omega arith)

pub times_last : (i : ℕ) (xs : List ℕ) → 0 < times i (xs ++ i ∷ [])
times_last i xs = let e = times-append i xs (i ∷ []) in let f = times_one i in omega arith

-- If `mid` has all numbers of `old`, so has `mid` with a unit appended.
pub stays_push : (old mid new : List ℕ) (unit : ℕ) → new ≡ mid ++ unit ∷ [] → ((i : ℕ) → 0 < times i old → 0 < times i mid) → (i : ℕ) → 0 < times i old → 0 < times i new
stays_push old mid new unit is stay i h = let P : List ℕ → Type 0 = λ l. 0 < times i l in subst P (sym is) (times_more i mid (unit ∷ []) (stay i h))

pub covers_push : (first unit : ℕ) (mid new : List ℕ) → new ≡ mid ++ unit ∷ [] → ((i : ℕ) → first ≤ i → i < unit → 0 < times i mid) → (i : ℕ) → first ≤ i → i < unit + 1 → 0 < times i new
covers_push first unit mid new is all i above below =
    let P : List ℕ → Type 0 = λ l. 0 < times i l in
    let Q : ℕ → Type 0 = λ u. 0 < times i (mid ++ u ∷ []) in
    elim (cases_lt i unit) [
      | inl w ↦ subst P (sym is) (times_more i mid (unit ∷ []) (all i above w))
      | inr w ↦ subst P (sym is) (subst Q (let e : i ≡ unit = omega arith in e) (times_last i mid))
    ]

pub times_other : (x y : ℕ) → (x ≡ y → ⊥) → times x (y ∷ []) ≡ 0
times_other x y other = grind (arith, nat_tests)

-- If each unit of a newly claimed block has a result, `AllHaveResults` is preserved.
pub all_answered_push : (count block number : ℕ) (claims more old new : List ℕ) → more ≡ claims ++ number ∷ [] → AllHaveResults count block claims old → ((i : ℕ) → 0 < times i old → 0 < times i new)
    → ((i : ℕ) → i < count → i / block ≡ number → 0 < times i new) → AllHaveResults count block more new
all_answered_push count block number claims more old new is all stay here i w h =
    elim (cases_eq (i / block) number) [
      | inl e ↦ here i w e
      | inr e ↦
          let sum = ap (times (i / block)) is ∙ times-append (i / block) claims (number ∷ []) in
          let none = times_other (i / block) number e in
          stay i (all i w (omega arith))
    ]
