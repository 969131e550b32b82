-- Over the same files a unit has one value and one count.
use Rattle.std.proofs.Common.{◌≡◌, ℕ, Option, Some, None, refl, sym, ap, ◌∙◌, ◌+◌, arith}
use Rattle.ppshelf.specs.Names.{AreNames}
use Rattle.ppunit.specs.States.{State, Context, Progress, output}
use Rattle.ppunit.specs.Unit.{Translates, context_of_unit, count_translates}
use Rattle.ppunit.proofs.LineUniqueness.{OneExpansion, OneDecision, OneReading, OneTree, OneRow}
use Rattle.ppunit.proofs.GroupUniqueness.{translates_once}
use Rattle.ppexpand.specs.Laws.{plus}
use Rattle.ppunit.specs.Laws.{HasOneValue}
use Rattle.ppunit.specs.declared.units.Unit.{Unit as UnitOfList}
use Rattle.ppunit.proofs.WaitingInvocations.{WaitsIn, nothing_waits}
use Rattle.ppunit.proofs.BudgetSums.{unit_spends}
use Rattle.ppunit.proofs.SufficientBudgets.{holding, unit_enough}

-- Amounts that leave the same rest of one budget are equal.
spent_once : (b m n : ℕ) (rest : Option ℕ) → Some b ≡ plus m rest → Some b ≡ plus n rest → m ≡ n
spent_once b m n None p q = absurd (cc)
spent_once b m n (Some k) p q = let x : b ≡ m + k = cc in let y : b ≡ n + k = cc in omega arith

module _ (expansions : OneExpansion) (decisions : OneDecision) (readings : OneReading) (trees : OneTree) (rows : OneRow) where
  module _ (context : Context) (names : AreNames context.names) where
    progress_once : {unit : UnitOfList} {s : State} {y z : Progress} → Translates context unit s y → Translates context unit s z → y ≡ z
    progress_once {z = z} d e = translates_once expansions decisions readings trees rows context names d z e

    -- Without a budget, both derivations are compared with a budget that suffices for both.
    counted_once : {unit : UnitOfList} {s : State} {y z : Progress} (budget : Option ℕ)
        → s.meter.remaining ≡ budget
        → WaitsIn s
        → (d : Translates context unit s y) (e : Translates context unit s z)
        → count_translates d ≡ count_translates e
    counted_once {y = y} (Some b) is w d e =
        let remainders = ap (λ (r : Progress). r.state.meter.remaining) (progress_once d e) in
        spent_once b (count_translates d) (count_translates e) y.state.meter.remaining (sym is ∙ unit_spends context w d)
        (sym is ∙ unit_spends context w e ∙ ap (plus (count_translates e)) (sym remainders))
    counted_once {y = y} {z = z} None is w d e =
        let m = count_translates d in
        let n = count_translates e in
        let same : holding n y ≡ holding m z = progress_once (unit_enough context is w d (m + n) n refl) (unit_enough context is w e (m + n) m (omega arith)) in
        let remainders : Some n ≡ Some m = ap (λ (r : Progress). r.state.meter.remaining) same in
        let counts : n ≡ m = cc in
        sym counts

  pub unit_once : HasOneValue
  unit_once names files setting unit a b once p q =
      let context = context_of_unit names files setting unit in (
        p.is_output ∙ ap output (progress_once context once p.translates q.translates) ∙ sym q.is_output,
        counted_once context once setting.budget refl nothing_waits p.translates q.translates,
      )
