-- The value of a unit with a budget is a prefix of its value without a budget or with a larger one.
use Rattle.std.proofs.Common.{◌≡◌, ℕ, ◌-◌, ◌<◌, ◌≤◌, List, Option, Some, None, refl, sym, ap, ◌∙◌, subst, arith, inl, inr}
use Rattle.pptext.specs.declared.tokens.Fault.{Fault}
use Rattle.ppexpand.specs.Budget.{new_meter}
use Rattle.ppexpand.specs.Laws.{IsPrefix}
use Rattle.ppexpand.proofs.BudgetLemmas.{Covers, without, larger}
use Rattle.ppshelf.specs.Names.{AreNames}
use Rattle.ppshelf.specs.Files.{Files, Extends}
use Rattle.ppunit.specs.declared.units.Unit.{Unit as UnitOfList}
use Rattle.ppunit.specs.declared.units.Setting.{Setting}
use Rattle.ppunit.specs.declared.units.UnitOut.{UnitOut}
use Rattle.ppunit.specs.States.{State, Context, Progress, stopped, with_meter, output}
use Rattle.ppunit.specs.Unit.{initial_state, context_of_unit, Translates, IsUnit, count}
use Rattle.ppunit.specs.Laws.{HasOneValue, HasSomeValue, Grows}
use Rattle.ppunit.specs.Capped.{HasFault, AtMost, CapsUnit, unlimited, BudgetCaps, OnlyBudgetsRefuse, with_budget, GivesNoLess, LargerBudgetsGiveNoLess}
use Rattle.ppunit.proofs.OutputPrefixes.{same_beginning}
use Rattle.ppunit.proofs.WaitingInvocations.{nothing_waits}
use Rattle.ppunit.proofs.SufficientBudgets.{budgeted, holding, unit_suffices}
use native.Mathlib.Decide.{dec_lt}
use Rattle.ppunit.proofs.ExhaustedBudgets.{unit_short}

-- ---- units

-- a unit that stopped with fault 35, compared with the whole
stopped_early : (b c : ℕ) (s : State) (f : Fault) (whole out : UnitOut) → output (stopped s f) ≡ out → f.number ≡ 35
    → IsPrefix s.items whole.items
    → IsPrefix s.deps whole.deps
    → b < c
    → ¬ HasFault 35 whole
    → CapsUnit b c whole out
stopped_early b c s f whole out same number items deps less other =
    subst (CapsUnit b c whole) same
    (record {
      items = items;
      deps = deps;
      exactly = ((λ h. absurd (other (f, sym (ap (λ o. o.fault) h), number))), (λ h. absurd (omega arith)));
      short = λ h. (f, refl, number);
    })

-- a unit whose budget suffices, compared with the whole
came_through : (b c : ℕ) (whole out : UnitOut) → whole ≡ out → c ≤ b → CapsUnit b c whole out
came_through b c whole out same most =
    subst (CapsUnit b c whole) same
    (record {
      items = same_beginning whole.items;
      deps = same_beginning whole.deps;
      exactly = ((λ h. most), (λ h. refl));
      short = λ h. absurd (omega arith);
    })

-- Over these files and any larger set, a value with a budget is a prefix of each value without one.
unit_caps : HasOneValue → Grows → OnlyBudgetsRefuse
    → (names : List (List ℕ)) (files : Files) (setting : Setting) (unit : UnitOfList) (out : UnitOut)
    → AreNames names
    → IsUnit names files setting unit out
    → (b : ℕ) (more : Files) (whole : UnitOut)
    → setting.budget ≡ Some b
    → Extends more files
    → (p : IsUnit names more (unlimited setting) unit whole)
    → CapsUnit b (count p) whole out
unit_caps one grows only names files setting unit out are p b more whole budget extends q =
    let context : Context = context_of_unit names more setting unit in
    let start : State = initial_state (unlimited setting) in
    let c : ℕ = count q in
    let there : IsUnit names more setting unit out = (grows names files more setting unit out extends p).0 in
    let same : (r : Progress) → Translates context unit (budgeted start b) r → output r ≡ out =
    λ r d.
    let within : IsUnit names more setting unit (output r) =
    record { progress = r; translates = subst (λ l. Translates context unit (with_meter start (new_meter l)) r) (sym budget) d; is_output = refl } in
    (one names more setting unit (output r) out are within there).0 in
    elim (dec_lt b c) [
      | yes less ↦
          (let x = unit_short context b without nothing_waits q.translates less in
          let items : IsPrefix x.0.items whole.items = subst (λ o. IsPrefix x.0.items o.items) (sym q.is_output) x.2.before.0 in
          let deps : IsPrefix x.0.deps whole.deps = subst (λ o. IsPrefix x.0.deps o.deps) (sym q.is_output) x.2.before.1 in
          stopped_early b c x.0 x.1 whole out (same (stopped x.0 x.1) x.3) x.2.number items deps less (only names more (unlimited setting) unit whole refl q))
      | no not_less ↦
          (let n = b - c in
          let there = unit_suffices context b without nothing_waits q.translates n (omega arith) in
          came_through b c whole out (q.is_output ∙ same (holding n q.progress) there) (omega arith))
    ]

-- If each file is known, the unit also has a value without a budget.
pub unit_capped : HasOneValue → HasSomeValue → Grows → OnlyBudgetsRefuse → BudgetCaps
unit_capped one some grows only names files setting unit out are p =
    record {
      each = unit_caps one grows only names files setting unit out are p;
      some = λ b more budget extends knows within.
          let w = some names more (unlimited setting) unit knows within in
          record { whole = w.0; value = w.1; capped = unit_caps one grows only names files setting unit out are p b more w.0 budget extends w.1 };
    }

-- ---- two budgets

covers_at_most : (wide : Option ℕ) (b : ℕ) → AtMost wide b → Covers wide b
covers_at_most None b h = without
covers_at_most (Some c) b h = larger h

-- The value of a unit is a prefix of its value with a larger budget, or with none.
no_less_here : HasOneValue
    → (names : List (List ℕ)) (files : Files) (setting : Setting) (unit : UnitOfList) (b : ℕ) (wide : Option ℕ) (out more : UnitOut)
    → AreNames names
    → AtMost wide b
    → IsUnit names files (with_budget setting (Some b)) unit out
    → IsUnit names files (with_budget setting wide) unit more
    → GivesNoLess out more
no_less_here one names files setting unit b wide out more are most p q =
    let context : Context = context_of_unit names files setting unit in
    let here : Setting = with_budget setting (Some b) in
    let c : ℕ = count q in
    let covers : Covers wide b = covers_at_most wide b most in
    let same : (r : Progress) → Translates context unit (initial_state here) r → output r ≡ out =
    λ r d. (one names files here unit (output r) out are (record { progress = r; translates = d; is_output = refl }) p).0 in
    elim (dec_lt b c) [
      | yes less ↦
          (let x = unit_short context b covers nothing_waits q.translates less in
          subst (λ o. GivesNoLess o more) (same (stopped x.0 x.1) x.3)
          (record {
            items = subst (λ o. IsPrefix x.0.items o.items) (sym q.is_output) x.2.before.0;
            deps = subst (λ o. IsPrefix x.0.deps o.deps) (sym q.is_output) x.2.before.1;
            same = inr (x.1, refl, x.2.number);
          }))
      | no not_less ↦
          (let n = b - c in
          let whole : more ≡ out = q.is_output ∙ same (holding n q.progress) (unit_suffices context b covers nothing_waits q.translates n (omega arith)) in
          subst (λ o. GivesNoLess o more) whole (record { items = same_beginning more.items; deps = same_beginning more.deps; same = inl refl }))
    ]

no_less_over : HasOneValue → Grows
    → (names : List (List ℕ)) (files : Files) (setting : Setting) (unit : UnitOfList) (b : ℕ) (wide : Option ℕ) (out : UnitOut)
    → AreNames names
    → AtMost wide b
    → IsUnit names files (with_budget setting (Some b)) unit out
    → (wider : Files) (more : UnitOut)
    → Extends wider files
    → IsUnit names wider (with_budget setting wide) unit more
    → GivesNoLess out more
no_less_over one grows names files setting unit b wide out are most p wider more extends q =
    no_less_here one names wider setting unit b wide out more are most (grows names files wider (with_budget setting (Some b)) unit out extends p).0 q

pub unit_gives_no_less : HasOneValue → HasSomeValue → Grows → LargerBudgetsGiveNoLess
unit_gives_no_less one some grows names files setting unit b wide out are most p =
    record {
      each = no_less_over one grows names files setting unit b wide out are most p;
      some = λ wider extends knows within.
          let w = some names wider (with_budget setting wide) unit knows within in
          record { more = w.0; value = w.1; no_less = no_less_over one grows names files setting unit b wide out are most p wider w.0 extends w.1 };
    }
