-- An expansion step is a step on hide sets. A replacement in a prefix yields tokens that hide one more name.
use Rattle.std.proofs.Common.{◌≡◌, ℕ, List, ◌∷◌, sym, subst}
use Rattle.std.specs.FinSet as set
use Rattle.ppmacro.specs.Names.{Name, HideSet, Macros}
use Rattle.ppmacro.specs.Hiding.{Hiding}
use Rattle.ppexpand.specs.declared.env.Env.{Env}
use Rattle.ppexpand.specs.declared.meter.Meter.{Meter}
use Rattle.ppexpand.specs.ExpansionStep.{ExpansionStep, Emits, Replaced, Invoked, Counts}
use Rattle.ppexpand.specs.Termination.{hides, IsSubset, HidesNames, Step, emits}
use Rattle.ppexpand.specs.Laws.{Leads, by_emitting, by_replacing, by_counting, by_invoking}
use Rattle.ppexpand.specs.Expansion.{step_in_budget}
use Rattle.ppexpand.proofs.HideSetSteps.{StepsTo, FinishesTo, turn_within_steps, finished_steps}
use Rattle.ppexpand.proofs.Termination.{extended}

module _ (macros : Macros) (env : Env) (level : ℕ) where
  by_turn : (meter : Meter) (list : List Hiding) (t : ExpansionStep) → step_in_budget macros env meter list ≡ t → StepsTo macros env list t
  by_turn meter list t e = subst (StepsTo macros env list) e (turn_within_steps macros env meter list)

  passing : (list next : List Hiding) (t : Hiding) → list ≡ t ∷ next → Step macros (hides list) (hides next)
  passing list next t e = subst (λ xs. Step macros (hides xs) (hides next)) (sym e) emits

  pub leads_step : {meter meter_after : Meter} {list next : List Hiding} → Leads macros env level meter list meter_after next → Step macros (hides list) (hides next)
  leads_step {meter = meter} {list = list} {next = next} (by_emitting {t = t} e) = passing list next t (by_turn meter list (Emits t next) e)
  leads_step {meter = meter} {list = list} {next = next} (by_replacing e) = by_turn meter list (Replaced next) e
  leads_step {meter = meter} {list = list} (by_counting {rest = rest} {t = t} e) = by_turn meter list (Counts t rest) e
  leads_step {meter = meter} {list = list} {next = next} (by_invoking {invocation = invocation} {expanded = expanded} e a f) =
      subst (FinishesTo macros env list) f (finished_steps macros env list invocation expanded (by_turn meter list (Invoked invocation) e))

pub one_more_name : (hidden one two whole : HideSet) (name : Name) → IsSubset hidden one → IsSubset hidden two → HidesNames one two name whole → IsSubset (set.insert hidden name) whole
one_more_name hidden one two whole name first second g = extended hidden name whole (λ q h. g.common q (first q h) (second q h)) g.own
