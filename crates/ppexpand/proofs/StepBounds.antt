-- The number of expansion steps from a list has a bound.
use Rattle.std.proofs.Common.{ℕ, suc, ◌≤◌, subst, arith}
use Rattle.ppmacro.specs.Names.{Macros}
use Rattle.ppmacro.specs.Hiding.{Hiding}
use Rattle.std.specs.Prelude.{List, ◌∷◌}
use Rattle.ppexpand.specs.declared.env.Env.{Env}
use Rattle.ppexpand.specs.declared.meter.Meter.{Meter}
use Rattle.ppexpand.specs.Expansion.{Outcome, Expands, emits, replaced, invocation_replaced, counts}
use Rattle.ppexpand.specs.Laws.{Leads, by_emitting, by_replacing, by_invoking, LeadsOn, stays, steps, EndsWithin, by_counting}
use Rattle.ppexpand.proofs.OutcomeExistence.{HasOutcome, total}
use Rattle.ppexpand.proofs.OutcomeUniqueness.{same_outcome}

module _ (macros : Macros) (env : Env) (level : ℕ) where
  -- the list has an outcome after at least n steps
  Takes : ℕ → Meter → List Hiding → Type 0
  Takes n meter list = (m : ℕ) × (out : Outcome) × (n ≤ m) × Expands macros env level meter m list out

  before_turn : {meter meter_after : Meter} {list next : List Hiding} (n : ℕ) → Leads macros env level meter list meter_after next → Takes n meter_after next → Takes (suc n) meter list
  unfolding Takes
  before_turn n (by_emitting {t = t} e) h = (suc h.0, record { tokens = t ∷ h.1.tokens; fault = h.1.fault; meter = h.1.meter }, omega (arith, h.2), emits e h.3)
  before_turn n (by_replacing e) h = (suc h.0, h.1, omega (arith, h.2), replaced e h.3)
  before_turn n (by_counting e) h = (suc h.0, h.1, omega (arith, h.2), counts e h.3)
  before_turn n (by_invoking e a f) h = (suc h.0, h.1, omega (arith, h.2), invocation_replaced e a f h.3)

  before_turns : {n : ℕ} {meter meter_after : Meter} {list last : List Hiding} → LeadsOn macros env level n meter list meter_after last → Takes n meter list
  unfolding Takes
  before_turns {meter = meter} {list = list} stays = let one : HasOutcome macros env level meter list = total macros env level meter list in (one.0, one.1, omega arith, one.2)
  before_turns (steps {n = n} step more) = before_turn n step (before_turns more)

  pub ends_within : (meter : Meter) (list : List Hiding) → EndsWithin macros env level (total macros env level meter list).0 meter list
  unfolding Takes
  ends_within meter list n meter_after last on =
      let one : HasOutcome macros env level meter list = total macros env level meter list in
      let here : Takes n meter list = before_turns on in
      subst (λ k. n ≤ k) (same_outcome macros env here.3 one.0 one.1 one.2).0 here.2
