-- The meter of an expansion, and the expansion step within its budget of replacements. `None` means no budget.
use Rattle.std.specs.Prelude.{ℕ, zero, suc, ◌+◌, ◌%◌, ◌^◌, Bool, true, false, List, [], ◌∷◌, Option, Some, None, if◌then◌else◌}
use Rattle.pptext.specs.Tokens.{fault}
use Rattle.ppmacro.specs.Hiding.{Hiding}
use Rattle.ppexpand.specs.declared.meter.Meter.{Meter}
use Rattle.ppexpand.specs.ExpansionStep.{ExpansionStep, Done, TokenFault, ReplacementFault, Replaced, Counts, Invoked}

-- ---- the meter

-- the meter at the start of a unit with this budget; its `__COUNTER__` begins at 0
abbrev pub new_meter : Option ℕ → Meter
new_meter budget = record { remaining = budget; counter = 0 }

-- a meter with this budget in place of its own
abbrev pub with_budget : Option ℕ → Meter → Meter
with_budget budget meter = record meter { remaining = budget }

abbrev pub without_budget : Meter → Meter
without_budget meter = with_budget None meter

-- there is a budget, and nothing remains of it
abbrev pub is_used_up : Option ℕ → Bool
is_used_up (Some zero) = true
is_used_up budget = false

abbrev pub is_exhausted : Meter → Bool
is_exhausted meter = is_used_up meter.remaining

-- the budget after one replacement
abbrev pub one_less : Option ℕ → Option ℕ
one_less None = None
one_less (Some zero) = Some zero
one_less (Some (suc n)) = Some n

-- the meter after one replacement
abbrev pub spend_one : Meter → Meter
spend_one meter = record meter { remaining = one_less meter.remaining }

-- a budget that is larger by one
abbrev pub one_more : Option ℕ → Option ℕ
one_more None = None
one_more (Some n) = Some (suc n)

-- the meter before a replacement that this meter counts already
abbrev pub give_back_one : Meter → Meter
give_back_one meter = record meter { remaining = one_more meter.remaining }

-- the meter after a replacement of `__COUNTER__`, whose number has 32 bits
abbrev pub count_on : Meter → Meter
count_on meter = record { remaining = one_less meter.remaining; counter = (meter.counter + 1) % 2 ^ 32 }

-- ---- the step

-- the step if the budget is exhausted and a name would be replaced: fault 35 at the name's expansion location
abbrev pub exhausted_step : List Hiding → ExpansionStep
exhausted_step [] = Done
exhausted_step (t ∷ rest) = TokenFault (fault 35 t.token.used [])

-- the step if the budget is exhausted: no macro's name is replaced
abbrev pub refused : List Hiding → ExpansionStep → ExpansionStep
refused list (ReplacementFault f) = exhausted_step list
refused list (Replaced next) = exhausted_step list
refused list (Counts t rest) = exhausted_step list
refused list (Invoked invocation) = exhausted_step list
refused list step = step

-- the step within the remaining budget
abbrev pub in_budget : Meter → List Hiding → ExpansionStep → ExpansionStep
in_budget meter list step = if is_exhausted meter then refused list step else step
