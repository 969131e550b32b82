-- The statements of the theorems about values and conditions.
use Rattle.std.specs.Prelude.{◌≡◌, ℕ, ◌-◌, ◌^◌, ◌<◌, ◌≤◌, true, Some, Err}
use Rattle.pptext.specs.declared.tokens.Fault.{Fault}
use Rattle.ppexpr.specs.declared.symbols.Value.{Value}
use Rattle.ppexpr.specs.declared.symbols.Value.TheVariants.{Signed, Unsigned}
use Rattle.ppexpr.specs.Values.{is_intmax}
use Rattle.ppexpand.specs.declared.meter.Meter.{Meter}
use Rattle.ppexpand.specs.Budget.{with_budget}
use Rattle.ppexpr.specs.Conditions.{Condition}

-- a value in the range of its type: from -2^63 to 2^63 - 1 if it is signed, below 2^64 if it is unsigned (6.10.1p4, 7.20.1.5)
abbrev pub IsInRange : Value → Type 0
IsInRange (Signed z) = is_intmax z ≡ true
IsInRange (Unsigned n) = n < 2 ^ 64

-- a condition with the budget b and the meter after it, compared with the condition without a budget, which makes this number of replacements
pub record CapsCondition (b replacements : ℕ) (whole limited : Condition) (whole_after limited_after : Meter) : Type 0 where
  pub enough : replacements ≤ b → (limited ≡ whole) × (limited_after ≡ with_budget (Some (b - replacements)) whole_after)
  pub short : b < replacements → ((f : Fault) × (limited ≡ Err f) × (f.number ≡ 35)) × (limited_after.remaining ≡ Some 0)
