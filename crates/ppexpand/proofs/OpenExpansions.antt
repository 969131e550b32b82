-- What the expansion of a list leaves open, from a state of the loop over its steps.
use Rattle.std.proofs.Common.{◌≡◌, ℕ, List, [], Some, None, refl, sym, ap, ◌∙◌, if◌then◌else◌, Bool, true}
use Rattle.pptext.specs.declared.tokens.Token.{Token}
use Rattle.pptext.specs.declared.tokens.Fault.{Fault}
use Rattle.ppmacro.specs.Names.{Macros}
use Rattle.ppmacro.specs.Hiding.{Hiding}
use Rattle.ppexpand.specs.declared.env.Env.{Env}
use Rattle.ppexpand.specs.declared.meter.Meter.{Meter}
use Rattle.ppexpand.specs.Budget.{is_exhausted}
use Rattle.ppexpand.specs.Expansion.{ExpandsTo}
use Rattle.ppexpand.specs.OpenInvocations.{open_tokens, still_open}
use Rattle.ppexpand.specs.Laws.{LeadsOn, stays, steps}
use Rattle.ppexpand.specs.code.OpenSearch.{ExpandsLeavingOpen}
use Rattle.ppexpand.specs.code.ProgramValues.{HasEnded, HasPassed, HasAdvanced}
use Rattle.ppexpand.proofs.LoopInvariants.{Follows, end_follows}
use Rattle.ppexpand.proofs.StoppedLists.{stops_there, leads_further}
use Rattle.ppexpand.proofs.OpenLists.{open_here}

module _ (macros : Macros) (env : Env) (level : ℕ) where
  -- some steps lead from a list to another
  abbrev pub Reaches : Meter → List Hiding → Meter → List Hiding → Type 0
  Reaches first start meter list = (n : ℕ) × LeadsOn macros env level n first start meter list

  pub reaches_pass : {least : ℕ} {first meter meter_after : Meter} {start list emitted next more : List Hiding}
      → Reaches first start meter list
      → HasPassed least macros env level meter list emitted meter_after next more
      → Reaches first start meter_after next
  reaches_pass so_far k = leads_further macros env so_far.1 k.leads

  pub reaches_step : {first meter meter_after : Meter} {start list next more : List Hiding} (emitted : List Hiding)
      → Reaches first start meter list
      → HasAdvanced macros env level meter list emitted meter_after next more
      → Reaches first start meter_after next
  reaches_step emitted so_far step = leads_further macros env so_far.1 (steps step.2.leads stays)

  pub leaves_none : {looks : Bool} {first meter : Meter} {start emitted : List Hiding} {open' : List Token}
      → ExpandsTo macros env level first start (record { tokens = emitted; fault = None; meter = meter })
      → open' ≡ []
      → ExpandsLeavingOpen looks macros env level first start (record { tokens = emitted; fault = None; meter = meter }) open'
  leaves_none one none = record { expands = one; open_is = λ looked. none }

  pub leaves_tokens : {looks : Bool} (first : Meter) (start emitted : List Hiding) (meter : Meter) (list : List Hiding) (f : Fault) (meter_after : Meter) (more : List Hiding) (open' : List Token)
      → Follows macros env level first start emitted meter list
      → Reaches first start meter list
      → HasEnded macros env level meter list emitted (Some f) meter_after more
      → (looks ≡ true → open' ≡ (if is_exhausted meter then [] else open_tokens macros list))
      → ExpandsLeavingOpen looks macros env level first start (record { tokens = more; fault = Some f; meter = meter_after }) open'
  leaves_tokens first start emitted meter list f meter_after more open' so_far on end is =
      let one = end_follows macros env level first start emitted meter list (Some f) meter_after more so_far end in
      record {
        expands = one;
        open_is = λ looked. is looked ∙ open_here macros env f end.0 refl ∙ ap (still_open macros (Some f)) (sym (stops_there macros env on.1 end.0 one.1));
      }
