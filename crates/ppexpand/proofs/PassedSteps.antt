-- Expansion steps of a list, several at a time.
use Rattle.std.proofs.Common.{◌≡◌, ◌∙◌, ℕ, suc, ◌+◌, ◌≤◌, List, [], ◌++◌, None, sym, ap, subst, arith, append_assoc, append-nil}
use Rattle.std.proofs.lemmas.List.{map-append}
use Rattle.ppmacro.specs.Names.{Macros}
use Rattle.ppmacro.specs.HideSetPool.{HideSetPool}
use Rattle.ppmacro.specs.Hiding.{Hiding}
use Rattle.ppmacro.specs.HideSets.{hiding, hidings}
use Rattle.ppmacro.specs.declared.hidden_token.Hidden.{Hidden}
use Rattle.ppexpand.specs.declared.env.Env.{Env}
use Rattle.ppexpand.specs.declared.meter.Meter.{Meter}
use Rattle.ppexpand.specs.Expansion.{Expands, ExpandsTo}
use Rattle.ppexpand.specs.Laws.{stays, steps}
use Rattle.ppexpand.specs.code.Skipping.{HasSkipped}
use Rattle.ppexpand.specs.code.ProgramValues.{HasPassed, HasAdvanced}
use Rattle.ppexpand.proofs.SkippedTokens.{skipped_after, skipped_leads, expands-nothing}
use Rattle.ppexpand.proofs.OutcomeExistence.{total}
use Rattle.ppexpand.proofs.OutcomeUniqueness.{same_outcome}
use Rattle.ppexpand.proofs.LoopInvariants.{Follows, turns_left}
use Rattle.ppexpand.proofs.StoppedLists.{leads_further}

module _ (macros : Macros) (env : Env) (level : ℕ) where
  pub passed-none : (meter : Meter) (list emitted : List Hiding) → HasPassed 0 macros env level meter list emitted meter list emitted
  passed-none meter list emitted = record { tokens = []; emits = sym (append-nil emitted); takes = λ n out d. record { steps = n; more = omega arith; is = d }; number = 0; leads = stays }

  -- Tokens that are emitted unchanged take steps.
  pub passed-skip : (meter : Meter) (s : HideSetPool) (list emitted next more : List Hidden)
      → HasSkipped macros list emitted next more
      → HasPassed 0 macros env level meter (hidings s list) (hidings s emitted) meter (hidings s next) (hidings s more)
  passed-skip meter s list emitted next more k = record {
    tokens = hidings s k.skipped;
    emits = ap (hidings s) k.emits ∙ map-append (hiding s) emitted k.skipped;
    takes = λ n out d.
        let onward = skipped_after macros env level meter s list emitted next more k n out d in
        let high = onward.more in
        record { steps = onward.steps; more = omega (arith, high); is = onward.is };
    number = (skipped_leads macros env level meter s list emitted next more k).0;
    leads = (skipped_leads macros env level meter s list emitted next more k).1;
  }

  pub passed-step : (meter : Meter) (list emitted : List Hiding) (meter_after : Meter) (next more : List Hiding)
      → HasAdvanced macros env level meter list emitted meter_after next more
      → HasPassed 1 macros env level meter list emitted meter_after next more
  passed-step meter list emitted meter_after next more h = record {
    tokens = h.0;
    emits = h.1;
    takes = λ n out d. record { steps = suc n; more = omega arith; is = h.2.prepends_step n out d };
    number = 1;
    leads = steps h.2.leads stays;
  }

  pub passed-on : (few some : ℕ) (meter : Meter) (list emitted : List Hiding) (between : Meter) (next more : List Hiding) (meter_after : Meter) (last all : List Hiding)
      → HasPassed few macros env level meter list emitted between next more
      → HasPassed some macros env level between next more meter_after last all
      → HasPassed (few + some) macros env level meter list emitted meter_after last all
  passed-on few some meter list emitted between next more meter_after last all h k = record {
    tokens = h.tokens ++ k.tokens;
    emits = k.emits ∙ ap (λ ts. ts ++ k.tokens) h.emits ∙ append_assoc emitted h.tokens k.tokens;
    takes = λ n out d.
        let later = k.takes n out d in
        let whole = h.takes later.steps _ later.is in
        let low = later.more in
        let high = whole.more in
        record {
          steps = whole.steps;
          more = omega (arith, low, high);
          is = subst (λ ts. Expands macros env level meter whole.steps list (record { tokens = ts; fault = out.fault; meter = out.meter })) (sym (append_assoc h.tokens k.tokens out.tokens)) whole.is;
        };
    number = (leads_further macros env h.leads k.leads).0;
    leads = (leads_further macros env h.leads k.leads).1;
  }

  pub passed-fewer : (least : ℕ) (meter : Meter) (list emitted : List Hiding) (meter_after : Meter) (next more : List Hiding)
      → HasPassed least macros env level meter list emitted meter_after next more
      → HasPassed 0 macros env level meter list emitted meter_after next more
  passed-fewer least meter list emitted meter_after next more h = record {
    tokens = h.tokens;
    emits = h.emits;
    takes = λ n out d.
        let whole = h.takes n out d in
        let high = whole.more in
        record { steps = whole.steps; more = omega (arith, high); is = whole.is };
    number = h.number;
    leads = h.leads;
  }

  -- Steps preserve `Follows`.
  pub follows_pass : (first : Meter) (start : List Hiding) (least : ℕ) (meter : Meter) (list emitted : List Hiding) (meter_after : Meter) (next more : List Hiding)
      → HasPassed least macros env level meter list emitted meter_after next more
      → Follows macros env level first start emitted meter list
      → Follows macros env level first start more meter_after next
  follows_pass first start least meter list emitted meter_after next more k so_far n out d =
      let onward = k.takes n out d in
      let whole = so_far onward.steps _ onward.is in
      let tokens : emitted ++ (k.tokens ++ out.tokens) ≡ more ++ out.tokens = sym (append_assoc emitted k.tokens out.tokens) ∙ ap (λ ts. ts ++ out.tokens) (sym k.emits) in
      (whole.0, subst (λ ts. Expands macros env level first whole.0 start (record { tokens = ts; fault = out.fault; meter = out.meter })) tokens whole.1)

  -- Steps leave fewer steps.
  pub pass_falls : (least : ℕ) (meter : Meter) (list emitted : List Hiding) (meter_after : Meter) (next more : List Hiding)
      → HasPassed least macros env level meter list emitted meter_after next more
      → least + turns_left macros env level meter_after next ≤ turns_left macros env level meter list
  pass_falls least meter list emitted meter_after next more k =
      let here = total macros env level meter list in
      let there = total macros env level meter_after next in
      let onward = k.takes there.0 there.1 there.2 in
      let same = (same_outcome macros env onward.is here.0 here.1 here.2).0 in
      let more = onward.more in
      rw (← same) (omega (arith, more))

  -- After the last step nothing more is emitted.
  pub follows_nothing : (first : Meter) (start emitted : List Hiding) (meter : Meter) (list : List Hiding) → list ≡ []
      → Follows macros env level first start emitted meter list
      → ExpandsTo macros env level first start (record { tokens = emitted; fault = None; meter = meter })
  follows_nothing first start emitted meter list none so_far =
      let here : Follows macros env level first start emitted meter [] = subst (Follows macros env level first start emitted meter) none so_far in
      let nothing = expands-nothing macros env level meter in
      let whole = here nothing.0 _ nothing.1 in
      (whole.0, rw (append-nil emitted) at whole.1)
