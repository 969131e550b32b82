-- The list at which an expansion stops: each expansion of a list stops at the same one, and steps from a list to another do not change it.
use Rattle.std.proofs.Common.{◌≡◌, ℕ, zero, suc, List, ◌∷◌, Option, Result, Ok, refl, sym, ap, ◌∙◌, subst, arith}
use Rattle.pptext.specs.declared.tokens.Fault.{Fault}
use Rattle.ppmacro.specs.Names.{Macros}
use Rattle.ppmacro.specs.Hiding.{Hiding}
use Rattle.ppexpand.specs.declared.env.Env.{Env}
use Rattle.ppexpand.specs.declared.meter.Meter.{Meter}
use Rattle.ppexpand.specs.ExpansionStep.{Invocation, Replaced, counter_value, arguments_to_expand, finish_invocation}
use Rattle.ppexpand.specs.Budget.{spend_one, count_on}
use Rattle.ppexpand.specs.Expansion.{Outcome, with_emitted, Expands, done, token_fault, emits, replacement_fault, replaced, argument_fault, invocation_fault, invocation_replaced, counts, ExpandsArguments}
use Rattle.ppexpand.specs.Laws.{Leads, by_emitting, by_replacing, by_invoking, by_counting, LeadsOn, stays, steps}
use Rattle.ppexpand.specs.OpenInvocations.{stopped_at}
use Rattle.ppexpand.proofs.OutcomeUniqueness.{same_outcome, same_expanded}

module _ (macros : Macros) (env : Env) where
  -- a list has an outcome after this number of steps, and the expansion stops at this list
  pub record StopsAt (level : ℕ) (meter : Meter) (steps : ℕ) (list stop : List Hiding) : Type 0 where
    pub out : Outcome
    pub expands : Expands macros env level meter steps list out
    pub is : stop ≡ stopped_at macros env expands

  -- the first step leads to a list whose expansion stops there
  record Continues (level : ℕ) (meter : Meter) (steps : ℕ) (list stop : List Hiding) : Type 0 where
    meter_after : Meter
    next : List Hiding
    leads : Leads macros env level meter list meter_after next
    stops : StopsAt level meter_after steps next stop

  -- Without a step the expansion stops at the list itself.
  pub stops_now : {level n : ℕ} {meter : Meter} {list : List Hiding} {out : Outcome} (d : Expands macros env level meter n list out) → n ≡ 0 → stopped_at macros env d ≡ list
  stops_now (done e) h = refl
  stops_now (token_fault e) h = refl
  stops_now (emits e more) h = absurd (omega (arith, h))
  stops_now (replacement_fault e) h = refl
  stops_now (replaced e more) h = absurd (omega (arith, h))
  stops_now (counts e more) h = absurd (omega (arith, h))
  stops_now (argument_fault e a) h = refl
  stops_now (invocation_fault e a f) h = refl
  stops_now (invocation_replaced e a f more) h = absurd (omega (arith, h))

  at_number : {level m n : ℕ} {meter : Meter} {list stop : List Hiding} → m ≡ n → StopsAt level meter m list stop → StopsAt level meter n list stop
  at_number {level = level} {meter = meter} {list = list} {stop = stop} h s = subst (λ n. StopsAt level meter n list stop) h s

  continues : {level n : ℕ} {meter : Meter} {list : List Hiding} {out : Outcome} (d : Expands macros env level meter n list out) (k : ℕ) → n ≡ suc k → Continues level meter k list (stopped_at macros env d)
  continues (done e) k h = absurd (omega (arith, h))
  continues (token_fault e) k h = absurd (omega (arith, h))
  continues (emits {out = out} e more) k h = record { meter_after = _; next = _; leads = by_emitting e; stops = at_number (omega (arith, h)) (record { out = out; expands = more; is = refl }) }
  continues (replacement_fault e) k h = absurd (omega (arith, h))
  continues (replaced {out = out} e more) k h = record { meter_after = _; next = _; leads = by_replacing e; stops = at_number (omega (arith, h)) (record { out = out; expands = more; is = refl }) }
  continues (counts {out = out} e more) k h = record { meter_after = _; next = _; leads = by_counting e; stops = at_number (omega (arith, h)) (record { out = out; expands = more; is = refl }) }
  continues (argument_fault e a) k h = absurd (omega (arith, h))
  continues (invocation_fault e a f) k h = absurd (omega (arith, h))
  continues (invocation_replaced {out = out} e a f more) k h = record { meter_after = _; next = _; leads = by_invoking e a f; stops = at_number (omega (arith, h)) (record { out = out; expands = more; is = refl }) }

  -- ---- the step of a list leads to one list

  from_invocation : (invocation : Invocation) {first second : Meter} {next other : List Hiding} {as' bs : List (List Hiding)}
      → ◌≡◌ {A = Meter × Result (List (List Hiding)) Fault} (first, Ok as') (second, Ok bs)
      → finish_invocation env invocation as' ≡ Replaced next
      → finish_invocation env invocation bs ≡ Replaced other
      → ◌≡◌ {A = Meter × List Hiding} (first, next) (second, other)
  from_invocation invocation {next = next} {other = other} {as' = as'} {bs = bs} e f g =
      let rs : Ok as' ≡ Ok bs = λ i. (e i).1 in
      let bodies : as' ≡ bs = cc in
      let finished : Replaced next ≡ Replaced other = sym f ∙ ap (finish_invocation env invocation) bodies ∙ g in
      let nexts : next ≡ other = cc in
      λ i. ((e i).0, nexts i)

  leads_alike : {level : ℕ} {meter first second : Meter} {list next other : List Hiding}
      → Leads macros env level meter list first next
      → Leads macros env level meter list second other
      → ◌≡◌ {A = Meter × List Hiding} (first, next) (second, other)
  leads_alike {next = next} {other = other} (by_emitting {meter = meter} e) (by_emitting f) = let nexts : next ≡ other = cc in λ i. (meter, nexts i)
  leads_alike (by_emitting e) (by_replacing f) = absurd (cc)
  leads_alike (by_emitting e) (by_counting f) = absurd (cc)
  leads_alike (by_emitting e) (by_invoking f a g) = absurd (cc)
  leads_alike (by_replacing e) (by_emitting f) = absurd (cc)
  leads_alike {next = next} {other = other} (by_replacing {meter = meter} e) (by_replacing f) = let nexts : next ≡ other = cc in λ i. (spend_one meter, nexts i)
  leads_alike (by_replacing e) (by_counting f) = absurd (cc)
  leads_alike (by_replacing e) (by_invoking f a g) = absurd (cc)
  leads_alike (by_counting e) (by_emitting f) = absurd (cc)
  leads_alike (by_counting e) (by_replacing f) = absurd (cc)
  leads_alike (by_counting {meter = meter} {rest = rest} {t = t} e) (by_counting {rest = rest'} {t = t'} f) =
      let tokens : t ≡ t' = cc in
      let rests : rest ≡ rest' = cc in
      λ i. (count_on meter, counter_value meter.counter (tokens i) ∷ rests i)
  leads_alike (by_counting e) (by_invoking f a g) = absurd (cc)
  leads_alike (by_invoking e a h) (by_emitting f) = absurd (cc)
  leads_alike (by_invoking e a h) (by_replacing f) = absurd (cc)
  leads_alike (by_invoking e a h) (by_counting f) = absurd (cc)
  leads_alike {level = level} {meter = meter} (by_invoking {meter_after = first} {next = next} {invocation = invocation} {expanded = as'} e a h) (by_invoking {meter_after = second} {next = other} {invocation = invocation'} {expanded = bs} f b g) =
      let calls : invocation ≡ invocation' = cc in
      elim_calls calls a h b g
    where
      elim_calls : {first second : Meter} {next other : List Hiding} {c d : Invocation} {as' bs : List (List Hiding)}
          → c ≡ d
          → ExpandsArguments macros env level c (spend_one meter) (arguments_to_expand env c) first (Ok as')
          → finish_invocation env c as' ≡ Replaced next
          → ExpandsArguments macros env level d (spend_one meter) (arguments_to_expand env d) second (Ok bs)
          → finish_invocation env d bs ≡ Replaced other
          → ◌≡◌ {A = Meter × List Hiding} (first, next) (second, other)
      elim_calls {second = second} {other = other} {c = c} {bs = bs} same a h b g =
          let alike = subst (λ (d : Invocation). ExpandsArguments macros env level d (spend_one meter) (arguments_to_expand env d) second (Ok bs) × (finish_invocation env d bs ≡ Replaced other)) (sym same) (b, g) in
          from_invocation c (same_expanded macros env a second (Ok bs) alike.0) h alike.1

  -- ---- each expansion of a list stops at the same list

  same_stops : (n : ℕ) {level : ℕ} {meter : Meter} {list one other : List Hiding} → StopsAt level meter n list one → StopsAt level meter n list other → one ≡ other
  same_stops zero s t = s.is ∙ stops_now s.expands refl ∙ sym (stops_now t.expands refl) ∙ sym t.is
  same_stops (suc n) {level = level} {one = one} {other = other} s t =
      let a = continues s.expands n refl in
      let b = continues t.expands n refl in
      let alike : ◌≡◌ {A = Meter × List Hiding} (b.meter_after, b.next) (a.meter_after, a.next) = leads_alike b.leads a.leads in
      let moved = subst (λ (x : Meter × List Hiding). StopsAt level x.0 n x.1 (stopped_at macros env t.expands)) alike b.stops in
      s.is ∙ same_stops n a.stops moved ∙ sym t.is

  pub same_stop : {level m n : ℕ} {meter : Meter} {list : List Hiding} {o p : Outcome} (d : Expands macros env level meter m list o) (e : Expands macros env level meter n list p)
      → stopped_at macros env d ≡ stopped_at macros env e
  same_stop {m = m} {o = o} {p = p} d e =
      same_stops m (record { out = o; expands = d; is = refl }) (at_number (sym (same_outcome macros env d _ p e).0) (record { out = p; expands = e; is = refl }))

  -- ---- steps that lead to another list

  lead_stop : {level n : ℕ} {meter meter_after : Meter} {list next stop : List Hiding} → Leads macros env level meter list meter_after next → StopsAt level meter_after n next stop → StopsAt level meter (suc n) list stop
  lead_stop (by_emitting {t = t} e) s = record { out = with_emitted t s.out; expands = emits e s.expands; is = s.is }
  lead_stop (by_replacing e) s = record { out = s.out; expands = replaced e s.expands; is = s.is }
  lead_stop (by_counting e) s = record { out = s.out; expands = counts e s.expands; is = s.is }
  lead_stop (by_invoking e a f) s = record { out = s.out; expands = invocation_replaced e a f s.expands; is = s.is }

  abbrev Stops : ℕ → Meter → List Hiding → List Hiding → Type 0
  Stops level meter list stop = (n : ℕ) × StopsAt level meter n list stop

  leads_stop : {level n : ℕ} {meter meter_after : Meter} {list last stop : List Hiding} → LeadsOn macros env level n meter list meter_after last → Stops level meter_after last stop → Stops level meter list stop
  leads_stop stays s = s
  leads_stop (steps step more) s = let later = leads_stop more s in (suc later.0, lead_stop step later.1)

  -- An expansion that leads to a list without more steps stops there.
  pub stops_there : {level n m : ℕ} {first meter : Meter} {start list : List Hiding} {out whole : Outcome}
      → LeadsOn macros env level n first start meter list
      → Expands macros env level meter 0 list out
      → (d : Expands macros env level first m start whole)
      → stopped_at macros env d ≡ list
  stops_there {out = out} on last d =
      let s = leads_stop on (0, record { out = out; expands = last; is = refl }) in
      same_stop d s.1.expands ∙ sym s.1.is ∙ stops_now last refl

  abbrev LeadsFurther : ℕ → Meter → List Hiding → Meter → List Hiding → Type 0
  LeadsFurther level meter list meter_after last = (n : ℕ) × LeadsOn macros env level n meter list meter_after last

  pub leads_further : {level m n : ℕ} {meter between meter_after : Meter} {list next last : List Hiding}
      → LeadsOn macros env level m meter list between next
      → LeadsOn macros env level n between next meter_after last
      → LeadsFurther level meter list meter_after last
  leads_further {n = n} stays more = (n, more)
  leads_further (steps step on) more = let later = leads_further on more in (suc later.0, steps step later.1)

  -- ---- the stopped list's own expansion

  -- an expansion without a step, with this fault
  pub record EndsAtOnce (level : ℕ) (list : List Hiding) (fault : Option Fault) : Type 0 where
    pub meter : Meter
    pub out : Outcome
    pub expands : Expands macros env level meter 0 list out
    pub fault_is : out.fault ≡ fault

  pub ends_there : {level n : ℕ} {meter : Meter} {list : List Hiding} {out : Outcome} (d : Expands macros env level meter n list out) → EndsAtOnce level (stopped_at macros env d) out.fault
  ends_there {meter = meter} {out = out} (done e) = record { meter = meter; out = out; expands = done e; fault_is = refl }
  ends_there {meter = meter} {out = out} (token_fault e) = record { meter = meter; out = out; expands = token_fault e; fault_is = refl }
  ends_there (emits e more) = let there = ends_there more in record { meter = there.meter; out = there.out; expands = there.expands; fault_is = there.fault_is }
  ends_there {meter = meter} {out = out} (replacement_fault e) = record { meter = meter; out = out; expands = replacement_fault e; fault_is = refl }
  ends_there (replaced e more) = ends_there more
  ends_there (counts e more) = ends_there more
  ends_there {meter = meter} {out = out} (argument_fault e a) = record { meter = meter; out = out; expands = argument_fault e a; fault_is = refl }
  ends_there {meter = meter} {out = out} (invocation_fault e a f) = record { meter = meter; out = out; expands = invocation_fault e a f; fault_is = refl }
  ends_there (invocation_replaced e a f more) = ends_there more
