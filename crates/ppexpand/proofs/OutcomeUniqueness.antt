-- A list has at most one outcome and one number of steps.
use Rattle.std.proofs.Common.{◌≡◌, ℕ, suc, ◌<◌, ◌≤◌, List, [], ◌∷◌, Some, None, Ok, Err, refl, sym, ap, ◌∙◌, subst, arith}
use Rattle.pptext.specs.declared.tokens.Fault.{Fault}
use Rattle.ppmacro.specs.Names.{Macros}
use Rattle.ppmacro.specs.Hiding.{Hiding}
use Rattle.ppexpand.specs.declared.env.Env.{Env}
use Rattle.ppexpand.specs.declared.meter.Meter.{Meter}
use Rattle.ppexpand.specs.ExpansionStep.{Invocation, Done, TokenFault, Emits, ReplacementFault, Replaced, Invoked, arguments_to_expand, finish_invocation, fault_at_expansion, ExpandedArguments, with_expanded, Counts, counter_value}
use Rattle.ppexpand.specs.Budget.{spend_one, count_on}
use Rattle.ppexpand.specs.Expansion.{Outcome, step_in_budget, Expands, done, token_fault, emits, replacement_fault, replaced, argument_fault, invocation_fault, invocation_replaced, ExpandsArguments, counts}
use Rattle.ppexpand.specs.Expansion.{none, too_deep, pre_expanded}
use Rattle.ppexpand.specs.Expansion.{pre_expansion_fault}

module _ (macros : Macros) (env : Env) where
  -- the outcome of a list, by its first step
  abbrev pub IsDone : Meter → ℕ → Outcome → Type 0
  IsDone meter steps out = (steps ≡ 0) × (out ≡ record { tokens = []; fault = None; meter = meter })

  abbrev pub IsRefused : Fault → Meter → ℕ → Outcome → Type 0
  IsRefused fault meter steps out = (steps ≡ 0) × (out ≡ record { tokens = []; fault = Some fault; meter = meter })

  abbrev pub IsPassed : ℕ → Meter → Hiding → List Hiding → ℕ → Outcome → Type 0
  IsPassed level meter t rest steps out = (before : ℕ) × (out' : Outcome) × (steps ≡ suc before) × (out ≡ record { tokens = t ∷ out'.tokens; fault = out'.fault; meter = out'.meter }) × Expands macros env level meter before rest out'

  abbrev pub IsReplaced : ℕ → Meter → List Hiding → ℕ → Outcome → Type 0
  IsReplaced level meter next steps out = (before : ℕ) × (steps ≡ suc before) × Expands macros env level meter before next out

  pub at_done : {level steps : ℕ} {meter : Meter} {list : List Hiding} {out : Outcome} → step_in_budget macros env meter list ≡ Done → Expands macros env level meter steps list out → IsDone meter steps out
  at_done e (done e') = (refl, refl)
  at_done e (token_fault e') = absurd (cc)
  at_done e (emits e' d) = absurd (cc)
  at_done e (replacement_fault e') = absurd (cc)
  at_done e (replaced e' d) = absurd (cc)
  at_done e (counts e' d) = absurd (cc)
  at_done e (argument_fault e' a) = absurd (cc)
  at_done e (invocation_fault e' a f) = absurd (cc)
  at_done e (invocation_replaced e' a f d) = absurd (cc)

  pub at_token_fault : {level steps : ℕ} {meter : Meter} {list : List Hiding} {out : Outcome} {fault : Fault}
      → step_in_budget macros env meter list ≡ TokenFault fault
      → Expands macros env level meter steps list out
      → IsRefused fault meter steps out
  at_token_fault e (done e') = absurd (cc)
  at_token_fault e (token_fault e') = (refl, cc)
  at_token_fault e (emits e' d) = absurd (cc)
  at_token_fault e (replacement_fault e') = absurd (cc)
  at_token_fault e (replaced e' d) = absurd (cc)
  at_token_fault e (counts e' d) = absurd (cc)
  at_token_fault e (argument_fault e' a) = absurd (cc)
  at_token_fault e (invocation_fault e' a f) = absurd (cc)
  at_token_fault e (invocation_replaced e' a f d) = absurd (cc)

  pub at_replacement_fault : {level steps : ℕ} {meter : Meter} {list : List Hiding} {out : Outcome} {fault : Fault}
      → step_in_budget macros env meter list ≡ ReplacementFault fault
      → Expands macros env level meter steps list out
      → IsRefused fault (spend_one meter) steps out
  at_replacement_fault e (done e') = absurd (cc)
  at_replacement_fault e (token_fault e') = absurd (cc)
  at_replacement_fault e (emits e' d) = absurd (cc)
  at_replacement_fault e (replacement_fault e') = (refl, cc)
  at_replacement_fault e (replaced e' d) = absurd (cc)
  at_replacement_fault e (counts e' d) = absurd (cc)
  at_replacement_fault e (argument_fault e' a) = absurd (cc)
  at_replacement_fault e (invocation_fault e' a f) = absurd (cc)
  at_replacement_fault e (invocation_replaced e' a f d) = absurd (cc)

  pub at_passes : {level steps : ℕ} {meter : Meter} {list : List Hiding} {out : Outcome} {t : Hiding} {rest : List Hiding}
      → step_in_budget macros env meter list ≡ Emits t rest
      → Expands macros env level meter steps list out
      → IsPassed level meter t rest steps out
  at_passes e (done e') = absurd (cc)
  at_passes e (token_fault e') = absurd (cc)
  at_passes {level = level} {meter = meter} {t = t} {rest = rest} e (emits {steps = n} {t = t'} {rest = rest'} {out = o} e' d) =
      let name_tokens : t' ≡ t = cc in
      let rests : rest' ≡ rest = cc in
      (n, o, refl, (λ i. record { tokens = name_tokens i ∷ o.tokens; fault = o.fault; meter = o.meter }), subst (λ r. Expands macros env level meter n r o) rests d)
  at_passes e (replacement_fault e') = absurd (cc)
  at_passes e (replaced e' d) = absurd (cc)
  at_passes e (counts e' d) = absurd (cc)
  at_passes e (argument_fault e' a) = absurd (cc)
  at_passes e (invocation_fault e' a f) = absurd (cc)
  at_passes e (invocation_replaced e' a f d) = absurd (cc)

  pub at_replaced : {level steps : ℕ} {meter : Meter} {list next : List Hiding} {out : Outcome}
      → step_in_budget macros env meter list ≡ Replaced next
      → Expands macros env level meter steps list out
      → IsReplaced level (spend_one meter) next steps out
  at_replaced e (done e') = absurd (cc)
  at_replaced e (token_fault e') = absurd (cc)
  at_replaced e (emits e' d) = absurd (cc)
  at_replaced e (replacement_fault e') = absurd (cc)
  at_replaced {level = level} {meter = meter} {next = next} e (replaced {steps = n} {next = next'} {out = o} e' d) =
      let nexts : next' ≡ next = cc in
      (n, refl, subst (λ r. Expands macros env level (spend_one meter) n r o) nexts d)
  at_replaced e (counts e' d) = absurd (cc)
  at_replaced e (argument_fault e' a) = absurd (cc)
  at_replaced e (invocation_fault e' a f) = absurd (cc)
  at_replaced e (invocation_replaced e' a f d) = absurd (cc)

  pub at_counts : {level steps : ℕ} {meter : Meter} {list : List Hiding} {out : Outcome} {t : Hiding} {rest : List Hiding}
      → step_in_budget macros env meter list ≡ Counts t rest
      → Expands macros env level meter steps list out
      → IsReplaced level (count_on meter) (counter_value meter.counter t ∷ rest) steps out
  at_counts e (done e') = absurd (cc)
  at_counts e (token_fault e') = absurd (cc)
  at_counts e (emits e' d) = absurd (cc)
  at_counts e (replacement_fault e') = absurd (cc)
  at_counts e (replaced e' d) = absurd (cc)
  at_counts {level = level} {meter = meter} {t = t} {rest = rest} e (counts {steps = n} {t = t'} {rest = rest'} {out = o} e' d) =
      let name_tokens : t' ≡ t = cc in
      let rests : rest' ≡ rest = cc in
      (n, refl, subst (λ (p : Hiding × List Hiding). Expands macros env level (count_on meter) n (counter_value meter.counter p.0 ∷ p.1) o) (λ i. (name_tokens i, rests i)) d)
  at_counts e (argument_fault e' a) = absurd (cc)
  at_counts e (invocation_fault e' a f) = absurd (cc)
  at_counts e (invocation_replaced e' a f d) = absurd (cc)

  -- the outcome of an invocation after its arguments are expanded
  pub data AfterInvocation (level : ℕ) (invocation : Invocation) : Meter → ExpandedArguments → ℕ → Outcome → Type 0 where
    by_argument : {meter_after : Meter} {fault : Fault} {steps : ℕ} {out : Outcome} → IsRefused fault meter_after steps out → AfterInvocation level invocation meter_after (Err fault) steps out
    by_fault : {meter_after : Meter} {as' : List (List Hiding)} {fault : Fault} {steps : ℕ} {out : Outcome}
        → finish_invocation env invocation as' ≡ ReplacementFault fault
        → IsRefused fault meter_after steps out
        → AfterInvocation level invocation meter_after (Ok as') steps out
    by_next : {meter_after : Meter} {as' : List (List Hiding)} {next : List Hiding} {steps : ℕ} {out : Outcome}
        → finish_invocation env invocation as' ≡ Replaced next
        → IsReplaced level meter_after next steps out
        → AfterInvocation level invocation meter_after (Ok as') steps out

  abbrev pub IsInvoked : ℕ → Meter → Invocation → ℕ → Outcome → Type 0
  IsInvoked level meter invocation steps out =
      (meter_after : Meter) × (expanded : ExpandedArguments)
      × ExpandsArguments macros env level invocation meter (arguments_to_expand env invocation) meter_after expanded
      × AfterInvocation level invocation meter_after expanded steps out

  pub at_invoked : {level steps : ℕ} {meter : Meter} {list : List Hiding} {out : Outcome} {invocation : Invocation}
      → step_in_budget macros env meter list ≡ Invoked invocation
      → Expands macros env level meter steps list out
      → IsInvoked level (spend_one meter) invocation steps out
  at_invoked e (done e') = absurd (cc)
  at_invoked e (token_fault e') = absurd (cc)
  at_invoked e (emits e' d) = absurd (cc)
  at_invoked e (replacement_fault e') = absurd (cc)
  at_invoked e (replaced e' d) = absurd (cc)
  at_invoked e (counts e' d) = absurd (cc)
  at_invoked {level = level} {meter = meter} {invocation = invocation} e (argument_fault {meter_after = meter_after} {invocation = invocation'} {f = fault} e' a) =
      let calls : invocation' ≡ invocation = cc in
      subst (λ c. IsInvoked level (spend_one meter) c 0 (record { tokens = []; fault = Some fault; meter = meter_after })) calls (meter_after, Err fault, a, by_argument (refl, refl))
  at_invoked {level = level} {meter = meter} {invocation = invocation} e (invocation_fault {meter_after = meter_after} {invocation = invocation'} {expanded = as'} {f = fault} e' a f) =
      let calls : invocation' ≡ invocation = cc in
      subst (λ c. IsInvoked level (spend_one meter) c 0 (record { tokens = []; fault = Some fault; meter = meter_after })) calls (meter_after, Ok as', a, by_fault f (refl, refl))
  at_invoked {level = level} {meter = meter} {invocation = invocation} e (invocation_replaced {steps = n} {meter_after = meter_after} {next = next} {invocation = invocation'} {expanded = as'} {out = out} e' a f d) =
      let calls : invocation' ≡ invocation = cc in
      subst (λ c. IsInvoked level (spend_one meter) c (suc n) out) calls (meter_after, Ok as', a, by_next f (n, refl, d))

  -- the expansion of an argument and of the later arguments
  data AfterUse (level : ℕ) (invocation : Invocation) (meter : Meter) (list : List Hiding) (rest : List (List Hiding)) : Meter → ExpandedArguments → Type 0 where
    is_deep : 256 ≤ level → AfterUse level invocation meter list rest meter (Err (fault_at_expansion 21 invocation.name_token))
    is_used : {steps : ℕ} {between meter_after : Meter} {tokens : List Hiding} {out : ExpandedArguments}
        → level < 256
        → Expands macros env (suc level) meter steps list (record { tokens = tokens; fault = None; meter = between })
        → ExpandsArguments macros env level invocation between rest meter_after out
        → AfterUse level invocation meter list rest meter_after (with_expanded tokens out)
    is_refused : {steps : ℕ} {meter_after : Meter} {tokens : List Hiding} {fault : Fault}
        → level < 256
        → Expands macros env (suc level) meter steps list (record { tokens = tokens; fault = Some fault; meter = meter_after })
        → AfterUse level invocation meter list rest meter_after (Err fault)

  at_used : {level : ℕ} {invocation : Invocation} {meter meter_after : Meter} {list : List Hiding} {rest : List (List Hiding)} {r : ExpandedArguments}
      → ExpandsArguments macros env level invocation meter (list ∷ rest) meter_after r
      → AfterUse level invocation meter list rest meter_after r
  at_used (too_deep h) = is_deep h
  at_used (pre_expanded h d a) = is_used h d a
  at_used (pre_expansion_fault h d) = is_refused h d

  refused_same : {fault : Fault} {meter : Meter} {n : ℕ} {o : Outcome} → IsRefused fault meter n o → (0 ≡ n) × (◌≡◌ {A = Outcome} (record { tokens = []; fault = Some fault; meter = meter }) o)
  refused_same h = (sym h.0, sym h.1)

  -- the meter budget, and the expanded arguments or a fault
  abbrev Given : Type 0
  Given = Meter × ExpandedArguments

  after_argument : {level : ℕ} {invocation : Invocation} {fault : Fault} {meter meter_after : Meter} {r : ExpandedArguments} {n : ℕ} {p : Outcome}
      → ◌≡◌ {A = Given} (meter, Err fault) (meter_after, r)
      → AfterInvocation level invocation meter_after r n p
      → (0 ≡ n) × (◌≡◌ {A = Outcome} (record { tokens = []; fault = Some fault; meter = meter }) p)
  after_argument {fault = fault} {meter = meter} {n = n} {p = p} e (by_argument {meter_after = meter_after} {fault = fault'} h) =
      let same : fault' ≡ fault = let rs : Err fault ≡ Err fault' = λ i. (e i).1 in cc in
      let remainders : meter ≡ meter_after = λ i. (e i).0 in
      let h' = refused_same h in
      (h'.0, (λ i. record { tokens = []; fault = Some ((sym same) i); meter = remainders i }) ∙ h'.1)
  after_argument {fault = fault} e (by_fault {as' = bs} f h) = let rs : Err fault ≡ Ok bs = λ i. (e i).1 in absurd (cc)
  after_argument {fault = fault} e (by_next {as' = bs} f h) = let rs : Err fault ≡ Ok bs = λ i. (e i).1 in absurd (cc)

  after_fault : {level : ℕ} {invocation : Invocation} {as' : List (List Hiding)} {fault : Fault} {meter meter_after : Meter} {r : ExpandedArguments} {n : ℕ} {p : Outcome}
      → finish_invocation env invocation as' ≡ ReplacementFault fault
      → ◌≡◌ {A = Given} (meter, Ok as') (meter_after, r)
      → AfterInvocation level invocation meter_after r n p
      → (0 ≡ n) × (◌≡◌ {A = Outcome} (record { tokens = []; fault = Some fault; meter = meter }) p)
  after_fault {as' = as'} f e (by_argument {fault = fault'} h) = let rs : Ok as' ≡ Err fault' = λ i. (e i).1 in absurd (cc)
  after_fault {invocation = invocation} {as' = as'} {fault = fault} {meter = meter} {n = n} {p = p} f e (by_fault {meter_after = meter_after} {as' = bs} {fault = fault'} f' h) =
      let rs : Ok as' ≡ Ok bs = λ i. (e i).1 in
      let bodies : as' ≡ bs = cc in
      let same : fault ≡ fault' = let steps : ReplacementFault fault ≡ ReplacementFault fault' = sym f ∙ ap (finish_invocation env invocation) bodies ∙ f' in cc in
      let remainders : meter ≡ meter_after = λ i. (e i).0 in
      let h' = refused_same h in
      (h'.0, (λ i. record { tokens = []; fault = Some (same i); meter = remainders i }) ∙ h'.1)
  after_fault {invocation = invocation} {as' = as'} {fault = fault} f e (by_next {as' = bs} {next = next} f' h) =
      let rs : Ok as' ≡ Ok bs = λ i. (e i).1 in
      let bodies : as' ≡ bs = cc in
      let steps : ReplacementFault fault ≡ Replaced next = sym f ∙ ap (finish_invocation env invocation) bodies ∙ f' in absurd (cc)

  after_next : {level m : ℕ} {invocation : Invocation} {as' : List (List Hiding)} {next : List Hiding} {o : Outcome} {meter meter_after : Meter} {r : ExpandedArguments} {n : ℕ} {p : Outcome}
      → finish_invocation env invocation as' ≡ Replaced next
      → ((k : ℕ) (q : Outcome) → Expands macros env level meter k next q → (m ≡ k) × (o ≡ q))
      → ◌≡◌ {A = Given} (meter, Ok as') (meter_after, r)
      → AfterInvocation level invocation meter_after r n p
      → (suc m ≡ n) × (o ≡ p)
  after_next {as' = as'} f ih e (by_argument {fault = fault'} h) = let rs : Ok as' ≡ Err fault' = λ i. (e i).1 in absurd (cc)
  after_next {invocation = invocation} {as' = as'} {next = next} f ih e (by_fault {as' = bs} {fault = fault} f' h) =
      let rs : Ok as' ≡ Ok bs = λ i. (e i).1 in
      let bodies : as' ≡ bs = cc in
      let steps : Replaced next ≡ ReplacementFault fault = sym f ∙ ap (finish_invocation env invocation) bodies ∙ f' in absurd (cc)
  after_next {level = level} {invocation = invocation} {as' = as'} {next = next} {meter = meter} {p = p} f ih e (by_next {meter_after = meter_after} {as' = bs} {next = next'} f' h) =
      let rs : Ok as' ≡ Ok bs = λ i. (e i).1 in
      let bodies : as' ≡ bs = cc in
      let steps : Replaced next ≡ Replaced next' = sym f ∙ ap (finish_invocation env invocation) bodies ∙ f' in
      let nexts : next' ≡ next = cc in
      let remainders : meter_after ≡ meter = λ i. (sym e i).0 in
      let both = ih h.0 p (subst (λ l. Expands macros env level l h.0 next p) remainders (subst (λ x. Expands macros env level meter_after h.0 x p) nexts h.2)) in
      (ap suc both.0 ∙ sym h.1, both.1)

  at_none : {level : ℕ} {invocation : Invocation} {meter meter_after : Meter} {s : ExpandedArguments}
      → ExpandsArguments macros env level invocation meter [] meter_after s
      → ◌≡◌ {A = Given} (meter, Ok []) (meter_after, s)
  at_none none = refl

  deep_same : {level : ℕ} {invocation : Invocation} {meter meter_after : Meter} {list : List Hiding} {rest : List (List Hiding)} {s : ExpandedArguments}
      → 256 ≤ level
      → AfterUse level invocation meter list rest meter_after s
      → ◌≡◌ {A = Given} (meter, Err (fault_at_expansion 21 invocation.name_token)) (meter_after, s)
  deep_same h (is_deep h') = refl
  deep_same h (is_used h' d a) = absurd (omega arith)
  deep_same h (is_refused h' d) = absurd (omega arith)

  used_same : {level m : ℕ} {invocation : Invocation} {list tokens : List Hiding} {rest : List (List Hiding)} {meter between first meter_after : Meter} {out s : ExpandedArguments}
      → level < 256
      → ((n : ℕ) (p : Outcome) → Expands macros env (suc level) meter n list p → (m ≡ n) × (◌≡◌ {A = Outcome} (record { tokens = tokens; fault = None; meter = between }) p))
      → ((l : Meter) (s' : ExpandedArguments) → ExpandsArguments macros env level invocation between rest l s' → ◌≡◌ {A = Given} (first, out) (l, s'))
      → AfterUse level invocation meter list rest meter_after s
      → ◌≡◌ {A = Given} (first, with_expanded tokens out) (meter_after, s)
  used_same h ih more (is_deep h') = absurd (omega arith)
  used_same {level = level} {invocation = invocation} {tokens = tokens} {rest = rest} {between = between} {out = out} h ih more (is_used {steps = n} {between = other} {meter_after = meter_after} {tokens = ts} {out = out'} h' d a) =
      let both = (ih n (record { tokens = ts; fault = None; meter = other }) d).1 in
      let remainders : other ≡ between = λ i. (sym both i).meter in
      let whole = more meter_after out' (subst (λ l. ExpandsArguments macros env level invocation l rest meter_after out') remainders a) in
      λ i. ((whole i).0, with_expanded (both i).tokens (whole i).1)
  used_same {tokens = tokens} h ih more (is_refused {steps = n} {meter_after = meter_after} {tokens = ts} {fault = fault} h' d) =
      let both = (ih n (record { tokens = ts; fault = Some fault; meter = meter_after }) d).1 in
      let faults : None ≡ Some fault = λ i. (both i).fault in absurd (cc)

  refused_argument_same : {level m : ℕ} {invocation : Invocation} {list tokens : List Hiding} {fault : Fault} {rest : List (List Hiding)} {meter first meter_after : Meter} {s : ExpandedArguments}
      → level < 256
      → ((n : ℕ) (p : Outcome) → Expands macros env (suc level) meter n list p → (m ≡ n) × (◌≡◌ {A = Outcome} (record { tokens = tokens; fault = Some fault; meter = first }) p))
      → AfterUse level invocation meter list rest meter_after s
      → ◌≡◌ {A = Given} (first, Err fault) (meter_after, s)
  refused_argument_same h ih (is_deep h') = absurd (omega arith)
  refused_argument_same {fault = fault} h ih (is_used {steps = n} {between = other} {tokens = ts} h' d a) =
      let both = (ih n (record { tokens = ts; fault = None; meter = other }) d).1 in
      let faults : Some fault ≡ None = λ i. (both i).fault in absurd (cc)
  refused_argument_same {fault = fault} h ih (is_refused {steps = n} {meter_after = meter_after} {tokens = ts} {fault = fault'} h' d) =
      let both = (ih n (record { tokens = ts; fault = Some fault'; meter = meter_after }) d).1 in
      let faults : Some fault ≡ Some fault' = λ i. (both i).fault in
      let same : fault ≡ fault' = cc in
      λ i. ((both i).meter, Err (same i))

  mutual
    pub same_outcome : {level m : ℕ} {meter : Meter} {list : List Hiding} {o : Outcome} → Expands macros env level meter m list o → (n : ℕ) (p : Outcome) → Expands macros env level meter n list p → (m ≡ n) × (o ≡ p)
    same_outcome {meter = meter} (done e) n p d = let h : IsDone meter n p = at_done e d in (sym h.0, sym h.1)
    same_outcome (token_fault e) n p d = refused_same (at_token_fault e d)
    same_outcome (replacement_fault e) n p d = refused_same (at_replacement_fault e d)
    same_outcome {level = level} {meter = meter} (emits {t = t} {rest = rest} e d) n p d' =
        let h : IsPassed level meter t rest n p = at_passes e d' in
        let ih = same_outcome d h.0 h.1 h.4 in
        (ap suc ih.0 ∙ sym h.2, (λ i. record { tokens = t ∷ (ih.1 i).tokens; fault = (ih.1 i).fault; meter = (ih.1 i).meter }) ∙ sym h.3)
    same_outcome {level = level} {meter = meter} (replaced {next = next} e d) n p d' =
        let h : IsReplaced level (spend_one meter) next n p = at_replaced e d' in
        let ih = same_outcome d h.0 p h.2 in
        (ap suc ih.0 ∙ sym h.1, ih.1)
    same_outcome {level = level} {meter = meter} (counts {t = t} {rest = rest} e d) n p d' =
        let h : IsReplaced level (count_on meter) (counter_value meter.counter t ∷ rest) n p = at_counts e d' in
        let ih = same_outcome d h.0 p h.2 in
        (ap suc ih.0 ∙ sym h.1, ih.1)
    same_outcome (argument_fault e a) n p d' =
        let h = at_invoked e d' in
        after_argument (same_expanded a h.0 h.1 h.2) h.3
    same_outcome (invocation_fault e a f) n p d' =
        let h = at_invoked e d' in
        after_fault f (same_expanded a h.0 h.1 h.2) h.3
    same_outcome (invocation_replaced e a f d) n p d' =
        let h = at_invoked e d' in
        after_next f (λ k o. same_outcome d k o) (same_expanded a h.0 h.1 h.2) h.3

    pub same_expanded : {level : ℕ} {invocation : Invocation} {meter first : Meter} {as' : List (List Hiding)} {r : ExpandedArguments}
        → ExpandsArguments macros env level invocation meter as' first r
        → (meter_after : Meter) (s : ExpandedArguments)
        → ExpandsArguments macros env level invocation meter as' meter_after s
        → ◌≡◌ {A = Given} (first, r) (meter_after, s)
    same_expanded none l s a = at_none a
    same_expanded (too_deep h) l s a' = deep_same h (at_used a')
    same_expanded (pre_expanded h d a) l s a' = used_same h (λ n o. same_outcome d n o) (λ l' s'. same_expanded a l' s') (at_used a')
    same_expanded (pre_expansion_fault h d) l s a' = refused_argument_same h (λ n o. same_outcome d n o) (at_used a')
