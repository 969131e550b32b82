-- Expansion within a budget compared with expansion within a larger one or without one.
use Rattle.std.proofs.Common.{◌≡◌, ℕ, zero, suc, ◌+◌, ◌-◌, ◌<◌, ◌≤◌, List, [], ◌∷◌, Option, Some, None, Ok, Err, true, false, true≢false, refl, sym, ap, ◌∙◌, subst, arith, append-nil, map}
use Rattle.std.proofs.lemmas.List.{map-append}
use Rattle.pptext.specs.declared.tokens.Token.{Token}
use Rattle.ppexpand.specs.declared.meter.Meter.{Meter}
use Rattle.pptext.specs.declared.tokens.Fault.{Fault}
use Rattle.pptext.specs.Tokens.{fault}
use Rattle.ppmacro.specs.Names.{Macros}
use Rattle.ppmacro.specs.Hiding.{Hiding}
use Rattle.ppexpand.specs.declared.env.Env.{Env}
use Rattle.ppexpand.specs.ExpansionStep.{Invocation, ExpansionStep, Done, TokenFault, Emits, ReplacementFault, Replaced, Invoked, expansion_step, arguments_to_expand, ExpandedArguments, Counts}
use Rattle.ppexpand.specs.Budget.{with_budget, without_budget, is_used_up, is_exhausted, one_less, spend_one, exhausted_step, refused, in_budget}
use Rattle.ppexpand.specs.Expansion.{Outcome, stops_with, with_emitted, step_in_budget, Expands, done, token_fault, emits, replacement_fault, replaced, argument_fault, invocation_fault, counts}
use Rattle.ppexpand.specs.Expansion.{invocation_replaced, ExpandsArguments, none, too_deep, pre_expanded, pre_expansion_fault}
use Rattle.ppexpand.specs.Expansion.{count, count_arguments, Expansion, IsExpansion, count_expansion}
use Rattle.ppexpand.specs.OpenInvocations.{stopped_at, still_open, open_expansion}
use Rattle.ppexpand.specs.Laws.{plus, IsPrefix, IsOver, CapsExpansion}
use Rattle.ppexpand.proofs.StepLemmas.{IsFree, refused_is_free, unrefused-in_budget, free-in_budget, exhausted-in_budget}
use Rattle.ppexpand.proofs.OutcomeUniqueness.{same_outcome}
use Rattle.ppexpand.proofs.StoppedLists.{stops_now}
use native.Mathlib.Decide.{dec_lt}

-- a step that costs one replacement
abbrev pub Costs : ExpansionStep → Type 0
Costs (ReplacementFault f) = Unit {0}
Costs (Replaced next) = Unit {0}
Costs (Counts t rest) = Unit {0}
Costs (Invoked invocation) = Unit {0}
Costs _ = ⊥

never_both : (t : ExpansionStep) → IsFree t → Costs t → ⊥
never_both Done f c = c
never_both (TokenFault g) f c = c
never_both (Emits t rest) f c = c
never_both (ReplacementFault g) f c = f
never_both (Replaced next) f c = f
never_both (Counts t rest) f c = f
never_both (Invoked invocation) f c = f

free_refused : (list : List Hiding) (t : ExpansionStep) → IsFree t → refused list t ≡ t
free_refused list Done h = refl
free_refused list (TokenFault f) h = refl
free_refused list (Emits t rest) h = refl
free_refused list (ReplacementFault f) h = absurd h
free_refused list (Replaced next) h = absurd h
free_refused list (Counts t rest) h = absurd h
free_refused list (Invoked invocation) h = absurd h

over_refused : (list : List Hiding) (t : ExpansionStep) → Costs t → refused list t ≡ exhausted_step list
over_refused list Done h = absurd h
over_refused list (TokenFault f) h = absurd h
over_refused list (Emits t rest) h = absurd h
over_refused list (ReplacementFault f) h = refl
over_refused list (Replaced next) h = refl
over_refused list (Counts t rest) h = refl
over_refused list (Invoked invocation) h = refl

-- A budget does not change a step that costs nothing.
free_within : (meter : Meter) (list : List Hiding) (t : ExpansionStep) → IsFree t → in_budget meter list t ≡ t
free_within meter list t h = unrefused-in_budget meter list t (free_refused list t h)

not_used_up : (budget : Option ℕ) → budget ≡ None → is_used_up budget ≡ false
not_used_up None e = refl
not_used_up (Some n) e = absurd (cc)

pub unlimited-in_budget : (meter : Meter) (list : List Hiding) (t : ExpansionStep) → meter.remaining ≡ None → in_budget meter list t ≡ t
unlimited-in_budget meter list t e = free-in_budget meter list t (not_used_up meter.remaining e)

-- Adding n to a budget and then m adds m + n.
pub plus-plus : (m n : ℕ) (budget : Option ℕ) → plus m (plus n budget) ≡ plus (m + n) budget
plus-plus m n None = refl
plus-plus m n (Some k) = ap Some (omega arith)

pub plus-nothing : (budget : Option ℕ) → budget ≡ plus 0 budget
plus-nothing None = refl
plus-nothing (Some n) = ap Some (omega arith)

pub plus-none : (n : ℕ) (budget : Option ℕ) → None ≡ plus n budget → budget ≡ None
plus-none n None e = refl
plus-none n (Some k) e = absurd (cc)

-- ---- two budgets

-- there is no budget, or it is at least this large
pub data Covers : Option ℕ → ℕ → Type 0 where
  without : {b : ℕ} → Covers None b
  larger : {b c : ℕ} → b ≤ c → Covers (Some c) b

pub covers_less : {budget : Option ℕ} {b : ℕ} → Covers budget (suc b) → Covers (one_less budget) b
covers_less without = without
covers_less (larger {c = zero} h) = absurd (omega arith)
covers_less (larger {c = suc c} h) = larger (omega arith)

-- If a budget covers n + m, it covers m after n is spent.
pub covers_rest : {budget : Option ℕ} {b : ℕ} (rest : Option ℕ) (n m : ℕ) → Covers budget b → budget ≡ plus n rest → b ≡ n + m → Covers rest m
covers_rest None n m without e sum = without
covers_rest (Some k) n m without e sum = absurd (cc)
covers_rest None n m (larger {c = c} h) e sum = absurd (cc)
covers_rest (Some k) n m (larger {c = c} h) e sum = let all : c ≡ n + k = cc in larger (omega arith)

covers_used_up : {budget : Option ℕ} (b : ℕ) → Covers budget b → is_used_up budget ≡ true → is_used_up (Some b) ≡ true
covers_used_up b without e = absurd (true≢false (sym e))
covers_used_up zero (larger {c = c} h) e = refl
covers_used_up (suc b) (larger {c = zero} h) e = absurd (omega arith)
covers_used_up (suc b) (larger {c = suc c} h) e = absurd (true≢false (sym e))

-- ---- expansion steps

-- If the step within a budget costs nothing, it is the same within a smaller budget.
free_less : (meter : Meter) (b : ℕ) (list : List Hiding) (u t : ExpansionStep)
    → Covers meter.remaining b
    → in_budget meter list u ≡ t
    → IsFree t
    → in_budget (with_budget (Some b) meter) list u ≡ t
free_less meter b list u t is e h =
    elim (is_exhausted meter) as (λ x. is_exhausted meter ≡ x → in_budget (with_budget (Some b) meter) list u ≡ t) [
      | true ↦ λ k. exhausted-in_budget (with_budget (Some b) meter) list u (covers_used_up b is k) ∙ sym (exhausted-in_budget meter list u k) ∙ e
      | false ↦ λ k.
          (let same : u ≡ t = sym (free-in_budget meter list u k) ∙ e in
          free_within (with_budget (Some b) meter) list u (subst IsFree (sym same) h) ∙ same)
    ] refl

-- If the step within a budget is a replacement, something remains of the budget.
replaces_within : (meter : Meter) (list : List Hiding) (u t : ExpansionStep) → in_budget meter list u ≡ t → Costs t → is_exhausted meter ≡ false
replaces_within meter list u t e h =
    elim (is_exhausted meter) as (λ x. is_exhausted meter ≡ x → is_exhausted meter ≡ false) [
      | true ↦ λ k. absurd (never_both t (subst IsFree (sym (exhausted-in_budget meter list u k) ∙ e) (refused_is_free list u)) h)
      | false ↦ λ k. k
    ] refl

-- If the step within a budget is a replacement, it is the step without a budget.
paid_whole : (meter : Meter) (list : List Hiding) (u t : ExpansionStep) → in_budget meter list u ≡ t → Costs t → u ≡ t
paid_whole meter list u t e h = sym (free-in_budget meter list u (replaces_within meter list u t e h)) ∙ e

one_less-plus : (budget : Option ℕ) → is_used_up budget ≡ false → budget ≡ plus 1 (one_less budget)
one_less-plus None e = refl
one_less-plus (Some zero) e = absurd (true≢false e)
one_less-plus (Some (suc n)) e = ap Some (omega arith)

module _ (macros : Macros) (env : Env) where
  -- A replacement reduces the budget by 1.
  pays : (meter : Meter) (list : List Hiding) (t : ExpansionStep) → Costs t → step_in_budget macros env meter list ≡ t → meter.remaining ≡ plus 1 (spend_one meter).remaining
  pays meter list t c e = one_less-plus meter.remaining (replaces_within meter list (expansion_step macros env list) t e c)

  paid_then : (meter : Meter) (list : List Hiding) (t : ExpansionStep)
      → Costs t
      → step_in_budget macros env meter list ≡ t
      → (n : ℕ) (rest : Option ℕ)
      → (spend_one meter).remaining ≡ plus n rest
      → meter.remaining ≡ plus (suc n) rest
  paid_then meter list t c e n rest more = pays meter list t c e ∙ ap (plus 1) more ∙ plus-plus 1 n rest ∙ ap (λ k. plus k rest) (omega arith)

  mutual
    -- The cost of an expansion and the remaining budget add up to the budget.
    pub spends : {level steps : ℕ} {meter : Meter} {list : List Hiding} {out : Outcome} (d : Expands macros env level meter steps list out)
        → meter.remaining ≡ plus (count macros env d) out.meter.remaining
    spends {meter = meter} (done e) = plus-nothing meter.remaining
    spends {meter = meter} (token_fault e) = plus-nothing meter.remaining
    spends (emits e more) = spends more
    spends {meter = meter} {list = list} (replacement_fault {f = f} e) = pays meter list (ReplacementFault f) tt e
    spends {meter = meter} {list = list} {out = out} (replaced {next = next} e more) =
        paid_then meter list (Replaced next) tt e (count macros env more) out.meter.remaining (spends more)
    spends {meter = meter} {list = list} {out = out} (counts {t = t} {rest = rest} e more) =
        paid_then meter list (Counts t rest) tt e (count macros env more) out.meter.remaining (spends more)
    spends {meter = meter} {list = list} (argument_fault {meter_after = after} {invocation = invocation} e a) =
        paid_then meter list (Invoked invocation) tt e (count_arguments macros env a) after.remaining (spends_arguments a)
    spends {meter = meter} {list = list} (invocation_fault {meter_after = after} {invocation = invocation} e a f) =
        paid_then meter list (Invoked invocation) tt e (count_arguments macros env a) after.remaining (spends_arguments a)
    spends {meter = meter} {list = list} {out = out} (invocation_replaced {invocation = invocation} e a f more) =
        let k = count_arguments macros env a in
        let n = count macros env more in
        paid_then meter list (Invoked invocation) tt e (k + n) out.meter.remaining
        (spends_arguments a ∙ ap (plus k) (spends more) ∙ plus-plus k n out.meter.remaining)

    pub spends_arguments : {level : ℕ} {invocation : Invocation} {meter meter_after : Meter} {as' : List (List Hiding)} {r : ExpandedArguments}
        (a : ExpandsArguments macros env level invocation meter as' meter_after r)
        → meter.remaining ≡ plus (count_arguments macros env a) meter_after.remaining
    spends_arguments {meter = meter} none = plus-nothing meter.remaining
    spends_arguments {meter = meter} (too_deep h) = plus-nothing meter.remaining
    spends_arguments {meter_after = after} (pre_expanded h one more) =
        let k = count macros env one in
        spends one ∙ ap (plus k) (spends_arguments more) ∙ plus-plus k (count_arguments macros env more) after.remaining
    spends_arguments (pre_expansion_fault h one) = spends one

  -- ---- with a budget that suffices

  free_turn : (meter : Meter) {b : ℕ} (list : List Hiding) {t : ExpansionStep}
      → Covers meter.remaining b
      → step_in_budget macros env meter list ≡ t
      → IsFree t
      → step_in_budget macros env (with_budget (Some b) meter) list ≡ t
  free_turn meter {b = b} list {t = t} is e h = free_less meter b list (expansion_step macros env list) t is e h

  paid : (meter : Meter) (list : List Hiding) (t : ExpansionStep) → step_in_budget macros env meter list ≡ t → Costs t → expansion_step macros env list ≡ t
  paid meter list t e h = paid_whole meter list (expansion_step macros env list) t e h

  pub remaining_none : {level steps : ℕ} {meter : Meter} {list : List Hiding} {out : Outcome}
      → meter.remaining ≡ None
      → Expands macros env level meter steps list out
      → out.meter.remaining ≡ None
  remaining_none {out = out} is d = plus-none (count macros env d) out.meter.remaining (sym is ∙ spends d)

  pub arguments_none : {level : ℕ} {invocation : Invocation} {meter meter_after : Meter} {as' : List (List Hiding)} {r : ExpandedArguments}
      → meter.remaining ≡ None
      → ExpandsArguments macros env level invocation meter as' meter_after r
      → meter_after.remaining ≡ None
  arguments_none {meter_after = after} is a = plus-none (count_arguments macros env a) after.remaining (sym is ∙ spends_arguments a)

  covers_onward : {level steps : ℕ} {meter : Meter} {list : List Hiding} {out : Outcome} (b m : ℕ)
      → Covers meter.remaining b
      → (d : Expands macros env level meter steps list out)
      → b ≡ count macros env d + m
      → Covers out.meter.remaining m
  covers_onward {out = out} b m is d sum = covers_rest out.meter.remaining (count macros env d) m is (spends d) sum

  arguments_rest : {level : ℕ} {invocation : Invocation} {meter meter_after : Meter} {as' : List (List Hiding)} {r : ExpandedArguments} (b m : ℕ)
      → Covers meter.remaining b
      → (a : ExpandsArguments macros env level invocation meter as' meter_after r)
      → b ≡ count_arguments macros env a + m
      → Covers meter_after.remaining m
  arguments_rest {meter_after = after} b m is a sum = covers_rest after.remaining (count_arguments macros env a) m is (spends_arguments a) sum

  -- the outcome with n left of the budget
  abbrev pub leaving : ℕ → Outcome → Outcome
  leaving n out = record out { meter = with_budget (Some n) out.meter }

  mutual
    -- A budget of the cost plus n does not change the outcome, except that n is left.
    pub enough : {level steps : ℕ} {meter : Meter} {list : List Hiding} {out : Outcome} (b : ℕ)
        → Covers meter.remaining b
        → (d : Expands macros env level meter steps list out) (n : ℕ)
        → b ≡ count macros env d + n
        → Expands macros env level (with_budget (Some b) meter) steps list (leaving n out)
    enough {level = level} {meter = meter} {list = list} b is (done e) n sum =
        let same : b ≡ n = omega arith in
        subst (λ x. Expands macros env level (with_budget (Some b) meter) 0 list (stops_with (with_budget (Some x) meter) None)) same
        (done (free_turn meter list is e tt))
    enough {level = level} {meter = meter} {list = list} b is (token_fault {f = f} e) n sum =
        let same : b ≡ n = omega arith in
        subst (λ x. Expands macros env level (with_budget (Some b) meter) 0 list (stops_with (with_budget (Some x) meter) (Some f))) same
        (token_fault (free_turn meter list is e tt))
    enough {meter = meter} {list = list} b is (emits e more) n sum = emits (free_turn meter list is e tt) (enough b is more n sum)
    enough zero is (replacement_fault {f = f} e) n sum = absurd (omega arith)
    enough {level = level} {meter = meter} {list = list} (suc b) is (replacement_fault {f = f} e) n sum =
        let same : b ≡ n = omega arith in
        subst (λ x. Expands macros env level (with_budget (Some (suc b)) meter) 0 list (stops_with (with_budget (Some x) meter) (Some f))) same
        (replacement_fault (paid meter list (ReplacementFault f) e tt))
    enough zero is (replaced {next = next} e more) n sum = absurd (omega arith)
    enough {meter = meter} {list = list} (suc b) is (replaced {next = next} e more) n sum =
        replaced (paid meter list (Replaced next) e tt) (enough b (covers_less is) more n (omega arith))
    enough zero is (counts e more) n sum = absurd (omega arith)
    enough {meter = meter} {list = list} (suc b) is (counts {t = t} {rest = rest} e more) n sum =
        counts (paid meter list (Counts t rest) e tt) (enough b (covers_less is) more n (omega arith))
    enough zero is (argument_fault {invocation = invocation} e a) n sum = absurd (omega arith)
    enough {meter = meter} {list = list} (suc b) is (argument_fault {invocation = invocation} e a) n sum =
        argument_fault (paid meter list (Invoked invocation) e tt) (enough_arguments b (covers_less is) a n (omega arith))
    enough zero is (invocation_fault {invocation = invocation} e a f) n sum = absurd (omega arith)
    enough {meter = meter} {list = list} (suc b) is (invocation_fault {invocation = invocation} e a f) n sum =
        invocation_fault (paid meter list (Invoked invocation) e tt) (enough_arguments b (covers_less is) a n (omega arith)) f
    enough zero is (invocation_replaced {invocation = invocation} e a f more) n sum = absurd (omega arith)
    enough {meter = meter} {list = list} (suc b) is (invocation_replaced {invocation = invocation} e a f more) n sum =
        let k = count macros env more in
        let onward = enough (k + n) (arguments_rest b (k + n) (covers_less is) a (omega arith)) more n refl in
        invocation_replaced (paid meter list (Invoked invocation) e tt) (enough_arguments b (covers_less is) a (k + n) (omega arith)) f onward

    pub enough_arguments : {level : ℕ} {invocation : Invocation} {meter meter_after : Meter} {as' : List (List Hiding)} {r : ExpandedArguments} (b : ℕ)
        → Covers meter.remaining b
        → (a : ExpandsArguments macros env level invocation meter as' meter_after r) (n : ℕ)
        → b ≡ count_arguments macros env a + n
        → ExpandsArguments macros env level invocation (with_budget (Some b) meter) as' (with_budget (Some n) meter_after) r
    enough_arguments {level = level} {invocation = invocation} {meter = meter} b is none n sum =
        let same : b ≡ n = omega arith in
        subst (λ x. ExpandsArguments macros env level invocation (with_budget (Some b) meter) [] (with_budget (Some x) meter) (Ok [])) same none
    enough_arguments {level = level} {invocation = invocation} {meter = meter} {as' = as'} {r = r} b is (too_deep h) n sum =
        let same : b ≡ n = omega arith in
        subst (λ x. ExpandsArguments macros env level invocation (with_budget (Some b) meter) as' (with_budget (Some x) meter) r) same (too_deep h)
    enough_arguments b is (pre_expanded h one more) n sum =
        let k = count_arguments macros env more in
        let onward = enough_arguments (k + n) (covers_onward b (k + n) is one (omega arith)) more n refl in
        pre_expanded h (enough b is one (k + n) (omega arith)) onward
    enough_arguments b is (pre_expansion_fault h one) n sum = pre_expansion_fault h (enough b is one n sum)

  -- ---- with a budget that does not suffice

  -- within the budget b the list ends in fault 35, after a prefix of the tokens of `whole`
  abbrev pub Stops : ℕ → Meter → ℕ → List Hiding → Outcome → Type 0
  Stops level meter b list whole =
      (steps : ℕ) × (out : Outcome)
      × Expands macros env level (with_budget (Some b) meter) steps list out
      × IsPrefix out.tokens whole.tokens
      × IsOver out

  abbrev pub ArgumentsStop : ℕ → Invocation → Meter → ℕ → List (List Hiding) → Type 0
  ArgumentsStop level invocation meter b as' =
      (f : Fault) × (after : Meter)
      × (f.number ≡ 35)
      × (after.remaining ≡ Some 0)
      × ExpandsArguments macros env level invocation (with_budget (Some b) meter) as' after (Err f)

  stops_here : {level : ℕ} (meter : Meter) (list : List Hiding) (whole : Outcome) (t : ExpansionStep)
      → expansion_step macros env list ≡ t
      → Costs t
      → Stops level meter 0 list whole
  unfolding expansion_step
  stops_here meter [] whole t e c = absurd (never_both t (subst IsFree e tt) c)
  stops_here meter (x ∷ rest) whole t e c =
      let f : Fault = fault 35 x.token.used [] in (
        0,
        stops_with (with_budget (Some 0) meter) (Some f),
        token_fault (over_refused (x ∷ rest) (expansion_step macros env (x ∷ rest)) (subst Costs (sym e) c)),
        (whole.tokens, refl),
        record { fault = f; is = refl; number = refl; remaining = refl },
      )

  stops_passed : {level b : ℕ} (meter : Meter) {list rest : List Hiding} {t : Hiding} (whole : Outcome)
      → step_in_budget macros env (with_budget (Some b) meter) list ≡ Emits t rest
      → Stops level meter b rest whole
      → Stops level meter b list (with_emitted t whole)
  stops_passed meter {t = t} whole e s =
      let over = s.4 in (
        suc s.0,
        with_emitted t s.1,
        emits e s.2,
        (s.3.0, ap (λ xs. t ∷ xs) s.3.1),
        record { fault = over.fault; is = over.is; number = over.number; remaining = over.remaining },
      )

  stops_argument : {level b : ℕ} (meter : Meter) {list : List Hiding} {invocation : Invocation} (whole : Outcome)
      → expansion_step macros env list ≡ Invoked invocation
      → ArgumentsStop level invocation (spend_one meter) b (arguments_to_expand env invocation)
      → Stops level meter (suc b) list whole
  stops_argument meter whole e s =
      (0, stops_with s.1 (Some s.0), argument_fault e s.4, (whole.tokens, refl), record { fault = s.0; is = refl; number = s.2; remaining = s.3 })

  stops_used : {level b : ℕ} {invocation : Invocation} (meter : Meter) {list : List Hiding} {rest : List (List Hiding)} (whole : Outcome)
      → level < 256
      → Stops (suc level) meter b list whole
      → ArgumentsStop level invocation meter b (list ∷ rest)
  stops_used {level = level} {b = b} meter {list = list} whole h s =
      let over = s.4 in
      let faulty = subst (λ f. Expands macros env (suc level) (with_budget (Some b) meter) s.0 list (record s.1 { fault = f })) over.is s.2 in
      (over.fault, s.1.meter, over.number, over.remaining, pre_expansion_fault h faulty)

  mutual
    pub short : {level steps : ℕ} {meter : Meter} {list : List Hiding} {out : Outcome} (b : ℕ)
        → Covers meter.remaining b
        → (d : Expands macros env level meter steps list out)
        → b < count macros env d
        → Stops level meter b list out
    short b is (done e) h = absurd (omega arith)
    short b is (token_fault e) h = absurd (omega arith)
    short {meter = meter} {list = list} b is (emits {out = out} e more) h =
        stops_passed meter out (free_turn meter list is e tt) (short b is more h)
    short {meter = meter} {list = list} {out = out} zero is (replacement_fault {f = f} e) h =
        stops_here meter list out (ReplacementFault f) (paid meter list (ReplacementFault f) e tt) tt
    short (suc b) is (replacement_fault {f = f} e) h = absurd (omega arith)
    short {meter = meter} {list = list} {out = out} zero is (replaced {next = next} e more) h =
        stops_here meter list out (Replaced next) (paid meter list (Replaced next) e tt) tt
    short {meter = meter} {list = list} (suc b) is (replaced {next = next} e more) h =
        let s = short b (covers_less is) more (omega arith) in
        (suc s.0, s.1, replaced (paid meter list (Replaced next) e tt) s.2, s.3, s.4)
    short {meter = meter} {list = list} {out = out} zero is (counts {t = t} {rest = rest} e more) h =
        stops_here meter list out (Counts t rest) (paid meter list (Counts t rest) e tt) tt
    short {meter = meter} {list = list} (suc b) is (counts {t = t} {rest = rest} e more) h =
        let s = short b (covers_less is) more (omega arith) in
        (suc s.0, s.1, counts (paid meter list (Counts t rest) e tt) s.2, s.3, s.4)
    short {meter = meter} {list = list} {out = out} zero is (argument_fault {invocation = invocation} e a) h =
        stops_here meter list out (Invoked invocation) (paid meter list (Invoked invocation) e tt) tt
    short {meter = meter} {list = list} {out = out} (suc b) is (argument_fault {invocation = invocation} e a) h =
        stops_argument meter out (paid meter list (Invoked invocation) e tt) (short_arguments b (covers_less is) a (omega arith))
    short {meter = meter} {list = list} {out = out} zero is (invocation_fault {invocation = invocation} e a f) h =
        stops_here meter list out (Invoked invocation) (paid meter list (Invoked invocation) e tt) tt
    short {meter = meter} {list = list} {out = out} (suc b) is (invocation_fault {invocation = invocation} e a f) h =
        stops_argument meter out (paid meter list (Invoked invocation) e tt) (short_arguments b (covers_less is) a (omega arith))
    short {meter = meter} {list = list} {out = out} zero is (invocation_replaced {invocation = invocation} e a f more) h =
        stops_here meter list out (Invoked invocation) (paid meter list (Invoked invocation) e tt) tt
    short {level = level} {meter = meter} {list = list} {out = out} (suc b) is (invocation_replaced {invocation = invocation} e a f more) h =
        let invoked = paid meter list (Invoked invocation) e tt in
        elim (dec_lt b (count_arguments macros env a)) [
          | yes less ↦ stops_argument meter out invoked (short_arguments b (covers_less is) a less)
          | no not_less ↦
              (let m = count_arguments macros env a in
              let n = b - m in
              let sum : m + n ≡ b = omega arith in
              let s = short n (arguments_rest b n (covers_less is) a (sym sum)) more (omega arith) in
              (suc s.0, s.1, invocation_replaced {steps = s.0} {out = s.1} invoked (enough_arguments b (covers_less is) a n (sym sum)) f s.2, s.3, s.4))
        ]

    pub short_arguments : {level : ℕ} {invocation : Invocation} {meter meter_after : Meter} {as' : List (List Hiding)} {r : ExpandedArguments} (b : ℕ)
        → Covers meter.remaining b
        → (a : ExpandsArguments macros env level invocation meter as' meter_after r)
        → b < count_arguments macros env a
        → ArgumentsStop level invocation meter b as'
    short_arguments b is none h = absurd (omega arith)
    short_arguments b is (too_deep deep) h = absurd (omega arith)
    short_arguments {meter = meter} b is (pre_expanded {between = between} {tokens = tokens} low one more) h =
        elim (dec_lt b (count macros env one)) [
          | yes less ↦ stops_used meter (record { tokens = tokens; fault = None; meter = between }) low (short b is one less)
          | no not_less ↦
              (let m = count macros env one in
              let n = b - m in
              let sum : m + n ≡ b = omega arith in
              let s = short_arguments n (covers_onward b n is one (sym sum)) more (omega arith) in
              (s.0, s.1, s.2, s.3, pre_expanded {out = Err s.0} low (enough b is one n (sym sum)) s.4))
        ]
    short_arguments {meter = meter} b is (pre_expansion_fault {meter_after = after} {tokens = tokens} {f = f} low one) h =
        stops_used meter (record { tokens = tokens; fault = Some f; meter = after }) low (short b is one h)

  -- an expansion within a budget, compared with the expansion without a budget
  pub capped : {level steps : ℕ} (meter : Meter) {list : List Hiding} {whole : Outcome} (d : Expands macros env level (without_budget meter) steps list whole) (b n : ℕ) (out : Outcome)
      → Expands macros env level (with_budget (Some b) meter) n list out
      → CapsExpansion b (count macros env d) whole out
  capped {level = level} {steps = steps} meter {list = list} {whole = whole} d b n out o =
      let c = count macros env d in
      elim (dec_lt b c) [
        | yes less ↦
            (let s = short b without d less in
            let same : s.1 ≡ out = (same_outcome macros env s.2 n out o).1 in
            subst (CapsExpansion b c whole) same
            (record { tokens = s.3; enough = λ h. absurd (omega arith); short = λ h. s.4 }))
        | no not_less ↦
            (let k = b - c in
            let sum : c + k ≡ b = omega arith in
            let there : Expands macros env level (with_budget (Some b) meter) steps list (leaving k whole) = enough b without d k (sym sum) in
            let same : leaving k whole ≡ out = (same_outcome macros env there n out o).1 in
            subst (CapsExpansion b c whole) same
            (record { tokens = ([], sym (append-nil whole.tokens)); enough = λ h. (refl, refl, refl); short = λ h. absurd (omega arith) }))
      ]

  -- ---- expansions of tokens

  pub expansion_spends : {meter : Meter} {tokens : List Token} {e : Expansion} (x : IsExpansion macros env meter tokens e)
      → meter.remaining ≡ plus (count_expansion x) e.meter.remaining
  expansion_spends x = spends x.expands.1 ∙ ap (λ m. plus (count_expansion x) m.remaining) (sym x.meter_is)

  -- A budget of the cost plus n does not change the expansion, except that n is left.
  pub expansion_enough : {meter : Meter} {tokens : List Token} {e : Expansion} (b : ℕ)
      → Covers meter.remaining b
      → (x : IsExpansion macros env meter tokens e) (n : ℕ)
      → b ≡ count_expansion x + n
      → IsExpansion macros env (with_budget (Some b) meter) tokens (record e { meter = with_budget (Some n) e.meter })
  expansion_enough b is x n sum = record {
    outcome = leaving n x.outcome;
    expands = (x.expands.0, enough b is x.expands.1 n sum);
    emitted = x.emitted;
    fault_is = x.fault_is;
    meter_is = ap (with_budget (Some n)) x.meter_is;
  }

  -- A budget that suffices doesn't change where an expansion stops.
  enough_stop : {level steps : ℕ} {meter : Meter} {list : List Hiding} {out : Outcome} (b : ℕ)
      → (is : Covers meter.remaining b)
      → (d : Expands macros env level meter steps list out) (n : ℕ)
      → (sum : b ≡ count macros env d + n)
      → stopped_at macros env (enough b is d n sum) ≡ stopped_at macros env d
  unfolding enough
  enough_stop {level = level} {meter = meter} {list = list} b is (done e) n sum =
      stops_now macros env {level = level} {meter = with_budget (Some b) meter} {list = list} {out = leaving n (stops_with meter None)} (enough {level = level} {meter = meter} {list = list} b is (done e) n sum) refl
  enough_stop {level = level} {meter = meter} {list = list} b is (token_fault {f = f} e) n sum =
      stops_now macros env {level = level} {meter = with_budget (Some b) meter} {list = list} {out = leaving n (stops_with meter (Some f))} (enough {level = level} {meter = meter} {list = list} b is (token_fault e) n sum) refl
  enough_stop b is (emits e more) n sum = enough_stop b is more n sum
  enough_stop zero is (replacement_fault e) n sum = absurd (omega arith)
  enough_stop {level = level} {meter = meter} {list = list} (suc b) is (replacement_fault {f = f} e) n sum =
      stops_now macros env {level = level} {meter = with_budget (Some (suc b)) meter} {list = list} {out = leaving n (stops_with (spend_one meter) (Some f))}
      (enough {level = level} {meter = meter} {list = list} (suc b) is (replacement_fault e) n sum) refl
  enough_stop zero is (replaced e more) n sum = absurd (omega arith)
  enough_stop (suc b) is (replaced e more) n sum = enough_stop b (covers_less is) more n (omega arith)
  enough_stop zero is (counts e more) n sum = absurd (omega arith)
  enough_stop (suc b) is (counts e more) n sum = enough_stop b (covers_less is) more n (omega arith)
  enough_stop zero is (argument_fault e a) n sum = absurd (omega arith)
  enough_stop (suc b) is (argument_fault e a) n sum = refl
  enough_stop zero is (invocation_fault e a f) n sum = absurd (omega arith)
  enough_stop (suc b) is (invocation_fault e a f) n sum = refl
  enough_stop zero is (invocation_replaced e a f more) n sum = absurd (omega arith)
  enough_stop (suc b) is (invocation_replaced e a f more) n sum =
      let k = count macros env more in
      enough_stop (k + n) (arguments_rest b (k + n) (covers_less is) a (omega arith)) more n refl

  -- A budget that suffices leaves the same tokens open.
  pub enough_open : {meter : Meter} {tokens : List Token} {e : Expansion} (b : ℕ)
      → (is : Covers meter.remaining b)
      → (x : IsExpansion macros env meter tokens e) (n : ℕ)
      → (sum : b ≡ count_expansion x + n)
      → open_expansion (expansion_enough b is x n sum) ≡ open_expansion x
  unfolding expansion_enough
  enough_open b is x n sum = ap (still_open macros x.outcome.fault) (enough_stop b is x.expands.1 n sum)

  -- the expansion within the budget b ends in fault 35, after a prefix of the tokens of `whole`
  pub record StopsEarly (meter : Meter) (b : ℕ) (tokens : List Token) (whole : Expansion) : Type 0 where
    pub expansion : Expansion
    pub is : IsExpansion macros env (with_budget (Some b) meter) tokens expansion
    pub begins : IsPrefix expansion.tokens whole.tokens
    pub fault : Fault
    pub stopped : expansion.fault ≡ Some fault
    pub number : fault.number ≡ 35
    pub nothing : expansion.meter.remaining ≡ Some 0

  -- A budget below the cost is used up, and the expansion ends in fault 35.
  pub expansion_short : {meter : Meter} {tokens : List Token} {e : Expansion} (b : ℕ)
      → Covers meter.remaining b
      → (x : IsExpansion macros env meter tokens e)
      → b < count_expansion x
      → StopsEarly meter b tokens e
  expansion_short {e = e} b is x less =
      let s = short b is x.expands.1 less in
      let text : Hiding → Token = λ t. t.token in
      record {
        expansion = record { tokens = map text s.1.tokens; fault = s.1.fault; meter = s.1.meter };
        is = record { outcome = s.1; expands = (s.0, s.2); emitted = refl; fault_is = refl; meter_is = refl };
        begins = (map text s.3.0, x.emitted ∙ ap (map text) s.3.1 ∙ map-append text s.1.tokens s.3.0);
        fault = s.4.fault;
        stopped = s.4.is;
        number = s.4.number;
        nothing = s.4.remaining;
      }
