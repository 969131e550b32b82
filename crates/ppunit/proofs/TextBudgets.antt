-- The budget at text lines, where an invocation that waits is counted already: its expansion counts it again. An expansion
-- within a sufficient budget stops at the same list, and so leaves the same tokens open.
use Rattle.std.proofs.Common.{◌≡◌, ℕ, suc, ◌+◌, ◌-◌, ◌<◌, ◌≤◌, List, [], ◌∷◌, ◌++◌, false, Option, Some, None, refl, ap, ◌∙◌, arith, zero, true, true≢false, sym, subst}
use Rattle.pptext.specs.declared.tokens.Token.{Token}
use Rattle.ppmacro.specs.Names.{Macros}
use Rattle.ppexpand.specs.declared.env.Env.{Env}
use Rattle.ppexpand.specs.declared.meter.Meter.{Meter}
use Rattle.ppexpand.specs.Budget.{with_budget, is_used_up, one_more, give_back_one, is_exhausted, in_budget}
use Rattle.ppexpand.specs.Expansion.{Expansion, IsExpansion, count_expansion, Outcome, Expands, done, token_fault, emits, replacement_fault, replaced, counts, argument_fault, invocation_fault, invocation_replaced, count, count_arguments}
use Rattle.ppexpand.specs.Laws.{plus}
use Rattle.ppexpand.specs.OpenInvocations.{open_expansion, stopped_at, still_open}
use Rattle.ppexpand.proofs.BudgetLemmas.{Covers, without, larger, Costs, covers_less, covers_rest, spends_arguments, leaving, enough, enough_arguments}
use Rattle.ppexpand.proofs.CountedInvocations.{counts_invocation}
use Rattle.ppunit.specs.Directives.{meter_at_text}
use Rattle.ppunit.specs.Counts.{counted_before}
use Rattle.ppunit.proofs.WaitingInvocations.{Waits, nothing_waits, invocation_waits}
use Rattle.ppmacro.specs.Hiding.{Hiding}
use Rattle.ppexpand.specs.ExpansionStep.{ExpansionStep, Done, TokenFault, Emits, ReplacementFault, Replaced, Counts, Invoked, expansion_step}
use Rattle.ppexpand.proofs.StepLemmas.{IsFree, refused_is_free, free-in_budget, exhausted-in_budget}
use Rattle.ppexpand.proofs.StoppedLists.{stops_now, same_stop}
use Rattle.ppexpand.proofs.OpenLists.{leaves_same}

-- ---- the invocation that waits is counted

never_used_up : (budget : Option ℕ) → is_used_up (one_more budget) ≡ false
never_used_up None = refl
never_used_up (Some n) = refl

pub counts_before : {macros : Macros} {env : Env} {waiting : List Token} {e : Expansion} (meter : Meter) (tokens : List Token)
    → Waits macros waiting
    → (x : IsExpansion macros env (meter_at_text waiting meter) (waiting ++ tokens) e)
    → counted_before waiting ≤ count_expansion x
counts_before meter tokens nothing_waits x = omega arith
counts_before {macros} {env} {e = e} meter tokens (invocation_waits {t = t} {paren = paren} {inside = inside} {d = d} named function_like opens) x =
    counts_invocation macros env (give_back_one meter) t paren (inside ++ tokens) e d named function_like opens (never_used_up meter.remaining) x

-- ---- the budget

-- a budget of b, at text lines
abbrev pub budget_at_text : List Token → ℕ → ℕ
budget_at_text [] b = b
budget_at_text (t ∷ ts) b = suc b

covers_more : {budget : Option ℕ} {b : ℕ} → Covers budget b → Covers (one_more budget) (suc b)
covers_more without = without
covers_more (larger h) = larger (omega arith)

pub covers_at_text : (waiting : List Token) (b : ℕ) (meter : Meter) → Covers meter.remaining b
    → Covers (meter_at_text waiting meter).remaining (budget_at_text waiting b)
covers_at_text [] b meter is = is
covers_at_text (t ∷ ts) b meter is = covers_more is

given_back : (budget rest : Option ℕ) (c : ℕ) → 1 ≤ c → one_more budget ≡ plus c rest → budget ≡ plus (c - 1) rest
given_back None None c most e = refl
given_back None (Some k) c most e = absurd (cc)
given_back (Some n) None c most e = absurd (cc)
given_back (Some n) (Some k) c most e = let all : suc n ≡ c + k = cc in ap Some (omega arith)

-- What text lines spend, of the budget without what they give back.
pub spent_at_text : (waiting : List Token) (meter : Meter) (c : ℕ) (rest : Option ℕ)
    → counted_before waiting ≤ c
    → (meter_at_text waiting meter).remaining ≡ plus c rest
    → meter.remaining ≡ plus (c - counted_before waiting) rest
spent_at_text [] meter c rest most e = e ∙ ap (λ n. plus n rest) (omega arith)
spent_at_text (t ∷ ts) meter c rest most e = given_back meter.remaining rest c most e

-- Without a budget there is none at text lines.
pub none_at_text : (waiting : List Token) (meter : Meter) → meter.remaining ≡ None → (meter_at_text waiting meter).remaining ≡ None
none_at_text [] meter is = is
none_at_text (t ∷ ts) meter is = ap one_more is

pub sum_at_text : (waiting : List Token) (b c n : ℕ) → counted_before waiting ≤ c → b ≡ (c - counted_before waiting) + n → budget_at_text waiting b ≡ c + n
sum_at_text [] b c n most sum = omega arith
sum_at_text (t ∷ ts) b c n most sum = omega arith

pub less_at_text : (waiting : List Token) (b c : ℕ) → b < c - counted_before waiting → budget_at_text waiting b < c
less_at_text [] b c less = omega arith
less_at_text (t ∷ ts) b c less = omega arith

-- ---- an expansion within a budget of b at text lines

-- an expansion at text lines, which leaves these tokens open
pub record ExpandsAtText (macros : Macros) (env : Env) (waiting tokens : List Token) (meter : Meter) (e : Expansion) (open' : List Token) : Type 0 where
  pub expands : IsExpansion macros env (meter_at_text waiting meter) (waiting ++ tokens) e
  pub leaves_open : open_expansion expands ≡ open'

pub expands_at_text : (macros : Macros) (env : Env) (waiting tokens : List Token) (b : ℕ) (meter : Meter) (e : Expansion)
    → (x : IsExpansion macros env (with_budget (Some (budget_at_text waiting b)) (meter_at_text waiting meter)) (waiting ++ tokens) e)
    → ExpandsAtText macros env waiting tokens (with_budget (Some b) meter) e (open_expansion x)
expands_at_text macros env [] tokens b meter e x = record { expands = x; leaves_open = refl }
expands_at_text macros env (t ∷ ts) tokens b meter e x = record { expands = x; leaves_open = refl }

-- ---- a step within another budget

costs_something : (t : ExpansionStep) → IsFree t → Costs t → ⊥
costs_something Done f c = c
costs_something (TokenFault g) f c = c
costs_something (Emits t rest) f c = c
costs_something (ReplacementFault g) f c = f
costs_something (Replaced next) f c = f
costs_something (Counts t rest) f c = f
costs_something (Invoked invocation) f c = f

-- A replacement is the same within each budget that isn't used up.
paid_turn : (meter : Meter) (b : ℕ) (list : List Hiding) (u t : ExpansionStep) → in_budget meter list u ≡ t → Costs t
    → in_budget (with_budget (Some (suc b)) meter) list u ≡ t
paid_turn meter b list u t e c = elim (is_exhausted meter) as (λ x. is_exhausted meter ≡ x → u ≡ t) [
  | true ↦ λ k. absurd (costs_something t (subst IsFree (sym (exhausted-in_budget meter list u k) ∙ e) (refused_is_free list u)) c)
  | false ↦ λ k. sym (free-in_budget meter list u k) ∙ e
] refl

-- A step to the next token costs nothing, and is the same within each smaller budget.
free_turn : (meter : Meter) (b : ℕ) (list : List Hiding) (u : ExpansionStep) (t : Hiding) (rest : List Hiding)
    → Covers meter.remaining b
    → in_budget meter list u ≡ Emits t rest
    → in_budget (with_budget (Some b) meter) list u ≡ Emits t rest
free_turn meter b list u t rest is e =
    elim (is_exhausted meter) as (λ x. is_exhausted meter ≡ x → in_budget (with_budget (Some b) meter) list u ≡ Emits t rest) [
      | true ↦ λ k. ap (λ n. in_budget (with_budget (Some n) meter) list u) (nothing_left meter.remaining b is k) ∙ sym (exhausted-in_budget meter list u k) ∙ e
      | false ↦ λ k.
          (let same : u ≡ Emits t rest = sym (free-in_budget meter list u k) ∙ e in
          ap (in_budget (with_budget (Some b) meter) list) same ∙ within b)
    ] refl
  where
    nothing_left : (budget : Option ℕ) (n : ℕ) → Covers budget n → is_used_up budget ≡ true → n ≡ 0
    nothing_left None n h k = absurd (true≢false (sym k))
    nothing_left (Some zero) n (larger h) k = omega arith
    nothing_left (Some (suc m)) n h k = absurd (true≢false (sym k))

    within : (n : ℕ) → in_budget (with_budget (Some n) meter) list (Emits t rest) ≡ Emits t rest
    within zero = refl
    within (suc n) = refl

-- ---- the list at which an expansion stops

module _ (macros : Macros) (env : Env) where
  -- An expansion with a budget of the cost plus n stops where this expansion stops.
  stops_within : {level steps : ℕ} {meter : Meter} {list : List Hiding} {out other : Outcome} (b : ℕ)
      → Covers meter.remaining b
      → (d : Expands macros env level meter steps list out) (n : ℕ)
      → b ≡ count macros env d + n
      → (e : Expands macros env level (with_budget (Some b) meter) steps list other)
      → stopped_at macros env e ≡ stopped_at macros env d
  stops_within b is (done x) n sum e = stops_now macros env e refl
  stops_within b is (token_fault x) n sum e = stops_now macros env e refl
  stops_within {meter = meter} {list = list} b is (emits {t = t} {rest = rest} x more) n sum e =
      let later = enough macros env b is more n sum in
      same_stop macros env e (emits (free_turn meter b list (expansion_step macros env list) t rest is x) later) ∙ stops_within b is more n sum later
  stops_within b is (replacement_fault x) n sum e = stops_now macros env e refl
  stops_within zero is (replaced x more) n sum e = absurd (omega arith)
  stops_within {meter = meter} {list = list} (suc b) is (replaced {next = next} x more) n sum e =
      let left : b ≡ count macros env more + n = omega arith in
      let later = enough macros env b (covers_less is) more n left in
      same_stop macros env e (replaced (paid_turn meter b list (expansion_step macros env list) (Replaced next) x tt) later)
      ∙ stops_within b (covers_less is) more n left later
  stops_within zero is (counts x more) n sum e = absurd (omega arith)
  stops_within {meter = meter} {list = list} (suc b) is (counts {t = t} {rest = rest} x more) n sum e =
      let left : b ≡ count macros env more + n = omega arith in
      let later = enough macros env b (covers_less is) more n left in
      same_stop macros env e (counts (paid_turn meter b list (expansion_step macros env list) (Counts t rest) x tt) later)
      ∙ stops_within b (covers_less is) more n left later
  stops_within b is (argument_fault x a) n sum e = stops_now macros env e refl
  stops_within b is (invocation_fault x a f) n sum e = stops_now macros env e refl
  stops_within zero is (invocation_replaced x a f more) n sum e = absurd (omega arith)
  stops_within {meter = meter} {list = list} (suc b) is (invocation_replaced {meter_after = after} {invocation = invocation} x a f more) n sum e =
      let k = count macros env more in
      let left : b ≡ count_arguments macros env a + (k + n) = omega arith in
      let covers : Covers after.remaining (k + n) =
      covers_rest after.remaining (count_arguments macros env a) (k + n) (covers_less is) (spends_arguments macros env a) left in
      let first = enough_arguments macros env b (covers_less is) a (k + n) left in
      let later = enough macros env (k + n) covers more n refl in
      same_stop macros env e (invocation_replaced (paid_turn meter b list (expansion_step macros env list) (Invoked invocation) x tt) first f later)
      ∙ stops_within (k + n) covers more n refl later

  -- What an expansion leaves open is the same with each sufficient budget.
  pub same_open : {meter : Meter} {tokens : List Token} {e other : Expansion} (b : ℕ)
      → Covers meter.remaining b
      → (x : IsExpansion macros env meter tokens e) (n : ℕ)
      → b ≡ count_expansion x + n
      → (y : IsExpansion macros env (with_budget (Some b) meter) tokens other)
      → open_expansion y ≡ open_expansion x
  same_open {meter = meter} {tokens = tokens} {e = e} {other = other} b is x n sum y =
      let there = enough macros env b is x.expands.1 n sum in
      let whole : Expansion = record e { meter = with_budget (Some n) e.meter } in
      let z : IsExpansion macros env (with_budget (Some b) meter) tokens whole = record {
        outcome = leaving macros env n x.outcome;
        expands = (x.expands.0, there);
        emitted = x.emitted;
        fault_is = x.fault_is;
        meter_is = ap (with_budget (Some n)) x.meter_is;
      } in
      leaves_same macros env (with_budget (Some b) meter) tokens other whole y z
      ∙ ap (still_open macros x.outcome.fault) (stops_within b is x.expands.1 n sum there)
