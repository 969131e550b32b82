-- Consecutive tokens that are emitted unchanged.
use Rattle.std.proofs.Common.{◌≡◌, ℕ, suc, Bool, true, false, not, ◌&&◌, List, [], ◌∷◌, ◌++◌, map, Option, Some, None}
use Rattle.std.proofs.Common.{is_some, refl, sym, ap, ◌∙◌, subst, arith, append_assoc, append-nil, true≢false}
use Rattle.std.specs.FinSet as set
use Rattle.std.specs.List.{AllByRecursion}
use Rattle.std.proofs.lemmas.List.{map-append}
use Rattle.pptext.specs.declared.tokens.Token.{Token}
use Rattle.pptext.specs.Tokens.{is_unmatched_quote}
use Rattle.ppmacro.specs.Names.{Macros}
use Rattle.ppmacro.specs.HideSetPool.{HideSetPool}
use Rattle.ppmacro.specs.Hiding.{Hiding}
use Rattle.ppmacro.specs.HideSets.{set_at, IsKnown, hiding, hidings, AllKnown}
use Rattle.ppmacro.specs.Substitution.{unhidden}
use Rattle.ppmacro.specs.Substituting.{tokens_of}
use Rattle.ppmacro.proofs.PoolGrowthLemmas.{known-front, known-rest, known-append}
use Rattle.ppmacro.specs.declared.hidden_token.Hidden.{Hidden}
use Rattle.ppexpand.specs.declared.env.Env.{Env}
use Rattle.ppexpand.specs.ExpansionStep.{Emits, macro_of, expansion_step}
use Rattle.ppexpand.specs.Budget.{in_budget}
use Rattle.ppexpand.specs.Expansion.{Outcome, step_in_budget, Expands, ExpandsTo, Expansion, IsExpansion, emits, done, stops_with}
use Rattle.ppexpand.specs.declared.meter.Meter.{Meter}
use Rattle.ppexpand.specs.code.Lists.{with_set, never_expands, NeverExpand}
use Rattle.ppexpand.specs.Laws.{LeadsOn, stays, steps, by_emitting}
use Rattle.ppexpand.specs.code.Skipping.{HasSkipped}
use Rattle.ppexpand.specs.code.ProgramValues.{Takes}
use Rattle.ppexpand.proofs.StepLemmas.{expansion_step-unnamed, done-in_budget, emits-in_budget}

pub unhidden-with_set : (macros : Macros) (n : ℕ) (ts : List Token) → AllByRecursion (λ t. never_expands macros t ≡ true) ts → NeverExpand macros (map (with_set n) ts)
unhidden-with_set macros n [] h = record { each = tt }
unhidden-with_set macros n (t ∷ ts) h = let rest = unhidden-with_set macros n ts h.1 in record { each = (h.0, rest.each) }

both_false : (a b : Bool) → (not a && not b) ≡ true → (a ≡ false) × (b ≡ false)
both_false true b h = absurd (true≢false (sym h))
both_false false true h = absurd (true≢false (sym h))
both_false false false h = (refl, refl)

pub none_by : {A : Type 0} (o : Option A) → is_some o ≡ false → o ≡ None
none_by None h = refl
none_by (Some a) h = absurd (true≢false h)

expansion_step-unhidden : (macros : Macros) (env : Env) (meter : Meter) (t : Hiding) (rest : List Hiding) → never_expands macros t.token ≡ true → step_in_budget macros env meter (t ∷ rest) ≡ Emits t rest
expansion_step-unhidden macros env meter t rest h =
    let parts = both_false (is_unmatched_quote t.token) (is_some (macro_of macros t.token)) h in
    let none : macro_of macros t.token ≡ None = none_by (macro_of macros t.token) parts.1 in
    ap (in_budget meter (t ∷ rest)) (expansion_step-unnamed macros env t rest parts.0 none) ∙ emits-in_budget meter (t ∷ rest) t rest

-- ---- skipped tokens

pub skipped-none : (macros : Macros) (list emitted : List Hidden) → HasSkipped macros list emitted list emitted
skipped-none macros list emitted = record { skipped = []; laid_out = refl; emits = sym (append-nil emitted); unexpanded = record { each = tt } }

unhidden-append : (macros : Macros) (gs hs : List Hidden) → NeverExpand macros gs → NeverExpand macros hs → NeverExpand macros (gs ++ hs)
unhidden-append macros [] hs g h = h
unhidden-append macros (x ∷ gs) hs g h = let rest = unhidden-append macros gs hs (record { each = g.each.1 }) h in record { each = (g.each.0, rest.each) }

pub skipped-on : (macros : Macros) (list emitted next more last all : List Hidden) → HasSkipped macros list emitted next more → HasSkipped macros next more last all → HasSkipped macros list emitted last all
skipped-on macros list emitted next more last all h k = record {
  skipped = h.skipped ++ k.skipped;
  laid_out = h.laid_out ∙ ap (λ l. h.skipped ++ l) k.laid_out ∙ sym (append_assoc h.skipped k.skipped last);
  emits = k.emits ∙ ap (λ l. l ++ k.skipped) h.emits ∙ append_assoc emitted h.skipped k.skipped;
  unexpanded = unhidden-append macros h.skipped k.skipped h.unexpanded k.unexpanded;
}

pub skipped-one : (macros : Macros) (h : Hidden) (list next emitted : List Hidden) → list ≡ h ∷ next → never_expands macros h.token ≡ true → HasSkipped macros list emitted next (emitted ++ h ∷ [])
skipped-one macros h list next emitted is unhidden = record { skipped = h ∷ []; laid_out = is; emits = refl; unexpanded = record { each = (unhidden, tt) } }

module _ (macros : Macros) (env : Env) (level : ℕ) (meter : Meter) (s : HideSetPool) where
  skips : (hs rest : List Hidden) → NeverExpand macros hs → (n : ℕ) (out : Outcome) → Expands macros env level meter n (hidings s rest) out
      → Takes macros env level meter n (hidings s (hs ++ rest)) (record { tokens = hidings s hs ++ out.tokens; fault = out.fault; meter = out.meter })
  skips [] rest h n out d = record { steps = n; more = omega arith; is = d }
  skips (t ∷ ts) rest h n out d =
      let onward = skips ts rest (record { each = h.each.1 }) n out d in
      let more = onward.more in
      record { steps = suc onward.steps; more = omega arith; is = emits (expansion_step-unhidden macros env meter (hiding s t) (hidings s (ts ++ rest)) h.each.0) onward.is }

  pub skipped_after : (list emitted next more : List Hidden) (k : HasSkipped macros list emitted next more) → (n : ℕ) (out : Outcome) → Expands macros env level meter n (hidings s next) out
      → Takes macros env level meter n (hidings s list) (record { tokens = hidings s k.skipped ++ out.tokens; fault = out.fault; meter = out.meter })
  skipped_after list emitted next more k n out d =
      subst (λ l. Takes macros env level meter n (hidings s l) (record { tokens = hidings s k.skipped ++ out.tokens; fault = out.fault; meter = out.meter })) (sym k.laid_out) (skips k.skipped next k.unexpanded n out d)

  abbrev Reaches : List Hiding → List Hiding → Type 0
  Reaches list next = (n : ℕ) × LeadsOn macros env level n meter list meter next

  skips_lead : (hs rest : List Hidden) → NeverExpand macros hs → Reaches (hidings s (hs ++ rest)) (hidings s rest)
  skips_lead [] rest h = (0, stays)
  skips_lead (t ∷ ts) rest h =
      let onward = skips_lead ts rest (record { each = h.each.1 }) in
      (suc onward.0, steps (by_emitting (expansion_step-unhidden macros env meter (hiding s t) (hidings s (ts ++ rest)) h.each.0)) onward.1)

  pub skipped_leads : (list emitted next more : List Hidden) → HasSkipped macros list emitted next more → Reaches (hidings s list) (hidings s next)
  skipped_leads list emitted next more k = subst (λ l. Reaches (hidings s l) (hidings s next)) (sym k.laid_out) (skips_lead k.skipped next k.unexpanded)

pub next-known : {macros : Macros} (s : HideSetPool) (list emitted next more : List Hidden) → HasSkipped macros list emitted next more → AllKnown s list → AllKnown s next
next-known s list emitted next more k h = known-rest k.skipped next (subst (AllKnown s) k.laid_out h)

pub more-known : {macros : Macros} (s : HideSetPool) (list emitted next more : List Hidden) → HasSkipped macros list emitted next more → AllKnown s list → AllKnown s emitted → AllKnown s more
more-known s list emitted next more k h p = subst (AllKnown s) (sym k.emits) (known-append emitted k.skipped p (known-front k.skipped next (subst (AllKnown s) k.laid_out h)))

-- tokens of a file, all with the same hide set
pub known-with_set : (s : HideSetPool) (n : ℕ) (ts : List Token) → IsKnown s n → AllKnown s (map (with_set n) ts)
known-with_set s n [] h = record { each = tt }
known-with_set s n (t ∷ ts) h = let rest = known-with_set s n ts h in record { each = (record { hide = h; extra = tt }, rest.each) }

pub hidings-with_set : (s : HideSetPool) (n : ℕ) (ts : List Token) → set_at s n ≡ set.empty → hidings s (map (with_set n) ts) ≡ map unhidden ts
hidings-with_set s n [] h = refl
hidings-with_set s n (t ∷ ts) h = λ i. record { token = t; hide = h i } ∷ hidings-with_set s n ts h i

pub tokens-with_set : (n : ℕ) (ts : List Token) → tokens_of (map (with_set n) ts) ≡ ts
tokens-with_set n [] = refl
tokens-with_set n (t ∷ ts) = ap (λ us. t ∷ us) (tokens-with_set n ts)

-- A prefix of tokens that never expand is emitted before the expansion of the rest.
pub expands-prefix : (macros : Macros) (env : Env) (level : ℕ) (meter : Meter) (prefix : List Token) (rest : List Hiding) (out : Outcome)
    → AllByRecursion (λ t. never_expands macros t ≡ true) prefix
    → ExpandsTo macros env level meter rest out
    → ExpandsTo macros env level meter (map unhidden prefix ++ rest) (record { tokens = map unhidden prefix ++ out.tokens; fault = out.fault; meter = out.meter })
expands-prefix macros env level meter [] rest out h d = d
expands-prefix macros env level meter (t ∷ ts) rest out h d =
    let onward = expands-prefix macros env level meter ts rest out h.1 d in
    (suc onward.0, emits (expansion_step-unhidden macros env meter (unhidden t) (map unhidden ts ++ rest) h.0) onward.1)

-- The empty list expands to no tokens.
pub expands-nothing : (macros : Macros) (env : Env) (level : ℕ) (meter : Meter) → ExpandsTo macros env level meter [] (stops_with meter None)
unfolding expansion_step
expands-nothing macros env level meter = (0, done (done-in_budget meter []))

pub tokens-unhidden : (ts : List Token) → map (λ t. t.token) (map unhidden ts) ≡ ts
tokens-unhidden [] = refl
tokens-unhidden (t ∷ ts) = ap (λ us. t ∷ us) (tokens-unhidden ts)

-- the expansion of a list with a prefix of tokens that never expand, by the outcome of the rest
pub expansion-following : (macros : Macros) (env : Env) (meter : Meter) (tokens prefix rest : List Token) (e : Expansion) (out : Outcome)
    → tokens ≡ prefix ++ rest
    → AllByRecursion (λ t. never_expands macros t ≡ true) prefix
    → ExpandsTo macros env 0 meter (map unhidden rest) out
    → e.tokens ≡ prefix ++ map (λ t. t.token) out.tokens
    → e.fault ≡ out.fault
    → e.meter ≡ out.meter
    → IsExpansion macros env meter tokens e
expansion-following macros env meter tokens prefix rest e out laid_out h d is ends leaves =
    let whole : Outcome = record { tokens = map unhidden prefix ++ out.tokens; fault = out.fault; meter = out.meter } in
    record {
      outcome = whole;
      expands = subst (λ ts. ExpandsTo macros env 0 meter ts whole) (sym (ap (map unhidden) laid_out ∙ map-append unhidden prefix rest)) (expands-prefix macros env 0 meter prefix (map unhidden rest) out h d);
      emitted = is ∙ (λ i. sym (tokens-unhidden prefix) i ++ map (λ t. t.token) out.tokens) ∙ sym (map-append (λ t. t.token) (map unhidden prefix) out.tokens);
      fault_is = ends;
      meter_is = leaves;
    }

-- the expansion of a list with a prefix of tokens that never expand, by the expansion of the rest
pub expansion-of_rest : (macros : Macros) (env : Env) (meter : Meter) (tokens prefix rest : List Token) (e : Expansion)
    → tokens ≡ prefix ++ rest
    → AllByRecursion (λ t. never_expands macros t ≡ true) prefix
    → IsExpansion macros env meter rest e
    → IsExpansion macros env meter tokens (record e { tokens = prefix ++ e.tokens })
expansion-of_rest macros env meter tokens prefix rest e laid_out h x =
    expansion-following macros env meter tokens prefix rest (record e { tokens = prefix ++ e.tokens }) x.outcome laid_out h x.expands (ap (λ ts. prefix ++ ts) x.emitted) x.fault_is x.meter_is

-- Tokens that are all emitted unchanged expand to themselves.
pub unhidden-expands : (macros : Macros) (env : Env) (level : ℕ) (meter : Meter) (s : HideSetPool) (hs : List Hidden)
    → NeverExpand macros hs
    → ExpandsTo macros env level meter (hidings s hs) (record { tokens = hidings s hs; fault = None; meter = meter })
unhidden-expands macros env level meter s [] h = expands-nothing macros env level meter
unhidden-expands macros env level meter s (t ∷ ts) h =
    let onward = unhidden-expands macros env level meter s ts (record { each = h.each.1 }) in
    (suc onward.0, emits (expansion_step-unhidden macros env meter (hiding s t) (hidings s ts) h.each.0) onward.1)
