-- The expansion step of a list whose next token names an object-like macro without `##`.
use Rattle.std.proofs.Common.{◌≡◌, ◌∙◌, ℕ, Bool, true, false, ◌&&◌, ◌||◌, not, List, [], ◌∷◌, ◌++◌, map, Option, Some, None, refl, sym, ap, subst, append-nil, if◌then◌else◌}
use Rattle.std.specs.FinSet as set
use Rattle.std.specs.List.{list_any}
use Rattle.std.proofs.lemmas.Cmp.{eq_by_cmp_equiv, nat_list_cmp_total}
use Rattle.std.proofs.lemmas.Map.Lookups.{exact_bytes}
use Rattle.std.proofs.lemmas.Map.Views.{tells_apart}
use Rattle.pptext.specs.declared.tokens.Kind.{Kind}
use Rattle.pptext.specs.declared.tokens.Kind.TheVariants.{Ident, Number, CharConst, Str, Punct, Header, Other}
use Rattle.pptext.specs.declared.tokens.Place.{Place}
use Rattle.pptext.specs.declared.tokens.Token.{Token}
use Rattle.pptext.specs.Tokens.{is_identifier_kind, is_other_kind, is_unmatched_quote}
use Rattle.ppmacro.specs.Names.{Name, HideSet, Macros}
use Rattle.ppmacro.specs.HashOperators.{is_paste}
use Rattle.ppmacro.specs.Chains.{chains_of}
use Rattle.ppmacro.specs.PasteFree.{is_object_like, lone_chain, lone_tokens}
use Rattle.ppmacro.specs.HideSetPool.{HideSetPool}
use Rattle.ppmacro.specs.Hiding.{Hiding}
use Rattle.ppmacro.specs.HideSets.{set_at, IsKnown, hide_of, hiding, hidings, AllKnown, KeepsSets}
use Rattle.ppmacro.specs.Substituting.{tokens_of}
use Rattle.ppmacro.specs.Substitution.{chains_replacement, replacement_by, hsadd, with_space, unhidden}
use Rattle.ppmacro.specs.VaOptChains.{Ordinary}
use Rattle.ppmacro.proofs.VaOptLemmas.{object-list}
use Rattle.ppmacro.specs.declared.hidden_token.Hidden.{Hidden}
use Rattle.ppmacro.specs.declared.macros.Macro.{Macro}
use Rattle.ppmacro.specs.code.Members.{same_name}
use Rattle.ppmacro.proofs.NodeHideSets.{same-by, union-none}
use Rattle.std.proofs.lemmas.List.{map-append}
use Rattle.ppmacro.proofs.PoolGrowthLemmas.{hidings-keeps, known-keeps, known-append}
use Rattle.ppmacro.proofs.ObjectLikeChains.{object_like, lone_substituted}
use Rattle.ppexpand.specs.declared.env.Env.{Env}
use Rattle.ppexpand.specs.declared.meter.Meter.{Meter}
use Rattle.ppexpand.specs.ExpansionStep.{Emits, Replaced, named_step, macro_step, macro_of, space_next, replaced_by, no_arguments}
use Rattle.ppexpand.specs.Budget.{in_budget, is_exhausted, spend_one}
use Rattle.ppexpand.specs.Expansion.{step_in_budget, emits, replaced}
use Rattle.ppexpand.specs.Laws.{by_emitting, by_replacing}
use Rattle.ppexpand.specs.code.Lists.{placed, lone_replaced, next_macro}
use Rattle.ppexpand.specs.code.Skipping.{HasSkipped}
use Rattle.ppexpand.specs.code.ProgramValues.{HasPassed}
use Rattle.ppexpand.proofs.PassedSteps.{passed-skip, passed-step, passed-on}
use Rattle.ppexpand.proofs.SpaceFlags.{hidings-spaced, known-spaced}
use Rattle.ppexpand.proofs.StepLemmas.{expansion_step-hidden, expansion_step-named, emits-in_budget, free-in_budget}

-- ---- sets

-- A set that has a name does not change when the name is added.
pub insert-again : (s : HideSet) (k : Name) → set.contains s k ≡ true → set.insert s k ≡ s
insert-again s k has = same-by _ _ (λ q.
    set.contains-insert nat_list_cmp_total s k q
    ∙ elim (same_name q k) as (λ b. same_name q k ≡ b → (b || set.contains s q) ≡ set.contains s q) [
      | true ↦ λ same. sym (ap (set.contains s) (tells_apart exact_bytes q k same) ∙ has)
      | false ↦ λ other. refl
    ] refl)

-- A set with a name added has the name.
pub has-inserted : (s : HideSet) (k : Name) → set.contains (set.insert s k) k ≡ true
has-inserted s k = set.contains-insert nat_list_cmp_total s k k ∙ ap (λ b. b || set.contains s k) ((eq_by_cmp_equiv nat_list_cmp_total).refl k)

-- ---- the macro

kind_unquoted : (k : Kind) (o : Option Macro) (m : Macro) (b : Bool) → (if is_identifier_kind k then o else None) ≡ Some m → (is_other_kind k && b) ≡ false
kind_unquoted Ident o m b h = refl
kind_unquoted Number o m b h = refl
kind_unquoted CharConst o m b h = refl
kind_unquoted Str o m b h = refl
kind_unquoted Punct o m b h = refl
kind_unquoted Header o m b h = refl
kind_unquoted Other o m b h = absurd (cc h)

-- A token that names a macro is no unmatched quote.
pub named_unquoted : (macros : Macros) (t : Token) (m : Macro) → macro_of macros t ≡ Some m → is_unmatched_quote t ≡ false
named_unquoted macros t m h = kind_unquoted t.kind _ m _ h

lone_kind : (m : Macro) (body : List Token) → lone_tokens m ≡ Some body → is_object_like m.kind ≡ true
lone_kind m body h = elim (is_object_like m.kind) as (λ b. (if b && not (list_any is_paste m.body) then Some m.body else None) ≡ Some body → b ≡ true) [
  | true ↦ λ e. refl
  | false ↦ λ e. absurd (cc e)
] h

-- ---- the tokens

hiding-placed : (s : HideSetPool) (hide : ℕ) (used : Place) (t : Token) → hiding s (placed hide used t) ≡ hsadd (set_at s hide) used (unhidden t)
hiding-placed s hide used t = λ i. record { token = record t { used = used }; hide = sym (union-none (set_at s hide)) i }

hidings-placed : (s : HideSetPool) (hide : ℕ) (used : Place) (ts : List Token) (rest : List Hidden)
    → hidings s (map (placed hide used) ts ++ rest) ≡ map (λ t. hsadd (set_at s hide) used (unhidden t)) ts ++ hidings s rest
hidings-placed s hide used [] rest = refl
hidings-placed s hide used (t ∷ ts) rest = λ i. hiding-placed s hide used t i ∷ hidings-placed s hide used ts rest i

known-placed : (s : HideSetPool) (hide : ℕ) (used : Place) (ts : List Token) (rest : List Hidden) → IsKnown s hide → AllKnown s rest → AllKnown s (map (placed hide used) ts ++ rest)
known-placed s hide used [] rest known all = all
known-placed s hide used (t ∷ ts) rest known all =
    let more = known-placed s hide used ts rest known all in
    record { each = (record { hide = known; extra = tt }, more.each) }

pub known-lone : (s : HideSetPool) (hide : ℕ) (used : Place) (space : Bool) (body : List Token) (rest : List Hidden) → IsKnown s hide → AllKnown s rest → AllKnown s (lone_replaced hide used space body rest)
known-lone s hide used space [] rest known all = known-spaced s space rest all
known-lone s hide used space (t ∷ ts) rest known all =
    let more = known-placed s hide used ts rest known all in
    record { each = (record { hide = known; extra = tt }, more.each) }

lone_is : (s : HideSetPool) (hide : ℕ) (names : HideSet) (used : Place) (space : Bool) (body : List Token) (rest : List Hidden) (following : List Hiding)
    → set_at s hide ≡ names
    → hidings s rest ≡ following
    → replaced_by (chains_replacement (map lone_chain body) no_arguments names used space) following ≡ Replaced (hidings s (lone_replaced hide used space body rest))
lone_is s hide names used space [] rest following names_are kept = sym (ap Replaced (hidings-spaced s space rest ∙ ap (space_next space) kept))
lone_is s hide names used space (t ∷ ts) rest following names_are kept =
    let all : hidings s (lone_replaced hide used space (t ∷ ts) rest) ≡ hsadd names used (with_space space (unhidden t)) ∷ (map (λ x. hsadd names used (unhidden x)) ts ++ following) =
    (λ i. hiding-placed s hide used (record t { space = space }) i ∷ hidings-placed s hide used ts rest i)
    ∙ (λ i. hsadd (names_are i) used (with_space space (unhidden t)) ∷ (map (λ x. hsadd (names_are i) used (unhidden x)) ts ++ kept i)) in
    ap (λ r. replaced_by r following) (lone_substituted no_arguments names used space t ts) ∙ ap Replaced (sym all)

-- ---- the step

module _ (macros : Macros) (env : Env) (meter : Meter) (t : Hiding) (following : List Hiding) (m : Macro) (named : macro_of macros t.token ≡ Some m) where
  -- A name in its own hide set is emitted.
  pub hidden_name : set.contains t.hide t.token.text ≡ true → step_in_budget macros env meter (t ∷ following) ≡ Emits t following
  hidden_name has =
      ap (in_budget meter (t ∷ following)) (expansion_step-hidden macros env t following (named_unquoted macros t.token m named) has) ∙ emits-in_budget meter (t ∷ following) t following

  -- Another name is replaced.
  pub lone_name : (body : List Token) → lone_tokens m ≡ Some body → chains_of m ≡ map lone_chain body → is_exhausted meter ≡ false → set.contains t.hide t.token.text ≡ false
      → (s : HideSetPool) (hide : ℕ) (rest : List Hidden) → set_at s hide ≡ set.insert t.hide t.token.text → hidings s rest ≡ following
      → step_in_budget macros env meter (t ∷ following) ≡ Replaced (hidings s (lone_replaced hide t.token.used t.token.space body rest))
  lone_name body lone chains remains free s hide rest names kept =
      ap (in_budget meter (t ∷ following)) (expansion_step-named macros env t following (named_unquoted macros t.token m named) free ∙ ap (named_step env t following) named
      ∙ ap (macro_step env t following m) (object_like m.kind (lone_kind m body lone))
      ∙ ap (λ cs. replaced_by (replacement_by cs no_arguments (set.insert t.hide t.token.text) t.token.used t.token.space) following)
      (object-list m (lone_kind m body lone) ∙ ap Ordinary chains)
      ∙ lone_is s hide (set.insert t.hide t.token.text) t.token.used t.token.space body rest following names kept)
      ∙ free-in_budget meter (t ∷ following) _ remains

-- The macro that the first token names is the macro that the next token names.
pub first_named : (macros : Macros) (h : Hidden) (rest list : List Hidden) (m : Macro) → list ≡ h ∷ rest → next_macro macros (tokens_of list) ≡ Some m → macro_of macros h.token ≡ Some m
first_named macros h rest list m is named = ap (λ l. next_macro macros (tokens_of l)) (sym is) ∙ named

module _ (macros : Macros) (env : Env) (level : ℕ) (meter : Meter) (s t : HideSetPool) (h : Hidden) (list rest emitted : List Hidden) (m : Macro)
    (keeps : KeepsSets s t) (list_known : AllKnown s list) (emitted_known : AllKnown s emitted) (is : list ≡ h ∷ rest) (named : next_macro macros (tokens_of list) ≡ Some m) where
  known_whole : AllKnown s (h ∷ rest)
  known_whole = subst (AllKnown s) is list_known

  rest_kept : hidings t rest ≡ hidings s rest
  rest_kept = let known = known_whole in hidings-keeps rest keeps (record { each = known.each.1 })

  pub rest_known : AllKnown t rest
  rest_known = let known = known_whole in known-keeps rest keeps (record { each = known.each.1 })

  pub passed_hidden : (more : List Hidden) → more ≡ emitted ++ h ∷ [] → set.contains (hide_of s h) h.token.text ≡ true
      → HasPassed 1 macros env level meter (hidings s list) (hidings s emitted) meter (hidings t rest) (hidings t more)
  passed_hidden more emits_it has =
      let known = known_whole in
      let step : step_in_budget macros env meter (hidings s list) ≡ Emits (hiding s h) (hidings t rest) =
      ap (λ l. step_in_budget macros env meter (hidings s l)) is
      ∙ hidden_name macros env meter (hiding s h) (hidings s rest) m (first_named macros h rest list m is named) has
      ∙ ap (Emits (hiding s h)) (sym rest_kept) in
      let all : AllKnown s (emitted ++ h ∷ []) = known-append emitted (h ∷ []) emitted_known (record { each = (known.each.0, tt) }) in
      let shown : hidings t more ≡ hidings s emitted ++ hiding s h ∷ [] =
      ap (hidings t) emits_it ∙ hidings-keeps (emitted ++ h ∷ []) keeps all ∙ map-append (hiding s) emitted (h ∷ []) in
      passed-step macros env level meter (hidings s list) (hidings s emitted) meter (hidings t rest) (hidings t more)
      (hiding s h ∷ [], shown, record { prepends_step = λ n out d. emits step d; leads = by_emitting step })

  pub passed_lone : (body : List Token) (hide : ℕ) (next more : List Hidden) (meter_after : Meter)
      → lone_tokens m ≡ Some body
      → chains_of m ≡ map lone_chain body
      → is_exhausted meter ≡ false
      → set.contains (hide_of s h) h.token.text ≡ false
      → set_at t hide ≡ set.insert (hide_of s h) h.token.text
      → HasSkipped macros (lone_replaced hide h.token.used h.token.space body rest) emitted next more
      → meter_after ≡ spend_one meter
      → HasPassed 1 macros env level meter (hidings s list) (hidings s emitted) meter_after (hidings t next) (hidings t more)
  passed_lone body hide next more meter_after lone chains remains free names skipped spent =
      let middle = lone_replaced hide h.token.used h.token.space body rest in
      let step : step_in_budget macros env meter (hidings s list) ≡ Replaced (hidings t middle) =
      ap (λ l. step_in_budget macros env meter (hidings s l)) is
      ∙ lone_name macros env meter (hiding s h) (hidings s rest) m (first_named macros h rest list m is named) body lone chains remains free t hide rest names rest_kept in
      let same : hidings t emitted ≡ hidings s emitted ++ [] = hidings-keeps emitted keeps emitted_known ∙ sym (append-nil _) in
      let one = passed-step macros env level meter (hidings s list) (hidings s emitted) (spend_one meter) (hidings t middle) (hidings t emitted)
      ([], same, record { prepends_step = λ n out d. replaced step d; leads = by_replacing step }) in
      subst (λ after. HasPassed 1 macros env level meter (hidings s list) (hidings s emitted) after (hidings t next) (hidings t more)) (sym spent)
      (passed-on macros env level 1 0 meter (hidings s list) (hidings s emitted) (spend_one meter) (hidings t middle) (hidings t emitted) (spend_one meter) (hidings t next) (hidings t more)
      one (passed-skip macros env level (spend_one meter) t middle emitted next more skipped))
