-- After any events, callers have observed only cached contents and claimed each block below the next one once.
use Rattle.std.proofs.Common.{◌≡◌, ℕ, zero, suc, ◌+◌, ◌<◌, ◌≤◌, nat_lt, min, true, false, List, [], ◌∷◌, ◌++◌, length, get_or, set, Some, None}
use Rattle.std.proofs.Common.{refl, sym, ◌∙◌, ap, subst, arith, ◌⊎◌, inl, inr}
use Rattle.std.specs.Prelude.{if◌then◌else◌}
use Rattle.std.proofs.lemmas.Bool.{cases_lt, cases_eq, false≢true}
use Rattle.std.proofs.lemmas.Bool.Decides.{nat_tests}
use Rattle.std.proofs.lemmas.List.{get_or_past, get_or-set_other, get_or-set_same, length-set}
use Rattle.std.proofs.lemmas.Option.{none-some, same_Some}
use Rattle.ppshelf.specs.Content.{Content}
use Rattle.ppshelf.specs.Files.{Files, file_at, Extends}
use Rattle.ppshelf.proofs.ObservedContents.{none_known}
use Rattle.ppshelf.specs.Events.{Caller, no_caller, Shared, caller_at, observed_by, with_changed_caller, observing, caching, with_block, with_no_block_left, with_next_block}
use Rattle.ppshelf.specs.Events.{Event, Happens, caches, reads, claims, finds_none, Happen, none, next, initial_state, ObservedStays, CallersAgree, times, claims_of, EachBlockOnce}

-- Each content that a caller has observed is cached.
abbrev Sound : Shared → Type 0
Sound shared = (caller : ℕ) → Extends shared.cached (observed_by shared caller)

-- ---- writing the content of a row

-- Writing c to a row extends the files if the row was unknown or had the content c.
set_extends : (files : Files) (row : ℕ) (c : Content) → ((d : Content) → file_at files row ≡ Some d → d ≡ c) → Extends (set files row (Some c)) files
set_extends files row c same at d e =
    elim (cases_eq at row) [
      | inr other ↦ get_or-set_other files row at (Some c) None other ∙ e
      | inl is ↦
          let here : file_at files row ≡ Some d = ap (file_at files) (sym is) ∙ e in
          elim (cases_lt row (length files)) [
            | inl within ↦ ap (file_at (set files row (Some c))) is ∙ (get_or-set_same files row (Some c) None within ∙ ap (λ (x : Content). Some x) (sym (same d here)))
            | inr past ↦ absurd (none-some d (sym (get_or_past files row None past) ∙ here))
          ]
    ]

-- A content after the write was there before, or is the one that was written.
set_known : (files : Files) (row : ℕ) (c : Content) (at : ℕ) (d : Content) → file_at (set files row (Some c)) at ≡ Some d → (file_at files at ≡ Some d) ⊎ ((at ≡ row) × (c ≡ d))
set_known files row c at d e =
    elim (cases_eq at row) [
      | inr other ↦ inl (sym (get_or-set_other files row at (Some c) None other) ∙ e)
      | inl is ↦
          elim (cases_lt row (length files)) [
            | inl within ↦ inr (is, same_Some c d (sym (get_or-set_same files row (Some c) None within) ∙ (ap (file_at (set files row (Some c))) (sym is) ∙ e)))
            | inr past ↦
                let long : length (set files row (Some c)) ≤ at = let l = length-set files row (Some c) in omega arith in
                absurd (none-some d (sym (get_or_past (set files row (Some c)) at None long) ∙ e))
          ]
    ]

-- ---- an event

-- No observation of a caller is lost.
abbrev Grown : Shared → Shared → Type 0
Grown before after = (caller : ℕ) → Extends (observed_by after caller) (observed_by before caller)

-- A changed caller has its new state, and the others are unchanged.
changed_same : (shared : Shared) (caller : ℕ) (change : Caller → Caller) → caller < length shared.callers → caller_at (with_changed_caller shared caller change) caller ≡ change (caller_at shared caller)
changed_same shared caller change within = get_or-set_same shared.callers caller (change (caller_at shared caller)) no_caller within

changed_other : (shared : Shared) (caller : ℕ) (change : Caller → Caller) (who : ℕ) → (who ≡ caller → ⊥) → caller_at (with_changed_caller shared caller change) who ≡ caller_at shared who
changed_other shared caller change who other = get_or-set_other shared.callers caller who (change (caller_at shared caller)) no_caller other

-- After some caller observes a row, each caller's observations are unchanged or include that row.
learnt_after : (shared : Shared) (caller row : ℕ) (c : Content) (who : ℕ) → caller < length shared.callers
    → (observed_by (observing shared caller row c) who ≡ observed_by shared who)
    ⊎ (observed_by (observing shared caller row c) who ≡ set (observed_by shared who) row (Some c))
learnt_after shared caller row c who within =
    let change : Caller → Caller = λ (k : Caller). record k { observed = set k.observed row (Some c) } in
    elim (cases_eq who caller) [
      | inr other ↦ inl (ap (λ (k : Caller). k.observed) (changed_other shared caller change who other))
      | inl is ↦
          let P : ℕ → Type 0 = λ w. observed_by (observing shared caller row c) w ≡ set (observed_by shared w) row (Some c) in
          inr (subst P (sym is) (ap (λ (k : Caller). k.observed) (changed_same shared caller change within)))
    ]

learns : (shared : Shared) (caller row : ℕ) (c : Content)
    → caller < length shared.callers
    → Sound shared
    → file_at shared.cached row ≡ Some c
    → Sound (observing shared caller row c) × Grown shared (observing shared caller row c)
learns shared caller row c within sound cached =
    let same : (who : ℕ) (d : Content) → file_at (observed_by shared who) row ≡ Some d → d ≡ c = λ who d e. same_Some d c (sym (sound who row d e) ∙ cached) in (
      λ who at d e.
          elim (learnt_after shared caller row c who within) [
            | inl old ↦ sound who at d (ap (λ (f : Files). file_at f at) (sym old) ∙ e)
            | inr new ↦
                elim (set_known (observed_by shared who) row c at d (ap (λ (f : Files). file_at f at) (sym new) ∙ e)) [
                  | inl known ↦ sound who at d known
                  | inr here ↦ ap (file_at shared.cached) here.0 ∙ (cached ∙ ap (λ (x : Content). Some x) here.1)
                ]
          ],
      λ who at d e.
          elim (learnt_after shared caller row c who within) [
            | inl old ↦ ap (λ (f : Files). file_at f at) old ∙ e
            | inr new ↦ ap (λ (f : Files). file_at f at) new ∙ set_extends (observed_by shared who) row c (same who) at d e
          ],
    )

-- A change that leaves one caller's observations leaves those of all callers.
keeps_learnt : (shared : Shared) (caller : ℕ) (change : Caller → Caller)
    → ((k : Caller) → (change k).observed ≡ k.observed)
    → caller < length shared.callers
    → (who : ℕ)
    → observed_by (with_changed_caller shared caller change) who ≡ observed_by shared who
keeps_learnt shared caller change same within who =
    elim (cases_eq who caller) [
      | inr other ↦ ap (λ (k : Caller). k.observed) (changed_other shared caller change who other)
      | inl is ↦
          let P : ℕ → Type 0 = λ w. observed_by (with_changed_caller shared caller change) w ≡ observed_by shared w in
          subst P (sym is) (ap (λ (k : Caller). k.observed) (changed_same shared caller change within) ∙ same (caller_at shared caller))
    ]

unlearnt : (before after : Shared) → after.cached ≡ before.cached → ((who : ℕ) → observed_by after who ≡ observed_by before who) → Sound before → Sound after × Grown before after
unlearnt before after cached same sound = (
  λ who at d e. ap (λ (f : Files). file_at f at) cached ∙ sound who at d (ap (λ (f : Files). file_at f at) (sym (same who)) ∙ e),
  λ who at d e. ap (λ (f : Files). file_at f at) (same who) ∙ e,
)

happens : (blocks : ℕ) (before : Shared) (event : Event) (after : Shared) → Happens blocks before event after → Sound before → Sound after × Grown before after
happens blocks before event after (caches {caller = caller} {row = row} {c = c} there within free) sound =
    let wider : Extends (set before.cached row (Some c)) before.cached = set_extends before.cached row c (λ d e. absurd (none-some d (sym free ∙ e))) in
    let still : Sound (caching before row c) = λ who at d e. wider at d (sound who at d e) in
    learns (caching before row c) caller row c there still (get_or-set_same before.cached row (Some c) None within)
happens blocks before event after (reads {caller = caller} {row = row} {c = c} there cached) sound = learns before caller row c there sound cached
happens blocks before event after (claims {caller = caller} there less) sound =
    unlearnt before (with_next_block (with_changed_caller before caller (with_block before.block))) refl (keeps_learnt before caller (with_block before.block) (λ k. refl) there) sound
happens blocks before event after (finds_none {caller = caller} there past) sound =
    unlearnt before (with_next_block (with_changed_caller before caller with_no_block_left)) refl (keeps_learnt before caller with_no_block_left (λ k. refl) there) sound

-- ---- all events

happen : (blocks : ℕ) (before : Shared) (events : List Event) (after : Shared) → Happen blocks before events after → Sound before → Sound after × Grown before after
happen blocks before [] after none sound = (sound, λ caller at d e. e)
happen blocks before (event ∷ events) after (next {between = between} one more) sound =
    let first = happens blocks before event between one sound in
    let rest = happen blocks between events after more first.0 in
    (rest.0, λ caller at d e. rest.1 caller at d (first.1 caller at d e))

none_learnt : (rows callers caller at : ℕ) → file_at (observed_by (initial_state rows callers) caller) at ≡ None
none_learnt rows zero caller at = refl
none_learnt rows (suc callers) zero at = none_known rows at
none_learnt rows (suc callers) (suc caller) at = none_learnt rows callers caller at

sound_first : (rows callers : ℕ) → Sound (initial_state rows callers)
sound_first rows callers caller at d e = absurd (none-some d (sym (none_learnt rows callers caller at) ∙ e))

pub observed_stays : ObservedStays
observed_stays blocks rows callers events more shared after first later = (happen blocks shared more after later (happen blocks (initial_state rows callers) events shared first (sound_first rows callers)).0).1

pub callers_agree : CallersAgree
callers_agree blocks rows callers events shared all one two row c d a b =
    let sound = (happen blocks (initial_state rows callers) events shared all (sound_first rows callers)).0 in
    same_Some c d (sym (sound one row c a) ∙ sound two row d b)

-- ---- claims

times-append : (x : ℕ) (a b : List ℕ) → times x (a ++ b) ≡ times x a + times x b
times-append x [] b = omega arith
times-append x (y ∷ a) b = let e = times-append x a b in omega arith

-- If one caller gets more claims, the total count of each number grows by its count in them.
claims_more : (x : ℕ) (more : List ℕ) (change : Caller → Caller) → ((k : Caller) → (change k).claims ≡ k.claims ++ more) → (ks : List Caller) (i : ℕ) → i < length ks
    → times x (claims_of (set ks i (change (get_or ks i no_caller)))) ≡ times x (claims_of ks) + times x more
claims_more x more change adds [] i within = absurd (omega arith)
claims_more x more change adds (k ∷ ks) zero within =
    let all = times-append x (change k).claims (claims_of ks) in
    let new : times x (change k).claims ≡ times x (k.claims ++ more) = ap (times x) (adds k) in
    let mine = times-append x k.claims more in
    let old = times-append x k.claims (claims_of ks) in
    omega arith
claims_more x more change adds (k ∷ ks) (suc i) within =
    let rest = claims_more x more change adds ks i (omega arith) in
    let all = times-append x k.claims (claims_of (set ks i (change (get_or ks i no_caller)))) in
    let old = times-append x k.claims (claims_of ks) in
    omega arith

-- Each block below the next one is claimed once. If a caller found no block left, all are claimed.
record Counted (blocks : ℕ) (shared : Shared) : Type 0 where
  pub each : (x : ℕ) → times x (claims_of shared.callers) ≡ (if nat_lt x (min shared.block blocks) then 1 else 0)
  pub empty : (caller : ℕ) → (caller_at shared caller).found_empty ≡ true → blocks ≤ shared.block

one_more : (x n blocks : ℕ) → n < blocks → (if nat_lt x (min n blocks) then 1 else 0) + times x (n ∷ []) ≡ (if nat_lt x (min (suc n) blocks) then 1 else 0)
one_more x n blocks less = grind (arith, nat_tests)

none_more : (x n blocks : ℕ) → blocks ≤ n → (if nat_lt x (min n blocks) then 1 else 0) + 0 ≡ (if nat_lt x (min (suc n) blocks) then 1 else 0)
none_more x n blocks past = grind (arith, nat_tests)

-- A change that leaves one caller's `found_empty` leaves that of all callers.
keeps_empty : (shared : Shared) (caller : ℕ) (change : Caller → Caller)
    → ((k : Caller) → (change k).found_empty ≡ k.found_empty)
    → caller < length shared.callers
    → (who : ℕ)
    → (caller_at (with_changed_caller shared caller change) who).found_empty ≡ (caller_at shared who).found_empty
keeps_empty shared caller change same within who =
    elim (cases_eq who caller) [
      | inr other ↦ ap (λ (k : Caller). k.found_empty) (changed_other shared caller change who other)
      | inl is ↦
          let P : ℕ → Type 0 = λ w. (caller_at (with_changed_caller shared caller change) w).found_empty ≡ (caller_at shared w).found_empty in
          subst P (sym is) (ap (λ (k : Caller). k.found_empty) (changed_same shared caller change within) ∙ same (caller_at shared caller))
    ]

-- A change that adds no claim and leaves `found_empty` preserves `Counted`.
uncounted : (blocks : ℕ) (shared : Shared) (caller : ℕ) (change : Caller → Caller) (cached : Files)
    → ((k : Caller) → (change k).claims ≡ k.claims ++ [])
    → ((k : Caller) → (change k).found_empty ≡ k.found_empty)
    → caller < length shared.callers
    → Counted blocks shared
    → Counted blocks (record (with_changed_caller shared caller change) { cached = cached })
uncounted blocks shared caller change cached adds same there c = record {
  each = λ x. let m = claims_more x [] change adds shared.callers caller there in let e = c.each x in omega arith;
  empty = λ who f. c.empty who (sym (keeps_empty shared caller change same there who) ∙ f);
}

append_none : (xs : List ℕ) → xs ≡ xs ++ []
append_none [] = refl
append_none (x ∷ xs) = ap (λ (l : List ℕ). x ∷ l) (append_none xs)

counted : (blocks : ℕ) (before : Shared) (event : Event) (after : Shared) → Happens blocks before event after → Counted blocks before → Counted blocks after
counted blocks before event after (caches {caller = caller} {row = row} {c = c} there within free) h =
    uncounted blocks before caller (λ (k : Caller). record k { observed = set k.observed row (Some c) }) (set before.cached row (Some c)) (λ k. append_none k.claims) (λ k. refl) there h
counted blocks before event after (reads {caller = caller} {row = row} {c = c} there cached) h =
    uncounted blocks before caller (λ (k : Caller). record k { observed = set k.observed row (Some c) }) before.cached (λ k. append_none k.claims) (λ k. refl) there h
counted blocks before event after (claims {caller = caller} there less) h = record {
  each = λ x. claims_more x (before.block ∷ []) (with_block before.block) (λ k. refl) before.callers caller there ∙ (ap (λ (n : ℕ). n + times x (before.block ∷ [])) (h.each x) ∙ one_more x before.block blocks less);
  empty = λ who f. let past = h.empty who (sym (keeps_empty before caller (with_block before.block) (λ k. refl) there who) ∙ f) in omega arith;
}
counted blocks before event after (finds_none {caller = caller} there past) h = record {
  each = λ x. claims_more x [] with_no_block_left (λ k. append_none k.claims) before.callers caller there ∙ (ap (λ (n : ℕ). n + 0) (h.each x) ∙ none_more x before.block blocks past);
  empty = λ who f. omega arith;
}

all_counted : (blocks : ℕ) (before : Shared) (events : List Event) (after : Shared) → Happen blocks before events after → Counted blocks before → Counted blocks after
all_counted blocks before [] after none h = h
all_counted blocks before (event ∷ events) after (next {between = between} one more) h = all_counted blocks between events after more (counted blocks before event between one h)

none_claimed : (rows callers x : ℕ) → times x (claims_of (initial_state rows callers).callers) ≡ 0
none_claimed rows zero x = refl
none_claimed rows (suc callers) x = none_claimed rows callers x

none_found : (rows callers caller : ℕ) → (caller_at (initial_state rows callers) caller).found_empty ≡ false
none_found rows zero caller = refl
none_found rows (suc callers) zero = refl
none_found rows (suc callers) (suc caller) = none_found rows callers caller

counted_first : (blocks rows callers : ℕ) → Counted blocks (initial_state rows callers)
counted_first blocks rows callers = record {
  each = λ x. none_claimed rows callers x ∙ (let e : 0 ≡ (if nat_lt x (min 0 blocks) then 1 else 0) = grind (arith, nat_tests) in e);
  empty = λ caller f. absurd (false≢true (sym (none_found rows callers caller) ∙ f));
}

pub each_block_once : EachBlockOnce
each_block_once blocks rows callers events shared all =
    let c = all_counted blocks (initial_state rows callers) events shared all (counted_first blocks rows callers) in
    (c.each, c.empty)
