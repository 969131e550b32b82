-- Each step of the claim protocol preserves `ClaimInvariant`.
use Rattle.std.proofs.Common.{◌≡◌, ℕ, zero, suc, ◌+◌, ◌-◌, ◌%◌, ◌^◌, ◌<◌, ◌≤◌, min, Bool, true, false, List, [], ◌∷◌, ◌++◌, length, get_or, set}
use Rattle.std.proofs.Common.{refl, sym, ap, ◌∙◌, subst, arith, All, MatchBool, nat_lt, inl, inr, length-set, get_or-set_same}
use mathlib.Core.Option.{some, none, some-injective, some-ne-none}
use Rattle.std.proofs.lemmas.Bool.{cases_lt}
use Rattle.std.proofs.Math.Nat.{mod-eq_of_lt}
use lib.ListN.{get_elem?}
use Rattle.std.proofs.lemmas.Bool.Decides.{nat_tests}
use Rattle.atomic_table.specs.Table.{State, Act, step, keeps, stepped, Valid, Allows, Splits, Joins, opening, carried_after}
use Rattle.atomic_table.proofs.Lists.{at_set, at_snoc, set_else}
use Rattle.pppool.specs.declared.seat_state.SeatState.{SeatState}
use Rattle.pppool.specs.declared.seat_state.Plan.{Plan}
use Rattle.ppshelf.specs.Events.{times}
use Rattle.pppool.specs.Desk.{seat_state, max_blocks, total, once_below, FitsSeat, ClaimInvariant, TakesBlock, FindsNone, Claims}
use Rattle.pppool.proofs.SeatTotals.{total_set, total_snoc, total_le, total_at, times-append, times_at, below_once, once_more}

-- The word is at most 65,599, far from an overflow.
no_wrap : (p : Plan) (s : State ℕ SeatState) → ClaimInvariant p s → get_or s.words 0 0 ≤ 65599
no_wrap p s d =
    let r = d.bound in
    let e = total_le (λ v. v.empty_claims) (λ v. v.seats) s.views (λ id v at. (d.each id v at).empty_claims) in
    let f = d.seats in
    let g = d.few_blocks in
    let k = d.few_seats in
    omega arith

-- The claims of a seat are below the word.
claims_below : (p : Plan) (s : State ℕ SeatState) (id : ℕ) (v : SeatState) → ClaimInvariant p s → get_elem? s.views id ≡ some v → All (λ c. c < get_or s.words 0 0) v.claims
claims_below p s id v d at k e w =
    let c = get_or v.claims k e in
    let a : 0 < times c v.claims = times_at v.claims k e w in
    let b : times c v.claims ≤ total (λ u. times c u.claims) s.views = total_at (λ u. times c u.claims) s.views id v at in
    let f = d.claims c in
    let h : c < min (get_or s.words 0 0) p.blocks = below_once c (min (get_or s.words 0 0) p.blocks) (omega arith) in
    omega arith

word_after : (ws : List ℕ) (n : ℕ) → length ws ≡ 1 → get_or (set ws 0 n) 0 0 ≡ n
word_after ws n e = get_or-set_same ws 0 n 0 (omega arith)

stays_small : (n : ℕ) → n ≤ 65599 → n + 1 ≡ (n + 1) % 2 ^ 64
stays_small n h = let small : n + 1 < 2 ^ 64 = omega arith in sym (mod-eq_of_lt small)

-- `FitsSeat` is preserved if the word grows.
fits_later : (p : Plan) (n m : ℕ) (v : SeatState) → n ≤ m → FitsSeat p n v → FitsSeat p m v
fits_later p n m v more f = record { empty_claims = f.empty_claims; idle = f.idle; plan = f.plan; passed_last = λ h. let g = f.passed_last h in omega arith }

each_set : (p : Plan) (n m : ℕ) (views : List SeatState) (id : ℕ) (w : SeatState)
    → n ≤ m
    → ((j : ℕ) (u : SeatState) → get_elem? views j ≡ some u → FitsSeat p n u)
    → FitsSeat p m w
    → (j : ℕ) (u : SeatState)
    → get_elem? (set views id w) j ≡ some u
    → FitsSeat p m u
each_set p n m views id w more each fits j u at =
    elim (at_set views id j w u at) [
      | inl t ↦ let P : SeatState → Type 0 = FitsSeat p m in subst P t.1 fits
      | inr t ↦ fits_later p n m u more (each j u t.1)
    ]

abbrev after_claim : State ℕ SeatState → ℕ → SeatState → ℕ → State ℕ SeatState
after_claim s id w n = record { words = set s.words 0 n; homes = s.homes; views = set s.views id w }

dealt_block : (p : Plan) (s : State ℕ SeatState) (id n : ℕ) (v : SeatState) → ClaimInvariant p s → get_elem? s.views id ≡ some v → v.seats ≡ 1 → n ≡ get_or s.words 0 0 → n < p.blocks
    → ClaimInvariant p (after_claim s id (seat_state (v.claims ++ n ∷ []) v.empty_claims v.seats v.plan) (n + 1))
dealt_block p s id n v d at one is below =
    let w = seat_state (v.claims ++ n ∷ []) v.empty_claims v.seats v.plan in
    let word = word_after s.words (n + 1) d.word in
    let f = d.each id v at in
    record {
      few_blocks = d.few_blocks;
      few_seats = d.few_seats;
      word = length-set s.words 0 (n + 1) ∙ d.word;
      claims = λ x.
          let a : total (λ u. times x u.claims) (set s.views id w) + times x v.claims ≡ total (λ u. times x u.claims) s.views + times x (v.claims ++ n ∷ []) = total_set (λ u. times x u.claims) s.views id v w at in
          let b = times-append x v.claims (n ∷ []) in
          let c = d.claims x in
          let e = once_more x n in
          let m : min (get_or s.words 0 0) p.blocks ≡ n = omega arith in
          let m2 : min (get_or (set s.words 0 (n + 1)) 0 0) p.blocks ≡ n + 1 = omega arith in
          let g : once_below x (min (get_or s.words 0 0) p.blocks) ≡ once_below x n = ap (once_below x) m in
          let h : once_below x (min (get_or (set s.words 0 (n + 1)) 0 0) p.blocks) ≡ once_below x (n + 1) = ap (once_below x) m2 in
          omega arith;
      seats = let a = total_set (λ u. u.seats) s.views id v w at in let c = d.seats in omega arith;
      each = let fit : FitsSeat p (get_or (set s.words 0 (n + 1)) 0 0) w = record { empty_claims = f.empty_claims; idle = λ none. absurd (omega arith); plan = f.plan; passed_last = λ h. let g = f.passed_last h in omega arith } in
          each_set p (get_or s.words 0 0) (get_or (set s.words 0 (n + 1)) 0 0) s.views id w (omega arith) d.each fit;
      bound = let a = total_set (λ u. u.empty_claims) s.views id v w at in let r = d.bound in omega arith;
    }

dealt_mark : (p : Plan) (s : State ℕ SeatState) (id n : ℕ) (v : SeatState) → ClaimInvariant p s → get_elem? s.views id ≡ some v → v.seats ≡ 1 → v.empty_claims ≡ 0 → n ≡ get_or s.words 0 0 → p.blocks ≤ n
    → ClaimInvariant p (after_claim s id (seat_state v.claims (v.empty_claims + 1) v.seats v.plan) (n + 1))
dealt_mark p s id n v d at one unmarked is above =
    let w = seat_state v.claims (v.empty_claims + 1) v.seats v.plan in
    let word = word_after s.words (n + 1) d.word in
    let f = d.each id v at in
    record {
      few_blocks = d.few_blocks;
      few_seats = d.few_seats;
      word = length-set s.words 0 (n + 1) ∙ d.word;
      claims = λ x.
          let a = total_set (λ u. times x u.claims) s.views id v w at in
          let c = d.claims x in
          let m : min (get_or (set s.words 0 (n + 1)) 0 0) p.blocks ≡ min (get_or s.words 0 0) p.blocks = omega arith in
          let h : once_below x (min (get_or (set s.words 0 (n + 1)) 0 0) p.blocks) ≡ once_below x (min (get_or s.words 0 0) p.blocks) = ap (once_below x) m in
          omega arith;
      seats = let a = total_set (λ u. u.seats) s.views id v w at in let c = d.seats in omega arith;
      each = let fit : FitsSeat p (get_or (set s.words 0 (n + 1)) 0 0) w = record { empty_claims = omega arith; idle = λ none. absurd (omega arith); plan = f.plan; passed_last = λ h. omega arith } in
          each_set p (get_or s.words 0 0) (get_or (set s.words 0 (n + 1)) 0 0) s.views id w (omega arith) d.each fit;
      bound = let a = total_set (λ u. u.empty_claims) s.views id v w at in let r = d.bound in omega arith;
    }

abbrev Goes : Plan → State ℕ SeatState → ℕ → SeatState → Type 0
Goes p s id v = (w : SeatState) × (a : Act ℕ) × Valid s.homes [] a × ClaimInvariant p (stepped s 0 ((get_or s.words 0 0 + 1) % 2 ^ 64) id [] w a) × Claims (step 0 0 1 0 none) (v, []) (get_or s.words 0 0) (w, carried_after [] a)

claim_goes : (p : Plan) (s : State ℕ SeatState) (id : ℕ) (v : SeatState)
    → ClaimInvariant p s
    → get_elem? s.views id ≡ some v
    → v.seats ≡ 1
    → v.empty_claims ≡ 0
    → (b : Bool)
    → nat_lt (get_or s.words 0 0) v.plan.blocks ≡ b
    → Goes p s id v
claim_goes p s id v d at one unmarked true is =
    let n = get_or s.words 0 0 in
    let plan = (d.each id v at).plan (omega arith) in
    let below : n < p.blocks = let e = ap (λ (q : Plan). q.blocks) plan in grind (arith, nat_tests) in
    let k = no_wrap p s d in
    let wraps : n + 1 ≡ (n + 1) % 2 ^ 64 = stays_small n k in
    let w = seat_state (v.claims ++ n ∷ []) v.empty_claims v.seats v.plan in
    let P : ℕ → Type 0 = λ m. ClaimInvariant p (after_claim s id w m) in
    let Q : Bool → Type 0 = λ c. MatchBool c (TakesBlock v n w) (FindsNone v w) in
    (w, keeps, tt, subst P wraps (dealt_block p s id n v d at one refl below), record { carried = refl; outcome = subst Q (sym is) (record { taken = refl; above = claims_below p s id v d at }) })
claim_goes p s id v d at one unmarked false is =
    let n = get_or s.words 0 0 in
    let plan = (d.each id v at).plan (omega arith) in
    let above : p.blocks ≤ n = let e = ap (λ (q : Plan). q.blocks) plan in grind (arith, nat_tests) in
    let k = no_wrap p s d in
    let wraps : n + 1 ≡ (n + 1) % 2 ^ 64 = stays_small n k in
    let w = seat_state v.claims (v.empty_claims + 1) v.seats v.plan in
    let P : ℕ → Type 0 = λ m. ClaimInvariant p (after_claim s id w m) in
    let Q : Bool → Type 0 = λ c. MatchBool c (TakesBlock v n w) (FindsNone v w) in
    (w, keeps, tt, subst P wraps (dealt_mark p s id n v d at one unmarked refl above), record { carried = refl; outcome = subst Q (sym is) refl })

pub claims : (p : Plan) (slots id : ℕ) (v : SeatState) → v.seats ≡ 1 → v.empty_claims ≡ 0 → Allows (ClaimInvariant p) slots id (v, []) 0 (λ n. (n + 1) % 2 ^ 64) (Claims (step slots 0 1 0 none) (v, []))
claims p slots id v one unmarked s d homes at small = claim_goes p s id v d at one unmarked (nat_lt (get_or s.words 0 0) v.plan.blocks) refl

marked_either : (p : Plan) (n : ℕ) (v w : SeatState) → FitsSeat p n v → FitsSeat p n w → 0 < v.empty_claims + w.empty_claims → p.blocks < n
marked_either p n v w f h e =
    elim (cases_lt 0 v.empty_claims) [ inl l ↦ f.passed_last l | inr l ↦ h.passed_last (omega arith) ]

once_le : (x n : ℕ) → once_below x n ≤ 1
once_le x n = grind (arith, nat_tests)

-- A seat state with 0 seats has no claims.
idle_claims : (p : Plan) (n x : ℕ) (v : SeatState) → FitsSeat p n v → v.seats ≡ 0 → times x v.claims ≡ 0
idle_claims p n x v f e = ap (times x) (f.idle e)

all_idle : (p : Plan) (n x : ℕ) (views : List SeatState) → ((j : ℕ) (u : SeatState) → get_elem? views j ≡ some u → FitsSeat p n u) → total (λ k. k.seats) views ≡ 0 → total (λ k. times x k.claims) views ≡ 0
all_idle p n x [] each e = refl
all_idle p n x (v ∷ vs) each e =
    let a = idle_claims p n x v (each 0 v refl) (omega arith) in
    let b = all_idle p n x vs (λ j u at. each (suc j) u at) (omega arith) in
    omega arith

rest_idle : (p : Plan) (s : State ℕ SeatState) (id : ℕ) (v : SeatState)
    → ClaimInvariant p s
    → get_elem? s.views id ≡ some v
    → v.seats ≡ p.seats
    → (x : ℕ)
    → total (λ k. times x k.claims) (set s.views id (seat_state [] 0 0 v.plan)) ≡ 0
rest_idle p s id v d at all x =
    let n = get_or s.words 0 0 in
    let w = seat_state [] 0 0 v.plan in
    let g = total_set (λ k. k.seats) s.views id v w at in
    let t = d.seats in
    let fit : FitsSeat p n w = record { empty_claims = omega arith; idle = λ _. refl; plan = λ e. absurd (omega arith); passed_last = λ e. absurd (omega arith) } in
    all_idle p n x (set s.views id w) (each_set p n n s.views id w (omega arith) d.each fit) (omega arith)

-- Splitting a seat off a seat state without claims preserves `ClaimInvariant`.
pub splits : (p : Plan) (id : ℕ) (v : SeatState) → 0 < v.seats → v.claims ≡ [] → v.empty_claims ≡ 0 → Splits (ClaimInvariant p) id v (seat_state v.claims v.empty_claims (v.seats - 1) v.plan) (seat_state [] 0 1 v.plan)
splits p id v left_over unclaimed unmarked s d at =
    let w = seat_state v.claims v.empty_claims (v.seats - 1) v.plan in
    let u = seat_state [] 0 1 v.plan in
    let n = get_or s.words 0 0 in
    let sum : (f : SeatState → ℕ) → total f (set s.views id w ++ u ∷ []) + f v ≡ total f s.views + f w + f u = λ f. let a = total_set f s.views id v w at in let b = total_snoc f (set s.views id w) u in omega arith in
    let f = d.each id v at in
    let fit_w : FitsSeat p n w = record { empty_claims = omega arith; idle = λ _. unclaimed; plan = λ h. f.plan (omega arith); passed_last = λ h. absurd (omega arith) } in
    let fit_u : FitsSeat p n u = record { empty_claims = omega arith; idle = λ _. refl; plan = λ h. f.plan (omega arith); passed_last = λ h. absurd (omega arith) } in
    record {
      few_blocks = d.few_blocks;
      few_seats = d.few_seats;
      word = d.word;
      claims = λ x. let a = sum (λ k. times x k.claims) in let b = d.claims x in omega arith;
      seats = let a = sum (λ k. k.seats) in let b = d.seats in omega arith;
      each = λ j k there.
          elim (at_snoc (set s.views id w) u k j there) [
            | inl e ↦ each_set p n n s.views id w (omega arith) d.each fit_w j k e
            | inr e ↦ let P : SeatState → Type 0 = FitsSeat p n in subst P e fit_u
          ];
      bound = let a = sum (λ k. k.empty_claims) in let b = d.bound in omega arith;
    }

-- Joining two seats preserves `ClaimInvariant`.
pub joins : (p : Plan) (id other : ℕ) (v w : SeatState)
    → 0 < v.seats
    → Joins (ClaimInvariant p) id v other w (seat_state (v.claims ++ w.claims) (v.empty_claims + w.empty_claims) (v.seats + w.seats) v.plan)
    (seat_state [] 0 0 (record { blocks = 0; seats = 0 }))
joins p id other v w some_left s d at apart there =
    let both = seat_state (v.claims ++ w.claims) (v.empty_claims + w.empty_claims) (v.seats + w.seats) v.plan in
    let spent = seat_state [] 0 0 (record { blocks = 0; seats = 0 }) in
    let n = get_or s.words 0 0 in
    let at_other : get_elem? s.views other ≡ some w = sym (set_else s.views id other both apart) ∙ there in
    let sum : (f : SeatState → ℕ) → total f (set (set s.views id both) other spent) + f w + f v ≡ total f s.views + f both + f spent = λ f.
    let a = total_set f s.views id v both at in let b = total_set f (set s.views id both) other w spent there in omega arith in
    let f = d.each id v at in
    let h = d.each other w at_other in
    let fit_both : FitsSeat p n both = record {
      empty_claims = let a = f.empty_claims in let b = h.empty_claims in omega arith;
      idle = λ e. absurd (omega arith);
      plan = λ e. f.plan some_left;
      passed_last = λ e. marked_either p n v w f h e;
    } in
    let fit_spent : FitsSeat p n spent = record { empty_claims = omega arith; idle = λ _. refl; plan = λ e. absurd (omega arith); passed_last = λ e. absurd (omega arith) } in
    let mid : (j : ℕ) (k : SeatState) → get_elem? (set s.views id both) j ≡ some k → FitsSeat p n k = each_set p n n s.views id both (omega arith) d.each fit_both in
    record {
      few_blocks = d.few_blocks;
      few_seats = d.few_seats;
      word = d.word;
      claims = λ x. let a = sum (λ k. times x k.claims) in let b = d.claims x in let c = times-append x v.claims w.claims in omega arith;
      seats = let a = sum (λ k. k.seats) in let b = d.seats in omega arith;
      each = each_set p n n (set s.views id both) other spent (omega arith) mid fit_spent;
      bound = let a = sum (λ k. k.empty_claims) in let b = d.bound in omega arith;
    }

-- If all seats are joined and one found no block left, their claims are all blocks, each once.
pub whole : (p : Plan) (s : State ℕ SeatState) (id : ℕ) (v : SeatState)
    → ClaimInvariant p s
    → get_elem? s.views id ≡ some v
    → v.seats ≡ p.seats
    → 0 < v.empty_claims
    → (x : ℕ)
    → times x v.claims ≡ once_below x p.blocks
whole p s id v d at all passed_last x =
    let e = total_set (λ k. times x k.claims) s.views id v (seat_state [] 0 0 v.plan) at in
    let g = total_set (λ k. k.seats) s.views id v (seat_state [] 0 0 v.plan) at in
    let c = d.claims x in
    let t = d.seats in
    let m = (d.each id v at).passed_last passed_last in
    let none_left = rest_idle p s id v d at all x in
    let h : once_below x (min (get_or s.words 0 0) p.blocks) ≡ once_below x p.blocks = let i : min (get_or s.words 0 0) p.blocks ≡ p.blocks = omega arith in ap (once_below x) i in
    omega arith

-- No block occurs twice among the claims of a seat state.
pub at_most_once : (p : Plan) (s : State ℕ SeatState) (id : ℕ) (v : SeatState) → ClaimInvariant p s → get_elem? s.views id ≡ some v → (x : ℕ) → times x v.claims ≤ 1
at_most_once p s id v d at x =
    let e = total_at (λ k. times x k.claims) s.views id v at in
    let c = d.claims x in
    let o = once_le x (min (get_or s.words 0 0) p.blocks) in
    omega arith

-- The claims of a seat state are below the number of blocks.
pub claims_blocks : (p : Plan) (s : State ℕ SeatState) (id : ℕ) (v : SeatState) → ClaimInvariant p s → get_elem? s.views id ≡ some v → (x : ℕ) → 0 < times x v.claims → x < p.blocks
claims_blocks p s id v d at x claimed =
    let e = total_at (λ k. times x k.claims) s.views id v at in
    let c = d.claims x in
    let m : x < min (get_or s.words 0 0) p.blocks = below_once x (min (get_or s.words 0 0) p.blocks) (omega arith) in
    omega arith

once_zero : (x : ℕ) → once_below x 0 ≡ 0
once_zero x = grind (arith, nat_tests)

each_first : (p : Plan) (id : ℕ) (v : SeatState) → get_elem? (seat_state [] 0 p.seats p ∷ []) id ≡ some v → FitsSeat p 0 v
each_first p zero v at =
    let P : SeatState → Type 0 = FitsSeat p 0 in
    let first : FitsSeat p 0 (seat_state [] 0 p.seats p) = record { empty_claims = omega arith; idle = λ _. refl; plan = λ _. refl; passed_last = λ e. absurd (omega arith) } in
    subst P (some-injective (seat_state [] 0 p.seats p) v at) first
each_first p (suc id) v at = absurd (some-ne-none v (sym at))

-- The initial state of the table satisfies `ClaimInvariant`.
pub opens : (p : Plan) → p.blocks ≤ max_blocks → p.seats ≤ 64 → ClaimInvariant p (opening (0 ∷ []) [] (seat_state [] 0 p.seats p))
opens p blocks seats = record {
  few_blocks = blocks;
  few_seats = seats;
  word = refl;
  claims = λ x. let e : once_below x (min 0 p.blocks) ≡ once_below x 0 = ap (once_below x) (let z : min 0 p.blocks ≡ 0 = omega arith in z) in let z = once_zero x in omega arith;
  seats = omega arith;
  each = λ id v at. each_first p id v at;
  bound = omega arith;
}
