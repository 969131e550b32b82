-- Closing a desk: its seats are joined one by one, starting with the last.
use Rattle.std.proofs.Common.{max, suc, ◌-◌, ℕ, ◌≡◌, ◌<◌, ◌≤◌, ◌+◌, ◌++◌, ap, sym, ◌∙◌, arith, List, [], ◌∷◌, refl}
use Rattle.std.proofs.Common.{Bool, true, false, ◌||◌, ◌&&◌, nat_eq, if◌then◌else◌, All, length, get_or, length-append}
use Rattle.std.proofs.lemmas.Grind.{common_steps}
use Rattle.std.proofs.lemmas.Bool.{false≢true}
use Rattle.std.proofs.lemmas.Bool.Decides.{nat_tests}
use Rattle.ppshelf.specs.Events.{times}
use Rattle.pppool.specs.Desk.{DeskId, SeatView, claims_of, any_empty}
use Rattle.pppool.proofs.SeatTotals.{times-append}

last_of : (rest : List SeatView) (x : SeatView) → get_or (rest ++ x ∷ []) (length rest) x ≡ x
last_of [] x = refl
last_of (y ∷ rest) x = last_of rest x

front_of : (rest : List SeatView) (x : SeatView) (k : ℕ) (e : SeatView) → k < length rest → get_or (rest ++ x ∷ []) k e ≡ get_or rest k e
front_of rest x k e w = grind (arith, common_steps)

pub last_all : (d : DeskId) (all rest : List SeatView) (x : SeatView) → all ≡ rest ++ x ∷ [] → All (λ s. s.desk ≡ d) all → x.desk ≡ d
last_all d all rest x is each =
    let at : get_or all (length rest) x ≡ x = ap (λ l. get_or l (length rest) x) is ∙ last_of rest x in
    let w : length rest < length all = let a = ap length is in let b = length-append rest (x ∷ []) in omega arith in
    ap (λ (s : SeatView). s.desk) (sym at) ∙ each (length rest) x w

pub front_all : (d : DeskId) (all rest : List SeatView) (x : SeatView) → all ≡ rest ++ x ∷ [] → All (λ s. s.desk ≡ d) all → All (λ s. s.desk ≡ d) rest
front_all d all rest x is each k e w =
    let at : get_or all k e ≡ get_or rest k e = ap (λ l. get_or l k e) is ∙ front_of rest x k e w in
    let u : k < length all = let a = ap length is in let b = length-append rest (x ∷ []) in omega arith in
    ap (λ (s : SeatView). s.desk) (sym at) ∙ each k e u

pub claims-append : (n : ℕ) (xs : List SeatView) (x : SeatView) → times n (claims_of (xs ++ x ∷ [])) ≡ times n (claims_of xs) + times n x.claims
claims-append n [] x = let a = times-append n x.claims [] in omega arith
claims-append n (y ∷ xs) x = let a = claims-append n xs x in let b = times-append n y.claims (claims_of (xs ++ x ∷ [])) in let c = times-append n y.claims (claims_of xs) in omega arith

pub times_popped : (n : ℕ) (all rest : List SeatView) (x : SeatView) (mine : List ℕ) → all ≡ rest ++ x ∷ [] → mine ≡ x.claims → times n mine + times n (claims_of rest) ≡ times n (claims_of all)
times_popped n all rest x mine is e =
    let a = claims-append n rest x in
    let b = ap (λ l. times n (claims_of l)) is in
    let c = ap (times n) e in
    omega arith

or_swap : (a b c : Bool) → (a || (b || c)) ≡ (b || (a || c))
or_swap true true c = refl
or_swap true false c = refl
or_swap false b c = refl

empty-append : (xs : List SeatView) (x : SeatView) → any_empty (xs ++ x ∷ []) ≡ (x.found_empty || any_empty xs)
empty-append [] x = refl
empty-append (y ∷ xs) x = ap (λ b. y.found_empty || b) (empty-append xs x) ∙ or_swap y.found_empty x.found_empty (any_empty xs)

pub empty_popped : (all rest : List SeatView) (x : SeatView) (b : Bool) → all ≡ rest ++ x ∷ [] → b ≡ x.found_empty → (b || any_empty rest) ≡ any_empty all
empty_popped all rest x b is e = ap (λ c. c || any_empty rest) e ∙ (sym (empty-append rest x) ∙ ap any_empty (sym is))

pub marked_now : (b : Bool) (empty_claims : ℕ) → empty_claims ≡ (if b then 1 else 0) → b ≡ true → 0 < empty_claims
marked_now true empty_claims e is = omega arith
marked_now false empty_claims e is = absurd (false≢true is)

pub or_when_true : (b x y z : Bool) → b ≡ true → (b || x) ≡ z → (b || y) ≡ z
or_when_true true x y z e is = is
or_when_true false x y z e is = absurd (false≢true e)

pub or_when_false : (b x z : Bool) → b ≡ false → (b || x) ≡ z → x ≡ z
or_when_false false x z e is = is
or_when_false true x z e is = absurd (false≢true (sym e))

pub none_claimed : (n : ℕ) (xs : List SeatView) → length xs ≡ 0 → times n (claims_of xs) ≡ 0
none_claimed n [] e = refl
none_claimed n (x ∷ xs) e = absurd (omega arith)

pub joined_times : (n : ℕ) (all rest : List SeatView) (x : SeatView) (mine theirs both : List ℕ) (sum : ℕ)
    → both ≡ mine ++ theirs
    → all ≡ rest ++ x ∷ []
    → theirs ≡ x.claims
    → times n mine + times n (claims_of all) ≡ sum
    → times n both + times n (claims_of rest) ≡ sum
joined_times n all rest x mine theirs both sum e is at before =
    let a = times_popped n all rest x theirs is at in
    let b = times-append n mine theirs in
    let c = ap (times n) e in
    omega arith

-- If there are seats, and each found no block left, `any_empty` holds.
all_told : (seats : List SeatView) → 0 < length seats → All (λ s. s.found_empty ≡ true) seats → any_empty seats ≡ true
all_told [] some all = absurd (omega arith)
all_told (s ∷ rest) some all = rw (all 0 s (omega arith)) refl

-- The result of `Desk::close` is true if all seats are taken back and each found no block left.
pub closes : (seats : List SeatView) (count : ℕ) → length seats ≡ count → 0 < count → All (λ s. s.found_empty ≡ true) seats → (nat_eq (length seats) count && any_empty seats) ≡ true
closes seats count same some all =
    let drained = all_told seats (omega arith) all in
    let counted : nat_eq (length seats) count ≡ true = grind (arith, nat_tests) in
    rw (counted, drained) refl

-- one more than the greatest claim, or 0 if there is none
abbrev pub next_claim : List ℕ → ℕ
next_claim [] = 0
next_claim (x ∷ xs) = max (x + 1) (next_claim xs)

next_le : (xs : List ℕ) (b : ℕ) → All (λ c. c < b) xs → next_claim xs ≤ b
next_le [] b all = omega arith
next_le (x ∷ xs) b all = let e = next_le xs b (λ k d w. all (suc k) d (omega arith)) in let f : x < b = all 0 0 (omega arith) in omega arith

next_last : (xs : List ℕ) (b : ℕ) → b + 1 ≤ next_claim (xs ++ b ∷ [])
next_last [] b = omega arith
next_last (x ∷ xs) b = let e = next_last xs b in omega arith

pub nearer : (xs ys : List ℕ) (b blocks : ℕ) → All (λ c. c < b) xs → b < blocks → ys ≡ xs ++ b ∷ [] → blocks - next_claim ys < blocks - next_claim xs
nearer xs ys b blocks all below is = let e = next_le xs b all in let f = next_last xs b in let g = ap next_claim is in omega arith
