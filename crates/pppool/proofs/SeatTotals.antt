-- Sums over seat states, and how often a number occurs in a list.
use Rattle.std.proofs.Common.{◌≡◌, ℕ, zero, suc, ◌+◌, ◌<◌, ◌≤◌, List, [], ◌∷◌, ◌++◌, length, get_or, set, refl, sym, ap, arith, nat_eq, if◌then◌else◌}
use mathlib.Core.Option.{some, some-injective, some-ne-none}
use lib.ListN.{get_elem?}
use Rattle.std.proofs.lemmas.Bool.Decides.{nat_tests}
use Rattle.pppool.specs.declared.seat_state.SeatState.{SeatState}
use Rattle.ppshelf.specs.Events.{times}
use Rattle.pppool.specs.Desk.{total, once_below}

pub total_set : (f : SeatState → ℕ) (views : List SeatState) (id : ℕ) (v w : SeatState) → get_elem? views id ≡ some v → total f (set views id w) + f v ≡ total f views + f w
total_set f [] id v w at = absurd (some-ne-none v (sym at))
total_set f (x ∷ xs) zero v w at = let e = ap f (some-injective x v at) in omega arith
total_set f (x ∷ xs) (suc id) v w at = let e = total_set f xs id v w at in omega arith

pub total_snoc : (f : SeatState → ℕ) (views : List SeatState) (w : SeatState) → total f (views ++ w ∷ []) ≡ total f views + f w
total_snoc f [] w = omega arith
total_snoc f (x ∷ xs) w = let e = total_snoc f xs w in omega arith

pub total_le : (f h : SeatState → ℕ) (views : List SeatState) → ((id : ℕ) (v : SeatState) → get_elem? views id ≡ some v → f v ≤ h v) → total f views ≤ total h views
total_le f h [] all = omega arith
total_le f h (x ∷ xs) all = let e = total_le f h xs (λ id v at. all (suc id) v at) in let d = all 0 x refl in omega arith

pub total_at : (f : SeatState → ℕ) (views : List SeatState) (id : ℕ) (v : SeatState) → get_elem? views id ≡ some v → f v ≤ total f views
total_at f [] id v at = absurd (some-ne-none v (sym at))
total_at f (x ∷ xs) zero v at = let e = ap f (some-injective x v at) in omega arith
total_at f (x ∷ xs) (suc id) v at = let e = total_at f xs id v at in omega arith

pub times-append : (x : ℕ) (xs ys : List ℕ) → times x (xs ++ ys) ≡ times x xs + times x ys
times-append x [] ys = omega arith
times-append x (y ∷ xs) ys = let e = times-append x xs ys in omega arith

abbrev pub tick : ℕ → ℕ → ℕ
tick y x = if nat_eq y x then 1 else 0

one_here : (x y : ℕ) → x ≡ y → tick y x ≡ 1
one_here x y e = grind (arith, nat_tests)

pub times_at : (xs : List ℕ) (k d : ℕ) → k < length xs → 0 < times (get_or xs k d) xs
times_at [] k d w = absurd (omega arith)
times_at (x ∷ xs) zero d w = let e = one_here x x refl in omega arith
times_at (x ∷ xs) (suc k) d w = let e = times_at xs k d (omega arith) in omega arith

pub below_once : (x n : ℕ) → 0 < once_below x n → x < n
below_once x n h = grind (arith, nat_tests)

pub below_once_one : (x n : ℕ) → x < n → once_below x n ≡ 1
below_once_one x n h = grind (arith, nat_tests)

pub once_more : (x n : ℕ) → once_below x (n + 1) ≡ once_below x n + tick n x
once_more x n = grind (arith, nat_tests)
