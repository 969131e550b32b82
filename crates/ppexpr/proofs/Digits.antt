-- Bounds on the number that digits denote.
use Rattle.std.proofs.Common.{◌≡◌, ℕ, ◌+◌, ◌*◌, ◌<◌, ◌≤◌, ◌^◌, List, [], ◌∷◌, length, take, drop, get_or, arith, sym, ap, ◌∙◌, subst}
use Rattle.std.specs.List.{fold}
use Rattle.std.specs.Char.{digit_value}
use Rattle.std.proofs.lemmas.List.Sums.{fold_more, fold-append}
use Rattle.std.proofs.lemmas.List.{take-append-drop}
use Rattle.std.proofs.Math.Nat.{le-mul_of_pos_right}
use Rattle.ppexpr.specs.Integers.{number}

-- appends a digit to a number; `worth` maps a digit to its value
abbrev pub step : (ℕ → ℕ) → ℕ → ℕ → ℕ → ℕ
step worth base n c = n * base + worth c

-- Appending digits does not make a number smaller.
grows : (worth : ℕ → ℕ) (base : ℕ) → 0 < base → (ds : List ℕ) (n : ℕ) → n ≤ fold (step worth base) n ds
grows worth base h [] n = omega arith
grows worth base h (d ∷ ds) n =
    let more : n ≤ n * base = le-mul_of_pos_right n h in
    let rest : step worth base n d ≤ fold (step worth base) (step worth base n d) ds = grows worth base h ds (n * base + worth d) in
    omega (arith, more, rest)

front_no_larger : (worth : ℕ → ℕ) (base : ℕ) (ds : List ℕ) (i : ℕ) → 0 < base → i < length ds → step worth base (fold (step worth base) 0 (take i ds)) (get_or ds i 0) ≤ fold (step worth base) 0 ds
front_no_larger worth base ds i h within =
    let split : fold (step worth base) 0 ds ≡ fold (step worth base) (fold (step worth base) 0 (take (i + 1) ds)) (drop (i + 1) ds) =
    ap (fold (step worth base) 0) (sym (take-append-drop (i + 1) ds)) ∙ fold-append (step worth base) 0 (take (i + 1) ds) (drop (i + 1) ds) in
    let rest : fold (step worth base) 0 (take (i + 1) ds) ≤ fold (step worth base) (fold (step worth base) 0 (take (i + 1) ds)) (drop (i + 1) ds) =
    grows worth base h (drop (i + 1) ds) (fold (step worth base) 0 (take (i + 1) ds)) in
    let one : fold (step worth base) 0 (take (i + 1) ds) ≡ step worth base (fold (step worth base) 0 (take i ds)) (get_or ds i 0) = fold_more (step worth base) 0 ds i 0 within in
    omega (arith, split, rest, one)

-- A number is at least the number of its first i + 1 digits.
number_reaches : (base : ℕ) (ds : List ℕ) (i n : ℕ) → 0 < base → i < length ds → n ≡ number base (take i ds) → n * base + digit_value (get_or ds i 0) ≤ number base ds
number_reaches base ds i n h within is =
    subst (λ (m : ℕ). m * base + digit_value (get_or ds i 0) ≤ number base ds) (sym is) (front_no_larger digit_value base ds i h within)

-- A number is too large if its prefix overflows when multiplied by the base, or when the next digit is added.
plain_sum : (n b base digit all bound shifted more : ℕ) → b ≡ base → n * base + digit ≤ all → shifted ≡ n * b → more ≡ digit → (shifted + more < bound → ⊥) → bound ≤ all
plain_sum n b base digit all bound shifted more e reached f m h = let p : shifted ≡ n * base = rw (← e) f in omega (arith, p)

plain_product : (n b base digit all bound : ℕ) → b ≡ base → n * base + digit ≤ all → (n * b < bound → ⊥) → bound ≤ all
plain_product n b base digit all bound e reached h = let p : n * b ≡ n * base = ap (λ x. n * x) e in omega (arith, p)

pub too_large_product : (base : ℕ) (ds : List ℕ) (i n b : ℕ) → 0 < base → i < length ds → n ≡ number base (take i ds) → b ≡ base → (n * b < 2 ^ 64 → ⊥) → 2 ^ 64 ≤ number base ds
too_large_product base ds i n b h within is e big = plain_product n b base (digit_value (get_or ds i 0)) (number base ds) (2 ^ 64) e (number_reaches base ds i n h within is) big

pub too_large_sum : (base : ℕ) (ds : List ℕ) (i n b shifted more : ℕ)
    → 0 < base
    → i < length ds
    → n ≡ number base (take i ds)
    → b ≡ base
    → shifted ≡ n * b
    → more ≡ digit_value (get_or ds i 0)
    → (shifted + more < 2 ^ 64 → ⊥)
    → 2 ^ 64 ≤ number base ds
too_large_sum base ds i n b shifted more h within is e f m big = plain_sum n b base (digit_value (get_or ds i 0)) (number base ds) (2 ^ 64) shifted more e (number_reaches base ds i n h within is) f m big
