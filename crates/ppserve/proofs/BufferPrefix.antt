-- Text written after a prefix of a buffer.
use Rattle.std.proofs.Common.{◌≡◌, ℕ, zero, suc, ◌+◌, ◌/◌, ◌%◌, ◌^◌, ◌<◌, ◌≤◌, List, [], ◌∷◌, ◌++◌, decimal, length, take, drop, refl, sym, ap, ◌∙◌, arith, append_assoc, length-append}
use Rattle.std.proofs.Math.Seq.{take-append-add}
use Rattle.std.proofs.lemmas.List.{take-append-le, take-take, length-take-le}
use Rattle.ppserve.specs.code.LinePrefix.{PrintsAsIsBetween}
use Rattle.ppserve.specs.Output.{percent_encoded, percent_encoded_byte}
use Rattle.std.proofs.lemmas.Fmt.{decimal_digit, decimal_step, length-decimal-le}

-- The first `a + n` elements are the prefix of length `a` and the first `n` of `ys`.
pub take_after : (xs ys zs : List ℕ) (a n : ℕ) → a ≤ length xs → n ≤ length ys → take (a + n) (take a xs ++ (ys ++ zs)) ≡ take a xs ++ take n ys
take_after xs ys zs a n h k =
    let e = take-append-add (take a xs) (ys ++ zs) n in
    rw (length-take-le a xs h, take-append-le n ys zs k) at e

-- Writing text from `end` on keeps all bytes before `at`, if `at` is at most `end`.
pub front_kept : (old new text : List ℕ) (at end result : ℕ) → at ≤ end → end ≤ length old → end ≤ result → take result new ≡ take end old ++ text → take at new ≡ take at old
front_kept old new text at end result before within less is =
    sym (take-take at result new (omega (arith, before, less))) ∙ ap (take at) is ∙ take-append-le at (take end old) text (omega (arith, length-take-le end old within, before)) ∙ take-take at end old before

-- A prefix within the overwritten start of a vector is a prefix of the new bytes.
pub front_left : (r l : ℕ) (new old : List ℕ) → r ≤ length new → r ≤ l → take r (take l (new ++ drop (length new) old)) ≡ take r new
front_left r l new old within less = take-take r l (new ++ drop (length new) old) less ∙ take-append-le r new (drop (length new) old) within

-- Percent-encoding doesn't change a prefix whose bytes all print as they are.
pub plain_take : (bytes : List ℕ) (n : ℕ) → n ≤ length bytes → PrintsAsIsBetween bytes 0 n → percent_encoded (take n bytes) ≡ take n bytes
plain_take bytes zero within plain = refl
plain_take [] (suc n) within plain = absurd (omega (arith, within))
plain_take (b ∷ bs) (suc n) within plain =
    let first : percent_encoded_byte b ≡ b ∷ [] = rw (plain 0 (omega arith) (omega arith)) refl in
    let rest = plain_take bs n (omega (arith, within)) (λ k from to. plain (suc k) (omega arith) (omega (arith, to))) in
    rw (first, rest) refl

abbrev pub pair : ℕ → List ℕ
pair n = (48 + n % 100 / 10) ∷ ((48 + n % 10) ∷ [])

pub decimal_two : (n : ℕ) → 10 ≤ n → n < 100 → decimal n ≡ pair n
decimal_two n lo hi =
    let tens : n % 100 / 10 ≡ n / 10 = omega arith in
    rw (decimal_step n lo (omega arith), decimal_digit (n / 10) (omega arith), tens)

pub decimal_more : (n : ℕ) → 100 ≤ n → n < 2 ^ 64 → decimal n ≡ decimal (n / 100) ++ pair n
decimal_more n lo hi =
    let a : n / 10 / 10 ≡ n / 100 = omega arith in
    let b : n / 10 % 10 ≡ n % 100 / 10 = omega arith in
    rw (decimal_step n (omega arith) hi, decimal_step (n / 10) (omega arith) (omega arith), append_assoc, a, b)

pub length_more : (n : ℕ) → 100 ≤ n → n < 2 ^ 64 → length (decimal n) ≡ length (decimal (n / 100)) + 2
length_more n lo hi = ap length (decimal_more n lo hi) ∙ length-append _ _

-- A number of 32 bits has at most ten digits.
pub length_word : (n : ℕ) → n < 2 ^ 32 → length (decimal n) ≤ 10
length_word n h = length-decimal-le 10 n (omega arith) (omega arith) (omega arith)

-- Concatenation is regrouped around two locations, each after a space.
pub places_joined : (p x a y b t : List ℕ) → (((((p ++ (32 ∷ x)) ++ a) ++ (32 ∷ y)) ++ b) ++ t) ≡ p ++ (((((32 ∷ []) ++ (x ++ a)) ++ (32 ∷ [])) ++ (y ++ b)) ++ t)
places_joined p x a y b t =
    let s = (32 ∷ x) ++ a in
    let later = append_assoc s (32 ∷ y) b ∙ sym (append_assoc s (32 ∷ []) (y ++ b)) in
    rw (append_assoc p (32 ∷ x) a, append_assoc p s (32 ∷ y), append_assoc p (s ++ (32 ∷ y)) b, append_assoc p ((s ++ (32 ∷ y)) ++ b) t)
    (ap (λ z. p ++ (z ++ t)) later)

-- Appending four bytes one by one is appending a list of four.
pub four_joined : (x : List ℕ) (a b c d : ℕ) → (((x ++ (a ∷ [])) ++ (b ∷ [])) ++ (c ∷ [])) ++ (d ∷ []) ≡ x ++ (a ∷ (b ∷ (c ∷ (d ∷ []))))
four_joined x a b c d = rw (append_assoc x (a ∷ []) (b ∷ []), append_assoc x (a ∷ (b ∷ [])) (c ∷ []), append_assoc x (a ∷ (b ∷ (c ∷ []))) (d ∷ [])) refl
