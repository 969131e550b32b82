-- Bytes from pairs of hexadecimal digits.
use Rattle.std.proofs.Common.{◌≡◌, ℕ, ◌-◌, ◌≤◌, List, [], ◌∷◌, ◌++◌, length, get_or, take, drop, refl, ap, ◌∙◌, arith, append_assoc, Option, Some, None, option_map}
use Rattle.ppserve.specs.Shape.{hex_byte, hex_bytes}

take-all : (xs : List ℕ) → take (length xs) xs ≡ xs
take-all [] = refl
take-all (x ∷ xs) = ap (λ ys. x ∷ ys) (take-all xs)

behind_front : (prefix : List ℕ) (x : ℕ) (o : Option (List ℕ)) → option_map (λ more. (prefix ++ x ∷ []) ++ more) o ≡ option_map (λ more. prefix ++ more) (option_map (λ xs. x ∷ xs) o)
behind_front prefix x None = refl
behind_front prefix x (Some xs) = ap Some (append_assoc prefix (x ∷ []) xs)

rest_of : (a b : ℕ) (more : List ℕ) → take (length (a ∷ b ∷ more) - 2) (drop 2 (a ∷ b ∷ more)) ≡ more
rest_of a b more = let e : length (a ∷ b ∷ more) - 2 ≡ length more = omega arith in rw e (take-all more)

-- Reading one more pair preserves the invariant that prefix and rest make up the whole.
pub hex_bytes-more : (prefix pushed rest : List ℕ) (x : ℕ) (whole : Option (List ℕ)) → 2 ≤ length rest → hex_byte (get_or rest 0 0) (get_or rest 1 0) ≡ Some x
    → pushed ≡ prefix ++ x ∷ [] → option_map (λ more. prefix ++ more) (hex_bytes rest) ≡ whole
    → option_map (λ more. pushed ++ more) (hex_bytes (take (length rest - 2) (drop 2 rest))) ≡ whole
hex_bytes-more prefix pushed [] x whole two read is e = absurd (omega arith)
hex_bytes-more prefix pushed (a ∷ []) x whole two read is e = absurd (omega arith)
hex_bytes-more prefix pushed (a ∷ b ∷ more) x whole two read is e =
    let now : option_map (λ ys. prefix ++ ys) (option_map (λ xs. x ∷ xs) (hex_bytes more)) ≡ whole = rw read at e in
    rw (rest_of a b more, is) (behind_front prefix x (hex_bytes more) ∙ now)
