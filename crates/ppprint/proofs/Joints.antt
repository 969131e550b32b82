-- No joint is longer than four characters.
use Rattle.std.proofs.Common.{◌≡◌, ℕ, ◌+◌, ◌<◌, ◌≤◌, Bool, true, false, ◌&&◌, ◌||◌, List, [], ◌∷◌, ◌++◌, length, take, refl, sym, ap, ◌∙◌, arith, length-append, zero, suc}
use Rattle.std.specs.List.{list_any}
use Rattle.std.specs.Prelude.{nat_eq}
use Rattle.std.specs.Str.{bytes_eq}
use Rattle.ppprint.specs.Apart.{joints, is_joint_start, begins_joint}

-- each of these texts has at most n characters
AreShort : ℕ → List (List ℕ) → Type 0
AreShort n [] = Unit {0}
AreShort n (t ∷ ts) = (length t ≤ n) × AreShort n ts

and_false : (a : Bool) → (a && false) ≡ false
and_false true = refl
and_false false = refl

-- a text isn't a shorter one
shorter_differs : (s t : List ℕ) → length s < length t → bytes_eq s t ≡ false
shorter_differs [] [] lt = absurd (omega arith)
shorter_differs [] (c ∷ t) lt = refl
shorter_differs (c ∷ s) [] lt = absurd (omega arith)
shorter_differs (c ∷ s) (d ∷ t) lt = ap (λ b. nat_eq c d && b) (shorter_differs s t (omega arith)) ∙ and_false (nat_eq c d)

take_shorter : (n : ℕ) (s : List ℕ) → length (take n s) ≤ length s
take_shorter zero s = omega arith
take_shorter (suc n) [] = omega arith
take_shorter (suc n) (c ∷ s) = let h = take_shorter n s in omega arith

starts_none : (texts : List (List ℕ)) (n : ℕ) (text : List ℕ) → AreShort n texts → n < length text → list_any (λ joint. bytes_eq (take (length text) joint) text) texts ≡ false
unfolding AreShort
starts_none [] n text short lt = refl
starts_none (t ∷ texts) n text short lt =
    let here : bytes_eq (take (length text) t) text ≡ false = shorter_differs (take (length text) t) text (let h = take_shorter (length text) t in let s : length t ≤ n = short.0 in omega arith) in
    rw here (starts_none texts n text short.1 lt)

joints_short : AreShort 4 joints
unfolding AreShort
joints_short = search arith

pub long_begins_nothing : (text next : List ℕ) → 4 ≤ length text → false ≡ begins_joint text next
unfolding is_joint_start
long_begins_nothing text [] le = refl
long_begins_nothing text (c ∷ cs) le = sym (starts_none joints 4 (text ++ c ∷ []) joints_short (let h = length-append text (c ∷ []) in omega arith))
