-- Names and their numbers.
use Rattle.std.proofs.Common.{◌≡◌, ℕ, zero, suc, ◌<◌, ◌+◌, Bool, true, false, cond, List, [], ◌∷◌, ◌++◌, length, get_or, refl, sym}
use Rattle.std.proofs.Common.{◌∙◌, subst, arith, Option, Some, None, slice_get, append-nil, if◌then◌else◌}
use Rattle.std.specs.List.{AllByRecursion, IsDistinct, position}
use Rattle.std.specs.Str.{bytes_eq}
use Rattle.std.specs.Option.{IfSome, IfNone}
use Rattle.std.proofs.lemmas.Iterator.Adapters.{position_from-zero}
use Rattle.std.specs.List.{position_from}
use Rattle.std.proofs.lemmas.Map.Text.{is_eq-slice_cmp}
use Rattle.std.proofs.lemmas.Slice.Eq.{bytes_eq-Decides}
use Rattle.ppmacro.specs.Names.{Name}
use Rattle.ppmacro.specs.code.Members.{same_name}

-- The number of a name, or none if it doesn't occur. The first name in the list has the number i.
pub Found : Name → ℕ → List Name → Option ℕ → Type 0
Found q i xs None = AllByRecursion (λ y. same_name q y ≡ false) xs
Found q i xs (Some n) = (j : ℕ) × (n ≡ i + j) × (j < length xs) × (get_or xs j [] ≡ q)

pub found-from : (q : Name) (i : ℕ) (ks : List Name) → Found q i ks (position_from (λ k. bytes_eq q k) i ks)
unfolding Found
found-from q i [] = tt
found-from q i (k ∷ ks) = elim (bytes_eq q k) as (λ b. bytes_eq q k ≡ b → Found q i (k ∷ ks) (cond b (Some i) (position_from (λ k. bytes_eq q k) (i + 1) ks))) [
  | true ↦ λ e. (0, omega arith, omega arith, sym ((bytes_eq-Decides q k).0 e))
  | false ↦ λ e. later (position_from (λ k. bytes_eq q k) (i + 1) ks) (is_eq-slice_cmp q k ∙ e) (found-from q (i + 1) ks)
] refl
  where
    later : (o : Option ℕ) → same_name q k ≡ false → Found q (i + 1) ks o → Found q i (k ∷ ks) o
    later None e h = (e, h)
    later (Some n) e h = (suc h.0, omega (arith, h.1), omega (arith, h.2), h.3)

pub found-at : (q : Name) (ks : List Name) → Found q 0 ks (position (λ k. bytes_eq q k) ks)
found-at q ks = subst (Found q 0 ks) (sym (position_from-zero (λ k. bytes_eq q k) ks)) (found-from q 0 ks)

pub if-found : (q : Name) (xs : List Name) (o : Option ℕ) → Found q 0 xs o → IfSome o (λ n. (n < length xs) × (get_or xs n [] ≡ q))
unfolding Found
if-found q xs None h = tt
if-found q xs (Some n) h = let e : h.0 ≡ n = omega (arith, h.1) in (subst (λ z. z < length xs) e h.2, subst (λ z. get_or xs z [] ≡ q) e h.3)

pub if-none : (q : Name) (xs : List Name) (o : Option ℕ) → Found q 0 xs o → IfNone o (AllByRecursion (λ y. same_name q y ≡ false) xs)
unfolding Found
if-none q xs None h = h
if-none q xs (Some n) h = tt

-- Keys with distinct bytes are distinct names.
pub distinct-names : (ks : List Name) → IsDistinct (λ a b. bytes_eq a b) ks → IsDistinct same_name ks
unfolding IsDistinct
distinct-names [] d = tt
distinct-names (k ∷ ks) d = (each ks d.0, distinct-names ks d.1)
  where
    each : (ls : List Name) → AllByRecursion (λ y. bytes_eq k y ≡ false) ls → AllByRecursion (λ y. same_name k y ≡ false) ls
    each [] h = tt
    each (l ∷ ls) h = (is_eq-slice_cmp k l ∙ h.0, each ls h.1)

-- ---- a name that is inserted

pub name-got : (ks : List Name) (n : ℕ) (k : Name) → slice_get ks n ≡ Some k → get_or ks n [] ≡ k
name-got [] n k e = absurd (cc e)
name-got (x ∷ ks) zero k e = cc e
name-got (x ∷ ks) (suc n) k e = name-got ks n k e

pub name-within : (ks : List Name) (n : ℕ) (k : Name) → slice_get ks n ≡ Some k → n < length ks
name-within [] n k e = absurd (cc e)
name-within (x ∷ ks) zero k e = omega arith
name-within (x ∷ ks) (suc n) k e = omega (arith, name-within ks n k e)

pub names-keep : (b : Bool) (ks : List Name) (k : Name) → (more : List Name) × ((if b then ks else ks ++ k ∷ []) ≡ ks ++ more)
names-keep true ks k = ([], sym (append-nil ks))
names-keep false ks k = (k ∷ [], refl)
