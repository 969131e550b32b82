-- Texts, their segments, and the spelling of paths.
use Rattle.std.proofs.Common.{◌≡◌, ℕ, ◌+◌, ◌==◌, suc, zero, ◌<◌, true, false, List, [], ◌∷◌, ◌++◌, length, get_or, take, drop, refl, sym, ap, ◌∙◌, arith, append_assoc}
use Rattle.std.specs.List.{onto_first, join_with_byte}
use Rattle.std.proofs.lemmas.Grind.{common_steps}
use Rattle.std.proofs.lemmas.List.{take_more}
use Rattle.std.proofs.lemmas.List.Splits.{slice_split-cons_yes, slice_split-cons_no}
use Rattle.ppshelf.specs.Names.{segments}

-- The first segment of a text ends at the first slash.
pub cut_at : (text : List ℕ) (i : ℕ) → i < length text → (get_or text i 0 == 47) ≡ true → ((k : ℕ) → k < i → (get_or text k 0 == 47) ≡ false) → segments text ≡ take i text ∷ segments (drop (i + 1) text)
cut_at [] i within here before = absurd (omega arith)
cut_at (b ∷ text) zero within here before = slice_split-cons_yes (λ b. b == 47) b text here
cut_at (b ∷ text) (suc i) within here before =
    slice_split-cons_no (λ b. b == 47) b text (before 0 (omega arith))
    ∙ (ap (onto_first b) (cut_at text i (omega arith) here (λ k below. before (suc k) (omega arith)))
    ∙ ap (λ k. take (suc i) (b ∷ text) ∷ segments (drop k (b ∷ text))) (let e : suc (i + 1) ≡ suc i + 1 = omega arith in e))

pub no_cut : (text : List ℕ) → ((k : ℕ) → k < length text → (get_or text k 0 == 47) ≡ false) → segments text ≡ text ∷ []
no_cut [] none = refl
no_cut (b ∷ text) none =
    slice_split-cons_no (λ b. b == 47) b text (none 0 (omega arith))
    ∙ ap (onto_first b) (no_cut text (λ k below. none (suc k) (omega arith)))

-- The spelling of a path with one more segment after others has a `/` between them.
pub join_more : (path : List (List ℕ)) (s : List ℕ) → 0 < length path → join_with_byte 47 (path ++ s ∷ []) ≡ (join_with_byte 47 path ++ 47 ∷ []) ++ s
join_more [] s some = absurd (omega arith)
join_more (t ∷ []) s some = sym (append_assoc t (47 ∷ []) s)
join_more (t ∷ u ∷ path) s some =
    let rest : List ℕ = join_with_byte 47 (u ∷ path) in
    let e : t ++ 47 ∷ ((rest ++ 47 ∷ []) ++ s) ≡ ((t ++ 47 ∷ rest) ++ 47 ∷ []) ++ s = simp append_assoc in
    ap (λ (x : List ℕ). t ++ 47 ∷ x) (join_more (u ∷ path) s (omega arith)) ∙ e

-- The first segment of a path is spelled without a `/` before it.
pub spelled_first : (path : List (List ℕ)) (s : List ℕ) → length path ≡ 0 → join_with_byte 47 (path ++ s ∷ []) ≡ join_with_byte 47 path ++ s
spelled_first [] s e = refl
spelled_first (t ∷ path) s e = absurd (omega arith)

-- The spelling of the first i + 1 segments of a path, by that of the first i.
module _ (path : List (List ℕ)) (i : ℕ) (within : i < length path) (before : List ℕ) (path_name : before ≡ join_with_byte 47 (take i path)) where
  pub spelled_next : 0 < i → join_with_byte 47 (take (i + 1) path) ≡ (before ++ 47 ∷ []) ++ get_or path i []
  spelled_next some =
      let l : length (take i path) ≡ i = grind (arith, common_steps) in
      ap (join_with_byte 47) (take_more path i [] within) ∙ (join_more (take i path) (get_or path i []) (omega arith) ∙ ap (λ (x : List ℕ). (x ++ 47 ∷ []) ++ get_or path i []) (sym path_name))

  pub spelled_front : i ≡ 0 → join_with_byte 47 (take (i + 1) path) ≡ before ++ get_or path i []
  spelled_front none =
      let l : length (take i path) ≡ i = grind (arith, common_steps) in
      ap (join_with_byte 47) (take_more path i [] within) ∙ (spelled_first (take i path) (get_or path i []) (omega arith) ∙ ap (λ (x : List ℕ). x ++ get_or path i []) (sym path_name))
