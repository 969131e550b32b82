-- The first candidate of a search that is a name of the shelf.
use Rattle.std.proofs.Common.{◌≡◌, ◌≢◌, ℕ, Bool, true, false, ◌+◌, zero, suc, ◌<◌, ◌≤◌, List, [], ◌∷◌, ◌++◌, length, get_or, take, drop, drop-cons, append_assoc, Option, Some, None}
use Rattle.std.proofs.Common.{IfSome, refl, sym, ap, ◌∙◌, subst, arith, inl, inr}
use Rattle.std.specs.Option.{option_map}
use Rattle.std.specs.Str.{bytes_eq}
use Rattle.std.proofs.lemmas.Grind.{common_steps}
use Rattle.std.proofs.lemmas.Bool.{cases_lt}
use Rattle.std.proofs.lemmas.Option.{none-some}
use Rattle.std.proofs.lemmas.Slice.Eq.{bytes_eq-Decides}
use Rattle.ppshelf.specs.Names.{AreNames, IsRowOf}
use Rattle.ppshelf.specs.Search.{Path, Candidate, IsFirstRow, IsEndOf, candidate, candidates, candidates_after, candidates_in, follow}
use Rattle.ppshelf.specs.declared.search.Form.TheVariants.{Angle}
use Rattle.ppshelf.specs.code.Paths.{IsRowAt}

nothing_left : (directories : List (List ℕ)) (i : ℕ) → length directories ≤ i → drop i directories ≡ []
nothing_left directories i past = grind (arith, common_steps)

module _ (names : List (List ℕ)) where
  -- If none of the first candidates is found, the result is that for the others.
  pub first_later : (xs ys : List Candidate) (found : Option (ℕ × ℕ)) → IsFirstRow names xs None → IsFirstRow names ys found → IsFirstRow names (xs ++ ys) found
  first_later [] ys found none h = h
  first_later (x ∷ xs) ys found none h = elim none [ inl a ↦ absurd (none-some (a.0, x.directory) a.1.0) | inr b ↦ inr (b.0, first_later xs ys found b.1 h) ]

  -- A file found among the first candidates is the result for all candidates.
  pub first_here : (xs ys : List Candidate) (found : ℕ × ℕ) → IsFirstRow names xs (Some found) → IsFirstRow names (xs ++ ys) (Some found)
  first_here [] ys found h = absurd (none-some found (sym h))
  first_here (x ∷ xs) ys found h = elim h [ inl a ↦ inl a | inr b ↦ inr (b.0, first_here xs ys found b.1) ]

  pub first_within : (cs : List Candidate) (found : Option (ℕ × ℕ)) → IsFirstRow names cs found → IfSome found (λ f. f.0 < length names)
  first_within [] found e = let P : Option (ℕ × ℕ) → Type 0 = λ o. IfSome o (λ f. f.0 < length names) in subst P (sym e) tt
  first_within (c ∷ cs) found h =
      let P : Option (ℕ × ℕ) → Type 0 = λ o. IfSome o (λ f. f.0 < length names) in
      elim h [ inl a ↦ subst P (sym a.1.0) a.1.1.0 | inr b ↦ first_within cs found b.1 ]

  -- The result for a single candidate is the row to which its path leads.
  pub first_alone : (k : ℕ) (path : Option Path) (row : Option ℕ) → IsRowAt names path row → IsFirstRow names (candidate k path) (option_map (λ r. (r, k)) row)
  first_alone k None row h = ap (λ (o : Option ℕ). option_map (λ r. (r, k)) o) h
  first_alone k (Some path) None h = inr (h, refl)
  first_alone k (Some path) (Some row) h = inl (row, (refl, h))

  -- A search that began after directory j and found nothing in the directories up to i.
  pub record Passed (directories : List (List ℕ)) (text : List ℕ) (j i : ℕ) : Type 0 where
    pub rest : (found : Option (ℕ × ℕ)) → IsFirstRow names (candidates_in (suc i) (drop i directories) text) found → IsFirstRow names (candidates_in (suc j) (drop j directories) text) found

  there : (directories : List (List ℕ)) (i : ℕ) (directory : List ℕ) → i < length directories → directory ≡ get_or directories i [] → drop i directories ≡ directory ∷ drop (suc i) directories
  there directories i directory within is = drop-cons directories i [] within ∙ ap (λ (x : List ℕ). x ∷ drop (suc i) directories) (sym is)

  pub pass_over : (directories : List (List ℕ)) (text : List ℕ) (j i : ℕ) (directory : List ℕ)
      → Passed directories text j i
      → i < length directories
      → directory ≡ get_or directories i []
      → IsRowAt names (follow (follow (Some []) directory) text) None
      → Passed directories text j (i + 1)
  pass_over directories text j i directory p within is none = record {
    rest = λ found h.
        let next : i + 1 ≡ suc i = omega arith in
        let path = follow (follow (Some []) directory) text in
        let P : List (List ℕ) → Type 0 = λ fs. IsFirstRow names (candidates_in (suc i) fs text) found in
        let Q : ℕ → Type 0 = λ k. IsFirstRow names (candidates_in (suc k) (drop k directories) text) found in
        p.rest found (subst P (sym (there directories i directory within is)) (first_later (candidate (suc i) path) (candidates_in (suc (suc i)) (drop (suc i) directories) text) found (first_alone (suc i) path None none) (subst Q next h)));
  }

  pub found_here : (directories : List (List ℕ)) (text : List ℕ) (j i : ℕ) (directory : List ℕ) (row : ℕ)
      → Passed directories text j i
      → i < length directories
      → directory ≡ get_or directories i []
      → IsRowAt names (follow (follow (Some []) directory) text) (Some row)
      → IsFirstRow names (candidates_in (suc j) (drop j directories) text) (Some (row, i + 1))
  found_here directories text j i directory row p within is h =
      let next : suc i ≡ i + 1 = omega arith in
      let path = follow (follow (Some []) directory) text in
      let P : List (List ℕ) → Type 0 = λ fs. IsFirstRow names (candidates_in (suc i) fs text) (Some (row, suc i)) in
      let Q : ℕ → Type 0 = λ k. IsFirstRow names (candidates_in (suc j) (drop j directories) text) (Some (row, k)) in
      subst Q next (p.rest (Some (row, suc i)) (subst P (sym (there directories i directory within is)) (first_here (candidate (suc i) path) (candidates_in (suc (suc i)) (drop (suc i) directories) text) (row, suc i) (first_alone (suc i) path (Some row) h))))

  pub found_nowhere : (directories : List (List ℕ)) (text : List ℕ) (j i : ℕ) → Passed directories text j i → length directories ≤ i → IsFirstRow names (candidates_in (suc j) (drop j directories) text) None
  found_nowhere directories text j i p past =
      let P : List (List ℕ) → Type 0 = λ fs. IsFirstRow names (candidates_in (suc i) fs text) None in
      let e : drop i directories ≡ [] = nothing_left directories i past in
      p.rest None (subst P (sym e) refl)

same_row : (names : List (List ℕ)) → AreNames names → (name : List ℕ) (i j : ℕ) → IsRowOf names name (Some i) → IsRowOf names name (Some j) → i ≡ j
same_row names good name i j x y =
    elim (cases_lt i j) [
      | inl l ↦ absurd ((good j y.0).once i l (x.1 ∙ sym y.1))
      | inr l ↦
          elim (cases_lt j i) [
            | inl l' ↦ absurd ((good i x.0).once j l' (y.1 ∙ sym x.1))
            | inr l' ↦ omega arith
          ]
    ]

-- If each name occurs once, two results of a search are equal.
pub one_first : (names : List (List ℕ)) → AreNames names → (cs : List Candidate) (a b : Option (ℕ × ℕ)) → IsFirstRow names cs a → IsFirstRow names cs b → a ≡ b
one_first names good [] a b x y = x ∙ sym y
one_first names good (c ∷ cs) a b x y =
    elim x [
      | inl h ↦
          elim y [
            | inl k ↦ h.1.0 ∙ ap (λ (row : ℕ). Some (row, c.directory)) (same_row names good c.name h.0 k.0 h.1.1 k.1.1) ∙ sym k.1.0
            | inr k ↦ absurd (k.0 h.0 h.1.1.0 h.1.1.1)
          ]
      | inr h ↦ elim y [ inl k ↦ absurd (h.0 k.0 k.1.1.0 k.1.1.1) | inr k ↦ one_first names good cs a b h.1 k.1 ]
    ]

-- The candidates in some directories are those in the first j and those in the others.
parted : (directories : List (List ℕ)) (text : List ℕ) (j k m : ℕ) → m ≡ k + j → candidates_in k directories text ≡ candidates_in k (take j directories) text ++ candidates_in m (drop j directories) text
parted directories text zero k m e = let same : k ≡ m = omega (arith, e) in ap (λ (n : ℕ). candidates_in n directories text) same
parted [] text (suc j) k m e = refl
parted (directory ∷ more) text (suc j) k m e =
    let here = candidate k (follow (follow (Some []) directory) text) in
    let next : m ≡ suc k + j = omega (arith, e) in
    ap (λ (cs : List Candidate). here ++ cs) (parted more text j (suc k) m next) ∙ sym (append_assoc here (candidates_in (suc k) (take j more) text) (candidates_in m (drop j more) text))

-- The candidates after a directory are the end of the list of all candidates.
pub behind_ends : (from text : List ℕ) (unit setting : List (List ℕ)) (j : ℕ) → IsEndOf (candidates_after j unit setting text) (candidates Angle from unit setting text)
behind_ends from text unit setting j =
    let first : suc j ≡ 1 + j = omega arith in
    (candidates_in 1 (take j (unit ++ setting)) text, parted (unit ++ setting) text j 1 (suc j) first)

-- A file found in directories numbered from k on has a directory number of at least k.
above_one : (names : List (List ℕ)) (path : Option Path) (k : ℕ) (more : List Candidate) (found : ℕ × ℕ)
    → (IsFirstRow names more (Some found) → k ≤ found.1)
    → IsFirstRow names (candidate k path ++ more) (Some found)
    → k ≤ found.1
above_one names None k more found later h = later h
above_one names (Some path) k more found later h =
    let P : Option (ℕ × ℕ) → Type 0 = λ o. IfSome o (λ f. k ≤ f.1) in
    let own : k ≤ k = omega arith in
    elim h [ inl a ↦ subst P (sym a.1.0) own | inr b ↦ later b.1 ]

above : (names directories : List (List ℕ)) (text : List ℕ) (k : ℕ) (found : ℕ × ℕ) → IsFirstRow names (candidates_in k directories text) (Some found) → k ≤ found.1
above names [] text k found h = absurd (none-some found (sym h))
above names (directory ∷ more) text k found h =
    above_one names (follow (follow (Some []) directory) text) k (candidates_in (suc k) more text) found (λ r. let l = above names more text (suc k) found r in omega arith) h

-- A search after directory j finds a file only in a later directory.
pub found_behind : (names unit setting : List (List ℕ)) (text : List ℕ) (j row directory : ℕ) → IsFirstRow names (candidates_after j unit setting text) (Some (row, directory)) → j < directory
found_behind names unit setting text j row directory h = let l = above names (drop j (unit ++ setting)) text (suc j) (row, directory) h in omega arith

-- ---- a search has a result

none_here : (n : List ℕ) (names : List (List ℕ)) (name : List ℕ) → n ≢ name → IsRowOf names name None → IsRowOf (n ∷ names) name None
none_here n names name other none zero h = other
none_here n names name other none (suc row) h = none row (omega arith)

row_here : (n : List ℕ) (names : List (List ℕ)) (name : List ℕ) (b : Bool) → bytes_eq n name ≡ b → (row : Option ℕ) → IsRowOf names name row → (found : Option ℕ) × IsRowOf (n ∷ names) name found
row_here n names name true e row h = (Some 0, (omega arith, (bytes_eq-Decides n name).0 e))
row_here n names name false e None h = (None, none_here n names name (λ same. let no : bytes_eq n name ≡ true = (bytes_eq-Decides n name).1 same in cc) h)
row_here n names name false e (Some r) h = (Some (suc r), (omega arith, h.1))

-- A name has a row or has none.
some_row_of : (names : List (List ℕ)) (name : List ℕ) → (row : Option ℕ) × IsRowOf names name row
some_row_of [] name = (None, λ row h. absurd (omega arith))
some_row_of (n ∷ names) name = row_here n names name (bytes_eq n name) refl (some_row_of names name).0 (some_row_of names name).1

first_or : (names : List (List ℕ)) (c : Candidate) (cs : List Candidate) (row : Option ℕ)
    → IsRowOf names c.name row
    → (later : Option (ℕ × ℕ))
    → IsFirstRow names cs later
    → (found : Option (ℕ × ℕ)) × IsFirstRow names (c ∷ cs) found
first_or names c cs None h later k = (later, inr (h, k))
first_or names c cs (Some r) h later k = (Some (r, c.directory), inl (r, (refl, h)))

-- Each list of candidates has a result, whatever the names are.
pub some_first : (names : List (List ℕ)) (cs : List Candidate) → (found : Option (ℕ × ℕ)) × IsFirstRow names cs found
some_first names [] = (None, refl)
some_first names (c ∷ cs) = first_or names c cs (some_row_of names c.name).0 (some_row_of names c.name).1 (some_first names cs).0 (some_first names cs).1
