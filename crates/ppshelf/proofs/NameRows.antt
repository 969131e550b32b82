-- Names and their rows.
use Rattle.std.proofs.Common.{below_more, ◌≡◌, ◌≢◌, ℕ, ◌+◌, suc, zero, ◌<◌, ◌≤◌, Bool, true, false, ◌||◌, ◌&&◌, not, if◌then◌else◌}
use Rattle.std.proofs.Common.{List, [], ◌∷◌, ◌++◌, length, length-append, get_or, take, Option, Some, None, refl, sym, ap, ◌∙◌, subst, arith, ◌⊎◌, inl, inr}
use Rattle.std.specs.Option.{is_some}
use Rattle.std.proofs.lemmas.Grind.{common_steps}
use Rattle.std.specs.List.{list_any, position}
use Rattle.std.specs.Str.{bytes_eq}
use Rattle.std.proofs.lemmas.Bool.{cases_lt, false≢true, or_parts}
use Rattle.std.proofs.lemmas.List.{get_or-take, get_or_append_left, take_more}
use Rattle.std.proofs.Math.Seq.{get_or-append_seam}
use Rattle.std.proofs.lemmas.List.Quantifiers.{position-Some}
use Rattle.std.proofs.lemmas.Slice.Eq.{bytes_eq-Decides}
use Rattle.ppshelf.specs.Names.{is_file_name, are_names, name_in, AreNames, IsNewName, IsBadName, IsAppended, IsRowOf}

either : (a b : Bool) → (a || b) ≡ true → (a ≡ false) → b ≡ true
either false b e f = e
either true b e f = absurd (false≢true (sym f))

some_found : (row : ℕ) → ◌≡◌ {A = Option ℕ} None (Some row) → ⊥
some_found row e = cc

module _ (name : List ℕ) where
  -- A name that equals none of the names has no row.
  pub no_row : (names : List (List ℕ)) → list_any (bytes_eq name) names ≡ false → IsRowOf names name None
  no_row [] e row within same = absurd (omega arith)
  no_row (n ∷ ns) e zero within same = false≢true (sym (or_parts _ _ e).0 ∙ (bytes_eq-Decides name n).1 (sym same))
  no_row (n ∷ ns) e (suc row) within same = no_row ns (or_parts (bytes_eq name n) (list_any (bytes_eq name) ns) e).1 row (omega arith) same

  a_row_by : (n : List ℕ) (ns : List (List ℕ)) (b : Bool)
      → bytes_eq name n ≡ b
      → (b ≡ false → (row : ℕ) × IsRowOf ns name (Some row))
      → (row : ℕ) × IsRowOf (n ∷ ns) name (Some row)
  a_row_by n ns true h later = (0, (omega arith, sym ((bytes_eq-Decides name n).0 h)))
  a_row_by n ns false h later = let r = later refl in (suc r.0, (let w = r.1.0 in omega arith, r.1.1))

  -- A name that equals one of the names has a row.
  pub a_row : (names : List (List ℕ)) → list_any (bytes_eq name) names ≡ true → (row : ℕ) × IsRowOf names name (Some row)
  a_row [] e = absurd (false≢true e)
  a_row (n ∷ ns) e = a_row_by n ns (bytes_eq name n) refl (λ f. a_row ns (either (bytes_eq name n) (list_any (bytes_eq name) ns) e f))

  row_at : (names : List (List ℕ)) (row : ℕ) → position (bytes_eq name) names ≡ Some row → IsRowOf names name (Some row)
  row_at [] row e = absurd (some_found row e)
  row_at (n ∷ ns) row e =
      let h = position-Some (bytes_eq name) (n ∷ ns) row [] e in
      (h.0, sym ((bytes_eq-Decides name (get_or (n ∷ ns) row [])).0 h.1))

  -- The result of a search for a name is its row.
  pub row_found : (names : List (List ℕ)) (r : Option ℕ) → r ≡ position (bytes_eq name) names → is_some r ≡ list_any (bytes_eq name) names → IsRowOf names name r
  row_found names None e found = no_row names (sym found)
  row_found names (Some row) e found = row_at names row (sym e)

  -- A set to which a name in normal form is added has it at the end, unless it was there.
  pub pushed : (names after : List (List ℕ)) (new b : Bool)
      → is_file_name name ≡ true
      → list_any (bytes_eq name) names ≡ b
      → new ≡ not b
      → after ≡ (if b then names else names ++ name ∷ [])
      → IsAppended names name new after
  pushed names after true false form any answer now = (now, form, no_row names any)
  pushed names after false true form any answer now = (now, inr (a_row names any))
  pushed names after true true form any answer now = absurd (false≢true (sym answer))
  pushed names after false false form any answer now = absurd (false≢true answer)

-- ---- new names, in order

take_front : (names more : List (List ℕ)) → take (length names) (names ++ more) ≡ names
take_front [] more = refl
take_front (n ∷ names) more = ap (λ (x : List (List ℕ)). n ∷ x) (take_front names more)

-- A name in normal form that differs from all names before it is a new name.
pub new_name : (names : List (List ℕ)) (row : ℕ) (name : List ℕ) → row < length names → name_in names row ≡ name → is_file_name name ≡ true → IsRowOf (take row names) name None → IsNewName names row
new_name names row name within at form none = record {
  form = ap is_file_name at ∙ form;
  once = λ before below same. none before (let l = length_take row names within in omega arith) (get_or-take row names before [] below ∙ (same ∙ at));
}
  where
    length_take : (row : ℕ) (names : List (List ℕ)) → row < length names → length (take row names) ≡ row
    length_take row names w = grind (arith, common_steps)

-- Names stay distinct and in normal form if a new one is added.
pub still_names : (names after : List (List ℕ)) (name : List ℕ) (new : Bool) → AreNames names → IsAppended names name new after → AreNames after
still_names names after name false are put = let P : List (List ℕ) → Type 0 = AreNames in subst P (sym put.0) are
still_names names after name true are put =
    let P : List (List ℕ) → Type 0 = AreNames in
    subst P (sym put.0) (λ row within. by row within (cases_lt row (length names)))
  where
    front : (before : ℕ) → before < length names → name_in (names ++ name ∷ []) before ≡ name_in names before
    front before below = get_or_append_left names (name ∷ []) [] before below

    by : (row : ℕ) → row < length (names ++ name ∷ []) → (row < length names) ⊎ (length names ≤ row) → IsNewName (names ++ name ∷ []) row
    by row within (inl w) = record {
      form = ap is_file_name (front row w) ∙ (are row w).form;
      once = λ before below same. (are row w).once before below (sym (front before (omega arith)) ∙ (same ∙ front row w));
    }
    by row within (inr w) =
        let is : row ≡ length names = let l = length-append names (name ∷ []) in omega arith in
        let Q : List (List ℕ) → Type 0 = λ ns. IsRowOf ns name None in
        let R : ℕ → Type 0 = λ k. IsNewName (names ++ name ∷ []) k in
        subst R (sym is)
        (new_name (names ++ name ∷ []) (length names) name (omega arith) (get_or-append_seam names name [] []) put.1
        (subst Q (sym (take_front names (name ∷ []))) put.2))

pub not_new : (names : List (List ℕ)) (row k : ℕ) (name : List ℕ) → row < length names → name_in names row ≡ name → IsRowOf (take row names) name (Some k) → IsNewName names row → ⊥
not_new names row k name within at found new =
    let l : length (take row names) ≤ row = grind (arith, common_steps) in
    let below : k < row = let w = found.0 in omega arith in
    new.once k below (sym (get_or-take row names k [] below) ∙ (found.1 ∙ sym at))

pub bad_form : (names : List (List ℕ)) (row : ℕ) (name : List ℕ) → name_in names row ≡ name → is_file_name name ≡ false → IsNewName names row → ⊥
bad_form names row name at form new = false≢true (sym form ∙ (sym (ap is_file_name at) ∙ new.form))

-- The index has the first `row` names, and all of them are new names.
pub record Indexed (names : List (List ℕ)) (row : ℕ) (index : List (List ℕ)) : Type 0 where
  pub index_is : index ≡ take row names
  pub good : (before : ℕ) → before < row → IsNewName names before

pub next_name : (names : List (List ℕ)) (row : ℕ) (name : List ℕ) (index after : List (List ℕ))
    → Indexed names row index
    → row < length names
    → name_in names row ≡ name
    → (new : Bool)
    → new ≡ true
    → IsAppended index name new after
    → Indexed names (row + 1) after
next_name names row name index after i within at false is added = absurd (false≢true is)
next_name names row name index after i within at true is added = record {
  index_is =
      let front : index ++ name ∷ [] ≡ take row names ++ name ∷ [] = ap (λ (x : List (List ℕ)). x ++ name ∷ []) i.index_is in
      let last : take row names ++ name ∷ [] ≡ take row names ++ name_in names row ∷ [] = ap (λ (x : List ℕ). take row names ++ x ∷ []) (sym at) in
      added.0 ∙ (front ∙ (last ∙ sym (take_more names row [] within)));
  good =
      let P : List (List ℕ) → Type 0 = λ x. IsRowOf x name None in
      below_more (IsNewName names) row i.good (new_name names row name within at added.1 (subst P i.index_is added.2));
}

-- If a name is not appended to the index, it is no new name.
pub put_fails : (names : List (List ℕ)) (row : ℕ) (name : List ℕ) (index after : List (List ℕ))
    → Indexed names row index
    → row < length names
    → name_in names row ≡ name
    → (new : Bool)
    → new ≡ false
    → IsAppended index name new after
    → IsNewName names row
    → ⊥
put_fails names row name index after i within at true is put = absurd (false≢true (sym is))
put_fails names row name index after i within at false is put =
    elim put.1 [
      | inl form ↦ bad_form names row name at form
      | inr has ↦
          let P : List (List ℕ) → Type 0 = λ x. IsRowOf x name (Some has.0) in
          not_new names row has.0 name within at (subst P i.index_is has.1)
    ]

-- The row of a name that is not appended is the first bad one.
pub bad_name : (names : List (List ℕ)) (n row : ℕ) (name : List ℕ) (index after : List (List ℕ))
    → Indexed names n index
    → n < length names
    → name_in names n ≡ name
    → row ≡ length index
    → (new : Bool)
    → new ≡ false
    → IsAppended index name new after
    → IsBadName names row
bad_name names n row name index after i within at counted new is put =
    let count : length (take n names) ≡ n = grind (arith, common_steps) in
    let same : n ≡ row = sym (counted ∙ (ap length i.index_is ∙ count)) in
    let P : ℕ → Type 0 = IsBadName names in
    subst P same (record { within = within; bad = put_fails names n name index after i within at new is put; first = i.good })

-- ---- the test `are_names`

passes : (a b c : Bool) → (a && b && c) ≡ true → (a ≡ true) × (b ≡ true) × (c ≡ true)
passes true true true e = (refl, refl, refl)
passes true true false e = absurd (false≢true e)
passes true false c e = absurd (false≢true e)
passes false b c e = absurd (false≢true e)

not-false : (b : Bool) → not b ≡ true → b ≡ false
not-false false e = refl
not-false true e = absurd (false≢true e)

pub names_from_test : (names : List (List ℕ)) → are_names names ≡ true → AreNames names
names_from_test [] e row within = absurd (omega arith)
names_from_test (name ∷ more) e zero within =
    record { form = (passes _ _ _ e).0; once = λ before below same. absurd (omega arith) }
names_from_test (name ∷ more) e (suc row) within =
    let p = passes (is_file_name name) (not (list_any (bytes_eq name) more)) (are_names more) e in
    let inside : row < length more = omega arith in
    let later : IsNewName more row = names_from_test more p.2 row inside in
    let apart : IsRowOf more name None = no_row name more (not-false (list_any (bytes_eq name) more) p.1) in
    record { form = later.form; once = once_by row inside later apart }
  where
    once_by : (row : ℕ) → row < length more → IsNewName more row → IsRowOf more name None
        → (before : ℕ) → before < suc row → name_in (name ∷ more) before ≢ name_in (name ∷ more) (suc row)
    once_by row inside later apart zero below same = apart row inside (sym same)
    once_by row inside later apart (suc before) below same = later.once before (omega arith) same

names_behind : (name : List ℕ) (more : List (List ℕ)) → AreNames (name ∷ more) → AreNames more
names_behind name more are row within = record {
  form = (are (suc row) (omega arith)).form;
  once = λ before below same. (are (suc row) (omega arith)).once (suc before) (omega arith) same;
}

apart_by : (name : List ℕ) (more : List (List ℕ)) (b : Bool) → list_any (bytes_eq name) more ≡ b → AreNames (name ∷ more) → not b ≡ true
apart_by name more false e are = refl
apart_by name more true e are =
    let f = a_row name more e in
    let within = f.1.0 in
    absurd ((are (suc f.0) (omega arith)).once 0 (omega arith) (sym f.1.1))

pub test_of_names : (names : List (List ℕ)) → AreNames names → are_names names ≡ true
test_of_names [] are = refl
test_of_names (name ∷ more) are =
    let form : is_file_name name ≡ true = (are 0 (omega arith)).form in
    let apart : not (list_any (bytes_eq name) more) ≡ true = apart_by name more (list_any (bytes_eq name) more) refl are in
    rw (form, apart, test_of_names more (names_behind name more are)) refl

-- If one of the names is no new name, `are_names` is false.
pub test_fails : (names : List (List ℕ)) (row : ℕ) → row < length names → (IsNewName names row → ⊥) → are_names names ≡ false
test_fails names row within bad = fails_by (are_names names) refl
  where
    fails_by : (b : Bool) → are_names names ≡ b → b ≡ false
    fails_by false e = refl
    fails_by true e = absurd (bad (names_from_test names e row within))
