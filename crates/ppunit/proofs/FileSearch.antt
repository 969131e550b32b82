-- A search finds a file exactly if one of the candidates is among the file names. The shown name of a file, and directories by number.
use Rattle.std.proofs.Common.{◌≡◌, ◌≢◌, ℕ, suc, zero, ◌+◌, ◌-◌, ◌<◌, ◌≤◌, ◌==◌, Bool, true, false, ◌||◌, ◌&&◌, if◌then◌else◌, List, [], ◌∷◌, ◌++◌, length, take, drop, get_or, codes, Option, Some, None, refl, sym, ap, ◌∙◌, arith, inl, inr}
use Rattle.std.proofs.lemmas.List.{take_more, drop_more, drop_all, get_or_append_left, get_or-append_right}
use Rattle.std.proofs.lemmas.Bool.{ne_eqb}
use Rattle.std.specs.List.{list_any}
use Rattle.std.specs.Option.{is_some}
use Rattle.std.specs.Str.{bytes_eq}
use Rattle.std.proofs.lemmas.Slice.Eq.{bytes_eq-Decides}
use Rattle.ppshelf.specs.Names.{name_in, IsRowOf}
use Rattle.ppshelf.specs.Search.{Candidate, IsFirstRow}
use Rattle.ppunit.specs.Probing.{is_found}
use Rattle.ppunit.specs.ShownNames.{has_slash, folder_of, with_slash}

same_name : (c n : List ℕ) → n ≡ c → bytes_eq c n ≡ true
same_name c n e = (bytes_eq-Decides c n).1 (sym e)

right_true : (b : Bool) {x : Bool} → x ≡ true → (b || x) ≡ true
right_true true e = refl
right_true false e = e

both_false : (b x : Bool) → b ≡ false → x ≡ false → (b || x) ≡ false
both_false b x e f = ap (λ (z : Bool). z || x) e ∙ f

-- The name at an index is among the names.
a_name : (c : List ℕ) (names : List (List ℕ)) (row : ℕ) → row < length names → name_in names row ≡ c → list_any (bytes_eq c) names ≡ true
a_name c [] row within is = absurd (omega arith)
a_name c (n ∷ ns) zero within is = ap (λ (z : Bool). z || list_any (bytes_eq c) ns) (same_name c n is)
a_name c (n ∷ ns) (suc row) within is = right_true (bytes_eq c n) (a_name c ns row (omega arith) is)

differs : (c n : List ℕ) (b : Bool) → bytes_eq c n ≡ b → n ≢ c → b ≡ false
differs c n true e other = absurd (other (sym ((bytes_eq-Decides c n).0 e)))
differs c n false e other = refl

-- A name that is at no index is not among the names.
no_name : (c : List ℕ) (names : List (List ℕ)) → IsRowOf names c None → list_any (bytes_eq c) names ≡ false
no_name c [] none = refl
no_name c (n ∷ ns) none =
    both_false (bytes_eq c n) (list_any (bytes_eq c) ns) (differs c n (bytes_eq c n) refl (none 0 (omega arith)))
    (no_name c ns (λ row within. none (suc row) (omega arith)))

-- The first candidate is the name of the file that is found.
found_here : (names : List (List ℕ)) (more : List Candidate) (c : Candidate) (found : Option (ℕ × ℕ)) (row : ℕ) → found ≡ Some (row, c.directory) → IsRowOf names c.name (Some row)
    → is_some found ≡ is_found names (c ∷ more)
found_here names more c found row e is = ap is_some e ∙ sym (ap (λ (z : Bool). z || is_found names more) (a_name c.name names row is.0 is.1))

-- The first candidate is no file name.
found_later : (names : List (List ℕ)) (more : List Candidate) (c : Candidate) (found : Option (ℕ × ℕ)) → IsRowOf names c.name None → is_some found ≡ is_found names more
    → is_some found ≡ is_found names (c ∷ more)
found_later names more c found none later = later ∙ sym (ap (λ (z : Bool). z || is_found names more) (no_name c.name names none))

pub found_is : (names : List (List ℕ)) (candidates : List Candidate) (found : Option (ℕ × ℕ)) → IsFirstRow names candidates found → is_some found ≡ is_found names candidates
found_is names [] found is = ap is_some is
found_is names (c ∷ more) found is =
    elim is [ inl here ↦ found_here names more c found here.0 here.1.0 here.1.1 | inr there ↦ found_later names more c found there.0 (found_is names more found there.1) ]

-- ---- shown names

slash_more : (xs : List ℕ) (b : ℕ) → ¬ (b ≡ 47) → has_slash (xs ++ b ∷ []) ≡ has_slash xs
slash_more [] b other = ap (λ (z : Bool). z || false) (ne_eqb b 47 other)
slash_more (x ∷ xs) b other = ap (λ (z : Bool). (x == 47) || z) (slash_more xs b other)

slash_last : (xs : List ℕ) → has_slash (xs ++ 47 ∷ []) ≡ true
slash_last [] = refl
slash_last (x ∷ xs) = right_true (x == 47) (slash_last xs)

folder_more : (xs : List ℕ) (b : ℕ) → ¬ (b ≡ 47) → folder_of (xs ++ b ∷ []) ≡ folder_of xs
folder_more [] b other = ap (λ (z : Bool). if z then b ∷ [] else []) (slash_more [] b other)
folder_more (x ∷ xs) b other =
    ap (λ (z : Bool). if z then x ∷ folder_of (xs ++ b ∷ []) else []) (slash_more (x ∷ xs) b other)
    ∙ ap (λ (z : List ℕ). if has_slash (x ∷ xs) then x ∷ z else []) (folder_more xs b other)

folder_last : (xs : List ℕ) → folder_of (xs ++ 47 ∷ []) ≡ xs ++ 47 ∷ []
folder_last [] = refl
folder_last (x ∷ xs) =
    ap (λ (z : Bool). if z then x ∷ folder_of (xs ++ 47 ∷ []) else []) (slash_last (x ∷ xs)) ∙ ap (λ (z : List ℕ). x ∷ z) (folder_last xs)

one_less : (name : List ℕ) (end : ℕ) → 0 < end → end ≤ length name → take end name ≡ take (end - 1) name ++ get_or name (end - 1) 0 ∷ []
one_less name end more fits =
    let same : end ≡ end - 1 + 1 = omega arith in
    ap (λ (z : ℕ). take z name) same ∙ take_more name (end - 1) 0 (omega arith)

-- a character that is other `/` is not before the header's name
pub folder_before : (name : List ℕ) (end : ℕ) → 0 < end → end ≤ length name → ¬ (get_or name (end - 1) 0 ≡ 47) → folder_of (take (end - 1) name) ≡ folder_of (take end name)
folder_before name end more fits other = sym (ap folder_of (one_less name end more fits) ∙ folder_more (take (end - 1) name) (get_or name (end - 1) 0) other)

pub folder_ends : (name : List ℕ) (end : ℕ) → 0 < end → end ≤ length name → get_or name (end - 1) 0 ≡ 47 → folder_of (take end name) ≡ take end name
folder_ends name end more fits slash =
    let there : take end name ≡ take (end - 1) name ++ 47 ∷ [] = one_less name end more fits ∙ ap (λ (z : ℕ). take (end - 1) name ++ z ∷ []) slash in
    ap folder_of there ∙ folder_last (take (end - 1) name) ∙ sym there

last_of : (b : ℕ) (bs : List ℕ) → drop (length bs) (b ∷ bs) ≡ get_or (b ∷ bs) (length bs) 0 ∷ []
last_of b bs =
    drop_more (b ∷ bs) (length bs) 0 (omega arith)
    ∙ ap (λ (z : List ℕ). get_or (b ∷ bs) (length bs) 0 ∷ z) (drop_all (length bs + 1) (b ∷ bs) (omega arith))

-- a name that ends in `/` stays as it is, and another gets one
pub slash_stays : (text : List ℕ) → get_or text (length text - 1) 0 ≡ 47 → with_slash text ≡ text
slash_stays [] is = refl
slash_stays (b ∷ bs) is =
    let same : length bs ≡ length (b ∷ bs) - 1 = omega arith in
    ap (λ (z : List ℕ). if bytes_eq z (codes "/") then b ∷ bs else (b ∷ bs ++ codes "/"))
    (last_of b bs ∙ ap (λ (z : ℕ). get_or (b ∷ bs) z 0 ∷ []) same ∙ ap (λ (z : ℕ). z ∷ []) is)

pub slash_comes : (text : List ℕ) → 0 < length text → ¬ (get_or text (length text - 1) 0 ≡ 47) → with_slash text ≡ text ++ codes "/"
slash_comes [] more other = absurd (omega arith)
slash_comes (b ∷ bs) more other =
    let same : length bs ≡ length (b ∷ bs) - 1 = omega arith in
    ap (λ (z : List ℕ). if bytes_eq z (codes "/") then b ∷ bs else (b ∷ bs ++ codes "/")) (last_of b bs ∙ ap (λ (z : ℕ). get_or (b ∷ bs) z 0 ∷ []) same)
    ∙ ap (λ (z : Bool). if z && true then b ∷ bs else (b ∷ bs ++ codes "/")) (ne_eqb (get_or (b ∷ bs) (length (b ∷ bs) - 1) 0) 47 other)

-- directories by number, the unit's before the list's
pub own_directory : {A : Type 0} (own shared : List A) (index : ℕ) (other : A) → index < length own → get_or (own ++ shared) index other ≡ get_or own index other
own_directory own shared index other within = get_or_append_left own shared other index within

pub shared_directory : {A : Type 0} (own shared : List A) (index : ℕ) (other : A) → length own ≤ index → get_or (own ++ shared) index other ≡ get_or shared (index - length own) other
shared_directory own shared index other over = get_or-append_right own shared (length own) index other refl over
