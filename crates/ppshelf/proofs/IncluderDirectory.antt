-- The directory of a file with a name in normal form.
use Rattle.std.proofs.Common.{◌≡◌, ℕ, ◌+◌, ◌-◌, ◌==◌, suc, ◌<◌, Bool, true, false, not, ◌&&◌, ◌||◌, cond, List, [], ◌∷◌, ◌++◌, length, get_or}
use Rattle.std.proofs.Common.{take, drop, drop-cons, Option, Some, None, refl, sym, ap, ◌∙◌, arith}
use Rattle.std.specs.List.{onto_first, list_all}
use Rattle.std.specs.Str.{bytes_eq}
use Rattle.std.specs.Prelude.{codes, nat_le}
use Rattle.std.proofs.Math.Dec.{eqb-suc-zero}
use Rattle.std.proofs.Math.Seq.{take-append_seam}
use Rattle.std.proofs.lemmas.Bool.{false≢true, and_parts, eqb-true}
use Rattle.std.proofs.lemmas.Grind.{common_steps}
use Rattle.std.proofs.lemmas.List.{get_or-drop, length-append, take-append-drop}
use Rattle.std.proofs.lemmas.List.Folds.{list_all-append}
use Rattle.std.proofs.lemmas.List.Splits.{slice_split-cons_yes, slice_split-cons_no}
use Rattle.ppshelf.specs.Names.{segments, is_file_name, is_name_byte, is_segment}
use Rattle.ppshelf.specs.Search.{Path, follow_segment, follow, parent, parent_of}
use Rattle.ppshelf.proofs.Paths.{no_cut}
use Rattle.ppshelf.proofs.DotFreePaths.{lead_by, some_segment}

by_tests : (a b c : Bool) (x y z : Option Path) → (not a && not b && not c) ≡ true → cond (a || b) x (cond c y z) ≡ z
by_tests false false false x y z e = refl
by_tests false false true x y z e = absurd (false≢true e)
by_tests false true c x y z e = absurd (false≢true e)
by_tests true b c x y z e = absurd (false≢true e)

leads_in : (path : Path) (s : List ℕ) → is_segment s ≡ true → follow_segment path s ≡ Some (path ++ s ∷ [])
leads_in path s e = by_tests (length s == 0) (bytes_eq s (codes ".")) (bytes_eq s (codes "..")) (Some path) (parent path) (Some (path ++ s ∷ [])) e

-- The path of a name in normal form is the list of its segments.
lead_in : (text : List ℕ) → list_all is_segment (segments text) ≡ true → follow (Some []) text ≡ Some (segments text)
lead_in text e = lead_by is_segment leads_in [] (segments text) e

third : (a b c : Bool) → (a && b && c) ≡ true → c ≡ true
third true true c e = e
third true false c e = absurd (false≢true e)
third false b c e = absurd (false≢true e)

onto_front : (b : ℕ) (ss ts : List (List ℕ)) → 0 < length ss → onto_first b (ss ++ ts) ≡ onto_first b ss ++ ts
onto_front b [] ts some = absurd (omega arith)
onto_front b (s ∷ ss) ts some = refl

-- A slash splits the segments of a text into those before it and those after it.
segments_cut : (xs ys : List ℕ) → segments (xs ++ 47 ∷ ys) ≡ segments xs ++ segments ys
segments_cut [] ys = slice_split-cons_yes (λ b. b == 47) 47 ys refl
segments_cut (b ∷ xs) ys = by b xs ys (b == 47) refl (segments_cut xs ys)
  where
    by : (b : ℕ) (xs ys : List ℕ) (slash : Bool) → (b == 47) ≡ slash → segments (xs ++ 47 ∷ ys) ≡ segments xs ++ segments ys → segments ((b ∷ xs) ++ 47 ∷ ys) ≡ segments (b ∷ xs) ++ segments ys
    by b xs ys true is more =
        slice_split-cons_yes (λ c. c == 47) b (xs ++ 47 ∷ ys) is
        ∙ (ap (λ (x : List (List ℕ)). [] ∷ x) more ∙ ap (λ (x : List (List ℕ)). x ++ segments ys) (sym (slice_split-cons_yes (λ c. c == 47) b xs is)))
    by b xs ys false is more =
        slice_split-cons_no (λ c. c == 47) b (xs ++ 47 ∷ ys) is
        ∙ (ap (onto_first b) more
        ∙ (onto_front b (segments xs) (segments ys) (some_segment xs) ∙ ap (λ (x : List (List ℕ)). x ++ segments ys) (sym (slice_split-cons_no (λ c. c == 47) b xs is))))

parent_last : (path : Path) (s : List ℕ) → parent (path ++ s ∷ []) ≡ Some path
parent_last path s =
    let more : length (path ++ s ∷ []) ≡ suc (length path) = let l = length-append path (s ∷ []) in omega arith in
    let less : suc (length path) - 1 ≡ length path = omega arith in
    ap (λ (n : ℕ). cond {A = Option Path} (n == 0) None (Some (take (n - 1) (path ++ s ∷ [])))) more
    ∙ (ap (λ (b : Bool). cond {A = Option Path} b None (Some (take (suc (length path) - 1) (path ++ s ∷ [])))) (eqb-suc-zero (length path))
    ∙ (ap (λ (n : ℕ). Some (take n (path ++ s ∷ []))) less ∙ ap (λ (p : Path). Some p) (take-append_seam path (s ∷ []))))

-- The text before the last slash of a name leads to the directory of the name.
pub before_slash : (name : List ℕ) (i : ℕ) → is_file_name name ≡ true → i < length name → (get_or name i 0 == 47) ≡ true
    → ((k : ℕ) → i < k → k < length name → (get_or name k 0 == 47) ≡ false) → follow (Some []) (take i name) ≡ parent_of (follow (Some []) name)
before_slash name i normal within here after =
    let front = take i name in
    let last = drop (suc i) name in
    let slash : get_or name i 0 ≡ 47 = eqb-true (get_or name i 0) 47 here in
    let whole : front ++ 47 ∷ last ≡ name =
    ap (λ (b : ℕ). front ++ b ∷ last) (sym slash) ∙ (ap (λ (x : List ℕ). front ++ x) (sym (drop-cons name i 0 within)) ∙ take-append-drop i name) in
    let rest : length last + suc i ≡ length name = grind (arith, common_steps) in
    let alone : segments last ≡ last ∷ [] = no_cut last (λ k below. ap (λ (b : ℕ). b == 47) (get_or-drop (suc i) name k 0) ∙ after (suc i + k) (omega arith) (omega arith)) in
    let cut : segments name ≡ segments front ++ last ∷ [] =
    ap segments (sym whole) ∙ (segments_cut front last ∙ ap (λ (x : List (List ℕ)). segments front ++ x) alone) in
    let all : list_all is_segment (segments name) ≡ true = third (nat_le (length name) 1024) (list_all is_name_byte name) (list_all is_segment (segments name)) normal in
    let parts = and_parts (list_all is_segment (segments front)) (list_all is_segment (last ∷ [])) (sym (list_all-append is_segment (segments front) (last ∷ [])) ∙ (ap (list_all is_segment) (sym cut) ∙ all)) in
    lead_in front parts.0 ∙ sym (ap parent_of (lead_in name all) ∙ (ap parent cut ∙ parent_last (segments front) last))

-- A name without a slash is in the root directory.
pub no_slash : (name : List ℕ) → is_file_name name ≡ true → ((k : ℕ) → k < length name → (get_or name k 0 == 47) ≡ false) → follow (Some []) [] ≡ parent_of (follow (Some []) name)
no_slash name normal none =
    let alone : segments name ≡ name ∷ [] = no_cut name none in
    let all : list_all is_segment (segments name) ≡ true = third (nat_le (length name) 1024) (list_all is_name_byte name) (list_all is_segment (segments name)) normal in
    sym (ap parent_of (lead_in name all) ∙ (ap parent alone ∙ parent_last [] name))
