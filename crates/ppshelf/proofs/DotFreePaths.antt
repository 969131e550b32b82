-- Texts in which no segment is empty or begins with `.`, so that each segment extends the path.
use Rattle.std.proofs.Common.{◌≡◌, ℕ, ◌==◌, ◌<◌, Bool, true, false, not, ◌&&◌, List, [], ◌∷◌, ◌++◌, length, Option, Some, refl, sym, ap, subst, ◌∙◌, arith, append_assoc}
use Rattle.std.specs.List.{join_with_byte, list_all}
use Rattle.std.proofs.lemmas.Bool.{false≢true}
use Rattle.std.proofs.lemmas.List.{append-nil}
use Rattle.std.proofs.lemmas.List.Splits.{join_with_byte-slice_split, length-slice_split}
use Rattle.std.proofs.Math.Dec.{eqb-suc-zero}
use Rattle.ppshelf.specs.Names.{segments, IsRowOf}
use Rattle.ppshelf.specs.Search.{Path, follow_segment, walk, follow, path_name}
use Rattle.ppshelf.specs.code.Paths.{starts_without_dot, IsRowAt}

both : (a b : Bool) → (a && b) ≡ true → (a ≡ true) × (b ≡ true)
both true true e = (refl, refl)
both true false e = absurd (false≢true e)
both false b e = absurd (false≢true e)

-- A nonempty segment that doesn't begin with `.` extends the path.
leads_on : (path : Path) (s : List ℕ) → starts_without_dot s ≡ true → follow_segment path s ≡ Some (path ++ s ∷ [])
leads_on path [] plain = absurd (false≢true plain)
leads_on path (b ∷ s) plain = on path b s (b == 46) refl (both (not (length (b ∷ s) == 0)) (not (b == 46)) plain).1
  where
    on : (path : Path) (b : ℕ) (s : List ℕ) (dot : Bool) → (b == 46) ≡ dot → not (b == 46) ≡ true → follow_segment path (b ∷ s) ≡ Some (path ++ (b ∷ s) ∷ [])
    on path b s true is plain = absurd (false≢true (sym (ap not is) ∙ plain))
    on path b s false is plain = rw (is, eqb-suc-zero (length s)) refl

-- If each segment that passes a test extends a path, segments that pass it do so in order.
pub lead_by : (test : List ℕ → Bool) → ((path : Path) (s : List ℕ) → test s ≡ true → follow_segment path s ≡ Some (path ++ s ∷ []))
    → (path : Path) (more : List (List ℕ)) → list_all test more ≡ true → walk (Some path) more ≡ Some (path ++ more)
lead_by test on path [] all = ap (λ (p : Path). Some p) (sym (append-nil path))
lead_by test on path (s ∷ more) all =
    let h = both (test s) (list_all test more) all in
    ap (λ (p : Option Path). walk p more) (on path s h.0)
    ∙ (lead_by test on (path ++ s ∷ []) more h.1 ∙ ap (λ (p : Path). Some p) (append_assoc path (s ∷ []) more))

lead_on : (path : Path) (more : List (List ℕ)) → list_all starts_without_dot more ≡ true → walk (Some path) more ≡ Some (path ++ more)
lead_on = lead_by starts_without_dot leads_on

-- The spelling of two paths, one after the other, has a `/` between them.
join_two : (first more : Path) → 0 < length first → 0 < length more → join_with_byte 47 (first ++ more) ≡ join_with_byte 47 first ++ 47 ∷ join_with_byte 47 more
join_two [] more some next = absurd (omega arith)
join_two (s ∷ []) [] some next = absurd (omega arith)
join_two (s ∷ []) (t ∷ more) some next = refl
join_two (s ∷ t ∷ first) more some next =
    ap (λ (x : List ℕ). s ++ 47 ∷ x) (join_two (t ∷ first) more (omega arith) next)
    ∙ sym (append_assoc s (47 ∷ join_with_byte 47 (t ∷ first)) (47 ∷ join_with_byte 47 more))

pub some_segment : (text : List ℕ) → 0 < length (segments text)
some_segment text = let l = length-slice_split (λ b. b == 47) text in omega arith

-- The path of a name in a directory, if no segment of either is empty or begins with `.`.
led_joined : (directory name : List ℕ) → list_all starts_without_dot (segments directory) ≡ true → list_all starts_without_dot (segments name) ≡ true
    → follow (follow (Some []) directory) name ≡ Some (segments directory ++ segments name)
led_joined directory name plain plain_too =
    let there : follow (Some []) directory ≡ Some (segments directory) = lead_on [] (segments directory) plain in
    ap (λ (p : Option Path). walk p (segments name)) there ∙ lead_on (segments directory) (segments name) plain_too

-- The spelling of that path is the directory, `/` and the name.
spelled_joined : (directory name : List ℕ) → path_name (segments directory ++ segments name) ≡ directory ++ 47 ∷ name
spelled_joined directory name =
    join_two (segments directory) (segments name) (some_segment directory) (some_segment name)
    ∙ (ap (λ (x : List ℕ). x ++ 47 ∷ join_with_byte 47 (segments name)) (join_with_byte-slice_split 47 directory) ∙ ap (λ (x : List ℕ). directory ++ 47 ∷ x) (join_with_byte-slice_split 47 name))

pub row_joined : (names : List (List ℕ)) (directory name joined : List ℕ) (row : Option ℕ)
    → list_all starts_without_dot (segments directory) ≡ true
    → list_all starts_without_dot (segments name) ≡ true
    → joined ≡ directory ++ 47 ∷ name
    → IsRowOf names joined row
    → IsRowAt names (follow (follow (Some []) directory) name) row
row_joined names directory name joined row plain plain_too is h =
    let P : Option Path → Type 0 = λ path. IsRowAt names path row in
    let Q : List ℕ → Type 0 = λ text. IsRowOf names text row in
    subst P (sym (led_joined directory name plain plain_too)) (subst Q (is ∙ sym (spelled_joined directory name)) h)
