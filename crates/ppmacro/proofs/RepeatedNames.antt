-- Names that occur twice.
use Rattle.std.proofs.Common.{◌≡◌, ℕ, ◌+◌, ◌<◌, Bool, true, false, ◌||◌, List, [], ◌∷◌, ◌++◌, length, get_or, take, drop, not, refl, sym, ap, ◌∙◌, subst}
use Rattle.std.specs.List.{list_any}
use Rattle.std.specs.Str.{bytes_eq}
use Rattle.std.proofs.lemmas.Bool.{false≢true}
use Rattle.std.proofs.lemmas.List.{take_more, take-append-drop}
use Rattle.std.proofs.lemmas.List.Folds.{list_any-append}
use Rattle.ppmacro.specs.Define.{repeats}
use Rattle.ppmacro.specs.Names.{Name}

mixed : (a b c d : Bool) → ((a || (b || false)) || (c || d)) ≡ ((a || c) || (b || d))
mixed true b c d = refl
mixed false true true d = refl
mixed false true false d = refl
mixed false false c d = refl

-- A list with one more name repeats a name if the list did or if the name is in it.
repeats-more : (ps : List Name) (q : Name) → repeats (ps ++ q ∷ []) ≡ (repeats ps || list_any (bytes_eq q) ps)
repeats-more [] q = refl
repeats-more (p ∷ ps) q =
    ap (λ b. b || repeats (ps ++ q ∷ [])) (list_any-append (λ m. bytes_eq m p) ps (q ∷ []))
    ∙ ap (λ b. (list_any (λ m. bytes_eq m p) ps || (bytes_eq q p || false)) || b) (repeats-more ps q)
    ∙ mixed (list_any (λ m. bytes_eq m p) ps) (bytes_eq q p) (repeats ps) (list_any (bytes_eq q) ps)

in_front : (a b r s : Bool) → (a || r) ≡ true → (r ≡ true → s ≡ true) → ((a || b) || s) ≡ true
in_front true b r s e h = refl
in_front false true r s e h = refl
in_front false false r s e h = h e

repeats-front : (ps qs : List Name) → repeats ps ≡ true → repeats (ps ++ qs) ≡ true
repeats-front [] qs e = absurd (false≢true e)
repeats-front (p ∷ ps) qs e =
    ap (λ b. b || repeats (ps ++ qs)) (list_any-append (λ m. bytes_eq m p) ps qs)
    ∙ in_front (list_any (λ m. bytes_eq m p) ps) (list_any (λ m. bytes_eq m p) qs) (repeats ps) (repeats (ps ++ qs)) e (repeats-front ps qs)

-- If the first i names are distinct, the first i + 1 repeat a name exactly if name i is among them.
pub repeats-next : (names : List Name) (i : ℕ) (d name : Name) (found : Bool)
    → i < length names
    → get_or names i d ≡ name
    → repeats (take i names) ≡ false
    → list_any (bytes_eq name) (take i names) ≡ found
    → repeats (take (i + 1) names) ≡ found
repeats-next names i d name found within at none any =
    ap repeats (take_more names i d within ∙ ap (λ n. take i names ++ n ∷ []) at)
    ∙ repeats-more (take i names) name
    ∙ ap (λ b. b || list_any (bytes_eq name) (take i names)) none
    ∙ any

-- If an insertion returns false, the name was in the set. If it returns true, the name was absent.
pub was_there : (new found : Bool) → new ≡ not found → new ≡ false → found ≡ true
was_there new true told e = refl
was_there new false told e = absurd (false≢true (sym e ∙ told))

pub was_absent : (new found : Bool) → new ≡ not found → new ≡ true → found ≡ false
was_absent new false told e = refl
was_absent new true told e = absurd (false≢true (sym told ∙ e))

-- If the first i names repeat a name, all the names together do.
pub repeats-all : (names : List Name) (i : ℕ) → repeats (take i names) ≡ true → repeats names ≡ true
repeats-all names i e =
    let P : List Name → Type 0 = λ ns. repeats ns ≡ true in
    subst P (take-append-drop i names) (repeats-front (take i names) (drop i names) e)
