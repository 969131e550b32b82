-- The last macro of a name in a list, from the end on.
use Rattle.std.proofs.Common.{◌≡◌, ◌∙◌, ℕ, zero, suc, ◌<◌, ◌≤◌, Bool, true, false, List, [], ◌∷◌, Some, None, sym, ap, subst, drop, length, get_or, arith, if◌then◌else◌}
use Rattle.std.specs.List.{remove}
use Rattle.std.proofs.lemmas.List.{get_or_default}
use Rattle.std.specs.Str.{bytes_eq}
use Rattle.ppmacro.specs.Names.{Name}
use Rattle.ppmacro.specs.declared.pushed_macros.PushedMacro.{PushedMacro}
use Rattle.ppmacro.specs.PushedMacros.{last_from, last_of}

-- a list whose first has the name, and none after it
pub last-first : (name : Name) (p : PushedMacro) (ps : List PushedMacro) → last_of name ps ≡ None → bytes_eq p.name name ≡ true → last_of name (p ∷ ps) ≡ Some (p, ps)
last-first name p ps none is = ap (last_from name p ps) none ∙ ap (λ (b : Bool). if b then Some (p, ps) else None) is

-- a list whose first doesn't have the name, and none after it
pub last-none : (name : Name) (p : PushedMacro) (ps : List PushedMacro) → last_of name ps ≡ None → bytes_eq p.name name ≡ false → last_of name (p ∷ ps) ≡ None
last-none name p ps none is = ap (last_from name p ps) none ∙ ap (λ (b : Bool). if b then Some (p, ps) else None) is

-- one that has the name, if none after it does, is the last
pub last-at : (name : Name) (ps : List PushedMacro) (i : ℕ) (d : PushedMacro)
    → i < length ps
    → last_of name (drop (suc i) ps) ≡ None
    → bytes_eq (get_or ps i d).name name ≡ true
    → last_of name ps ≡ Some (get_or ps i d, remove ps i)
last-at name [] i d less none is = absurd (omega arith)
last-at name (p ∷ ps) zero d less none is = last-first name p ps none is
last-at name (p ∷ ps) (suc i) d less none is = ap (last_from name p ps) (last-at name ps i d (omega arith) none is)

-- none has the name from an index on, if that one doesn't, and none after it does
pub none-from : (name : Name) (ps : List PushedMacro) (i : ℕ) (d : PushedMacro)
    → i < length ps
    → last_of name (drop (suc i) ps) ≡ None
    → bytes_eq (get_or ps i d).name name ≡ false
    → last_of name (drop i ps) ≡ None
none-from name [] i d less none is = absurd (omega arith)
none-from name (p ∷ ps) zero d less none is = last-none name p ps none is
none-from name (p ∷ ps) (suc i) d less none is = none-from name ps i d (omega arith) none is

-- ---- the same of the items of a vector

pub last-found : (name : Name) (ps items : List PushedMacro) (n i : ℕ) (x : PushedMacro)
    → items ≡ ps
    → n ≡ suc i
    → n ≤ length ps
    → last_of name (drop n ps) ≡ None
    → x ≡ get_or items i x
    → bytes_eq x.name name ≡ true
    → (i < length ps) × ((d : PushedMacro) → last_of name ps ≡ Some (get_or ps i d, remove ps i))
last-found name ps items n i x same next within none at is =
    let less : i < length ps = omega arith in
    let after = subst (λ k. last_of name (drop k ps) ≡ None) next none in
    let here = subst (λ (xs : List PushedMacro). x ≡ get_or xs i x) same at in
    (less, λ d. last-at name ps i d less after (ap (λ (p : PushedMacro). bytes_eq p.name name) (get_or_default ps i d x less ∙ sym here) ∙ is))

pub none-found : (name : Name) (ps items : List PushedMacro) (n i : ℕ) (x : PushedMacro)
    → items ≡ ps
    → n ≡ suc i
    → n ≤ length ps
    → last_of name (drop n ps) ≡ None
    → x ≡ get_or items i x
    → bytes_eq x.name name ≡ false
    → (i ≤ length ps) × (last_of name (drop i ps) ≡ None)
none-found name ps items n i x same next within none at is =
    let less : i < length ps = omega arith in
    let after = subst (λ k. last_of name (drop k ps) ≡ None) next none in
    let here = subst (λ (xs : List PushedMacro). x ≡ get_or xs i x) same at in
    (omega arith, none-from name ps i x less after (ap (λ (p : PushedMacro). bytes_eq p.name name) (sym here) ∙ is))
