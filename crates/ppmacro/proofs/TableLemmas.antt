-- The entries of a table as a finite map.
use Rattle.std.proofs.Common.{◌≡◌, ℕ, false, cond, List, [], ◌∷◌, map, slice_get, Option, Some, None, is_some, option_map, refl, sym, ap, ◌∙◌, true≢false}
use Rattle.std.proofs.lemmas.Option.{slice_get-map}
use Rattle.std.specs.Map.{lookup}
use Rattle.std.specs.FinMap as table
use Rattle.std.specs.Ordering.{nat_cmp, eq_by_cmp}
use Rattle.std.specs.Cmp.Lexicographic.{slice_cmp, nat_list_eq_equiv}
use Rattle.std.specs.Str.{bytes_eq}
use Rattle.std.proofs.lemmas.Map.Text.{is_eq-slice_cmp}
use Rattle.std.proofs.lemmas.Cmp.{nat_list_cmp_total}
use Rattle.ppmacro.specs.declared.macros.Macro.{Macro}
use Rattle.ppmacro.specs.Names.{Name, Macros}

abbrev pub Entries : Type 0
Entries = List (Name × Macro)

lookup-find : (name : Name) (es : Entries) → lookup (bytes_eq name) es ≡ table.find (slice_cmp nat_cmp) name es
lookup-find name [] = refl
lookup-find name (e ∷ es) = λ i. cond (sym (is_eq-slice_cmp name e.0) i) (Some e.1) (lookup-find name es i)

pub lookup-get : (name : Name) (es : Entries) → lookup (bytes_eq name) es ≡ table.get (table.from_entries {R = slice_cmp nat_cmp} es) name
lookup-get name es = lookup-find name es ∙ sym (table.get-from_entries nat_list_cmp_total es name)

swap : (a b : Name) → bytes_eq a b ≡ eq_by_cmp (slice_cmp nat_cmp) b a
swap a b = symm a b ∙ sym (is_eq-slice_cmp b a)
  where
    symm : (x y : Name) → bytes_eq x y ≡ bytes_eq y x
    symm = nat_list_eq_equiv.symm

-- An update that changes the value of one name has the same effect on the finite map.
pub updates-get : (old new : Entries) (name : Name) (value : Option Macro) (m : Macros)
    → ((q : Name) → lookup (bytes_eq q) new ≡ cond (bytes_eq name q) value (lookup (bytes_eq q) old))
    → ((q : Name) → table.get m q ≡ cond (eq_by_cmp (slice_cmp nat_cmp) q name) value (table.get (table.from_entries {R = slice_cmp nat_cmp} old) q))
    → table.from_entries new ≡ m
updates-get old new name value m updates gets = table.same_map nat_list_cmp_total (table.slice_cmp-IsAntisymmetric table.nat_cmp-IsAntisymmetric) _ _ (λ q.
    sym (lookup-get q new)
    ∙ updates q
    ∙ (λ i. cond (swap name q i) value (lookup-get q old i))
    ∙ sym (gets q))

pub none-of : (o : Option Macro) → false ≡ is_some o → None ≡ o
none-of None e = refl
none-of (Some d) e = absurd (true≢false (sym e))

-- The value at an index is the second component of the entry there.
pub second-at : (es : Entries) (place : ℕ) (name : Name) (d : Macro) (o : Option Macro) → Some (name, d) ≡ slice_get es place → slice_get (map (λ e. e.1) es) place ≡ o → Some d ≡ o
second-at es place name d o entry value = ap (option_map (λ e. e.1)) entry ∙ sym (slice_get-map (λ e. e.1) es place) ∙ value
