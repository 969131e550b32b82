-- The name filter of a macro table rejects only names without a macro.
use Rattle.std.proofs.Common.{◌≡◌, ℕ, ◌<◌, Bool, true, false, cond, List, [], Some, None, refl, sym, ap, ◌∙◌}
use native.Mathlib.Omega.{arith}
use Rattle.std.specs.FinMap as table
use Rattle.std.specs.Ordering.{nat_cmp, eq_by_cmp}
use Rattle.std.specs.Cmp.Lexicographic.{slice_cmp}
use Rattle.std.proofs.lemmas.Map.Text.{is_eq-slice_cmp}
use Rattle.std.proofs.lemmas.Slice.Eq.{bytes_eq-Decides}
use Rattle.std.proofs.lemmas.Cmp.{nat_list_cmp_total}
use Rattle.ppmacro.specs.declared.macros.Macro.{Macro}
use Rattle.ppmacro.specs.Names.{Name, Macros}
use Rattle.ppmacro.specs.code.NameFilter.{slot_of, RejectsOnlyUnknown}

-- A filter with more nonzero slots still rejects only unknown names.
pub marked-grown : (old new : List ℕ) (m : Macros) → ((n : Name) → slot_of new n ≡ 0 → slot_of old n ≡ 0) → RejectsOnlyUnknown old m → RejectsOnlyUnknown new m
marked-grown old new m grows h n e = h n (grows n e)

-- A filter still rejects only unknown names after a name with a nonzero slot is inserted in the table.
pub marked-insert : (filter : List ℕ) (m : Macros) (name : Name) (d : Macro) → 0 < slot_of filter name → RejectsOnlyUnknown filter m → RejectsOnlyUnknown filter (table.insert m name d)
marked-insert filter m name d here h n e = table.get-insert nat_list_cmp_total m name d n ∙ go (eq_by_cmp (slice_cmp nat_cmp) n name) refl
  where
    go : (b : Bool) → eq_by_cmp (slice_cmp nat_cmp) n name ≡ b → cond b (Some d) (table.get m n) ≡ None
    go true is =
        let same : n ≡ name = (bytes_eq-Decides n name).0 (sym (is_eq-slice_cmp n name) ∙ is) in
        absurd (let zero : slot_of filter name ≡ 0 = ap (slot_of filter) (sym same) ∙ e in omega arith)
    go false is = h n e

-- A filter still rejects only unknown names after a name is removed from the table.
pub marked-remove : (filter : List ℕ) (m : Macros) (name : Name) → RejectsOnlyUnknown filter m → RejectsOnlyUnknown filter (table.remove m name)
marked-remove filter m name h n e = table.get-remove nat_list_cmp_total m name n ∙ go (eq_by_cmp (slice_cmp nat_cmp) n name)
  where
    go : (b : Bool) → cond b None (table.get m n) ≡ None
    go true = refl
    go false = h n e

-- For an empty table, every filter rejects only unknown names.
pub marked-none : (filter : List ℕ) → RejectsOnlyUnknown filter (table.from_entries [])
marked-none filter n e = table.get-from_entries nat_list_cmp_total [] n
