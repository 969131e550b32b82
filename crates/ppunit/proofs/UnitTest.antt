-- The length of the file that holds a unit's definitions. A unit that passes the test has a file of the file table and
-- definitions with the table's profile.
use Rattle.std.proofs.Common.{◌≡◌, ℕ, ◌<◌, ◌≤◌, List, [], ◌∷◌, All, ◌&&◌, length, ◌∙◌, arith, nat_le, true, false, refl, nat_lt}
use Rattle.std.proofs.lemmas.Bool.Decides.{nat_tests}
use Rattle.ppunit.specs.Unit.{command_text, IsUnitOf}
use Rattle.std.proofs.lemmas.Bool.{and_parts}
use Rattle.std.specs.List.{list_all}
use Rattle.std.proofs.lemmas.List.Elements.{All-nil, All-cons}
use Rattle.ppunit.specs.declared.units.FirstFile.{FirstFile}
use Rattle.pptext.specs.declared.sources.Profile.{Profile}
use Rattle.pptext.specs.declared.sources.Profile.TheVariants.{C11, Later, Gnu}
use Rattle.ppunit.specs.declared.units.Unit.{Unit as UnitOfList}
use Rattle.ppunit.specs.WellFormed.{equal_profiles, is_unit}

-- ---- the length of the file that holds a unit's definitions

abbrev pub size : List (List ℕ) → ℕ
size defines = length (command_text defines)

pub too_long : (most n : ℕ) → most < n → nat_le n most ≡ false
too_long most n h = grind (arith, nat_tests)

pub short : (most n : ℕ) → n ≤ most → nat_le n most ≡ true
short most n h = grind (arith, nat_tests)

-- ---- a unit that passes the test has a file of the file table and definitions with the table's profile

same_profile : (one other : Profile) → equal_profiles one other ≡ true → one ≡ other
same_profile C11 C11 e = refl
same_profile Later Later e = refl
same_profile Gnu Gnu e = refl
same_profile one other e = absurd (cc)

less : (a b : ℕ) → nat_lt a b ≡ true → a < b
less a b e = grind (arith, nat_tests)

all_less : (rows : ℕ) (files : List FirstFile) → list_all (λ (f : FirstFile). nat_lt f.file rows) files ≡ true → All (λ (f : FirstFile). f.file < rows) files
all_less rows [] e = All-nil (λ (f : FirstFile). f.file < rows)
all_less rows (file ∷ files) e =
    let p = and_parts (nat_lt file.file rows) _ e in
    All-cons (λ (f : FirstFile). f.file < rows) file files (less file.file rows p.0) (all_less rows files p.1)

pub unit_of : (rows : ℕ) (one other : Profile) (unit : UnitOfList) → one ≡ other → is_unit rows one unit ≡ true → IsUnitOf rows other unit
unit_of rows one other unit same e =
    let p = and_parts (nat_lt unit.file rows && list_all (λ (f : FirstFile). nat_lt f.file rows) unit.first) _ e in
    let r = and_parts (nat_lt unit.file rows) _ p.0 in
    let q = and_parts (equal_profiles unit.defines.profile one) _ p.1 in
    ((less unit.file rows r.0, all_less rows unit.first r.1), same_profile unit.defines.profile one q.0 ∙ same)
