-- Validation of a draft, and properties of an accepted list.
use Rattle.std.proofs.Common.{◌≡◌, ℕ, ◌<◌, ◌≤◌, Bool, true, false, not, ◌&&◌, List, [], ◌∷◌, refl, sym, subst, ◌∙◌, arith, length, map, All, get_or, Option, Some, None, nat_le, nat_lt, if◌then◌else◌, unwrap_or}
use Rattle.std.specs.Option.{is_some}
use Rattle.std.specs.List.{list_all}
use Rattle.std.specs.Str.{bytes_eq}
use Rattle.std.proofs.lemmas.Bool.{leb-true, false≢true, and_parts}
use Rattle.std.proofs.lemmas.Bool.Decides.{nat_tests}
use Rattle.std.proofs.lemmas.List.{length-map}
use Rattle.std.proofs.lemmas.List.Elements.{All-map, All-weaker, All-nil}
use Rattle.std.proofs.lemmas.List.Quantifiers.{position-Some}
use Rattle.std.proofs.lemmas.List.Sums.{AllPass-from_list_all}
use Rattle.serde_json.specs.Data.{Data}
use Rattle.pptext.specs.declared.sources.Profile.{Profile}
use Rattle.pptext.specs.declared.sources.Profile.TheVariants.{C11, Later, Gnu}
use Rattle.ppunit.specs.WellFormed.{is_one_line, equal_profiles, is_unit}
use Rattle.ppunit.specs.Unit.{command_text}
use Rattle.ppunit.specs.declared.units.Unit.{Unit as UnitOfList}
use Rattle.ppserve.specs.Drafting.{draft}
use Rattle.ppshelf.specs.Content.{longest}
use Rattle.ppshelf.specs.Files.{max_rows}
use Rattle.ppshelf.specs.Names.{row_among}
use Rattle.ppshelf.proofs.NameRows.{names_from_test}
use Rattle.ppserve.specs.Listing.{accepted, refused, json_value, verdict_of, validated, listed, listed_unit, names_of, contents_of, names_hold, sizes_hold}
use Rattle.ppserve.specs.Listing.{are_known, times_hold, lines_hold, directories_hold, profile_holds, profile_of, budget_holds, shown_hold, is_known, listed_first, max_input, IsRunnable}
use Rattle.ppserve.specs.CompilationList.{CompilationList}
use Rattle.ppserve.specs.Drafts.{Draft, DraftFile, DraftPath, DraftUnit}
use Rattle.ppunit.specs.declared.units.FirstFile.{FirstFile}

pub fits_test : (most n : ℕ) → n ≤ most → nat_lt most n ≡ false
fits_test most n h = grind (arith, nat_tests)

-- If bytes hold a JSON value that has a draft, their outcome is the result of validating the draft.
pub verdict_of-draft : (inline : Bool) (bytes : List ℕ) (d : Data) (x : Draft) → length bytes ≤ max_input → json_value bytes ≡ Some d → draft inline d ≡ Some x
    → verdict_of inline bytes ≡ validated inline x
verdict_of-draft inline bytes d x fits value shape =
    let small : nat_lt max_input (length bytes) ≡ false = fits_test max_input (length bytes) fits in
    rw (small, value, shape) refl

-- `x` is the accepted list `l`, and the first five tests passed
record Passed (x : CompilationList) (names sizes files times lines : Bool) (l : CompilationList) : Type 0 where
  pub is_list : x ≡ l
  pub names_pass : names ≡ true
  pub sizes_pass : sizes ≡ true
  pub files_pass : files ≡ true
  pub times_pass : times ≡ true
  pub lines_pass : lines ≡ true

passed : (x : CompilationList) (names sizes files times lines directories profile budget shown : Bool) (l : CompilationList)
    → (if not names then refused 3
    else (if not sizes then refused 4
    else (if not files then refused 5
    else (if not times then refused 6
    else (if not lines then refused 7
    else (if not directories then refused 8 else (if not profile then refused 9 else (if not budget then refused 10 else (if not shown then refused 11 else accepted x)))))))))
    ≡ accepted l
    → Passed x names sizes files times lines l
passed x false sizes files times lines directories profile budget shown l e = absurd (cc)
passed x true false files times lines directories profile budget shown l e = absurd (cc)
passed x true true false times lines directories profile budget shown l e = absurd (cc)
passed x true true true false lines directories profile budget shown l e = absurd (cc)
passed x true true true true false directories profile budget shown l e = absurd (cc)
passed x true true true true true false profile budget shown l e = absurd (cc)
passed x true true true true true true false budget shown l e = absurd (cc)
passed x true true true true true true true false shown l e = absurd (cc)
passed x true true true true true true true true false l e = absurd (cc)
passed x true true true true true true true true true l e = record { is_list = cc; names_pass = refl; sizes_pass = refl; files_pass = refl; times_pass = refl; lines_pass = refl }

validated-passed : (inline : Bool) (d : Draft) (l : CompilationList) → validated inline d ≡ accepted l
    → Passed (listed inline d) (names_hold d.files) (sizes_hold d) (are_known (names_of d.files) d.units) (times_hold d.setting) (lines_hold d.units) l
validated-passed inline d l e =
    let s = d.setting in
    passed (listed inline d) (names_hold d.files) (sizes_hold d) (are_known (names_of d.files) d.units) (times_hold s) (lines_hold d.units) (directories_hold d) (profile_holds s) (budget_holds s) (shown_hold d) l e

below_by : (t : List ℕ) (names : List (List ℕ)) (o : Option ℕ) → row_among t names ≡ o → is_some o ≡ true → unwrap_or o 0 < length names
below_by t names None e h = absurd (false≢true h)
below_by t names (Some i) e h = (position-Some (bytes_eq t) names i [] e).0

-- a known file has an index below the number of names
place_below : (t : List ℕ) (names : List (List ℕ)) → is_some (row_among t names) ≡ true → unwrap_or (row_among t names) 0 < length names
place_below t names h = below_by t names (row_among t names) refl h

same_as_itself : (p : Profile) → equal_profiles p p ≡ true
same_as_itself C11 = refl
same_as_itself Later = refl
same_as_itself Gnu = refl

less_test : (a b : ℕ) → a < b → nat_lt a b ≡ true
less_test a b h = grind (arith, nat_tests)

-- A unit passes `is_unit` if its file is known and its definitions are single lines, not too long in total.
first_below : (names : List (List ℕ)) (files : List DraftPath) → list_all (λ (p : DraftPath). is_known names p.name) files ≡ true
    → list_all (λ (f : FirstFile). nat_lt f.file (length names)) (listed_first names files) ≡ true
first_below names [] h = refl
first_below names (p ∷ ps) h =
    let both = and_parts _ _ h in
    rw (less_test _ _ (place_below p.name names both.0), first_below names ps both.1) refl

unit_passes : (names : List (List ℕ)) (p : Profile) (u : DraftUnit) → (is_known names u.file && list_all (λ (p : DraftPath). is_known names p.name) u.first) ≡ true → list_all is_one_line u.defines ≡ true
    → nat_le (length (command_text u.defines)) longest ≡ true
    → is_unit (length names) p (listed_unit p names u) ≡ true
unit_passes names p u known lines fits =
    let both = and_parts _ _ known in
    let below : nat_lt (unwrap_or (row_among u.file names) 0) (length names) ≡ true = less_test _ _ (place_below u.file names both.0) in
    rw (below, first_below names u.first both.1, same_as_itself p, lines, fits) refl

contents-small : (inline : Bool) (d : Draft) → All (λ (f : DraftFile). length f.content ≤ longest) d.files → All (λ bytes. length bytes ≤ longest) (listed inline d).contents
contents-small true d h = All-map (λ (bytes : List ℕ). length bytes ≤ longest) (λ (f : DraftFile). f.content) d.files h
contents-small false d h = All-nil (λ (bytes : List ℕ). length bytes ≤ longest)

-- An accepted list is runnable.
pub validated-runnable : (inline : Bool) (d : Draft) (l : CompilationList) → validated inline d ≡ accepted l → IsRunnable l
validated-runnable inline d l e =
    let p = validated-passed inline d l e in
    let names = names_of d.files in
    let listing = listed_unit (profile_of d.setting) names in
    let contents_pass = (and_parts _ _ (and_parts _ _ p.sizes_pass).0).1 in
    let files_pass = (and_parts _ _ (and_parts _ _ (and_parts _ _ p.sizes_pass).0).0).0 in
    let count : length d.files ≤ max_rows = leb-true (length d.files) max_rows files_pass in
    let units_pass = (and_parts _ _ (and_parts _ _ (and_parts _ _ p.sizes_pass).0).0).1 in
    let unit_count : length d.units ≤ max_rows = leb-true (length d.units) max_rows units_pass in
    let same_units : length (map listing d.units) ≡ length d.units = length-map d.units listing in
    let same : length names ≡ length d.files = length-map d.files (λ (f : DraftFile). f.name) in
    let short : All (λ (f : DraftFile). length f.content ≤ longest) d.files =
    All-weaker _ _ (λ f h. leb-true (length f.content) longest h) d.files
    (AllPass-from_list_all (λ (f : DraftFile). nat_le (length f.content) longest) d.files contents_pass) in
    let known = AllPass-from_list_all (λ (u : DraftUnit). is_known names u.file && list_all (λ (p : DraftPath). is_known names p.name) u.first) d.units p.files_pass in
    let lines = AllPass-from_list_all (λ (u : DraftUnit). list_all is_one_line u.defines) d.units p.lines_pass in
    let fit = AllPass-from_list_all (λ (u : DraftUnit). nat_le (length (command_text u.defines)) longest) d.units (and_parts _ _ p.sizes_pass).1 in
    let IsGood = λ (u : UnitOfList). is_unit (length names) (profile_of d.setting) u ≡ true in
    let good : All (λ (u : DraftUnit). IsGood (listing u)) d.units =
    λ k x lt. unit_passes names (profile_of d.setting) (get_or d.units k x) (known k x lt) (lines k x lt) (fit k x lt) in
    subst IsRunnable p.is_list (record {
      names = names_from_test names p.names_pass;
      names_fit = rw same count;
      units_fit = rw same_units unit_count;
      small = contents-small inline d short;
      setting = p.times_pass;
      units = All-map IsGood listing d.units good;
    })

-- An accepted list with contents has one content per name.
pub validated-contents : (d : Draft) (l : CompilationList) → validated true d ≡ accepted l → length l.contents ≡ length l.names
validated-contents d l e =
    let p = validated-passed true d l e in
    let names : length (names_of d.files) ≡ length d.files = length-map d.files (λ (f : DraftFile). f.name) in
    let contents : length (contents_of d.files) ≡ length d.files = length-map d.files (λ (f : DraftFile). f.content) in
    let P : CompilationList → Type 0 = λ x. length x.contents ≡ length x.names in
    subst P p.is_list (contents ∙ sym names)
