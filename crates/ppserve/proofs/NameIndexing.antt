-- File names, added to an index one by one.
use Rattle.std.proofs.Common.{◌≡◌, ℕ, ◌<◌, List, [], length, get_or, sym, ap, ◌∙◌}
use Rattle.std.proofs.lemmas.List.{get_or-map, length-map}
use Rattle.ppshelf.specs.Names.{name_in}
use Rattle.ppshelf.proofs.NameRows.{Indexed}
use Rattle.ppserve.specs.Listing.{names_of}
use Rattle.ppserve.specs.Drafts.{DraftFile}

-- The index has the names of the files before `row`, and `name` is the name of the file at `row`.
pub record Turn (files : List DraftFile) (row : ℕ) (index : List (List ℕ)) (name : List ℕ) : Type 0 where
  pub within : row < length (names_of files)
  pub name_is : name_in (names_of files) row ≡ name
  pub names : Indexed (names_of files) row index

pub switch_to : (files : List DraftFile) (row : ℕ) (index : List (List ℕ)) (file : DraftFile) (name : List ℕ) → row < length files → file ≡ get_or files row file
    → name ≡ file.name → Indexed (names_of files) row index → Turn files row index name
switch_to files row index file name within is named indexed =
    let name_of : DraftFile → List ℕ = λ f. f.name in
    let count : length (names_of files) ≡ length files = length-map files name_of in
    record {
      within = rw count within;
      name_is = get_or-map name_of files row file [] within ∙ (ap name_of (sym is) ∙ sym named);
      names = indexed;
    }
