-- The content of a name in a list of files, and a shelf before its fill.
use Rattle.std.proofs.Common.{◌≤◌, Option, ◌≡◌, ◌≢◌, ℕ, ◌<◌, ◌+◌, suc, List, ◌∷◌, length, get_or, drop, drop-cons, replicate, sym, ap, ◌∙◌, subst, arith, None, Some}
use Rattle.std.specs.String.{string_bytes}
use Rattle.std.specs.Option.{option_map}
use Rattle.std.proofs.Math.ListN.{get_or-map}
use Rattle.std.proofs.lemmas.Option.{none-some}
use Rattle.ppshelf.specs.Content.{Content, readable}
use Rattle.ppshelf.specs.MemoryFiles.{IsFileContent}
use Rattle.ppshelf.specs.Files.{Files, max_rows}
use Rattle.pptext.specs.declared.sources.Profile.{Profile}
use Rattle.ppshelf.specs.code.ShelfRows.{LoadedView, RowState, IsShelf, filled_of, no_row_state}
use Rattle.ppshelf.specs.declared.memory_disk.File.{File}
use Rattle.ppshelf.proofs.ObservedContents.{none_known}

cons_at : (files : List File) (i : ℕ) (f : File) → i < length files → f ≡ get_or files i f → f ∷ drop (i + 1) files ≡ drop i files
cons_at files i f w read =
    let next : suc i ≡ i + 1 = omega arith in
    ap (λ x. x ∷ drop (i + 1) files) read ∙ (ap (λ k. get_or files i f ∷ drop k files) (sym next) ∙ sym (drop-cons files i f w))

pub found : (files : List File) (i : ℕ) (f : File) (name : List ℕ) (c : Content)
    → i < length files
    → f ≡ get_or files i f
    → string_bytes f.name ≡ name
    → c ≡ readable f.bytes.items
    → IsFileContent (drop i files) name c
found files i f name c w read e is = let P : List File → Type 0 = λ xs. IsFileContent xs name c in subst P (cons_at files i f w read) ((λ _. is), (λ no. absurd (no e)))

pub skipped : (files : List File) (i : ℕ) (f : File) (name : List ℕ) (c : Content)
    → i < length files
    → f ≡ get_or files i f
    → string_bytes f.name ≢ name
    → IsFileContent (drop (i + 1) files) name c
    → IsFileContent (drop i files) name c
skipped files i f name c w read other later = let P : List File → Type 0 = λ xs. IsFileContent xs name c in subst P (cons_at files i f w read) ((λ e. absurd (other e)), (λ _. later))

-- Rows without contents form a shelf over as many names.
pub empty_shelf : (profile : Profile) (names : List (List ℕ)) (stock : List RowState) (n : ℕ)
    → length stock ≡ length names
    → filled_of stock ≡ replicate n None
    → length names ≤ max_rows
    → IsShelf profile names stock
empty_shelf profile names stock n count filled small = record {
  small = omega arith;
  count = count;
  placed = λ row h is.
      let content : RowState → Option Content = λ (s : RowState). option_map (λ (x : LoadedView). x.content) s.filled in
      let there : content (get_or stock row no_row_state) ≡ Some h.content = ap (λ (o : Option LoadedView). option_map (λ (x : LoadedView). x.content) o) is in
      absurd (none-some h.content (sym (none_known n row) ∙ (ap (λ (f : Files). get_or f row None) (sym filled) ∙ (get_or-map content stock row no_row_state ∙ there))));
}
