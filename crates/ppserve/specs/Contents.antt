-- The files of a list.
use Rattle.std.specs.Prelude.{◌≡◌, ℕ, List, map, Some}
use Rattle.ppshelf.specs.Content.{Content, readable}
use Rattle.ppshelf.specs.Files.{Files, AllPermitted}
use Rattle.ppserve.specs.CompilationList.{CompilationList}

-- the files with these contents, which are all known
abbrev pub files_of : List (List ℕ) → Files
files_of contents = map (λ bytes. Some (readable bytes)) contents

-- the files are those whose contents are in the list
abbrev pub AreInList : CompilationList → Files → Type 0
AreInList list files = files ≡ files_of list.contents

-- each content is one that a disk may return for its name
abbrev pub ArePermitted : (List ℕ → Content → Type 0) → CompilationList → Files → Type 0
ArePermitted may list files = AllPermitted may list.names files
