-- A cache of searches for included files. Only this crate cites it.
use Rattle.std.specs.Prelude.{◌≡◌, ℕ, ◌<◌, List, length, Option, IfSome}
use Rattle.std.specs.List.{All}
use Rattle.ppshelf.specs.Names.{name_in}
use Rattle.ppshelf.specs.Search.{candidates, IsFirstRow}
use Rattle.ppshelf.specs.declared.search.Form.{Form}
use Rattle.ppshelf.specs.declared.search_cache.CachedSearch.{CachedSearch}

-- A cache as its callers see it: the names of its shelf, and the directories of its searches
pub record SearchCacheView : Type 0 where
  pub names : List (List ℕ)
  pub unit : List (List ℕ)
  pub setting : List (List ℕ)

-- The result of a search in these directories for a name that an include line in row `from` has
pub record Finds (cache : SearchCacheView) (from : ℕ) (form : Form) (name : List ℕ) (found : Option (ℕ × ℕ)) : Type 0 where
  pub first : IsFirstRow cache.names (candidates form (name_in cache.names from) cache.unit cache.setting name) found
  pub within : IfSome found (λ f. f.0 < length cache.names)

-- The search has its result
abbrev pub IsDone : SearchCacheView → CachedSearch → Type 0
IsDone cache s = Finds cache s.from s.form s.name s.found

-- Each search has its result, and there are 16,384 slots
pub record IsSearchCache (cache : SearchCacheView) (searches : List CachedSearch) (slots : List ℕ) : Type 0 where
  pub done : All (IsDone cache) searches
  pub count : length slots ≡ 16384
