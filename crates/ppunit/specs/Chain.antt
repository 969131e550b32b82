-- The include chain of a unit: the files that were open where it stopped, by the marks among its items.
use Rattle.std.specs.Prelude.{ℕ, zero, suc, ◌==◌, Bool, true, false, if◌then◌else◌, List, [], ◌∷◌, ◌++◌, Option, None, Some}
use Rattle.pptext.specs.declared.tokens.Place.{Place}
use Rattle.ppunit.specs.declared.units.Item.{Item}
use Rattle.ppunit.specs.declared.units.Item.TheVariants as item
use Rattle.ppunit.specs.declared.units.MarkSort.{MarkSort}
use Rattle.ppunit.specs.declared.units.MarkSort.TheVariants.{Enter, Leave, Line}
use Rattle.ppunit.specs.CommandFile.{command_file}

-- how many files are open within a file after a mark, if so many were before it; none if the file itself is left
abbrev pub open_after_sort : ℕ → MarkSort → Option ℕ
open_after_sort open' (Enter at) = Some (suc open')
open_after_sort zero Leave = None
open_after_sort (suc open') Leave = Some open'
open_after_sort open' Line = Some open'

abbrev pub open_after : ℕ → Item → Option ℕ
open_after open' (item.Token t) = Some open'
open_after open' (item.Pragma at ts) = Some open'
open_after open' (item.Mark m) = open_after_sort open' m.sort

-- whether the items leave a file that was entered before them, within which so many files are open
abbrev pub leaves : Option ℕ → List Item → Bool
leaves None items = true
leaves (Some open') [] = false
leaves (Some open') (i ∷ items) = leaves (open_after open' i) items

-- the location of an item that enters a file
abbrev pub place_of_sort : MarkSort → List Place
place_of_sort (Enter at) = at ∷ []
place_of_sort Leave = []
place_of_sort Line = []

abbrev pub entry_place : Item → List Place
entry_place (item.Token t) = []
entry_place (item.Pragma at ts) = []
entry_place (item.Mark m) = place_of_sort m.sort

-- the locations of the items that enter a file which no later item leaves, from the outermost on
abbrev pub open_places : List Item → List Place
open_places [] = []
open_places (i ∷ items) = (if leaves (Some 0) items then [] else entry_place i) ++ open_places items

-- without that of the unit's own file, the outermost: a file that is read before it has a location in the unit's definitions
abbrev pub without_main : List Place → List Place
without_main [] = []
without_main (at ∷ more) = if at.file == command_file then at ∷ more else more

-- the locations of the include lines
abbrev pub chain : List Item → List Place
chain items = without_main (open_places items)
