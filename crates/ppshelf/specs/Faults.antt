-- The meaning of the crate's faults.
use Rattle.std.specs.Prelude.{ℕ, List}
use Rattle.ppshelf.specs.Names.{IsBadName}
use Rattle.ppshelf.specs.declared.disk.ReadFault.{ReadFault}
use Rattle.ppshelf.specs.declared.disk.ReadFault.TheVariants.{Unreadable, Memory}
use Rattle.ppshelf.specs.declared.shelf.ShelfFault.{ShelfFault}
use Rattle.ppshelf.specs.declared.shelf.ShelfFault.TheVariants as shelf

abbrev pub IfUnreadable : ReadFault → Type 0 → Type 0
IfUnreadable Unreadable P = P
IfUnreadable Memory P = Unit {0}

abbrev pub IsShelfFault : ShelfFault → List (List ℕ) → Type 0
IsShelfFault (shelf.Name row) names = IsBadName names row
IsShelfFault shelf.Memory names = Unit {0}
