-- The include chain, by slices of items.
use Rattle.std.proofs.Common.{◌≡◌, ℕ, ◌+◌, ◌==◌, Bool, true, false, List, [], ◌∷◌, ◌++◌, map, flat_map, if◌then◌else◌, refl, sym, ap, ◌∙◌, append_assoc, Option, Some, arith}
use Rattle.pptext.specs.declared.tokens.Place.{Place}
use Rattle.pptext.specs.declared.tokens.Token.{Token}
use Rattle.ppunit.specs.BorrowedItems.{marks}
use Rattle.ppunit.specs.CommandFile.{command_file}
use Rattle.ppunit.specs.Chain.{leaves, open_places, without_main}
use Rattle.ppunit.specs.declared.units.Item.{Item}
use Rattle.ppunit.specs.declared.units.Item.TheVariants as item
use Rattle.ppserve.specs.Output.{in_line}

-- Tokens leave no file.
pub leaves_after : (open' : ℕ) (ts : List Token) (rest : List Item) → leaves (Some open') (map item.Token ts ++ rest) ≡ leaves (Some open') rest
leaves_after open' [] rest = refl
leaves_after open' (t ∷ ts) rest = leaves_after open' ts rest

pub no_places : (b : Bool) → ◌≡◌ {A = List Place} (if b then [] else []) []
no_places true = refl
no_places false = refl

without_places : (b : Bool) (places : List Place) → (if b then [] else []) ++ places ≡ places
without_places true places = refl
without_places false places = refl

-- Tokens enter no file.
pub places_after : (ts : List Token) (rest : List Item) → open_places (map item.Token ts ++ rest) ≡ open_places rest
places_after [] rest = refl
places_after (t ∷ ts) rest = without_places (leaves (Some 0) (map item.Token ts ++ rest)) (open_places (map item.Token ts ++ rest)) ∙ places_after ts rest

-- A pragma enters no file.
pub places_after_pragma : (at : Place) (ts : List Token) (rest : List Item) → open_places (item.Pragma at ts ∷ rest) ≡ open_places rest
places_after_pragma at ts rest = without_places (leaves (Some 0) rest) (open_places rest)

-- A file is left within items if it is left within those after the first of them.
pub leaves_step : (depth : ℕ) (old part new items : List Item) (after : Option ℕ)
    → old ≡ part ++ new
    → ((rest : List Item) → leaves (Some depth) (part ++ rest) ≡ leaves after rest)
    → leaves (Some depth) old ≡ leaves (Some 0) items
    → leaves after new ≡ leaves (Some 0) items
leaves_step depth old part new items after is each same = sym (each new) ∙ (ap (leaves (Some depth)) (sym is) ∙ same)

-- The number of marks of two parts.
pub marks-append : (xs ys : List Item) → marks (xs ++ ys) ≡ marks xs + marks ys
marks-append [] ys = omega arith
marks-append (item.Token t ∷ xs) ys = marks-append xs ys
marks-append (item.Pragma at ts ∷ xs) ys = marks-append xs ys
marks-append (item.Mark m ∷ xs) ys = let rest = marks-append xs ys in omega arith

-- The lines of the outermost file and of those within it are those of the chain.
pub outermost_first : (at : Place) (places : List Place)
    → flat_map in_line (if at.file == command_file then at ∷ [] else []) ++ flat_map in_line places ≡ flat_map in_line (without_main (at ∷ places))
outermost_first at places = by (at.file == command_file)
  where
    by : (b : Bool) → flat_map in_line (if b then at ∷ [] else []) ++ flat_map in_line places ≡ flat_map in_line (if b then at ∷ places else places)
    by true = append_assoc (in_line at) [] (flat_map in_line places)
    by false = refl
