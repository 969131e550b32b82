-- The output of a list's units.
use Rattle.std.specs.Prelude.{ℕ, suc, ◌+◌, ◌/◌, ◌%◌, ◌==◌, ◌&&◌, Bool, true, false, not, List, [], ◌∷◌, ◌++◌}
use Rattle.std.specs.Prelude.{if◌then◌else◌, nat_lt, nat_le, codes, decimal, flat_map, Option, Some, None}
use Rattle.pptext.specs.declared.tokens.Place.{Place}
use Rattle.pptext.specs.declared.tokens.Kind.{Kind}
use Rattle.pptext.specs.declared.tokens.Kind.TheVariants as kind
use Rattle.pptext.specs.declared.tokens.Token.{Token}
use Rattle.pptext.specs.declared.tokens.Fault.{Fault}
use Rattle.ppshelf.specs.Names.{name_in}
use Rattle.ppunit.specs.declared.units.Item.{Item}
use Rattle.ppunit.specs.declared.units.Item.TheVariants as item
use Rattle.ppunit.specs.declared.units.UnitOut.{UnitOut}
use Rattle.ppunit.specs.declared.units.Unit.{Unit as UnitOfList}
use Rattle.ppunit.specs.Chain.{chain}
use Rattle.ppprint.specs.Located.{shown}
use Rattle.ppprint.specs.Text.{text_of}
use Rattle.ppserve.specs.CompilationList.{CompilationList}
use Rattle.ppserve.specs.declared.output.Mode.{Mode}
use Rattle.ppserve.specs.declared.output.Mode.TheVariants.{Dump, Deps, Faults, Text}

-- an upper-case hexadecimal digit
abbrev pub hex_digit : ℕ → ℕ
hex_digit n = if nat_lt n 10 then 48 + n else 55 + n

-- the bytes 32 to 126 except `%` are printed as they are
abbrev pub prints_as_is : ℕ → Bool
prints_as_is b = nat_le 32 b && nat_le b 126 && not (b == 37)

abbrev pub percent_encoded_byte : ℕ → List ℕ
percent_encoded_byte b = if prints_as_is b then b ∷ [] else (37 ∷ (hex_digit (b / 16) ∷ (hex_digit (b % 16) ∷ [])))

abbrev pub percent_encoded : List ℕ → List ℕ
percent_encoded = flat_map percent_encoded_byte

abbrev pub place_text : Place → List ℕ
place_text p = decimal p.file ++ codes ":" ++ decimal p.line ++ codes ":" ++ decimal p.col

abbrev pub kind_letter : Kind → ℕ
kind_letter kind.Ident = 105
kind_letter kind.Number = 110
kind_letter kind.CharConst = 99
kind_letter kind.Str = 115
kind_letter kind.Punct = 112
kind_letter kind.Header = 104
kind_letter kind.Other = 111

-- `+` if white space or the beginning of the line precedes the token, otherwise `-`
abbrev pub space_sign : Bool → ℕ
space_sign true = 43
space_sign false = 45

-- ` AT USED KM SPELLING`, and the line's end
abbrev pub token_text : Token → List ℕ
token_text t =
    codes " " ++ place_text t.at ++ codes " " ++ place_text t.used
    ++ (32 ∷ (kind_letter t.kind ∷ (space_sign t.space ∷ (32 ∷ [])))) ++ percent_encoded t.text ++ (10 ∷ [])

abbrev pub pragma_token_line : Token → List ℕ
pragma_token_line t = codes "ptok" ++ token_text t

-- a mark has no line
abbrev pub item_lines : Item → List ℕ
item_lines (item.Token t) = codes "tok" ++ token_text t
item_lines (item.Pragma at ts) = codes "prag " ++ place_text at ++ (10 ∷ []) ++ flat_map pragma_token_line ts
item_lines (item.Mark m) = []

abbrev pub dep_line : List (List ℕ) → ℕ → List ℕ
dep_line names row = codes "dep " ++ decimal row ++ codes " " ++ percent_encoded (name_in names row) ++ (10 ∷ [])

-- a space before a text that is not empty
abbrev pub fault_text : List ℕ → List ℕ
fault_text [] = []
fault_text (b ∷ bs) = 32 ∷ percent_encoded (b ∷ bs)

abbrev pub last_line : Option Fault → List ℕ
last_line None = codes "ok" ++ (10 ∷ [])
last_line (Some f) = codes "fault " ++ decimal f.number ++ codes " " ++ place_text f.at ++ fault_text f.text ++ (10 ∷ [])

-- a line of the include chain: the location of an include line
abbrev pub in_line : Place → List ℕ
in_line at = codes "in " ++ place_text at ++ (10 ∷ [])

-- the text after a `|` at the beginning of each line; `begins` says whether a line begins with the text
abbrev pub barred : Bool → List ℕ → List ℕ
barred begins [] = []
barred begins (c ∷ cs) = (if begins then 124 ∷ [] else []) ++ c ∷ barred (c == 10) cs

-- what the modes print: each prints a unit's fault, and these modes its items, too
abbrev pub shows_items : Mode → Bool
shows_items Dump = true
shows_items Deps = false
shows_items Faults = false
shows_items Text = true

-- the lines of items: one for each token, each pragma and each token of a pragma, or the text that a compiler takes
abbrev pub shown_item_lines : Mode → List (List ℕ) → List Item → List ℕ
shown_item_lines Dump names items = flat_map item_lines items
shown_item_lines Deps names items = []
shown_item_lines Faults names items = []
shown_item_lines Text names items = barred true (text_of (shown names items))

-- the lines before the last: the dependencies, or the include chain
abbrev pub lines_before_last : Mode → List (List ℕ) → UnitOut → List ℕ
lines_before_last Dump names out = flat_map (dep_line names) out.deps
lines_before_last Deps names out = flat_map (dep_line names) out.deps
lines_before_last Text names out = flat_map (dep_line names) out.deps
lines_before_last Faults names out = flat_map in_line (chain out.items)

abbrev pub unit_lines : Mode → List (List ℕ) → ℕ → UnitOfList → UnitOut → List ℕ
unit_lines mode names i unit out =
    codes "unit " ++ decimal i ++ codes " " ++ percent_encoded (name_in names unit.file) ++ (10 ∷ [])
    ++ shown_item_lines mode names out.items ++ lines_before_last mode names out ++ last_line out.fault

-- f of each pair, concatenated, numbered from n
abbrev pub numbered : {A B : Type 0} → (ℕ → A → B → List ℕ) → ℕ → List A → List B → List ℕ
numbered f n [] bs = []
numbered f n (a ∷ more) [] = []
numbered f n (a ∷ more) (b ∷ bs) = f n a b ++ numbered f (suc n) more bs

-- the whole output
abbrev pub output_text : Mode → CompilationList → List UnitOut → List ℕ
output_text mode list outs = numbered (unit_lines mode list.names) 0 list.units outs
