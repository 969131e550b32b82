-- The members that the objects of a list have, their types, and the draft of each.
use Rattle.std.specs.Prelude.{◌≡◌, ℕ, ◌+◌, ◌-◌, ◌*◌, ◌&&◌, Bool, true, false, List, [], ◌∷◌}
use Rattle.std.specs.Prelude.{if◌then◌else◌, nat_le, codes, Option, Some, None, option_map, option_and_then, unwrap_or}
use Rattle.std.specs.List.{list_any}
use Rattle.std.specs.Str.{bytes_eq}
use Rattle.serde_json.specs.Data.{Num, Data, boolean, number, string, array, Items, no_items, item, Members, no_members, member}
use Rattle.serde_json.specs.Find.{get, as_object, as_u64}
use Rattle.ppserve.specs.Drafts.{DraftFile, DraftPath, DraftUnit, DraftBudget, Missing, Integer, Other, DraftSetting, Draft}

-- ---- names of members

abbrev pub is_one_of : List ℕ → List (List ℕ) → Bool
is_one_of t = list_any (bytes_eq t)

-- each member's name is one of these
abbrev pub has_only : List (List ℕ) → Members → Bool
has_only names no_members = true
has_only names (member k d ms) = is_one_of k names && has_only names ms

-- an object that has no members but these
abbrev pub is_object_of : List (List ℕ) → Data → Bool
is_object_of names d = unwrap_or (option_map (has_only names) (as_object d)) false

abbrev pub file_members : Bool → List (List ℕ)
file_members true = codes "name" ∷ codes "text" ∷ codes "hex" ∷ []
file_members false = codes "name" ∷ []

abbrev pub unit_members : List (List ℕ)
unit_members = codes "file" ∷ codes "shown" ∷ codes "define" ∷ codes "first" ∷ codes "search" ∷ []

-- the members of a directory that is searched, and of a file that is read first
abbrev pub path_members : List (List ℕ)
path_members = codes "name" ∷ codes "shown" ∷ codes "system" ∷ []

abbrev pub list_members : List (List ℕ)
list_members = codes "profile" ∷ codes "budget" ∷ codes "date" ∷ codes "time" ∷ codes "search" ∷ codes "files" ∷ codes "units" ∷ []

-- ---- hexadecimal digits

-- the value of a hexadecimal digit, a letter in lower case
abbrev pub hex_value : ℕ → Option ℕ
hex_value b = if nat_le 48 b && nat_le b 57 then Some (b - 48) else (if nat_le 97 b && nat_le b 102 then Some (b - 87) else None)

-- the byte that two hexadecimal digits spell
abbrev pub hex_byte : ℕ → ℕ → Option ℕ
hex_byte high low = option_and_then (λ h. option_map (λ l. h * 16 + l) (hex_value low)) (hex_value high)

-- the bytes that pairs of hexadecimal digits spell
abbrev pub hex_bytes : List ℕ → Option (List ℕ)
hex_bytes [] = Some []
hex_bytes (a ∷ []) = None
hex_bytes (a ∷ b ∷ more) = option_and_then (λ x. option_map (λ xs. x ∷ xs) (hex_bytes more)) (hex_byte a b)

-- ---- one member

-- a value is a string of this text
abbrev pub IsText : Data → List ℕ → Type 0
IsText d text = d ≡ string text

-- the member of this name is a string of this text
abbrev pub HasText : Data → List ℕ → List ℕ → Type 0
HasText d name text = get name d ≡ Some (string text)

-- the items of an array satisfy Is with those of a list, one after the other
pub data AreItems {A : Type 0} (Is : Data → A → Type 0) : Items → List A → Type 0 where
  nothing : AreItems Is no_items []
  more : {d : Data} {x : A} {ds : Items} {xs : List A}
      → Is d x
      → AreItems Is ds xs
      → AreItems Is (item d ds) (x ∷ xs)

-- the member of this name is an array, whose items satisfy Is with those of a list
pub record HasItems {A : Type 0} (Is : Data → A → Type 0) (d : Data) (name : List ℕ) (xs : List A) : Type 0 where
  pub items : Items
  pub is_array : get name d ≡ Some (array items)
  pub are : AreItems Is items xs

-- the member of this name is an array of these texts, or it is missing and there are none
pub data HasTexts (d : Data) (name : List ℕ) : List (List ℕ) → Type 0 where
  no_texts : get name d ≡ None → HasTexts d name []
  some_texts : {texts : List (List ℕ)} → HasItems IsText d name texts → HasTexts d name texts

-- the member of this name is a string of this text, or it is missing
pub data MayHaveText (d : Data) (name : List ℕ) : Option (List ℕ) → Type 0 where
  no_text : get name d ≡ None → MayHaveText d name None
  some_text : {text : List ℕ} → HasText d name text → MayHaveText d name (Some text)

-- the member of this name is true or false; it is false if it is missing
pub data HasFlag (d : Data) (name : List ℕ) : Bool → Type 0 where
  no_flag : get name d ≡ None → HasFlag d name false
  some_flag : {flag : Bool} → get name d ≡ Some (boolean flag) → HasFlag d name flag

-- a directory that is searched, or a file that is read first: its name alone, or an object
pub data IsPathDraft : Data → DraftPath → Type 0 where
  only_name : {name : List ℕ} → IsPathDraft (string name) (record { name = name; shown = None; system = false })
  whole_object : {d : Data} {p : DraftPath}
      → is_object_of path_members d ≡ true
      → HasText d (codes "name") p.name
      → MayHaveText d (codes "shown") p.shown
      → HasFlag d (codes "system") p.system
      → IsPathDraft d p

-- the member of this name is an array of these, or it is missing and there are none
pub data HasPaths (d : Data) (name : List ℕ) : List DraftPath → Type 0 where
  no_paths : get name d ≡ None → HasPaths d name []
  some_paths : {paths : List DraftPath} → HasItems IsPathDraft d name paths → HasPaths d name paths

-- a file's content is in exactly one of `text` and `hex`; if lists hold no contents it is left out
pub data HasContent : Bool → Data → List ℕ → Type 0 where
  as_text : {d : Data} {content : List ℕ}
      → HasText d (codes "text") content
      → get (codes "hex") d ≡ None
      → HasContent true d content
  as_hex : {d : Data} {digits content : List ℕ}
      → get (codes "text") d ≡ None
      → HasText d (codes "hex") digits
      → hex_bytes digits ≡ Some content
      → HasContent true d content
  left_out : {d : Data} → HasContent false d []

-- the name of the profile: `c11` if the member is missing
pub data HasProfile (d : Data) : List ℕ → Type 0 where
  no_profile : get (codes "profile") d ≡ None → HasProfile d (codes "c11")
  some_profile : {text : List ℕ} → HasText d (codes "profile") text → HasProfile d text

-- the budget: missing, an unsigned integer of 64 bits, or another number
pub data HasBudget (d : Data) : DraftBudget → Type 0 where
  no_budget : get (codes "budget") d ≡ None → HasBudget d Missing
  whole_budget : {n : Num} {amount : ℕ}
      → get (codes "budget") d ≡ Some (number n)
      → as_u64 n ≡ Some amount
      → HasBudget d (Integer amount)
  other_budget : {n : Num}
      → get (codes "budget") d ≡ Some (number n)
      → as_u64 n ≡ None
      → HasBudget d Other

-- ---- objects, with a field for each member

pub record IsFileDraft (inline : Bool) (d : Data) (f : DraftFile) : Type 0 where
  pub object : is_object_of (file_members inline) d ≡ true
  pub name : HasText d (codes "name") f.name
  pub content : HasContent inline d f.content

pub record IsUnitDraft (d : Data) (u : DraftUnit) : Type 0 where
  pub object : is_object_of unit_members d ≡ true
  pub file : HasText d (codes "file") u.file
  pub shown : MayHaveText d (codes "shown") u.shown
  pub defines : HasTexts d (codes "define") u.defines
  pub first : HasPaths d (codes "first") u.first
  pub directories : HasPaths d (codes "search") u.search

-- what all units share
pub record IsSettingDraft (d : Data) (s : DraftSetting) : Type 0 where
  pub profile : HasProfile d s.profile
  pub budget : HasBudget d s.budget
  pub date : HasText d (codes "date") s.date
  pub time : HasText d (codes "time") s.time
  pub directories : HasPaths d (codes "search") s.search

-- the list, with its contents if `inline`
pub record IsDraft (inline : Bool) (d : Data) (x : Draft) : Type 0 where
  pub object : is_object_of list_members d ≡ true
  pub setting : IsSettingDraft d x.setting
  pub files : HasItems (IsFileDraft inline) d (codes "files") x.files
  pub units : HasItems IsUnitDraft d (codes "units") x.units
