-- The draft of a JSON value as a function: what each member of a list is read as.
use Rattle.std.specs.Prelude.{◌≡◌, ◌↔◌, ℕ, Bool, true, false, List, [], ◌∷◌}
use Rattle.std.specs.Prelude.{if◌then◌else◌, codes, Option, Some, None, option_map, option_and_then}
use Rattle.serde_json.specs.Data.{Num, Data, Items, no_items, item}
use Rattle.serde_json.specs.Find.{get, as_bool, as_number, as_str, as_array, as_u64}
use Rattle.ppserve.specs.Shape.{is_object_of, file_members, unit_members, path_members, list_members, hex_bytes, IsDraft}
use Rattle.ppserve.specs.Drafts.{DraftFile, DraftPath, DraftUnit, DraftBudget, Missing, Integer, Other, DraftSetting, Draft}

-- the result of a part, if there is one
abbrev pub with_part : {A B : Type 0} → Option A → (A → Option B) → Option B
with_part part make = option_and_then make part

abbrev pub text_at : List ℕ → Data → Option (List ℕ)
text_at name d = option_and_then as_str (get name d)

-- the text of a member, or another if the member is missing
abbrev pub text_or : List ℕ → Option Data → Option (List ℕ)
text_or other None = Some other
text_or other (Some d) = as_str d

-- the results of `read` for the items, if it has one for each
abbrev pub each_item : {A : Type 0} → (Data → Option A) → Items → Option (List A)
each_item read no_items = Some []
each_item read (item d ds) = option_and_then (λ x. option_map (λ xs. x ∷ xs) (each_item read ds)) (read d)

abbrev pub each_of : {A : Type 0} → (Data → Option A) → Data → Option (List A)
each_of read d = option_and_then (each_item read) (as_array d)

abbrev pub array_at : {A : Type 0} → (Data → Option A) → List ℕ → Data → Option (List A)
array_at read name d = option_and_then (each_of read) (get name d)

-- the texts of an array, and none where it is missing
abbrev pub texts_of : Option Data → Option (List (List ℕ))
texts_of None = Some []
texts_of (Some d) = each_of as_str d

abbrev pub texts_at : List ℕ → Data → Option (List (List ℕ))
texts_at name d = texts_of (get name d)

-- the text of a member, if there is one
abbrev pub optional_text : Option Data → Option (Option (List ℕ))
optional_text None = Some None
optional_text (Some d) = option_map (λ (t : List ℕ). Some t) (as_str d)

abbrev pub optional_text_at : List ℕ → Data → Option (Option (List ℕ))
optional_text_at name d = optional_text (get name d)

-- a member that is true or false; false if it is missing
abbrev pub flag_of : Option Data → Option Bool
flag_of None = Some false
flag_of (Some d) = as_bool d

abbrev pub flag_at : List ℕ → Data → Option Bool
flag_at name d = flag_of (get name d)

abbrev pub path_of_object : Data → Option DraftPath
path_of_object d =
    if is_object_of path_members d then
    with_part (text_at (codes "name") d) (λ name.
    with_part (optional_text_at (codes "shown") d) (λ shown.
    with_part (flag_at (codes "system") d) (λ system.
    Some (record { name = name; shown = shown; system = system }))))
    else None

-- a directory that is searched, or a file that is read first
abbrev pub path_or : Option DraftPath → Option (List ℕ) → Option DraftPath
path_or other None = other
path_or other (Some name) = Some (record { name = name; shown = None; system = false })

abbrev pub draft_path : Data → Option DraftPath
draft_path d = path_or (path_of_object d) (as_str d)

-- the paths of an array, and none where it is missing
abbrev pub paths_of : Option Data → Option (List DraftPath)
paths_of None = Some []
paths_of (Some d) = each_of draft_path d

abbrev pub paths_at : List ℕ → Data → Option (List DraftPath)
paths_at name d = paths_of (get name d)

-- the content from exactly one of `text` and `hex`
abbrev pub content_from : Option Data → Option Data → Option (List ℕ)
content_from None None = None
content_from None (Some h) = option_and_then hex_bytes (as_str h)
content_from (Some t) None = as_str t
content_from (Some t) (Some h) = None

-- a file's content, if the list holds contents
abbrev pub content_of : Bool → Data → Option (List ℕ)
content_of true d = content_from (get (codes "text") d) (get (codes "hex") d)
content_of false d = Some []

abbrev pub draft_file : Bool → Data → Option DraftFile
draft_file inline d =
    if is_object_of (file_members inline) d then
    with_part (text_at (codes "name") d) (λ name.
    with_part (content_of inline d) (λ content.
    Some (record { name = name; content = content })))
    else None

abbrev pub draft_unit : Data → Option DraftUnit
draft_unit d =
    if is_object_of unit_members d then
    with_part (text_at (codes "file") d) (λ file.
    with_part (optional_text_at (codes "shown") d) (λ shown.
    with_part (texts_at (codes "define") d) (λ defines.
    with_part (paths_at (codes "first") d) (λ first.
    with_part (paths_at (codes "search") d) (λ directories.
    Some (record { file = file; shown = shown; defines = defines; first = first; search = directories }))))))
    else None

-- the name of the profile: `c11` if the member is missing
abbrev pub profile_at : Data → Option (List ℕ)
profile_at d = text_or (codes "c11") (get (codes "profile") d)

-- a number as it is written: an unsigned integer of 64 bits, or another number
abbrev pub budget_of_number : Option ℕ → DraftBudget
budget_of_number (Some n) = Integer n
budget_of_number None = Other

-- the budget: a number, or missing
abbrev pub budget_from : Option Data → Option DraftBudget
budget_from None = Some Missing
budget_from (Some d) = option_map (λ (n : Num). budget_of_number (as_u64 n)) (as_number d)

abbrev pub budget_at : Data → Option DraftBudget
budget_at d = budget_from (get (codes "budget") d)

abbrev pub draft_setting : Data → Option DraftSetting
draft_setting d =
    with_part (profile_at d) (λ profile.
    with_part (budget_at d) (λ draft_budget.
    with_part (text_at (codes "date") d) (λ date.
    with_part (text_at (codes "time") d) (λ time.
    with_part (paths_at (codes "search") d) (λ directories.
    Some (record { profile = profile; budget = draft_budget; date = date; time = time; search = directories }))))))

-- the draft, if the value has the members of a list and no others
abbrev pub draft : Bool → Data → Option Draft
draft inline d =
    if is_object_of list_members d then
    with_part (draft_setting d) (λ setting.
    with_part (array_at (draft_file inline) (codes "files") d) (λ files.
    with_part (array_at draft_unit (codes "units") d) (λ units.
    Some (record { setting = setting; files = files; units = units }))))
    else None

-- a value gives a draft exactly if it has the members of a list with that draft
abbrev pub ShapeDecides : Type 0
ShapeDecides = (inline : Bool) (d : Data) (x : Draft) → (draft inline d ≡ Some x) ↔ IsDraft inline d x
