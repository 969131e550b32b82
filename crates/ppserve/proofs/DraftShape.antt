-- `draft` returns `x` for a JSON value exactly if the value has the shape of a list with draft `x`.
use Rattle.std.proofs.Common.{◌≡◌, ◌↔◌, ℕ, Bool, true, false, List, [], ◌∷◌, Option, Some, None, option_map}
use Rattle.std.proofs.Common.{option_and_then, codes, if◌then◌else◌, refl, sym, ap, ◌∙◌, subst}
use Rattle.std.proofs.lemmas.Option.{option_and_then_some, same_Some, none-some}
use Rattle.serde_json.specs.Data.{Num, Data, null, boolean, number, string, array, object, Items, no_items, item}
use Rattle.serde_json.specs.Find.{get, as_bool, as_number, as_str, as_array, as_u64}
use Rattle.ppserve.specs.Shape.{is_object_of, file_members, path_members, unit_members, list_members, hex_bytes}
use Rattle.ppserve.specs.Drafting.{text_at, text_or, each_item, each_of, array_at, texts_of, texts_at, optional_text, optional_text_at, flag_of, flag_at, path_of_object, path_or, draft_path, paths_of, paths_at, content_from, content_of}
use Rattle.ppserve.specs.Drafting.{draft_file, draft_unit, profile_at, budget_of_number, budget_from, budget_at, draft_setting, draft}
use Rattle.ppserve.specs.Shape.{IsText, HasText, AreItems, nothing, more, HasItems, HasTexts, no_texts, some_texts, MayHaveText, no_text, some_text}
use Rattle.ppserve.specs.Shape.{HasFlag, no_flag, some_flag, IsPathDraft, only_name, whole_object, HasPaths, no_paths, some_paths}
use Rattle.ppserve.specs.Shape.{HasContent, as_text, as_hex, left_out, HasProfile, no_profile, some_profile}
use Rattle.ppserve.specs.Shape.{HasBudget, no_budget, whole_budget, other_budget, IsFileDraft, IsUnitDraft, IsSettingDraft, IsDraft}
use Rattle.ppserve.specs.Drafts.{DraftFile, DraftPath, DraftUnit, DraftBudget, Missing, DraftSetting, Draft}

-- ---- one value

is_string : (d : Data) (t : List ℕ) → as_str d ≡ Some t → d ≡ string t
is_string null t e = absurd (none-some t e)
is_string (boolean b) t e = absurd (none-some t e)
is_string (number n) t e = absurd (none-some t e)
is_string (string s) t e = ap string (same_Some s t e)
is_string (array ds) t e = absurd (none-some t e)
is_string (object ms) t e = absurd (none-some t e)

is_array : (d : Data) (ds : Items) → as_array d ≡ Some ds → d ≡ array ds
is_array null ds e = absurd (none-some ds e)
is_array (boolean b) ds e = absurd (none-some ds e)
is_array (number n) ds e = absurd (none-some ds e)
is_array (string s) ds e = absurd (none-some ds e)
is_array (array xs) ds e = ap array (same_Some xs ds e)
is_array (object ms) ds e = absurd (none-some ds e)

is_number : (d : Data) (n : Num) → as_number d ≡ Some n → d ≡ number n
is_number null n e = absurd (none-some n e)
is_number (boolean b) n e = absurd (none-some n e)
is_number (number m) n e = ap number (same_Some m n e)
is_number (string s) n e = absurd (none-some n e)
is_number (array ds) n e = absurd (none-some n e)
is_number (object ms) n e = absurd (none-some n e)

-- `read` returns `x` for a value exactly if `Is` holds of the value and `x`
abbrev Reads : {A : Type 0} → (Data → Option A) → (Data → A → Type 0) → Type 0
Reads {A} read Is = (d : Data) (x : A) → (read d ≡ Some x) ↔ Is d x

reads_text : Reads as_str IsText
reads_text d t = (is_string d t, λ h. ap as_str h)

-- ---- the items of an array

mapped : {A B : Type 0} (f : A → B) (o : Option A) (y : B) → option_map f o ≡ Some y → (x : A) × (o ≡ Some x) × (f x ≡ y)
mapped f None y e = absurd (none-some y e)
mapped f (Some x) y e = (x, refl, same_Some (f x) y e)

items_from : {A : Type 0} (read : Data → Option A) (Is : Data → A → Type 0) → Reads read Is
    → (ds : Items) (xs : List A) → each_item read ds ≡ Some xs → AreItems Is ds xs
items_from read Is reads no_items xs e = subst (AreItems Is no_items) (same_Some [] xs e) nothing
items_from read Is reads (item d ds) xs e =
    option_and_then_some (λ x. option_map (λ more. x ∷ more) (each_item read ds)) (read d) xs e (λ x is e.
    let m = mapped (λ more. x ∷ more) (each_item read ds) xs e in
    subst (AreItems Is (item d ds)) m.2 (more ((reads d x).0 is) (items_from read Is reads ds m.0 m.1)))

items_back : {A : Type 0} (read : Data → Option A) (Is : Data → A → Type 0) → Reads read Is
    → {ds : Items} {xs : List A} → AreItems Is ds xs → each_item read ds ≡ Some xs
items_back read Is reads nothing = refl
items_back read Is reads (more {d = d} {x = x} is are) = rw ((reads d x).1 is, items_back read Is reads are) refl

array_from : {A : Type 0} (read : Data → Option A) (Is : Data → A → Type 0) → Reads read Is
    → (name : List ℕ) (d : Data) (xs : List A) → array_at read name d ≡ Some xs → HasItems Is d name xs
array_from read Is reads name d xs e =
    option_and_then_some (each_of read) (get name d) xs e (λ v at e.
    option_and_then_some (each_item read) (as_array v) xs e (λ ds is e.
    record { items = ds; is_array = at ∙ ap Some (is_array v ds is); are = items_from read Is reads ds xs e }))

array_back : {A : Type 0} (read : Data → Option A) (Is : Data → A → Type 0) → Reads read Is
    → {name : List ℕ} {d : Data} {xs : List A} → HasItems Is d name xs → array_at read name d ≡ Some xs
array_back read Is reads h = rw h.is_array (items_back read Is reads h.are)

-- ---- members

text_from : (name : List ℕ) (d : Data) (t : List ℕ) → text_at name d ≡ Some t → HasText d name t
text_from name d t e = option_and_then_some as_str (get name d) t e (λ v at is. at ∙ ap Some (is_string v t is))

text_back : (name : List ℕ) (d : Data) (t : List ℕ) → HasText d name t → text_at name d ≡ Some t
text_back name d t h = ap (option_and_then as_str) h

texts_from : (name : List ℕ) (d : Data) (ts : List (List ℕ)) → texts_at name d ≡ Some ts → HasTexts d name ts
texts_from name d ts e = by (get name d) refl e
  where
    by : (o : Option Data) → get name d ≡ o → texts_of o ≡ Some ts → HasTexts d name ts
    by None at e = subst (HasTexts d name) (same_Some [] ts e) (no_texts at)
    by (Some v) at e = some_texts (array_from as_str IsText reads_text name d ts (ap (option_and_then (each_of as_str)) at ∙ e))

texts_back : {name : List ℕ} {d : Data} {ts : List (List ℕ)} → HasTexts d name ts → texts_at name d ≡ Some ts
texts_back (no_texts at) = ap texts_of at
texts_back (some_texts h) = ap texts_of h.is_array ∙ items_back as_str IsText reads_text h.are

is_boolean : (d : Data) (b : Bool) → as_bool d ≡ Some b → d ≡ boolean b
is_boolean null b e = absurd (none-some b e)
is_boolean (boolean c) b e = ap boolean (same_Some c b e)
is_boolean (number n) b e = absurd (none-some b e)
is_boolean (string s) b e = absurd (none-some b e)
is_boolean (array ds) b e = absurd (none-some b e)
is_boolean (object ms) b e = absurd (none-some b e)

optional_from : (name : List ℕ) (d : Data) (t : Option (List ℕ)) → optional_text_at name d ≡ Some t → MayHaveText d name t
optional_from name d t e = by (get name d) refl e
  where
    by : (o : Option Data) → get name d ≡ o → optional_text o ≡ Some t → MayHaveText d name t
    by None at e = subst (MayHaveText d name) (same_Some None t e) (no_text at)
    by (Some v) at e =
        let m = mapped (λ (z : List ℕ). Some z) (as_str v) t e in
        subst (MayHaveText d name) m.2 (some_text (at ∙ ap Some (is_string v m.0 m.1)))

optional_back : {name : List ℕ} {d : Data} {t : Option (List ℕ)} → MayHaveText d name t → optional_text_at name d ≡ Some t
optional_back (no_text at) = ap optional_text at
optional_back (some_text at) = ap optional_text at

flag_from : (name : List ℕ) (d : Data) (b : Bool) → flag_at name d ≡ Some b → HasFlag d name b
flag_from name d b e = by (get name d) refl e
  where
    by : (o : Option Data) → get name d ≡ o → flag_of o ≡ Some b → HasFlag d name b
    by None at e = subst (HasFlag d name) (same_Some false b e) (no_flag at)
    by (Some v) at e = some_flag (at ∙ ap Some (is_boolean v b e))

flag_back : {name : List ℕ} {d : Data} {b : Bool} → HasFlag d name b → flag_at name d ≡ Some b
flag_back (no_flag at) = ap flag_of at
flag_back (some_flag at) = ap flag_of at

content_from_members : (inline : Bool) (d : Data) (c : List ℕ) → content_of inline d ≡ Some c → HasContent inline d c
content_from_members false d c e = subst (HasContent false d) (same_Some [] c e) left_out
content_from_members true d c e = by (get (codes "text") d) (get (codes "hex") d) refl refl e
  where
    by : (t h : Option Data) → get (codes "text") d ≡ t → get (codes "hex") d ≡ h → content_from t h ≡ Some c → HasContent true d c
    by None None text hex e = absurd (none-some c e)
    by None (Some v) text hex e =
        option_and_then_some hex_bytes (as_str v) c e (λ digits is e. as_hex text (hex ∙ ap Some (is_string v digits is)) e)
    by (Some v) None text hex e = as_text (text ∙ ap Some (is_string v c e)) hex
    by (Some v) (Some w) text hex e = absurd (none-some c e)

content_back : {inline : Bool} {d : Data} {c : List ℕ} → HasContent inline d c → content_of inline d ≡ Some c
content_back left_out = refl
content_back (as_text text hex) = rw (text, hex) refl
content_back (as_hex text hex spells) = rw (text, hex) spells

profile_from : (d : Data) (t : List ℕ) → profile_at d ≡ Some t → HasProfile d t
profile_from d t e = by (get (codes "profile") d) refl e
  where
    by : (o : Option Data) → get (codes "profile") d ≡ o → text_or (codes "c11") o ≡ Some t → HasProfile d t
    by None at e = subst (HasProfile d) (same_Some (codes "c11") t e) (no_profile at)
    by (Some v) at e = some_profile (at ∙ ap Some (is_string v t e))

profile_back : {d : Data} {t : List ℕ} → HasProfile d t → profile_at d ≡ Some t
profile_back (no_profile at) = ap (text_or (codes "c11")) at
profile_back (some_profile at) = ap (text_or (codes "c11")) at

numbered : (d : Data) (n : Num) (o : Option ℕ) → get (codes "budget") d ≡ Some (number n) → as_u64 n ≡ o → HasBudget d (budget_of_number o)
numbered d n (Some amount) at is = whole_budget at is
numbered d n None at is = other_budget at is

budget_from_member : (d : Data) (b : DraftBudget) → budget_at d ≡ Some b → HasBudget d b
budget_from_member d b e = by (get (codes "budget") d) refl e
  where
    by : (o : Option Data) → get (codes "budget") d ≡ o → budget_from o ≡ Some b → HasBudget d b
    by None at e = subst (HasBudget d) (same_Some Missing b e) (no_budget at)
    by (Some v) at e =
        let m = mapped (λ (n : Num). budget_of_number (as_u64 n)) (as_number v) b e in
        subst (HasBudget d) m.2 (numbered d m.0 (as_u64 m.0) (at ∙ ap Some (is_number v m.0 m.1)) refl)

budget_back : {d : Data} {b : DraftBudget} → HasBudget d b → budget_at d ≡ Some b
budget_back (no_budget at) = ap budget_from at
budget_back (whole_budget at is) = ap budget_from at ∙ ap (λ o. Some (budget_of_number o)) is
budget_back (other_budget at is) = ap budget_from at ∙ ap (λ o. Some (budget_of_number o)) is

-- ---- objects

when : {A : Type 0} (b : Bool) (o : Option A) (y : A) → (if b then o else None) ≡ Some y → (b ≡ true) × (o ≡ Some y)
when true o y e = (refl, e)
when false o y e = absurd (none-some y e)

file_from : (inline : Bool) (d : Data) (f : DraftFile) → draft_file inline d ≡ Some f → IsFileDraft inline d f
file_from inline d f e =
    let m = when (is_object_of (file_members inline) d) _ f e in
    option_and_then_some _ (text_at (codes "name") d) f m.1 (λ name is_file_name e.
    option_and_then_some _ (content_of inline d) f e (λ content is_content e.
    subst (IsFileDraft inline d) (same_Some _ f e) (record {
      object = m.0;
      name = text_from (codes "name") d name is_file_name;
      content = content_from_members inline d content is_content;
    })))

file_back : (inline : Bool) (d : Data) (f : DraftFile) → IsFileDraft inline d f → draft_file inline d ≡ Some f
file_back inline d f m = rw (m.object, text_back (codes "name") d f.name m.name, content_back m.content) refl

reads_files : (inline : Bool) → Reads (draft_file inline) (IsFileDraft inline)
reads_files inline d f = (file_from inline d f, file_back inline d f)

path_from_object : (d : Data) (p : DraftPath) → path_of_object d ≡ Some p → IsPathDraft d p
path_from_object d p e =
    let m = when (is_object_of path_members d) _ p e in
    option_and_then_some _ (text_at (codes "name") d) p m.1 (λ name is_name e.
    option_and_then_some _ (optional_text_at (codes "shown") d) p e (λ shown is_shown e.
    option_and_then_some _ (flag_at (codes "system") d) p e (λ system is_system e.
    subst (IsPathDraft d) (same_Some _ p e)
    (whole_object m.0 (text_from (codes "name") d name is_name) (optional_from (codes "shown") d shown is_shown) (flag_from (codes "system") d system is_system)))))

path_from : (d : Data) (p : DraftPath) → draft_path d ≡ Some p → IsPathDraft d p
path_from d p e = by (as_str d) refl e
  where
    by : (o : Option (List ℕ)) → as_str d ≡ o → path_or (path_of_object d) o ≡ Some p → IsPathDraft d p
    by None text e = path_from_object d p e
    by (Some name) text e = subst (λ (z : Data). IsPathDraft z p) (sym (is_string d name text)) (subst (IsPathDraft (string name)) (same_Some _ p e) only_name)

no_string : (d : Data) → is_object_of path_members d ≡ true → as_str d ≡ None
no_string null h = absurd (cc)
no_string (boolean b) h = absurd (cc)
no_string (number n) h = absurd (cc)
no_string (string s) h = absurd (cc)
no_string (array ds) h = absurd (cc)
no_string (object ms) h = refl

path_back : (d : Data) (p : DraftPath) → IsPathDraft d p → draft_path d ≡ Some p
path_back d p only_name = refl
path_back d p (whole_object has_members name shown system) =
    rw (no_string d has_members, has_members, text_back (codes "name") d p.name name, optional_back shown, flag_back system) refl

reads_paths : Reads draft_path IsPathDraft
reads_paths d p = (path_from d p, path_back d p)

paths_from : (name : List ℕ) (d : Data) (ps : List DraftPath) → paths_at name d ≡ Some ps → HasPaths d name ps
paths_from name d ps e = by (get name d) refl e
  where
    by : (o : Option Data) → get name d ≡ o → paths_of o ≡ Some ps → HasPaths d name ps
    by None at e = subst (HasPaths d name) (same_Some [] ps e) (no_paths at)
    by (Some v) at e = some_paths (array_from draft_path IsPathDraft reads_paths name d ps (ap (option_and_then (each_of draft_path)) at ∙ e))

paths_back : {name : List ℕ} {d : Data} {ps : List DraftPath} → HasPaths d name ps → paths_at name d ≡ Some ps
paths_back (no_paths at) = ap paths_of at
paths_back (some_paths h) = ap paths_of h.is_array ∙ items_back draft_path IsPathDraft reads_paths h.are

unit_from : (d : Data) (u : DraftUnit) → draft_unit d ≡ Some u → IsUnitDraft d u
unit_from d u e =
    let m = when (is_object_of unit_members d) _ u e in
    option_and_then_some _ (text_at (codes "file") d) u m.1 (λ file is_file e.
    option_and_then_some _ (optional_text_at (codes "shown") d) u e (λ shown is_shown e.
    option_and_then_some _ (texts_at (codes "define") d) u e (λ defines are_defines e.
    option_and_then_some _ (paths_at (codes "first") d) u e (λ first are_first e.
    option_and_then_some _ (paths_at (codes "search") d) u e (λ directories are_directories e.
    subst (IsUnitDraft d) (same_Some _ u e) (record {
      object = m.0;
      file = text_from (codes "file") d file is_file;
      shown = optional_from (codes "shown") d shown is_shown;
      defines = texts_from (codes "define") d defines are_defines;
      first = paths_from (codes "first") d first are_first;
      directories = paths_from (codes "search") d directories are_directories;
    }))))))

unit_back : (d : Data) (u : DraftUnit) → IsUnitDraft d u → draft_unit d ≡ Some u
unit_back d u m = rw (m.object, text_back (codes "file") d u.file m.file, optional_back m.shown, texts_back m.defines, paths_back m.first, paths_back m.directories) refl

reads_units : Reads draft_unit IsUnitDraft
reads_units d u = (unit_from d u, unit_back d u)

setting_from : (d : Data) (s : DraftSetting) → draft_setting d ≡ Some s → IsSettingDraft d s
setting_from d s e =
    option_and_then_some _ (profile_at d) s e (λ profile is_profile e.
    option_and_then_some _ (budget_at d) s e (λ draft_budget is_budget e.
    option_and_then_some _ (text_at (codes "date") d) s e (λ date is_date e.
    option_and_then_some _ (text_at (codes "time") d) s e (λ time is_time e.
    option_and_then_some _ (paths_at (codes "search") d) s e (λ directories are_directories e.
    subst (IsSettingDraft d) (same_Some _ s e) (record {
      profile = profile_from d profile is_profile;
      budget = budget_from_member d draft_budget is_budget;
      date = text_from (codes "date") d date is_date;
      time = text_from (codes "time") d time is_time;
      directories = paths_from (codes "search") d directories are_directories;
    }))))))

setting_back : (d : Data) (s : DraftSetting) → IsSettingDraft d s → draft_setting d ≡ Some s
setting_back d s m =
    rw (
      profile_back m.profile,
      budget_back m.budget,
      text_back (codes "date") d s.date m.date,
      text_back (codes "time") d s.time m.time,
      paths_back m.directories,
    ) refl

draft_from : (inline : Bool) (d : Data) (x : Draft) → draft inline d ≡ Some x → IsDraft inline d x
draft_from inline d x e =
    let m = when (is_object_of list_members d) _ x e in
    option_and_then_some _ (draft_setting d) x m.1 (λ setting is_setting e.
    option_and_then_some _ (array_at (draft_file inline) (codes "files") d) x e (λ files are_files e.
    option_and_then_some _ (array_at draft_unit (codes "units") d) x e (λ units are_units e.
    subst (IsDraft inline d) (same_Some _ x e) (record {
      object = m.0;
      setting = setting_from d setting is_setting;
      files = array_from (draft_file inline) (IsFileDraft inline) (reads_files inline) (codes "files") d files are_files;
      units = array_from draft_unit IsUnitDraft reads_units (codes "units") d units are_units;
    }))))

draft_back : (inline : Bool) (d : Data) (x : Draft) → IsDraft inline d x → draft inline d ≡ Some x
draft_back inline d x m =
    let files = array_back (draft_file inline) (IsFileDraft inline) (reads_files inline) m.files in
    let units = array_back draft_unit IsUnitDraft reads_units m.units in
    rw (m.object, setting_back d x.setting m.setting, files, units) refl

pub decides : (inline : Bool) (d : Data) (x : Draft) → (draft inline d ≡ Some x) ↔ IsDraft inline d x
decides inline d x = (draft_from inline d x, draft_back inline d x)
