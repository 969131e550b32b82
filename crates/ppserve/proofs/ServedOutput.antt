-- The values of a list's units over known files, and the output of a run.
use Rattle.std.proofs.Common.{Bool, ◌≡◌, ℕ, ◌<◌, ◌≤◌, List, [], map, length, get_or, Option, Some}
use Rattle.std.proofs.Common.{None, IsSome, All, sym, ap, ◌∙◌, subst, arith, refl, replicate, inl, inr}
use Rattle.std.proofs.lemmas.Bool.{cases_lt, false≢true}
use Rattle.std.proofs.lemmas.List.Elements.{All-weaker, All-nil}
use Rattle.std.proofs.lemmas.List.{ext_get_or, get_or_past, get_or-map, get_or-replicate, length-map}
use Rattle.std.proofs.lemmas.Option.{none-some}
use Rattle.ppshelf.specs.Content.{Content, readable, longest}
use Rattle.ppshelf.specs.Files.{Files, ShelfView, file_at, Extends, Agree, IsFull, Filled, bytes_at, AllPermitted}
use Rattle.ppunit.specs.declared.units.Unit.{Unit as UnitOfList}
use Rattle.ppunit.specs.declared.units.UnitOut.{UnitOut}
use Rattle.ppunit.specs.Unit.{IsUnitOf}
use Rattle.ppunit.specs.Units.{AreUnits}
use Rattle.ppunit.proofs.UnitTest.{unit_of}
use Rattle.pppool.specs.Retained.{retained}
use Rattle.pppool.specs.Laws.{ListGrows}
use Rattle.ppserve.specs.CompilationList.{CompilationList}
use Rattle.ppserve.specs.Contents.{files_of, AreInList, ArePermitted}
use Rattle.ppserve.specs.Listing.{IsRunnable}
use Rattle.ppserve.specs.Output.{numbered, unit_lines, output_text}
use Rattle.ppserve.specs.Serving.{any_fault, IsOutput}
use Rattle.ppserve.specs.declared.output.Mode.{Mode}
use Rattle.ppserve.specs.code.NeededRetention.{needed_retention}
use Rattle.ppserve.specs.declared.output.Output.{Output}
use Rattle.ppserve.specs.code.Runs.{AreObservedFor, AreRetainedOverSome, IsOutputOf, list_over}
use Rattle.ppserve.proofs.RecordLines.{lines_of_output}
use Rattle.ppserve.proofs.RetainedText.{text_kept, some_fault_kept}

-- the content of a filled file entry
content_now : (o : Option Content) → IsSome o → (c : Content) × (o ≡ Some c)
content_now None i = absurd (false≢true i)
content_now (Some c) i = (c, refl)

-- If the file table is full, a pass knows only contents that were filled in.
pub knows_files : (shelf : ShelfView) (files : Files) → IsFull shelf → Agree shelf.filled files → length files ≡ length shelf.names → Extends shelf.filled files
knows_files shelf files full agree len row c e =
    elim (cases_lt row (length files)) [
      | inl w ↦
          let held = content_now (file_at shelf.filled row) (full row (omega arith)) in
          held.1 ∙ ap (λ (x : Content). Some x) (agree row held.0 c held.1 e)
      | inr w ↦ absurd (none-some c (sym (get_or_past files row None w) ∙ e))
    ]

-- If an empty file table is filled with contents, it holds exactly these.
pub filled_files : (contents : List (List ℕ)) (old new : ShelfView) → old.filled ≡ replicate (length old.names) None → length contents ≡ length old.names → new.names ≡ old.names → length new.filled ≡ length old.names
    → ((row : ℕ) → row < length old.names → Filled (λ c. c ≡ readable (bytes_at contents row)) (file_at old.filled row) (file_at new.filled row)) → IsFull new → new.filled ≡ files_of contents
filled_files contents old new empty len named long rows full =
    let file : List ℕ → Option Content = λ bytes. Some (readable bytes) in
    let lens : length new.filled ≡ length (files_of contents) = long ∙ (sym len ∙ sym (length-map contents file)) in
    ext_get_or None new.filled (files_of contents) lens (λ row below.
    let in_old : row < length old.names = omega arith in
    let in_new : row < length new.names = let l = ap length named in omega arith in
    let in_contents : row < length contents = omega arith in
    let was : file_at old.filled row ≡ None = ap (λ (f : Files). get_or f row None) empty ∙ get_or-replicate (length old.names) row None None in_old in
    let now = content_now (file_at new.filled row) (full row in_new) in
    let P : Option Content → Type 0 = λ o. Filled (λ c. c ≡ readable (bytes_at contents row)) o (file_at new.filled row) in
    let Q : Option Content → Type 0 = λ o. Filled (λ c. c ≡ readable (bytes_at contents row)) None o in
    let content : now.0 ≡ readable (bytes_at contents row) = subst Q now.1 (subst P was (rows row in_old)) in
    now.1 ∙ (ap Some content ∙ sym (get_or-map file contents row [] None in_contents)))

-- The units of a runnable list satisfy `IsUnitOf` for a file table with its names.
pub can_run : (list : CompilationList) (names : List (List ℕ)) (units : List UnitOfList) → IsRunnable list → names ≡ list.names → units ≡ list.units → All (IsUnitOf (length names) list.setting.profile) units
can_run list names units runs named same =
    let P : List UnitOfList → Type 0 = λ us. All (IsUnitOf (length list.names) list.setting.profile) us in
    let Q : List (List ℕ) → Type 0 = λ ns. All (IsUnitOf (length ns) list.setting.profile) units in
    let good = All-weaker _ (IsUnitOf (length list.names) list.setting.profile) (λ u h. unit_of (length list.names) list.setting.profile list.setting.profile u refl h) list.units runs.units in
    subst Q (sym named) (subst P (sym same) good)

-- The units of a runnable list make one over a file table with its names.
pub runs_over : (list : CompilationList) (shelf : ShelfView) → IsRunnable list → shelf.names ≡ list.names → IsRunnable (list_over shelf list.setting list.units)
runs_over list shelf runs named =
    let over : List (List ℕ) → CompilationList = λ ns. record { setting = list.setting; names = ns; contents = []; units = list.units } in
    let P : List (List ℕ) → Type 0 = λ ns. IsRunnable (over ns) in
    let here : IsRunnable (over list.names) = record {
      names = runs.names;
      names_fit = runs.names_fit;
      units_fit = runs.units_fit;
      small = All-nil (λ (bytes : List ℕ). length bytes ≤ longest);
      setting = runs.setting;
      units = runs.units;
    } in
    subst P (sym named) here

-- The text of the retained outputs is the output text of the list.
text_of : (mode : Mode) (list : CompilationList) (units : List UnitOfList) (shown outs : List UnitOut) → units ≡ list.units → shown ≡ map (retained (needed_retention mode)) outs
    → numbered (unit_lines mode list.names) 0 units shown ≡ output_text mode list outs
text_of mode list units shown outs same is =
    ap (λ (us : List UnitOfList). numbered (unit_lines mode list.names) 0 us shown) same
    ∙ (ap (λ (os : List UnitOut). numbered (unit_lines mode list.names) 0 list.units os) is ∙ text_kept mode list.names 0 list.units outs)

-- If the retained outputs of a run are printed, the text is the output of the list over the files that the run observed.
retained_output : (may : List ℕ → Content → Type 0) (mode : Mode) (list : CompilationList) (shelf : ShelfView) (units : List UnitOfList) (outs shown : List UnitOut)
    → shelf.names ≡ list.names
    → units ≡ list.units
    → shown ≡ outs
    → AreRetainedOverSome may (needed_retention mode) shelf list.setting units outs
    → (any : Bool) (text : List ℕ)
    → text ≡ numbered (unit_lines mode list.names) 0 units shown
    → any ≡ any_fault shown
    → IsOutput (AreObservedFor may shelf) mode list any text
retained_output may mode list shelf units outs shown named same shows r any text printed fault =
    let P : List (List ℕ) → Type 0 = λ ns. AreUnits ns r.files list.setting units r.retained.wholes in
    let Q : List UnitOfList → Type 0 = λ us. AreUnits list.names r.files list.setting us r.retained.wholes in
    let kept = shows ∙ r.retained.same in
    record {
      files = r.files;
      allowed = r.observed;
      outs = r.retained.wholes;
      values = subst Q same (subst P named r.retained.values);
      printed = printed ∙ text_of mode list units shown r.retained.wholes same kept;
      fault = fault ∙ (ap any_fault kept ∙ some_fault_kept mode r.retained.wholes);
    }

-- The same of what a run prints.
pub printed_output : {output : Output} (any : Bool) (text : List ℕ)
    → IsOutputOf output any text
    → (may : List ℕ → Content → Type 0) (list : CompilationList) (shelf : ShelfView) (outs : List UnitOut)
    → shelf.names ≡ list.names
    → output.names.now ≡ list.names
    → output.units.now ≡ list.units
    → output.outs.now ≡ outs
    → AreRetainedOverSome may (needed_retention output.mode) shelf list.setting output.units.now outs
    → IsOutput (AreObservedFor may shelf) output.mode list any text
printed_output {output = output} any text is may list shelf outs named names same shows r =
    let e : numbered (unit_lines output.mode output.names.now) 0 output.units.now output.outs.now ≡ numbered (unit_lines output.mode list.names) 0 output.units.now output.outs.now =
    ap (λ (ns : List (List ℕ)). numbered (unit_lines output.mode ns) 0 output.units.now output.outs.now) names in
    retained_output may output.mode list shelf output.units.now outs output.outs.now named same shows r any text (is.printed ∙ (lines_of_output output ∙ e)) is.fault

-- The output of units over a file table is that of a list with these units and its names.
output_named : (may : List ℕ → Content → Type 0) (shelf : ShelfView) (mode : Mode) (list : CompilationList)
    → shelf.names ≡ list.names
    → (any : Bool) (text : List ℕ)
    → IsOutput (AreObservedFor may shelf) mode (list_over shelf list.setting list.units) any text
    → IsOutput (AreObservedFor may shelf) mode list any text
output_named may shelf mode list named any text is =
    let P : List (List ℕ) → Type 0 = λ ns. AreUnits ns is.files list.setting list.units is.outs in
    let lines : List (List ℕ) → List ℕ = λ ns. numbered (unit_lines mode ns) 0 list.units is.outs in
    record {
      files = is.files;
      allowed = is.allowed;
      outs = is.outs;
      values = subst P named is.values;
      printed = is.printed ∙ ap lines named;
      fault = is.fault;
    }

-- Files that a run over a disk observed have contents that the disk may return.
pub output_permitted : (may : List ℕ → Content → Type 0) (shelf : ShelfView) (mode : Mode) (list : CompilationList)
    → shelf.names ≡ list.names
    → (any : Bool) (text : List ℕ)
    → IsOutput (AreObservedFor may shelf) mode (list_over shelf list.setting list.units) any text
    → IsOutput (ArePermitted may) mode list any text
output_permitted may shelf mode list named any text run =
    let is = output_named may shelf mode list named any text run in
    let P : List (List ℕ) → Type 0 = λ ns. AllPermitted may ns is.files in
    record { files = is.files; allowed = subst P named is.allowed.contents_permitted; outs = is.outs; values = is.values; printed = is.printed; fault = is.fault }

-- If the file table held the contents of a list, the run observed no others.
pub output_in_list : ListGrows → (may : List ℕ → Content → Type 0) (shelf : ShelfView) (mode : Mode) (list : CompilationList)
    → shelf.names ≡ list.names
    → IsFull shelf
    → shelf.filled ≡ files_of list.contents
    → (any : Bool) (text : List ℕ)
    → IsOutput (AreObservedFor may shelf) mode (list_over shelf list.setting list.units) any text
    → IsOutput AreInList mode list any text
output_in_list grows may shelf mode list named full filled any text run =
    let is = output_named may shelf mode list named any text run in
    let wider = grows list.names is.files shelf.filled list.setting list.units is.outs (knows_files shelf is.files full is.allowed.agree is.allowed.rows) is.values in
    let P : Files → Type 0 = λ fs. AreUnits list.names fs list.setting list.units is.outs in
    record { files = files_of list.contents; allowed = refl; outs = is.outs; values = subst P filled wider; printed = is.printed; fault = is.fault }
