-- A run's output depends only on the mode, the input bytes and the file contents.
use Rattle.std.proofs.Common.{◌≡◌, ℕ, zero, suc, ◌≤◌, Bool, true, false, List, [], ◌∷◌, ◌++◌, length, Option, Some, None, IsSome, refl, sym, ap, ◌∙◌, subst, arith, inl, inr}
use Rattle.std.proofs.lemmas.Bool.{cases_lt}
use Rattle.std.proofs.lemmas.List.{get_or-map}
use Rattle.std.proofs.lemmas.List.Elements.{All-weaker}
use Rattle.std.proofs.lemmas.Option.{none-some, same_Some}
use Rattle.ppshelf.specs.Content.{Content, readable}
use Rattle.ppshelf.specs.Files.{Files, file_at, Extends, Agree, or_else}
use Rattle.ppshelf.specs.Names.{AreNames}
use Rattle.ppshelf.proofs.NameRows.{names_from_test}
use Rattle.ppunit.specs.Laws.{HasOneValue, KnowsAll}
use Rattle.ppunit.specs.Unit.{IsUnitOf, HasRows}
use Rattle.ppunit.specs.Units.{AreUnits}
use Rattle.ppunit.specs.declared.units.Setting.{Setting}
use Rattle.ppunit.specs.declared.units.Unit.{Unit as UnitOfList}
use Rattle.ppunit.specs.declared.units.UnitOut.{UnitOut}
use Rattle.pppool.specs.Laws.{ListGrows, HasSomeValues}
use Rattle.ppserve.specs.Contents.{AreInList, files_of}
use Rattle.ppserve.specs.Laws.{wrong_names, too_long, from, OneOutput, OneOutputOfContents, SomeOutput}
use Rattle.ppserve.specs.Drafts.{Draft}
use Rattle.ppserve.specs.Listing.{verdict_of, accepted, validated, max_input, names_hold, names_of}
use Rattle.ppserve.specs.Output.{output_text}
use Rattle.ppserve.specs.Serving.{any_fault, ReadsList, IsOutput}
use Rattle.ppserve.specs.CompilationList.{CompilationList}
use Rattle.ppserve.specs.declared.output.Mode.{Mode}
use Rattle.ppserve.proofs.DraftShape.{decides}
use Rattle.ppserve.proofs.DraftValidation.{verdict_of-draft, validated-runnable, validated-contents}
use Rattle.ppserve.proofs.ServedOutput.{can_run}
use Rattle.ppserve.proofs.ReceivedBytes.{decided}
use Rattle.ppserve.proofs.LeastRefusal.{takes_the_rest}

-- ---- the union of files that agree

abbrev joined : Files → Files → Files
joined [] ys = ys
joined (x ∷ xs) [] = x ∷ xs
joined (x ∷ xs) (y ∷ ys) = or_else x y ∷ joined xs ys

first_known : (x y : Option Content) (c : Content) → x ≡ Some c → or_else x y ≡ Some c
first_known None y c e = absurd (none-some c e)
first_known (Some d) y c e = e

second_known : (x y : Option Content) (c : Content) → y ≡ Some c → ((d : Content) → x ≡ Some d → d ≡ c) → or_else x y ≡ Some c
second_known None y c e same = e
second_known (Some d) y c e same = ap (λ (k : Content). Some k) (same d refl)

has_first : (xs ys : Files) → Extends (joined xs ys) xs
has_first [] ys row c e = absurd (none-some c e)
has_first (x ∷ xs) [] row c e = e
has_first (x ∷ xs) (y ∷ ys) zero c e = first_known x y c e
has_first (x ∷ xs) (y ∷ ys) (suc row) c e = has_first xs ys row c e

has_second : (xs ys : Files) → Agree xs ys → Extends (joined xs ys) ys
has_second [] ys agree row c e = e
has_second (x ∷ xs) [] agree row c e = absurd (none-some c e)
has_second (x ∷ xs) (y ∷ ys) agree zero c e = second_known x y c e (λ d is. agree 0 d c is e)
has_second (x ∷ xs) (y ∷ ys) agree (suc row) c e = has_second xs ys (λ at a b p q. agree (suc at) a b p q) row c e

-- ---- results

same_over : HasOneValue → (names : List (List ℕ)) (files : Files) (setting : Setting) (units : List UnitOfList) (a b : List UnitOut) → AreNames names
    → AreUnits names files setting units a
    → AreUnits names files setting units b
    → a ≡ b
same_over once names files setting [] [] [] named p q = refl
same_over once names files setting [] [] (y ∷ b) named p q = absurd q
same_over once names files setting [] (x ∷ a) b named p q = absurd p
same_over once names files setting (u ∷ us) [] b named p q = absurd p
same_over once names files setting (u ∷ us) (x ∷ a) [] named p q = absurd q
same_over once names files setting (u ∷ us) (x ∷ a) (y ∷ b) named p q =
    ap (λ (o : UnitOut). o ∷ a) (once names files setting u x y named p.0 q.0).0 ∙ ap (λ (os : List UnitOut). y ∷ os) (same_over once names files setting us a b named p.1 q.1)

same_answers : HasOneValue → ListGrows → (names : List (List ℕ)) (one two : Files) (setting : Setting) (units : List UnitOfList) (a b : List UnitOut) → AreNames names
    → Agree one two
    → AreUnits names one setting units a
    → AreUnits names two setting units b
    → a ≡ b
same_answers once grows names one two setting units a b named agree p q =
    let all = joined one two in
    same_over once names all setting units a b named (grows names one all setting units a (has_first one two) p) (grows names two all setting units b (has_second one two agree) q)

-- ---- lists

true_or : (b : Bool) → ¬ (b ≡ false) → b ≡ true
true_or true other = refl
true_or false other = absurd (other refl)

-- The names of an accepted list are in normal form and distinct.
named : (inline : Bool) (bytes : List ℕ) (list : CompilationList) → verdict_of inline bytes ≡ accepted list → AreNames list.names
named inline bytes list is =
    let taken = (takes_the_rest inline bytes list).0 is in
    let hold : names_hold taken.draft.files ≡ true = true_or (names_hold taken.draft.files) (λ e. taken.none 3 (wrong_names taken.holds e)) in
    let P : CompilationList → Type 0 = λ l. AreNames l.names in
    subst P (sym taken.is_list) (names_from_test (names_of taken.draft.files) hold)

-- Two lists that are read from equal known bytes are equal.
one_list : (inline : Bool) (known : List ℕ) (left right : Option (List ℕ)) (a b : CompilationList) → ReadsList inline (from known left) a → ReadsList inline (from known right) b → a ≡ b
one_list inline known left right a b p q =
    let one = decided inline known p.bytes left p.received in
    let two = decided inline known q.bytes right q.received in
    let same : accepted a ≡ accepted b = sym p.is_list ∙ (one ∙ (sym two ∙ q.is_list)) in
    cc

-- ---- the theorems

-- Outputs of one list over files that agree are equal.
same_output : HasOneValue → ListGrows → (Allowed : CompilationList → Files → Type 0) (mode : Mode) (left right : CompilationList) (any other : Bool) (one two : List ℕ)
    → left ≡ right
    → AreNames left.names
    → (a : IsOutput Allowed mode left any one)
    → (b : IsOutput Allowed mode right other two)
    → Agree a.files b.files
    → (one ≡ two) × (any ≡ other)
same_output once grows Allowed mode left right any other one two same named a b agree =
    let P : CompilationList → Type 0 = λ l. AreUnits l.names b.files l.setting l.units b.outs in
    let theirs = subst P (sym same) b.values in
    let outs : a.outs ≡ b.outs = same_answers once grows left.names a.files b.files left.setting left.units a.outs b.outs named agree a.values theirs in
    let text : output_text mode left a.outs ≡ output_text mode right b.outs = ap (λ (l : CompilationList). output_text mode l a.outs) same ∙ ap (output_text mode right) outs in (
      a.printed ∙ (text ∙ sym b.printed),
      a.fault ∙ (ap any_fault outs ∙ sym b.fault),
    )

pub one_output : HasOneValue → ListGrows → (Allowed : CompilationList → Files → Type 0) → OneOutput Allowed
one_output once grows Allowed inline mode known written left right one two any other a b agree =
    let same : a.list ≡ b.list = one_list inline known left right a.list b.list a.reads b.reads in
    let equal = same_output once grows Allowed mode a.list b.list any other a.text b.text same (named inline a.reads.bytes a.list a.reads.is_list) a.is_output b.is_output agree in
    (a.appends ∙ (ap (λ bytes. written ++ bytes) equal.0 ∙ sym b.appends), equal.1)

same_agree : (one two : Files) → one ≡ two → Agree one two
same_agree one two e row c d p q = same_Some c d (sym p ∙ (ap (λ (f : Files). file_at f row) e ∙ q))

pub one_output_of_contents : HasOneValue → ListGrows → OneOutputOfContents
one_output_of_contents once grows mode known written left right one two any other a b =
    let same : a.list ≡ b.list = one_list true known left right a.list b.list a.reads b.reads in
    let files : a.is_output.files ≡ b.is_output.files = a.is_output.allowed ∙ (ap (λ (l : CompilationList). files_of l.contents) same ∙ sym b.is_output.allowed) in
    one_output once grows AreInList true mode known written left right one two any other a b (same_agree a.is_output.files b.is_output.files files)

-- ---- that there is an output

-- The contents of a list are known for each of its names.
knows_contents : (names contents : List (List ℕ)) → length contents ≡ length names → KnowsAll names (files_of contents)
knows_contents names contents same row within =
    let P : Option Content → Type 0 = IsSome in
    subst P (sym (get_or-map (λ bytes. Some (readable bytes)) contents row [] None (omega arith))) refl

-- An accepted list comes from a draft that passes all tests.
validated_as : (inline : Bool) (bytes : List ℕ) (list : CompilationList) → verdict_of inline bytes ≡ accepted list → (d : Draft) × (validated inline d ≡ accepted list)
validated_as inline bytes list is =
    let taken = (takes_the_rest inline bytes list).0 is in
    let fits : length bytes ≤ max_input = elim (cases_lt max_input (length bytes)) [ inl long ↦ absurd (taken.none 1 (too_long long)) | inr short ↦ short ] in
    let shape = (decides inline taken.holds.value taken.draft).1 taken.holds.is_shaped in
    (taken.draft, sym (verdict_of-draft inline bytes taken.holds.value taken.draft fits taken.holds.is_json shape) ∙ is)

pub some_output : HasSomeValues → SomeOutput
some_output some mode bytes list is =
    let from_draft = validated_as true bytes list is in
    let runs = validated-runnable true from_draft.0 list from_draft.1 in
    let known = knows_contents list.names list.contents (validated-contents from_draft.0 list from_draft.1) in
    let within = All-weaker (IsUnitOf (length list.names) list.setting.profile) (HasRows (length list.names)) (λ unit fit. fit.0) list.units (can_run list list.names list.units runs refl refl) in
    let values = some list.names (files_of list.contents) list.setting list.units known within in
    record {
      any = any_fault values.0;
      text = output_text mode list values.0;
      is_output = record { files = files_of list.contents; allowed = refl; outs = values.0; values = values.1; printed = refl; fault = refl };
    }
