-- Opening a file whose guard is defined only adds a dependency and spends one of the budget (6.10.1).
use Rattle.std.proofs.Common.{◌≡◌, ℕ, suc, ◌+◌, ◌-◌, ◌≤◌, Bool, true, false, List, [], ◌∷◌, ◌++◌, Option, Some, None, Ok, refl, sym, ap, ◌∙◌, subst, IsTrue, ◌↔◌, if◌then◌else◌}
use Rattle.std.specs.List.{AllByRecursion}
use Rattle.std.proofs.lemmas.Bool.{false≢true}
use Rattle.pptext.specs.declared.tokens.Place.{Place}
use Rattle.pptext.specs.declared.tokens.Token.{Token}
use Rattle.pptext.specs.declared.tokens.Fault.{Fault}
use Rattle.pptext.specs.declared.sources.Profile.{Profile}
use Rattle.pptext.specs.Profiles.{is_gnu}
use Rattle.pptext.specs.Lines.{LogicalLine}
use Rattle.pptext.specs.Tree.{GroupParts, Done, TextLines, Control, Section, End, Branch, part_lines, AreGroupParts}
use Rattle.pptext.specs.Guard.{IsBlankLine, AreBlank, GuardedParts, GuardedBy}
use Rattle.pptext.proofs.Trees.{at_most_one}
use Rattle.ppexpand.specs.Budget.{is_exhausted}
use Rattle.ppexpand.specs.Expansion.{stops_with, done, count_expansion}
use Rattle.ppshelf.specs.Content.{Content, unreadable, readable, IsRead}
use Rattle.ppshelf.specs.Files.{file_at}
use Rattle.ppunit.specs.States.{State, Context, search_of, running, with_dependency, begun, entering, leaving, with_one_spent, with_waiting, Opening}
use Rattle.ppunit.specs.Dependencies.{has_row}
use Rattle.ppunit.specs.DirectiveLines.{text_tokens}
use Rattle.ppunit.specs.States.{is_macro_name}
use Rattle.ppunit.specs.Directives.{EmitsText, waits_in, fault_unless, fault_at_end}
use Rattle.ppunit.specs.Group.{depth_limit, ExecutesGroup, ExecutesBranches, OpensFile}
use Rattle.ppunit.specs.Counts.{counted_before, count_group, count_opening}
use Rattle.ppunit.specs.Guarded.{GuardsLeaveOut}
use Rattle.ppunit.specs.code.Opening.{IsLeftOut}
use Rattle.ppunit.proofs.FileTokens.{IsSpelledLine, source_spelled}
use Rattle.ppunit.proofs.GuardLines.{guard_line}
use Rattle.ppunit.proofs.TextRuns.{none_next}
use Rattle.ppunit.proofs.KeptItems.{kept-nothing}

-- ---- the file

blank_tokens : (lines : List LogicalLine) → AllByRecursion IsBlankLine lines → text_tokens lines ≡ []
blank_tokens [] all = refl
blank_tokens (r ∷ rs) all = ap (λ (z : List Token). z ++ text_tokens rs) all.0 ∙ blank_tokens rs all.1

-- the tokens emit nothing, at no cost
abbrev GivesNothing : Profile → State → List Token → Type 0
GivesNothing profile s tokens = (g : EmitsText profile s tokens (running s)) × (count_expansion g.expands - counted_before s.waiting ≡ 0)

none_waits : (profile : Profile) → waits_in profile [] ≡ []
none_waits profile = by_profile (is_gnu profile)
  where
    by_profile : (gnu : Bool) → ◌≡◌ {A = List Token} (if gnu then [] else []) []
    by_profile true = refl
    by_profile false = refl

nothing_where : (profile : Profile) (s : State) → GivesNothing profile (with_waiting s []) []
nothing_where profile s = (
  record {
    expanded = record { tokens = []; fault = None; meter = s.meter };
    expands = record { outcome = stops_with s.meter None; expands = (0, done (none_next s.macros s.env s.meter)); emitted = refl; fault_is = refl; meter_is = refl };
    is = λ i. record {
      state = record s { items = sym (kept-nothing s.keeps s.items) i; waiting = sym (none_waits profile) i };
      fault = fault_unless (sym (none_waits profile) i) None;
    };
  },
  refl,
)

nothing_gives : (profile : Profile) (s : State) → s.waiting ≡ [] → GivesNothing profile s []
nothing_gives profile s empty = subst (λ (z : List Token). GivesNothing profile (with_waiting s z) []) (sym empty) (nothing_where profile s)

blank_gives : (profile : Profile) (s : State) (lines : List LogicalLine)
    → s.waiting ≡ []
    → AllByRecursion IsBlankLine lines
    → GivesNothing profile s (text_tokens lines)
blank_gives profile s lines empty blank = subst (λ (z : List Token). GivesNothing profile s z) (sym (blank_tokens lines blank)) (nothing_gives profile s empty)

following : {A : Type 0} (P : A → Type 0) (xs ys : List A) → AllByRecursion P (xs ++ ys) → AllByRecursion P ys
following P [] ys all = all
following P (x ∷ xs) ys all = following P xs ys all.1

-- The sum of two counts of 0 is 0.
both_free : {m n : ℕ} → m ≡ 0 → n ≡ 0 → m + n ≡ 0
both_free p q = λ i. p i + q i

-- no invocation waits
module _ (context : Context) (depth row : ℕ) (s : State) (empty : s.waiting ≡ []) where
  -- the parts change nothing, at no cost
  abbrev Passes : GroupParts → Type 0
  Passes ps = (d : ExecutesGroup context depth row (running s) ps (running s)) × (count_group d ≡ 0)

  run_passes : (rs : List LogicalLine) (ps : GroupParts) → GivesNothing context.profile s (text_tokens rs) → Passes ps → Passes (TextLines rs ps)
  run_passes rs ps (gives, free) (rest, more) = (ExecutesGroup.text_lines gives rest, both_free free more)

  blank_group : (ps : GroupParts) → AreBlank ps → Passes ps
  blank_group Done blank = (ExecutesGroup.no_parts, refl)
  blank_group (TextLines rs ps) blank = run_passes rs ps (blank_gives context.profile s rs empty blank.0) (blank_group ps blank.1)
  blank_group (Control r ps) blank = absurd blank
  blank_group (Section r ps bs qs) blank = absurd blank

  pub guarded_group : (ps : GroupParts) (x : List ℕ)
      → AllByRecursion (IsSpelledLine context.profile) (part_lines ps)
      → AreGroupParts ps
      → GuardedParts ps x
      → is_macro_name s.macros x ≡ true
      → Passes ps
  guarded_group Done x all are g known = absurd g
  guarded_group (TextLines rs ps) x all are g known =
      run_passes rs ps (blank_gives context.profile s rs empty g.0)
      (guarded_group ps x (following (IsSpelledLine context.profile) rs (part_lines ps) all) are.3 g.1 known)
  guarded_group (Control r ps) x all are g known = absurd g
  guarded_group (Section r ps (End e) qs) x all are g known =
      let skips = guard_line (search_of context) row s context.profile r x all.0 are.0 g.0 known in
      let rest = blank_group qs g.1 in
      (ExecutesGroup.skipped skips.0 ExecutesBranches.no_branch_taken rest.0, both_free skips.1 (both_free refl rest.1))
  guarded_group (Section r ps (Branch e ps' bs) qs) x all are g known = absurd g

pub guards_leave_out : GuardsLeaveOut
guards_leave_out context depth row how at s bytes lines x fits is reads (parts, tree, guarded) known some new empty =
    let spelled : AllByRecursion (IsSpelledLine context.profile) (part_lines parts) =
    subst (AllByRecursion (IsSpelledLine context.profile)) (sym tree.whole) (source_spelled context.profile row bytes lines reads) in
    let inside = guarded_group context depth row (entering at (with_one_spent s) row how) empty parts x spelled tree.each guarded known in
    let Opens : Option Fault → Type 0 =
    λ f. (d : OpensFile context depth at s row how (leaving s how (record { state = entering at (with_one_spent s) row how; fault = f }))) × (count_opening d ≡ 1) in
    subst Opens (ap fault_at_end empty) (OpensFile.read fits some new is reads tree inside.0, ap suc inside.1)

-- ---- files that are skipped

parts_guard : (ps : GroupParts) (x y : List ℕ) → GuardedParts ps x → GuardedParts ps y → x ≡ y
parts_guard Done x y g h = absurd g
parts_guard (TextLines rs ps) x y g h = parts_guard ps x y g.1 h.1
parts_guard (Control r ps) x y g h = absurd g
parts_guard (Section r ps (End e) qs) x y g h = let a : Some x ≡ Some y = sym g.0 ∙ h.0 in cc
parts_guard (Section r ps (Branch e ps' bs) qs) x y g h = absurd g

-- lines have at most one guard
pub one_guard : (lines : List LogicalLine) (x y : List ℕ) → GuardedBy lines x → GuardedBy lines y → x ≡ y
one_guard lines x y (parts, tree, guarded) (parts', tree', guarded') =
    parts_guard parts x y guarded (subst (λ (z : GroupParts). GuardedParts z y) (at_most_one lines parts' parts tree' tree) guarded')

pub opens_left_out : (context : Context) (depth row : ℕ) (how : Opening) (at : Place) (s a : State) (content : Content) (lines : List LogicalLine)
    → depth ≤ depth_limit
    → is_exhausted s.meter ≡ false
    → has_row row s.once ≡ false
    → file_at context.files row ≡ Some content
    → IsRead context.profile row content (Ok lines)
    → a ≡ with_dependency (with_one_spent s) row
    → s.waiting ≡ []
    → IsLeftOut a lines
    → OpensFile context depth at s row how (leaving a how (running (begun at a row how)))
opens_left_out context depth row how at s a unreadable lines fits some new known reads is empty left_out = absurd reads
opens_left_out context depth row how at s a (readable bytes) lines fits some new known reads is empty (x, guarded, defined) =
    subst (λ (z : State). OpensFile context depth at s row how (leaving z how (running (begun at z row how)))) (sym is)
    (guards_leave_out context depth row how at s bytes lines x fits known reads guarded
    (subst (λ (z : State). is_macro_name z.macros x ≡ true) is defined) some new empty).0

pub left_out_by : (s : State) (lines : List LogicalLine) (name : List ℕ) (b : Bool) → GuardedBy lines name → b ≡ is_macro_name s.macros name → IsTrue b ↔ IsLeftOut s lines
left_out_by s lines name b guarded is = (λ e. (name, guarded, sym is ∙ e), λ l. is ∙ ap (λ (z : List ℕ). is_macro_name s.macros z) (one_guard lines name l.0 guarded l.1) ∙ l.2)

pub none_left_out : (s : State) (lines : List LogicalLine) → ((x : List ℕ) → ¬ GuardedBy lines x) → IsTrue false ↔ IsLeftOut s lines
none_left_out s lines none = (λ e. absurd (false≢true e), λ l. absurd (none l.0 l.1))
