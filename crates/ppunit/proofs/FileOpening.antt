-- The postconditions of the code imply the outcome of opening a file.
use Rattle.std.proofs.Common.{◌≡◌, ℕ, ◌≤◌, List, [], refl, sym, ap, ◌∙◌, subst, Bool, true, false, Option, None, Some, Ok, inl, inr}
use Rattle.pptext.specs.declared.tokens.Place.{Place}
use Rattle.pptext.specs.declared.tokens.Fault.{Fault}
use Rattle.pptext.specs.declared.sources.Profile.{Profile}
use Rattle.pptext.specs.Lines.{LogicalLine}
use Rattle.pptext.specs.Sources.{IsSource}
use Rattle.pptext.specs.Tree.{GroupParts, Tree, group_fault}
use Rattle.pptext.proofs.Trees.{a_tree}
use Rattle.ppexpand.specs.Budget.{is_exhausted}
use Rattle.ppshelf.specs.Content.{unreadable, readable}
use Rattle.ppshelf.specs.Names.{name_in}
use Rattle.ppshelf.specs.Files.{Files, Extends}
use Rattle.ppunit.specs.declared.states.FileContext.{FileContext}
use Rattle.ppunit.specs.States.{State, file_context, Progress, running, stopped, with_dependency, begun, with_one_spent, Context, Opening}
use Rattle.ppunit.specs.code.Contexts.{UnitContext, context_over}
use Rattle.ppunit.specs.Dependencies.{has_row}
use Rattle.ppunit.specs.Directives.{at_end}
use Rattle.ppunit.specs.Group.{depth_limit, ExecutesGroup, OpensFile}
use Rattle.ppunit.specs.code.Opening.{Entered, IsRefusedOpening, SpendsOpening, HasLines, HasFault, Begins}
use Rattle.ppunit.specs.code.Walk.{EntersFile, Leads, restored}
use Rattle.ppunit.proofs.GuardedFiles.{opens_left_out}

-- an opening that fails, because it is too deep or the budget is exhausted
pub opens_unpaid : (context : Context) (depth row : ℕ) (how : Opening) (at : Place) (s t : State) (f : Fault)
    → SpendsOpening depth at (name_in context.names row) s t (Some f)
    → OpensFile context depth at s row how (stopped t f)
opens_unpaid context depth row how at s t f unpaid =
    subst (λ (z : State). OpensFile context depth at s row how (stopped z f)) (sym unpaid.0) (by unpaid.1)
  where
    by : IsRefusedOpening depth at (name_in context.names row) s f → OpensFile context depth at s row how (stopped s f)
    by (inl (deep, is)) = subst (λ (z : Fault). OpensFile context depth at s row how (stopped s z)) (sym is) (OpensFile.too_deep deep)
    by (inr (fits, spent, is)) = subst (λ (z : Fault). OpensFile context depth at s row how (stopped s z)) (sym is) (OpensFile.exhausted fits spent)

-- a file that is not read again
pub opens_known : (context : Context) (depth row : ℕ) (how : Opening) (at : Place) (name : List ℕ) (s a t : State) (known : Bool)
    → SpendsOpening depth at name s a None
    → t ≡ with_dependency a row
    → known ≡ has_row row a.once
    → known ≡ true
    → OpensFile context depth at s row how (running t)
opens_known context depth row how at name s a t known (fits, some, pays) joins is true-is =
    let here = OpensFile.not_read_again {depth = depth} {row = row} {how = how} {at = at} {s = s} fits some
    (ap (λ (z : State). has_row row z.once) (sym pays) ∙ sym is ∙ true-is) in
    subst (λ (z : State). OpensFile context depth at s row how (running z)) (sym (joins ∙ ap (λ (z : State). with_dependency z row) pays)) here

-- the opening is spent from the budget, and the file, which is to be read, is a dependency
abbrev pub IsReady : ℕ → ℕ → State → State → Type 0
IsReady depth row s t = (depth ≤ depth_limit) × (is_exhausted s.meter ≡ false) × (has_row row s.once ≡ false) × (t ≡ with_dependency (with_one_spent s) row)

pub ready : (depth row : ℕ) (at : Place) (name : List ℕ) (s a t : State) (known : Bool)
    → SpendsOpening depth at name s a None
    → t ≡ with_dependency a row
    → known ≡ has_row row a.once
    → known ≡ false
    → IsReady depth row s t
ready depth row at name s a t known (fits, some, pays) joins is new =
    (fits, some, ap (λ (z : State). has_row row z.once) (sym pays) ∙ sym is ∙ new, joins ∙ ap (λ (z : State). with_dependency z row) pays)

-- a file that cannot be read, or whose lines have a fault
pub opens_faulty : (library : UnitContext) (files more : Files) (depth row : ℕ) (how : Opening) (at : Place) (s t : State) (f : Fault)
    → IsReady depth row s t
    → HasFault library.shelf files row at f
    → Extends more files
    → OpensFile (context_over library more) depth at s row how (stopped t f)
opens_faulty library files more depth row how at s t f (fits, some, new, is) fault grows =
    subst (λ (z : State). OpensFile (context_over library more) depth at s row how (stopped z f)) (sym is) (by fault)
  where
    by : HasFault library.shelf files row at f → OpensFile (context_over library more) depth at s row how (stopped (with_dependency (with_one_spent s) row) f)
    by (inl (known, probe_result)) =
        subst (λ (z : Fault). OpensFile (context_over library more) depth at s row how (stopped (with_dependency (with_one_spent s) row) z)) (sym probe_result)
        (OpensFile.not_readable fits some new (grows row unreadable known))
    by (inr (unreadable, known, reads)) = absurd reads
    by (inr (readable bytes, known, reads)) = OpensFile.content_fault fits some new (grows row (readable bytes) known) reads

tree_of : (profile : Profile) (row : ℕ) (bytes : List ℕ) (lines : List LogicalLine)
    → IsSource profile row bytes lines
    → (parts : GroupParts) × Tree lines parts
tree_of profile row bytes lines source = a_tree lines (ap (group_fault []) source.lines_are ∙ source.grouped)

-- a file that is skipped, or whose first line is next
pub opens_begun : (library : UnitContext) (files : Files) (depth row : ℕ) (how : Opening) (at : Place) (s t u : State) (lines : List LogicalLine)
    (entered : Option Entered)
    → IsReady depth row s t
    → HasLines library.shelf files row lines
    → Begins at row how lines t u entered
    → Leads (context_over library) files depth (λ more m. OpensFile (context_over library more) depth at s row how m) u (Ok entered)
opens_begun library files depth row how at s t u lines None (fits, some, new, is) (content, known, reads) (none, remaining, same) =
    λ more grows. subst (λ (z : Progress). OpensFile (context_over library more) depth at s row how z) (sym same)
    (opens_left_out (context_over library more) depth row how at s t content lines fits some new (grows row content known) reads is
    (ap (λ (z : State). z.waiting) (sym is) ∙ none) remaining)
opens_begun library files depth row how at s t u lines (Some e) noted (unreadable, known, reads) begins = absurd reads
opens_begun library files depth row how at s t u lines (Some e) (fits, some, new, is) (readable bytes, known, reads) (file, few, enters) =
    let tree = tree_of library.shelf.profile row bytes lines reads in
    let whole : Files → Progress → Type 0 = λ more m. OpensFile (context_over library more) depth at s row how m in
    subst (λ (z : Entered). EntersFile (context_over library) files depth whole u z) (sym file) (record {
      fits = fits;
      begins = refl;
      few = few;
      parts = tree.0;
      tree = tree.1;
      group = λ more grows m group.
          let inside = subst (λ (z : State). ExecutesGroup (context_over library more) depth row (running z) tree.0 m)
          (enters ∙ ap (λ (z : State). begun at z row how) is) group in
          subst (λ (z : FileContext). OpensFile (context_over library more) depth at s row how (restored z how.resumption (at_end m))) (sym (ap file_context is))
          (OpensFile.read fits some new (grows row (readable bytes) known) reads tree.1 inside);
    })
