-- A walk over the lines of a file and of all files that it includes, with a stack of suspended files.
use Rattle.std.proofs.Common.{◌≡◌, ◌∙◌, ℕ, suc, ◌+◌, ◌≤◌, List, [], ◌∷◌, length, Option, None, Some, Err, refl, sym, ap, subst, arith}
use Rattle.pptext.specs.declared.tokens.Fault.{Fault}
use Rattle.pptext.specs.Lines.{LogicalLine}
use Rattle.pptext.specs.Tree.{GroupParts, Tree}
use Rattle.ppshelf.specs.Files.{Files, Extends}
use Rattle.ppunit.specs.code.Opening.{OpenFile, Entered}
use Rattle.ppunit.specs.Directives.{fault_at_end, at_end}
use Rattle.ppunit.specs.Group.{ExecutesGroup, ExecutesControlLine}
use Rattle.ppunit.specs.States.{State, in_file_context, resumed, Context, Progress, running, stopped}
use Rattle.ppunit.specs.code.Walk.{line_at, EnclosingSections, HasPartsAt, Ends, Advances, Passes, EntersFile, StepsTo, SuspendedFile, EndsAt, Walks, restored, next_file, next_suspended, contexts_restored}
use Rattle.ppunit.proofs.FileWalk.{FileSoFar, file_start, file_more, file_stop, file_done, extends_trans, ends_stop}
use Rattle.ppunit.proofs.KeptItems.{resumed_stopped}

-- the rest of a file: its parts, and the if-sections around them
abbrev pub Rest : Type 0
Rest = GroupParts × EnclosingSections

-- each suspended file is at the line after its include line
abbrev pub Waits : List SuspendedFile → List Rest → Type 0
Waits [] [] = Unit {0}
Waits (w ∷ ws) ((ps, k) ∷ rests) = HasPartsAt w.file.lines w.file.index ps k × Waits ws rests
Waits ws rests = ⊥

-- the include depth of the current file, within files that are suspended
abbrev pub depth_of : ℕ → List SuspendedFile → ℕ
depth_of base [] = base
depth_of base (w ∷ ws) = suc (depth_of base ws)

depth_is : (base : ℕ) (ws : List SuspendedFile) → length ws + base ≡ depth_of base ws
depth_is base [] = omega arith
depth_is base (w ∷ ws) = omega (arith, depth_is base ws)

module _ (base : ℕ) where
  -- The goal of the current file, whose lines end in m: all that the last suspended file reaches from the file's end, in its own
  -- context, meets the goal of that file. Without suspended files, the goal is `whole`.
  abbrev pub Owes : (Files → Context) → (Files → Progress → Type 0) → List SuspendedFile → List Rest → Files → Progress → Type 0
  Owes context whole (w ∷ ws) ((ps, k) ∷ rests) more m = (end : Progress) → Ends (context more) (depth_of base ws) w.file.row (restored w.file_context w.resumption (at_end m)) ps k end → Owes context whole ws rests more end
  Owes context whole ws rests more m = whole more m

  -- the walk has reached the current line of `file` in state t, and the files `ws` are suspended
  pub record StackAt (context : Files → Context) (files : Files) (whole : Files → Progress → Type 0) (ws : List SuspendedFile) (file : OpenFile) (t : State) : Type 0 where
    pub rests : List Rest
    pub waits : Waits ws rests
    pub file_so_far : FileSoFar context files (Owes context whole ws rests) (depth_of base ws) file.row file.lines file.index t

  -- the walk has come this far, for each tree of the first file
  pub record StackSoFar (context : Files → Context) (files : Files) (row : ℕ) (lines : List LogicalLine) (s : State) (ws : List SuspendedFile) (file : OpenFile) (t : State) : Type 0 where
    pub so_far : (parts : GroupParts) → Tree lines parts → StackAt context files (λ more m. ExecutesGroup (context more) base row (running s) parts m) ws file t

  pub stack_start : (context : Files → Context) (files : Files) (s : State) (file : OpenFile) → file.index ≡ 0 → StackSoFar context files file.row file.lines s [] file s
  stack_start context files s file begins = record {
    so_far = λ parts tree. record {
      rests = [];
      waits = tt;
      file_so_far = file_start context files (λ more m. ExecutesGroup (context more) base file.row (running s) parts m) base file.row file.lines file.index s parts begins tree (λ more grows end group. group);
    };
  }

  enters_at : (context : Files → Context) (old new : Files) (whole : Files → Progress → Type 0) (next : ℕ) (t u : State) (ws : List SuspendedFile)
      (file : OpenFile) (e : Entered)
      → StackAt context old whole ws file t
      → Extends new old
      → Passes (depth_of base ws) file.row file.lines file.index t next
      → EntersFile context new (suc (depth_of base ws)) (λ more m. ExecutesControlLine (context more) (depth_of base ws) file.row t (line_at file.lines file.index) m) u e
      → StackAt context new whole (record { file = record file { index = next }; file_context = e.outer; resumption = e.resumption } ∷ ws) e.file u
  enters_at context old new whole next t u ws file e at wider passes takes_branch =
      let f = at.file_so_far in
      let g = passes f.parts f.outer f.stands in
      record {
        rests = (g.0, g.1) ∷ at.rests;
        waits = (g.2, at.waits);
        file_so_far =
            file_start context new (Owes context whole (record { file = record file { index = next }; file_context = e.outer; resumption = e.resumption } ∷ ws) ((g.0, g.1) ∷ at.rests))
            (suc (depth_of base ws)) e.file.row e.file.lines e.file.index u takes_branch.parts takes_branch.begins takes_branch.tree
            (λ more grows m group end rest. f.ends more (extends_trans more new old grows wider) end
            (g.3 (context more) (restored e.outer e.resumption (at_end m)) end (takes_branch.group more grows m group) rest));
      }

  next_at : (context : Files → Context) (old new : Files) (whole : Files → Progress → Type 0) (next : ℕ) (t u : State) (ws : List SuspendedFile)
      (file : OpenFile) (entered : Option Entered)
      → StackAt context old whole ws file t
      → Extends new old
      → StepsTo context new (depth_of base ws) file.row file.lines file.index t u next entered
      → StackAt context new whole (next_suspended (record file { index = next }) entered ws) (next_file (record file { index = next }) entered) u
  next_at context old new whole next t u ws file None at wider step = record {
    rests = at.rests;
    waits = at.waits;
    file_so_far = file_more context old new (Owes context whole ws at.rests) (depth_of base ws) file.row file.lines file.index next t u at.file_so_far wider step;
  }
  next_at context old new whole next t u ws file (Some e) at wider step = enters_at context old new whole next t u ws file e at wider step.0 step.1

  pub stack_next : (context : Files → Context) (old new : Files) (row : ℕ) (lines : List LogicalLine) (s t u : State) (ws : List SuspendedFile)
      (file : OpenFile) (next : ℕ) (entered : Option Entered)
      → StackSoFar context old row lines s ws file t
      → Extends new old
      → StepsTo context new (length ws + base) file.row file.lines file.index t u next entered
      → StackSoFar context new row lines s (next_suspended (record file { index = next }) entered ws) (next_file (record file { index = next }) entered) u
  stack_next context old new row lines s t u ws file next entered sofar wider step = record {
    so_far = λ parts tree. next_at context old new (λ more m. ExecutesGroup (context more) base row (running s) parts m) next t u ws file entered (sofar.so_far parts tree) wider
        (subst (λ (z : ℕ). StepsTo context new z file.row file.lines file.index t u next entered) (depth_is base ws) step);
  }

  -- At most 200 files are suspended.
  pub next_depth : (context : Files → Context) (files : Files) (row : ℕ) (lines : List LogicalLine) (index next : ℕ) (s t : State)
      (ws : List SuspendedFile) (file : OpenFile) (entered : Option Entered)
      → length ws + base ≤ 200
      → StepsTo context files (length ws + base) row lines index s t next entered
      → length (next_suspended file entered ws) + base ≤ 200
  next_depth context files row lines index next s t ws file None deep step = deep
  next_depth context files row lines index next s t ws file (Some e) deep step = omega (arith, step.1.fits)

  -- without tokens that wait, the end of a file changes nothing
  at_end_of : (t : State) → fault_at_end t.waiting ≡ None → at_end (running t) ≡ running t
  at_end_of t none = ap (λ (f : Option Fault). record { state = t; fault = f }) none

  leaves_at : (context : Files → Context) (files : Files) (whole : Files → Progress → Type 0) (w : SuspendedFile) (ws : List SuspendedFile) (file : OpenFile)
      (t u : State) (rests : List Rest)
      → Waits (w ∷ ws) rests
      → FileSoFar context files (Owes context whole (w ∷ ws) rests) (suc (depth_of base ws)) file.row file.lines file.index t
      → length file.lines ≤ file.index
      → fault_at_end t.waiting ≡ None
      → running u ≡ resumed w.resumption (running (in_file_context w.file_context t))
      → StackAt context files whole ws w.file u
  leaves_at context files whole w ws file t u [] waits sofar over none goes_on = absurd waits
  leaves_at context files whole w ws file t u ((ps, k) ∷ rests) waits sofar over none goes_on = record {
    rests = rests;
    waits = waits.1;
    file_so_far =
        record {
          parts = ps;
          outer = k;
          stands = waits.0;
          ends = λ more grows end rest. file_done context files
              (Owes context whole (w ∷ ws) ((ps, k) ∷ rests)) (suc (depth_of base ws)) file.row file.lines file.index t sofar over more grows end
              (subst (λ (z : Progress). Ends (context more) (depth_of base ws) w.file.row z ps k end)
              (goes_on ∙ ap (restored w.file_context w.resumption) (sym (at_end_of t none))) rest);
        };
  }

  pub stack_leaves : (context : Files → Context) (files : Files) (row : ℕ) (lines : List LogicalLine) (s t u : State) (w : SuspendedFile)
      (ws : List SuspendedFile) (file : OpenFile)
      → StackSoFar context files row lines s (w ∷ ws) file t
      → length file.lines ≤ file.index
      → fault_at_end t.waiting ≡ None
      → running u ≡ resumed w.resumption (running (in_file_context w.file_context t))
      → StackSoFar context files row lines s ws w.file u
  stack_leaves context files row lines s t u w ws file sofar over none goes_on = record {
    so_far = λ parts tree.
        let f = sofar.so_far parts tree in
        leaves_at context files (λ more m. ExecutesGroup (context more) base row (running s) parts m) w ws file t u f.rests f.waits f.file_so_far over none goes_on;
  }

  -- the lines of the current file end in m, and the file's end has a fault: each suspended file stops
  stops_at : (context : Files → Context) (whole : Files → Progress → Type 0) (more : Files) (t : State) (fault : Fault) (m : Progress) (ws : List SuspendedFile)
      (rests : List Rest)
      → at_end m ≡ stopped t fault
      → Waits ws rests
      → Owes context whole ws rests more m
      → EndsAt whole more (stopped (contexts_restored ws t) fault)
  stops_at context whole more t fault m [] rests is waits owes = (m, owes, sym is)
  stops_at context whole more t fault m (w ∷ ws) [] is waits owes = absurd waits
  stops_at context whole more t fault m (w ∷ ws) ((ps, k) ∷ rests) is waits owes =
      let u = in_file_context w.file_context t in
      let stays = subst (λ (z : Progress). Ends (context more) (depth_of base ws) w.file.row z ps k (stopped u fault)) (sym (resumed_stopped w.resumption u fault))
      (ends_stop (context more) (depth_of base ws) w.file.row (stopped u fault) u fault ps k ExecutesGroup.already_stopped) in
      stops_at context whole more u fault (stopped u fault) ws rests refl waits.1 (owes (stopped u fault)
      (subst (λ (z : Progress). Ends (context more) (depth_of base ws) w.file.row (restored w.file_context w.resumption z) ps k (stopped u fault)) (sym is) stays))

  pub stack_stops : (context : Files → Context) (old new : Files) (row : ℕ) (lines : List LogicalLine) (s t u : State) (fault : Fault)
      (ws : List SuspendedFile) (file : OpenFile)
      → StackSoFar context old row lines s ws file t
      → Extends new old
      → Advances context new (length ws + base) file.row file.lines file.index t u (Err fault)
      → Walks context new base row lines s (stopped (contexts_restored ws u) fault)
  stack_stops context old new row lines s t u fault ws file sofar wider step parts tree more grows =
      let f = sofar.so_far parts tree in
      let whole : Files → Progress → Type 0 = λ more m. ExecutesGroup (context more) base row (running s) parts m in
      stops_at context whole more u fault (stopped u fault) ws f.rests refl f.waits
      (file_stop context old new (Owes context whole ws f.rests) (depth_of base ws) file.row file.lines file.index t u fault f.file_so_far wider
      (subst (λ (z : ℕ). Advances context new z file.row file.lines file.index t u (Err fault)) (depth_is base ws) step) more grows)

  -- a file ends, and an invocation still waits
  pub stack_refused : (context : Files → Context) (files : Files) (row : ℕ) (lines : List LogicalLine) (s t : State) (fault : Fault) (ws : List SuspendedFile)
      (file : OpenFile)
      → StackSoFar context files row lines s ws file t
      → length file.lines ≤ file.index
      → Some fault ≡ fault_at_end t.waiting
      → Walks context files base row lines s (stopped (contexts_restored ws t) fault)
  stack_refused context files row lines s t fault ws file sofar over waits parts tree more grows =
      let f = sofar.so_far parts tree in
      let whole : Files → Progress → Type 0 = λ more m. ExecutesGroup (context more) base row (running s) parts m in
      stops_at context whole more t fault (running t) ws f.rests (ap (λ (g : Option Fault). record { state = t; fault = g }) (sym waits)) f.waits
      (file_done context files (Owes context whole ws f.rests) (depth_of base ws) file.row file.lines file.index t f.file_so_far over more grows)

  pub stack_done : (context : Files → Context) (files : Files) (row : ℕ) (lines : List LogicalLine) (s t : State) (file : OpenFile)
      → StackSoFar context files row lines s [] file t
      → length file.lines ≤ file.index
      → fault_at_end t.waiting ≡ None
      → Walks context files base row lines s (running t)
  stack_done context files row lines s t file sofar over none parts tree more grows =
      let f = sofar.so_far parts tree in
      let whole : Files → Progress → Type 0 = λ more m. ExecutesGroup (context more) base row (running s) parts m in
      (running t, file_done context files (Owes context whole [] f.rests) base file.row file.lines file.index t f.file_so_far over more grows, sym (at_end_of t none))
