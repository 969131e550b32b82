-- Skipping a file whose include guard is defined (6.10.1).
use Rattle.std.specs.Prelude.{◌≡◌, ℕ, ◌≤◌, List, [], true, false, Some, Ok}
use Rattle.pptext.specs.declared.tokens.Place.{Place}
use Rattle.pptext.specs.Lines.{LogicalLine}
use Rattle.pptext.specs.Sources.{Reads}
use Rattle.pptext.specs.Guard.{GuardedBy}
use Rattle.ppexpand.specs.Budget.{is_exhausted}
use Rattle.ppshelf.specs.Names.{AreNames}
use Rattle.ppshelf.specs.Content.{readable}
use Rattle.ppshelf.specs.Files.{file_at}
use Rattle.ppunit.specs.States.{State, Context, Progress, Opening, running, entering, leaving, with_one_spent}
use Rattle.ppunit.specs.States.{is_macro_name}
use Rattle.ppunit.specs.Group.{depth_limit, OpensFile}
use Rattle.ppunit.specs.Dependencies.{has_row}
use Rattle.ppunit.specs.Counts.{count_opening}

-- the file is entered and left, and none of its lines has an effect
abbrev pub left_out : Place → State → ℕ → Opening → Progress
left_out at s row how = leaving s how (running (entering at (with_one_spent s) row how))

-- opening a file whose guard is defined adds a dependency, spends one of the budget, and emits the marks of its beginning and
-- its end, and does nothing else, if the budget isn't exhausted, the file may be read again and no invocation waits: where one
-- waits, an include line is refused, so no file is opened
abbrev pub GuardsLeaveOut : Type 0
GuardsLeaveOut =
    (context : Context) (depth row : ℕ) (how : Opening) (at : Place) (s : State) (bytes : List ℕ) (lines : List LogicalLine) (x : List ℕ)
    → depth ≤ depth_limit
    → file_at context.files row ≡ Some (readable bytes)
    → Reads context.profile row bytes (Ok lines)
    → GuardedBy lines x
    → is_macro_name s.macros x ≡ true
    → is_exhausted s.meter ≡ false
    → has_row row s.once ≡ false
    → s.waiting ≡ []
    → (d : OpensFile context depth at s row how (left_out at s row how)) × (count_opening d ≡ 1)

-- if file names are also distinct, opening such a file has no other outcome
abbrev pub GuardsOnlyLeaveOut : Type 0
GuardsOnlyLeaveOut =
    (context : Context) (depth row : ℕ) (how : Opening) (at : Place) (s : State) (bytes : List ℕ) (lines : List LogicalLine) (x : List ℕ)
    (end : Progress)
    → AreNames context.names
    → depth ≤ depth_limit
    → file_at context.files row ≡ Some (readable bytes)
    → Reads context.profile row bytes (Ok lines)
    → GuardedBy lines x
    → is_macro_name s.macros x ≡ true
    → is_exhausted s.meter ≡ false
    → has_row row s.once ≡ false
    → s.waiting ≡ []
    → OpensFile context depth at s row how end
    → end ≡ left_out at s row how
