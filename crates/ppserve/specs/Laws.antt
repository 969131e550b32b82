-- Theorems about runs: which refusal a list has, and what the output of a run depends on.
use Rattle.std.specs.Prelude.{◌≡◌, ◌↔◌, ℕ, ◌<◌, ◌≤◌, Bool, true, false, List, length, Option, Some, None}
use Rattle.serde_json.specs.Data.{Data}
use Rattle.ppshelf.specs.Files.{Files, Agree}
use Rattle.ppserve.specs.Contents.{AreInList}
use Rattle.ppserve.specs.Drafts.{Draft}
use Rattle.ppserve.specs.Listing.{json_value, max_input, names_of, names_hold, sizes_hold, are_known, times_hold, lines_hold, directories_hold}
use Rattle.ppserve.specs.Listing.{profile_holds, budget_holds, shown_hold, listed, verdict_of, accepted, refused}
use Rattle.ppserve.specs.Serving.{Stream, Serves, IsOutput}
use Rattle.ppserve.specs.Shape.{IsDraft}
use Rattle.ppserve.specs.CompilationList.{CompilationList}
use Rattle.ppserve.specs.declared.output.Mode.{Mode}

-- ---- refusals

-- the bytes hold a JSON value that has the members of a list, with this draft
pub record HoldsDraft (inline : Bool) (bytes : List ℕ) (x : Draft) : Type 0 where
  pub value : Data
  pub is_json : json_value bytes ≡ Some value
  pub is_shaped : IsDraft inline value x

-- The refusal with this number applies to the bytes. From 3 on the bytes must have a draft.
pub data Applies (inline : Bool) (bytes : List ℕ) : ℕ → Type 0 where
  too_long : max_input < length bytes → Applies inline bytes 1
  no_json : json_value bytes ≡ None → Applies inline bytes 1
  no_shape : {value : Data}
      → json_value bytes ≡ Some value
      → ((x : Draft) → ¬ IsDraft inline value x)
      → Applies inline bytes 2
  wrong_names : {x : Draft} → HoldsDraft inline bytes x → names_hold x.files ≡ false → Applies inline bytes 3
  wrong_sizes : {x : Draft} → HoldsDraft inline bytes x → sizes_hold x ≡ false → Applies inline bytes 4
  unknown_file : {x : Draft} → HoldsDraft inline bytes x → are_known (names_of x.files) x.units ≡ false → Applies inline bytes 5
  wrong_times : {x : Draft} → HoldsDraft inline bytes x → times_hold x.setting ≡ false → Applies inline bytes 6
  wrong_lines : {x : Draft} → HoldsDraft inline bytes x → lines_hold x.units ≡ false → Applies inline bytes 7
  wrong_directories : {x : Draft} → HoldsDraft inline bytes x → directories_hold x ≡ false → Applies inline bytes 8
  wrong_profile : {x : Draft} → HoldsDraft inline bytes x → profile_holds x.setting ≡ false → Applies inline bytes 9
  wrong_budget : {x : Draft} → HoldsDraft inline bytes x → budget_holds x.setting ≡ false → Applies inline bytes 10
  wrong_shown : {x : Draft} → HoldsDraft inline bytes x → shown_hold x ≡ false → Applies inline bytes 11

-- P holds of this number, and of no smaller one
pub record IsLeast (P : ℕ → Type 0) (number : ℕ) : Type 0 where
  pub is_so : P number
  pub least : (other : ℕ) → P other → number ≤ other

-- no refusal applies to the bytes, and the list is the one that they hold
pub record IsAccepted (inline : Bool) (bytes : List ℕ) (list : CompilationList) : Type 0 where
  pub draft : Draft
  pub holds : HoldsDraft inline bytes draft
  pub none : (number : ℕ) → ¬ Applies inline bytes number
  pub is_list : list ≡ listed inline draft

-- Bytes are refused with a number exactly if it is the least of those whose refusal applies.
abbrev pub RefusesByTheLeast : Type 0
RefusesByTheLeast =
    (inline : Bool) (bytes : List ℕ) (number : ℕ)
    → (verdict_of inline bytes ≡ refused number) ↔ IsLeast (Applies inline bytes) number

-- Bytes are accepted as a list exactly if no refusal applies.
abbrev pub AcceptsTheRest : Type 0
AcceptsTheRest =
    (inline : Bool) (bytes : List ℕ) (list : CompilationList)
    → (verdict_of inline bytes ≡ accepted list) ↔ IsAccepted inline bytes list

-- ---- what is printed

-- a stream whose bytes are known before a run
abbrev pub from : List ℕ → Option (List ℕ) → Stream
from known after = record { before = Some known; after = after }

-- Two runs over allowed files, whose readers hold the same bytes and whose files agree, have the same output and the same
-- result.
abbrev pub OneOutput : (CompilationList → Files → Type 0) → Type 0
OneOutput Allowed =
    (inline : Bool) (mode : Mode) (known written : List ℕ) (left right : Option (List ℕ)) (one two : List ℕ) (any other : Bool)
    → (a : Serves inline Allowed mode (from known left) (from written (Some one)) any)
    → (b : Serves inline Allowed mode (from known right) (from written (Some two)) other)
    → Agree a.is_output.files b.is_output.files
    → (one ≡ two) × (any ≡ other)

-- Two runs whose readers hold the same bytes, and whose lists hold their files, have the same output and the same
-- result.
abbrev pub OneOutputOfContents : Type 0
OneOutputOfContents =
    (mode : Mode) (known written : List ℕ) (left right : Option (List ℕ)) (one two : List ℕ) (any other : Bool)
    → Serves true AreInList mode (from known left) (from written (Some one)) any
    → Serves true AreInList mode (from known right) (from written (Some two)) other
    → (one ≡ two) × (any ≡ other)

-- a text that is an output of the list over allowed files, with whether a unit has a fault
pub record HasOutput (Allowed : CompilationList → Files → Type 0) (mode : Mode) (list : CompilationList) : Type 0 where
  pub any : Bool
  pub text : List ℕ
  pub is_output : IsOutput Allowed mode list any text

-- A list that is accepted with its contents has an output in each mode.
abbrev pub SomeOutput : Type 0
SomeOutput =
    (mode : Mode) (bytes : List ℕ) (list : CompilationList)
    → verdict_of true bytes ≡ accepted list
    → HasOutput AreInList mode list
