-- What a call from C gives back.
use Rattle.std.specs.Prelude.{◌≡◌, ◌==◌, ◌++◌, ℕ, Bool, List, length, drop, if◌then◌else◌, nat_le, Option, Some, None}
use Rattle.ppserve.specs.declared.output.Mode.{Mode}
use Rattle.ppserve.specs.declared.output.Mode.TheVariants.{Dump, Deps, Text, Faults}
use Rattle.ppserve.specs.Serving.{ServesInMemory}

-- the mode with this number
abbrev pub mode_numbered : ℕ → Option Mode
mode_numbered number =
    if number == 0 then Some Dump else (
    if number == 1 then Some Deps else (
    if number == 2 then Some Text else (
    if number == 3 then Some Faults else None)))

-- the status of a run of all units: whether one has a fault
abbrev pub status_of : Bool → ℕ
status_of any = if any then 1 else 0

-- a buffer after a text was written to its beginning, if it has room for the whole text; otherwise it is unchanged
abbrev pub filled : List ℕ → List ℕ → List ℕ
filled text old = if nat_le (length text) (length old) then text ++ drop (length text) old else old

-- The list was run in the mode with this number: the status says whether a unit has a fault, the length is that of the
-- whole output, and the buffer has the output if there is room for it.
pub record Prints (number : ℕ) (list : List ℕ) (status : ℕ) (old new : List ℕ) (count : ℕ) : Type 0 where
  pub mode : Mode
  pub is_mode : mode_numbered number ≡ Some mode
  pub any : Bool
  pub is_status : status ≡ status_of any
  pub text : List ℕ
  pub served : ServesInMemory mode list any text
  pub is_count : count ≡ length text
  pub is_filled : new ≡ filled text old
