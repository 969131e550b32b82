-- A run, from the bytes of a reader to the bytes of a writer.
use Rattle.std.specs.Prelude.{◌≡◌, ℕ, ◌≤◌, ◌||◌, Bool, true, false, List, [], ◌∷◌, length, take, Option, Some, None}
use Rattle.std.specs.Option.{is_some}
use Rattle.std.specs.Io.KnownBytes.{Appends, Consumes, IsAtEnd}
use Rattle.ppshelf.specs.Content.{Content}
use Rattle.ppshelf.specs.Files.{Files}
use Rattle.ppunit.specs.Units.{AreUnits}
use Rattle.ppunit.specs.declared.units.UnitOut.{UnitOut}
use Rattle.ppserve.specs.CompilationList.{CompilationList}
use Rattle.ppserve.specs.declared.list.ListFault.{ListFault}
use Rattle.ppserve.specs.declared.list.ListFault.TheVariants as list_fault
use Rattle.ppserve.specs.declared.output.Mode.{Mode}
use Rattle.ppserve.specs.declared.serving.RunFault.{RunFault}
use Rattle.ppserve.specs.declared.serving.RunFault.TheVariants as run_fault
use Rattle.ppserve.specs.Contents.{AreInList, ArePermitted}
use Rattle.ppserve.specs.Listing.{max_input, verdict_of, accepted, refused}
use Rattle.ppserve.specs.Output.{output_text}

-- some unit has a fault
abbrev pub any_fault : List UnitOut → Bool
any_fault [] = false
any_fault (out ∷ outs) = is_some out.fault || any_fault outs

-- A stream before and after a run: the bytes that a reader still has, or that a writer was given, if they are known.
pub record Stream : Type 0 where
  pub before : Option (List ℕ)
  pub after : Option (List ℕ)

-- These bytes were read. They are all that the reader had, unless they are too many for a list.
pub record Received (input : Stream) (bytes : List ℕ) : Type 0 where
  pub consumed : Consumes input.before input.after bytes
  pub whole : length bytes ≤ max_input → IsAtEnd input.after

-- a list was read, with its contents if `inline`
pub record ReadsList (inline : Bool) (input : Stream) (list : CompilationList) : Type 0 where
  pub bytes : List ℕ
  pub received : Received input bytes
  pub is_list : verdict_of inline bytes ≡ accepted list

-- The text is the output of a list in a mode, over some files that `Allowed` allows for the list; and `any` says whether
-- a unit has a fault.
pub record IsOutput (Allowed : CompilationList → Files → Type 0) (mode : Mode) (list : CompilationList) (any : Bool) (text : List ℕ) : Type 0 where
  pub files : Files
  pub allowed : Allowed list files
  pub outs : List UnitOut
  pub values : AreUnits list.names files list.setting list.units outs
  pub printed : text ≡ output_text mode list outs
  pub fault : any ≡ any_fault outs

-- a list was read, and its whole output over some allowed files was written
pub record Serves (inline : Bool) (Allowed : CompilationList → Files → Type 0) (mode : Mode) (input output : Stream) (any : Bool) : Type 0 where
  pub list : CompilationList
  pub reads : ReadsList inline input list
  pub text : List ℕ
  pub is_output : IsOutput Allowed mode list any text
  pub appends : Appends output.before output.after text

-- a list was read, and a prefix of its output over some allowed files was written
pub record ServesPrefix (inline : Bool) (Allowed : CompilationList → Files → Type 0) (mode : Mode) (input output : Stream) : Type 0 where
  pub list : CompilationList
  pub reads : ReadsList inline input list
  pub any : Bool
  pub text : List ℕ
  pub is_output : IsOutput Allowed mode list any text
  pub count : ℕ
  pub appends : Appends output.before output.after (take count text)

-- the bytes that were read are refused with this number
pub record Refuses (inline : Bool) (input : Stream) (number : ℕ) : Type 0 where
  pub bytes : List ℕ
  pub received : Received input bytes
  pub is_refused : verdict_of inline bytes ≡ refused number

-- The text is the whole output of a list in memory, which holds its files: that of a run whose reader has these bytes, and
-- whose writer is given the text alone.
abbrev pub ServesInMemory : Mode → List ℕ → Bool → List ℕ → Type 0
ServesInMemory mode bytes any text = Serves true AreInList mode (record { before = Some bytes; after = Some [] }) (record { before = Some []; after = Some text }) any

-- ---- with a disk or without one

-- Without a disk the list holds its files; with one it only names them.
abbrev pub holds_files : {D : Type 0} → Option D → Bool
holds_files None = true
holds_files (Some disk) = false

-- Without a disk the files are those of the list; with one, their contents are some that the disk may return.
abbrev pub allowed_files : {D : Type 0} → (List ℕ → Content → Type 0) → Option D → CompilationList → Files → Type 0
allowed_files may None = AreInList
allowed_files may (Some disk) = ArePermitted may

-- ---- faults and known bytes

-- the error of a run that can't read its list
abbrev pub run_fault_of : ListFault → RunFault
run_fault_of (list_fault.Bad number) = run_fault.List number
run_fault_of list_fault.Memory = run_fault.Memory

-- If all bytes of a reader are known, the bytes that were read have the same outcome as all of them.
abbrev pub KnownBytesDecide : Type 0
KnownBytesDecide =
    (inline : Bool) (known bytes : List ℕ) (after : Option (List ℕ))
    → Received (record { before = Some known; after = after }) bytes
    → verdict_of inline bytes ≡ verdict_of inline known
