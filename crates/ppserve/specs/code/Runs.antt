-- What the parts of a run promise: its workers, its printing, and both together.
use Rattle.std.specs.Prelude.{◌≡◌, ◌≢◌, ◌⊎◌, ℕ, Bool, true, List, [], length, take, Option, Result, IfOk, IfErr, IsErrOf}
use Rattle.std.specs.Io.KnownBytes.{Appends}
use Rattle.ppshelf.specs.Content.{Content}
use Rattle.ppshelf.specs.Files.{Files, ShelfView, Agree, AllPermitted}
use Rattle.ppunit.specs.declared.units.Setting.{Setting}
use Rattle.ppunit.specs.declared.units.Unit.{Unit as UnitOfList}
use Rattle.ppunit.specs.declared.units.UnitOut.{UnitOut}
use Rattle.pppool.specs.declared.retention.Retain.{Retain}
use Rattle.pppool.specs.Retained.{AreRetained}
use Rattle.ppserve.specs.CompilationList.{CompilationList}
use Rattle.ppserve.specs.declared.output.Output.{Output}
use Rattle.ppserve.specs.declared.serving.RunFault.{RunFault}
use Rattle.ppserve.specs.declared.serving.RunFault.TheVariants.{Memory as OutOfMemory, Write as WriteFailed}
use Rattle.ppserve.specs.Serving.{any_fault}
use Rattle.ppserve.specs.code.Records.{output_bytes}

-- ---- the files of a run

-- the files may be those that a run over a file table observes: they agree with what the table holds, and each content
-- is one that the disk may return
pub record AreObserved (may : List ℕ → Content → Type 0) (shelf : ShelfView) (files : Files) : Type 0 where
  pub rows : length files ≡ length shelf.names
  pub agree : Agree shelf.filled files
  pub contents_permitted : AllPermitted may shelf.names files

-- the retained parts of the units' values over some files that a run observes
pub record AreRetainedOverSome (may : List ℕ → Content → Type 0) (retain : Retain) (shelf : ShelfView) (setting : Setting)
    (units : List UnitOfList) (outs : List UnitOut) : Type 0 where
  pub files : Files
  pub observed : AreObserved may shelf files
  pub retained : AreRetained retain shelf.names files setting units outs

-- the list of these units, with the names of a file table and without contents
abbrev pub list_over : ShelfView → Setting → List UnitOfList → CompilationList
list_over shelf setting units = record { setting = setting; names = shelf.names; contents = []; units = units }

-- the files are some that a run over this file table observes, for a list with its names
abbrev pub AreObservedFor : (List ℕ → Content → Type 0) → ShelfView → CompilationList → Files → Type 0
AreObservedFor may shelf list files = AreObserved may shelf files

-- ---- what is written

-- the text is the output of these units, and `any` says whether one has a fault
pub record IsOutputOf (output : Output) (any : Bool) (text : List ℕ) : Type 0 where
  pub printed : text ≡ output_bytes output
  pub fault : any ≡ any_fault output.outs.now

-- a text of which P holds was written, whole
pub record WritesSome (P : List ℕ → Type 0) (before after : Option (List ℕ)) : Type 0 where
  pub text : List ℕ
  pub is_so : P text
  pub appends : Appends before after text

-- a prefix of a text of which P holds was written
pub record WritesPrefixOfSome (P : Bool → List ℕ → Type 0) (before after : Option (List ℕ)) : Type 0 where
  pub any : Bool
  pub text : List ℕ
  pub is_so : P any text
  pub count : ℕ
  pub appends : Appends before after (take count text)

-- What each part of a run that writes promises, where P says what its output is, with whether a unit has a fault: a run
-- that succeeds has written it all; one whose writer fails, a prefix; one without memory, nothing.
pub record Delivers {V : Type 0} (written : V → Option (List ℕ)) (has_failed : V → Bool) (P : Bool → List ℕ → Type 0)
    (old new : V) (result : Result Bool RunFault) : Type 0 where
  pub ok : IfOk result (λ any. WritesSome (P any) (written old) (written new))
  pub kinds : IfErr result (λ fault. (fault ≡ OutOfMemory) ⊎ (fault ≡ WriteFailed))
  pub write : IsErrOf result WriteFailed → has_failed new ≡ true
  pub prefix : IsErrOf result WriteFailed → WritesPrefixOfSome P (written old) (written new)
  pub untouched : IfErr result (λ fault. fault ≢ WriteFailed → new ≡ old)
