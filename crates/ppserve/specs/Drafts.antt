-- Drafts: a list as it is written in JSON, before it is validated.
use Rattle.std.specs.Prelude.{ℕ, Bool, List, Option}

-- a file, with its content if the list holds contents
pub record DraftFile : Type 0 where
  pub name : List ℕ
  pub content : List ℕ

-- a directory that is searched, or a file that is read first: its name, its shown name if it has one, and whether it has or is
-- a system header
pub record DraftPath : Type 0 where
  pub name : List ℕ
  pub shown : Option (List ℕ)
  pub system : Bool

-- a unit, with the name of its file
pub record DraftUnit : Type 0 where
  pub file : List ℕ
  pub shown : Option (List ℕ)
  pub defines : List (List ℕ)
  pub first : List DraftPath
  pub search : List DraftPath

-- the budget: missing, an unsigned integer of 64 bits, or another number
pub data DraftBudget : Type 0 where
  Missing : DraftBudget
  Integer : ℕ → DraftBudget
  Other : DraftBudget

-- what all units share, with the name of the profile
pub record DraftSetting : Type 0 where
  pub profile : List ℕ
  pub budget : DraftBudget
  pub date : List ℕ
  pub time : List ℕ
  pub search : List DraftPath

pub record Draft : Type 0 where
  pub setting : DraftSetting
  pub files : List DraftFile
  pub units : List DraftUnit
