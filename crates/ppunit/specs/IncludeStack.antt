-- The include stack of phase 4: the locations of the include lines of the files that were open where a unit stopped, from the
-- outermost to the innermost. It is read off the derivation of the unit's value, and mentions no item. The unit's own file, which
-- no file goes on after, stays open.
use Rattle.std.specs.Prelude.{ℕ, List, [], ◌∷◌, ◌++◌, Option, None, Some}
use Rattle.pptext.specs.declared.tokens.Place.{Place}
use Rattle.pptext.specs.declared.tokens.Fault.{Fault}
use Rattle.pptext.specs.Lines.{LogicalLine}
use Rattle.pptext.specs.Tree.{GroupParts, Branches}
use Rattle.ppshelf.specs.Files.{Files}
use Rattle.ppunit.specs.declared.units.Unit.{Unit as UnitOfList}
use Rattle.ppunit.specs.declared.units.Setting.{Setting}
use Rattle.ppunit.specs.declared.units.FirstFile.{FirstFile}
use Rattle.ppunit.specs.declared.units.UnitOut.{UnitOut}
use Rattle.ppunit.specs.States.{State, Context, Progress, Opening}
use Rattle.ppunit.specs.Directives.{at_end}
use Rattle.ppunit.specs.Group.{ExecutesGroup, ExecutesBranches, ExecutesControlLine, ExecutesInclude, OpensFile}
use Rattle.ppunit.specs.Unit.{Defines, unread, processed, OpensFirst, all_read, first_fault, first_read, Translates, definitions_fault, fault_before_main, translated, IsUnit}

-- a file is open if the unit stopped in it
abbrev pub open_in : Place → Option Fault → List Place → List Place
open_in at None inner = []
open_in at (Some f) inner = at ∷ inner

abbrev mutual
  pub stack_group : {context : Context} {depth row : ℕ} {r : Progress} {ps : GroupParts} {end : Progress} → ExecutesGroup context depth row r ps end → List Place
  stack_group ExecutesGroup.already_stopped = []
  stack_group ExecutesGroup.no_parts = []
  stack_group (ExecutesGroup.text_lines emits rest) = stack_group rest
  stack_group (ExecutesGroup.control here rest) = stack_control here ++ stack_group rest
  stack_group (ExecutesGroup.taken decides here rest) = stack_group here ++ stack_group rest
  stack_group (ExecutesGroup.skipped decides here rest) = stack_branches here ++ stack_group rest
  stack_group (ExecutesGroup.condition_fault decides) = []

  pub stack_branches : {context : Context} {depth row : ℕ} {s : State} {bs : Branches} {m : Progress} → ExecutesBranches context depth row s bs m → List Place
  stack_branches ExecutesBranches.no_branch_taken = []
  stack_branches (ExecutesBranches.else_group is here) = stack_group here
  stack_branches (ExecutesBranches.branch_taken is decides here) = stack_group here
  stack_branches (ExecutesBranches.branch_skipped is decides rest) = stack_branches rest
  stack_branches (ExecutesBranches.branch_condition_fault is decides) = []

  pub stack_control : {context : Context} {depth row : ℕ} {s : State} {line : LogicalLine} {m : Progress} → ExecutesControlLine context depth row s line m → List Place
  stack_control (ExecutesControlLine.error is) = []
  stack_control (ExecutesControlLine.ignored is) = []
  stack_control (ExecutesControlLine.quote_fault is q) = []
  stack_control (ExecutesControlLine.refused is q waits) = []
  stack_control (ExecutesControlLine.executed q free does) = []
  stack_control (ExecutesControlLine.include is q free here) = stack_includes here

  pub stack_includes : {context : Context} {depth row : ℕ} {previous_directory : Option ℕ} {s : State} {line : LogicalLine} {m : Progress}
      → ExecutesInclude context depth row previous_directory s line m
      → List Place
  stack_includes (ExecutesInclude.operand_fault names) = []
  stack_includes (ExecutesInclude.missing a names finds) = []
  stack_includes (ExecutesInclude.included a found names finds opens) = stack_opening opens

  pub stack_opening : {context : Context} {depth row : ℕ} {how : Opening} {at : Place} {s : State} {m : Progress} → OpensFile context depth at s row how m → List Place
  stack_opening (OpensFile.too_deep deep) = []
  stack_opening (OpensFile.exhausted fits spent) = []
  stack_opening (OpensFile.not_read_again fits more once) = []
  stack_opening (OpensFile.not_readable fits more once is) = []
  stack_opening (OpensFile.content_fault fits more once is reads) = []
  stack_opening {at = at} (OpensFile.read {m = m} fits more once is reads tree here) = open_in at (at_end m).fault (stack_group here)

abbrev pub stack_first : {context : Context} {main number : ℕ} {s : State} {files : List FirstFile} {m : Progress} → OpensFirst context main number s files m → List Place
stack_first all_read = []
stack_first (first_fault opens) = stack_opening opens
stack_first (first_read opens rest) = stack_first rest

abbrev pub stack_defines : {context : Context} {defines : List (List ℕ)} {s : State} {m : Progress} → Defines context defines s m → List Place
stack_defines (unread reads) = []
stack_defines (processed reads tree here) = stack_group here

abbrev pub stack_main : {context : Context} {depth row : ℕ} {how : Opening} {at : Place} {s : State} {m : Progress} → OpensFile context depth at s row how m → List Place
stack_main (OpensFile.too_deep deep) = []
stack_main (OpensFile.exhausted fits spent) = []
stack_main (OpensFile.not_read_again fits more once) = []
stack_main (OpensFile.not_readable fits more once is) = []
stack_main (OpensFile.content_fault fits more once is reads) = []
stack_main {at = at} (OpensFile.read fits more once is reads tree here) = at ∷ stack_group here

abbrev pub stack_translates : {context : Context} {unit : UnitOfList} {s : State} {m : Progress} → Translates context unit s m → List Place
stack_translates (definitions_fault here) = stack_defines here
stack_translates (fault_before_main here first) = stack_first first
stack_translates (translated here first opens) = stack_main opens

abbrev pub include_stack : {names : List (List ℕ)} {files : Files} {setting : Setting} {unit : UnitOfList} {out : UnitOut} → IsUnit names files setting unit out → List Place
include_stack p = stack_translates p.translates
