-- Phase 4 of a group (6.10), by cases on group trees; an included file is a group tree one level deeper (6.10.2).
-- docs/FAULTS.md has the numbers of faults.
use Rattle.std.specs.Prelude.{◌≡◌, ◌≢◌, ℕ, suc, ◌<◌, ◌≤◌, List, [], Bool, true, false, if◌then◌else◌, Option, None, Some, Ok, Err}
use Rattle.pptext.specs.declared.tokens.Place.{Place}
use Rattle.pptext.specs.declared.tokens.Fault.{Fault}
use Rattle.pptext.specs.declared.sources.Directive.TheVariants.{Else}
use Rattle.pptext.specs.declared.directives.Class.TheVariants as class
use Rattle.pptext.specs.Classes.{class_by}
use Rattle.pptext.specs.Lines.{LogicalLine}
use Rattle.pptext.specs.Sources.{Reads}
use Rattle.pptext.specs.Tokens.{fault}
use Rattle.pptext.specs.Tree.{hash_place, GroupParts, Done, TextLines, Control, Section, Branches, End, Branch, Tree}
use Rattle.ppexpand.specs.declared.meter.Meter.{Meter}
use Rattle.ppexpand.specs.Budget.{is_exhausted}
use Rattle.ppshelf.specs.Content.{unreadable, readable}
use Rattle.ppshelf.specs.Files.{file_at}
use Rattle.ppshelf.specs.Names.{name_in}
use Rattle.ppunit.specs.Dependencies.{has_row}
use Rattle.ppunit.specs.States.{State, Context, search_of, Progress, running, stopped, with_dependency, Opening, entering, leaving, with_meter, with_one_spent}
use Rattle.ppunit.specs.DirectiveLines.{operands, line_fault, text_tokens}
use Rattle.ppunit.specs.Quotes.{unmatched_quote}
use Rattle.ppunit.specs.Conditions.{Decides}
use Rattle.ppunit.specs.Including.{IncludeName}
use Rattle.ppunit.specs.ShownNames.{opening_of}
use Rattle.ppunit.specs.Directives.{EmitsText, refusal, at_end, ExecutesDirective, NamesHeader, FindsFile, message, checks_quotes}

-- the largest include depth (5.2.4.1 requires at least 15)
abbrev pub depth_limit : ℕ
depth_limit = 200

mutual
  -- A group in the file at index `row` of the file table, at an include depth. After its first fault a unit does nothing more.
  pub data ExecutesGroup (context : Context) : ℕ → ℕ → Progress → GroupParts → Progress → Type 0 where
    already_stopped : {depth row : ℕ} {s : State} {f : Fault} {ps : GroupParts} → ExecutesGroup context depth row (stopped s f) ps (stopped s f)
    no_parts : {depth row : ℕ} {s : State} → ExecutesGroup context depth row (running s) Done (running s)
    text_lines : {depth row : ℕ} {s : State} {lines : List LogicalLine} {ps : GroupParts} {m end : Progress}
        → EmitsText context.profile s (text_tokens lines) m
        → ExecutesGroup context depth row m ps end
        → ExecutesGroup context depth row (running s) (TextLines lines ps) end
    control : {depth row : ℕ} {s : State} {line : LogicalLine} {ps : GroupParts} {m end : Progress}
        → ExecutesControlLine context depth row s line m
        → ExecutesGroup context depth row m ps end
        → ExecutesGroup context depth row (running s) (Control line ps) end
    taken : {depth row : ℕ} {s : State} {line : LogicalLine} {ps qs : GroupParts} {bs : Branches} {meter_after : Meter} {m end : Progress}
        → Decides (search_of context) row s line meter_after (Ok true)
        → ExecutesGroup context depth row (running (with_meter s meter_after)) ps m
        → ExecutesGroup context depth row m qs end
        → ExecutesGroup context depth row (running s) (Section line ps bs qs) end
    skipped : {depth row : ℕ} {s : State} {line : LogicalLine} {ps qs : GroupParts} {bs : Branches} {meter_after : Meter} {m end : Progress}
        → Decides (search_of context) row s line meter_after (Ok false)
        → ExecutesBranches context depth row (with_meter s meter_after) bs m
        → ExecutesGroup context depth row m qs end
        → ExecutesGroup context depth row (running s) (Section line ps bs qs) end
    condition_fault : {depth row : ℕ} {s : State} {line : LogicalLine} {ps qs : GroupParts} {bs : Branches} {meter_after : Meter} {f : Fault}
        → Decides (search_of context) row s line meter_after (Err f)
        → ExecutesGroup context depth row (running s) (Section line ps bs qs) (stopped (with_meter s meter_after) f)

  -- the branches of an if-section, up to the first that is taken (6.10.1)
  pub data ExecutesBranches (context : Context) : ℕ → ℕ → State → Branches → Progress → Type 0 where
    no_branch_taken : {depth row : ℕ} {s : State} {line : LogicalLine} → ExecutesBranches context depth row s (End line) (running s)
    else_group : {depth row : ℕ} {s : State} {line : LogicalLine} {ps : GroupParts} {bs : Branches} {m : Progress}
        → line.directive ≡ Some Else
        → ExecutesGroup context depth row (running s) ps m
        → ExecutesBranches context depth row s (Branch line ps bs) m
    branch_taken : {depth row : ℕ} {s : State} {line : LogicalLine} {ps : GroupParts} {bs : Branches} {meter_after : Meter} {m : Progress}
        → line.directive ≢ Some Else
        → Decides (search_of context) row s line meter_after (Ok true)
        → ExecutesGroup context depth row (running (with_meter s meter_after)) ps m
        → ExecutesBranches context depth row s (Branch line ps bs) m
    branch_skipped : {depth row : ℕ} {s : State} {line : LogicalLine} {ps : GroupParts} {bs : Branches} {meter_after : Meter} {m : Progress}
        → line.directive ≢ Some Else
        → Decides (search_of context) row s line meter_after (Ok false)
        → ExecutesBranches context depth row (with_meter s meter_after) bs m
        → ExecutesBranches context depth row s (Branch line ps bs) m
    branch_condition_fault : {depth row : ℕ} {s : State} {line : LogicalLine} {ps : GroupParts} {bs : Branches} {meter_after : Meter} {f : Fault}
        → line.directive ≢ Some Else
        → Decides (search_of context) row s line meter_after (Err f)
        → ExecutesBranches context depth row s (Branch line ps bs) (stopped (with_meter s meter_after) f)

  -- A control line. `#include_next` searches the directories after the one in which the file of this line was found. All of
  -- them are searched if that file was found next to its includer. In the main file it searches as `#include` does.
  pub data ExecutesControlLine (context : Context) : ℕ → ℕ → State → LogicalLine → Progress → Type 0 where
    error : {depth row : ℕ} {s : State} {line : LogicalLine}
        → class_by line.directive ≡ Some class.Error
        → ExecutesControlLine context depth row s line (stopped s (line_fault 34 line.tokens (message (operands line.tokens))))
    ignored : {depth row : ℕ} {s : State} {line : LogicalLine}
        → class_by line.directive ≡ Some class.Ignored
        → ExecutesControlLine context depth row s line (running s)
    quote_fault : {depth row : ℕ} {s : State} {line : LogicalLine} {f : Fault}
        → checks_quotes (class_by line.directive) ≡ true
        → unmatched_quote line.tokens ≡ Some f
        → ExecutesControlLine context depth row s line (stopped s f)
    refused : {depth row : ℕ} {s : State} {line : LogicalLine} {f : Fault}
        → checks_quotes (class_by line.directive) ≡ true
        → unmatched_quote line.tokens ≡ None
        → refusal s.waiting line.directive (operands line.tokens) ≡ Some f
        → ExecutesControlLine context depth row s line (stopped s f)
    executed : {depth row : ℕ} {s : State} {line : LogicalLine} {m : Progress}
        → unmatched_quote line.tokens ≡ None
        → refusal s.waiting line.directive (operands line.tokens) ≡ None
        → ExecutesDirective context.profile row line.directive s line m
        → ExecutesControlLine context depth row s line m
    include : {depth row : ℕ} {include_next : Bool} {s : State} {line : LogicalLine} {m : Progress}
        → class_by line.directive ≡ Some (class.Includes include_next)
        → unmatched_quote line.tokens ≡ None
        → refusal s.waiting line.directive (operands line.tokens) ≡ None
        → ExecutesInclude context depth row (if include_next then s.directory else None) s line m
        → ExecutesControlLine context depth row s line m

  -- An include line without unmatched quotes (6.10.2). Its operands name no header or their expansion has a fault, or no file
  -- is found for the header, or the file that is found is opened one level deeper. Only the directories after the one with
  -- the number `previous_directory` are searched; if that is `None`, the search is that of `#include`. `found` is the index of the file and
  -- the number of its directory.
  pub data ExecutesInclude (context : Context) : ℕ → ℕ → Option ℕ → State → LogicalLine → Progress → Type 0 where
    operand_fault : {depth row : ℕ} {previous_directory : Option ℕ} {s : State} {line : LogicalLine} {meter_after : Meter} {f : Fault}
        → NamesHeader s line.tokens meter_after (Err f)
        → ExecutesInclude context depth row previous_directory s line (stopped (with_meter s meter_after) f)
    missing : {depth row : ℕ} {previous_directory : Option ℕ} {s : State} {line : LogicalLine} {meter_after : Meter} (a : IncludeName)
        → NamesHeader s line.tokens meter_after (Ok a)
        → FindsFile context row previous_directory a None
        → ExecutesInclude context depth row previous_directory s line (stopped (with_meter s meter_after) (line_fault 31 line.tokens a.name))
    included : {depth row : ℕ} {previous_directory : Option ℕ} {s : State} {line : LogicalLine} {meter_after : Meter} (a : IncludeName) (found : ℕ × ℕ) {m : Progress}
        → NamesHeader s line.tokens meter_after (Ok a)
        → FindsFile context row previous_directory a (Some found)
        → OpensFile context (suc depth) (hash_place line.tokens) (with_meter s meter_after) found.0 (opening_of context row s line a found) m
        → ExecutesInclude context depth row previous_directory s line m

  -- Opening the file at index `row`. `at` is the location of the `#` of the include line, or 1:1 of the main file. The opening
  -- fails if it is too deep or the budget is exhausted. Otherwise it takes one from the budget, and the file is a dependency.
  -- If `#pragma once` was executed in this file before, nothing else happens. Otherwise its content is needed: if the content
  -- is unknown, no rule applies.
  pub data OpensFile (context : Context) : ℕ → Place → State → ℕ → Opening → Progress → Type 0 where
    too_deep : {depth row : ℕ} {how : Opening} {at : Place} {s : State}
        → depth_limit < depth
        → OpensFile context depth at s row how (stopped s (fault 32 at (name_in context.names row)))
    exhausted : {depth row : ℕ} {how : Opening} {at : Place} {s : State}
        → depth ≤ depth_limit
        → is_exhausted s.meter ≡ true
        → OpensFile context depth at s row how (stopped s (fault 35 at []))
    not_read_again : {depth row : ℕ} {how : Opening} {at : Place} {s : State}
        → depth ≤ depth_limit
        → is_exhausted s.meter ≡ false
        → has_row row s.once ≡ true
        → OpensFile context depth at s row how (running (with_dependency (with_one_spent s) row))
    not_readable : {depth row : ℕ} {how : Opening} {at : Place} {s : State}
        → depth ≤ depth_limit
        → is_exhausted s.meter ≡ false
        → has_row row s.once ≡ false
        → file_at context.files row ≡ Some unreadable
        → OpensFile context depth at s row how (stopped (with_dependency (with_one_spent s) row) (fault 6 at (name_in context.names row)))
    content_fault : {depth row : ℕ} {how : Opening} {at : Place} {s : State} {bytes : List ℕ} {f : Fault}
        → depth ≤ depth_limit
        → is_exhausted s.meter ≡ false
        → has_row row s.once ≡ false
        → file_at context.files row ≡ Some (readable bytes)
        → Reads context.profile row bytes (Err f)
        → OpensFile context depth at s row how (stopped (with_dependency (with_one_spent s) row) f)
    read : {depth row : ℕ} {how : Opening} {at : Place} {s : State} {bytes : List ℕ} {lines : List LogicalLine} {parts : GroupParts} {m : Progress}
        → depth ≤ depth_limit
        → is_exhausted s.meter ≡ false
        → has_row row s.once ≡ false
        → file_at context.files row ≡ Some (readable bytes)
        → Reads context.profile row bytes (Ok lines)
        → Tree lines parts
        → ExecutesGroup context depth row (running (entering at (with_one_spent s) row how)) parts m
        → OpensFile context depth at s row how (leaving s how (at_end m))
