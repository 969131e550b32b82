-- The work of phase 4: its macro replacements (6.10.3), and its openings of files (6.10.2). An opening that is too deep, or
-- that the budget refuses, doesn't count; one of a file that can't be read or isn't read again does.
use Rattle.std.specs.Prelude.{ℕ, suc, ◌+◌, ◌-◌, List, [], ◌∷◌, Bool, true, false, Option, Some, None, Result, Ok, Err, take, drop, codes}
use Rattle.pptext.specs.declared.tokens.Place.{Place}
use Rattle.pptext.specs.declared.tokens.Token.{Token}
use Rattle.pptext.specs.declared.tokens.Fault.{Fault}
use Rattle.pptext.specs.declared.sources.Directive.{Directive}
use Rattle.pptext.specs.declared.sources.Directive.TheVariants.{Line, Pragma}
use Rattle.pptext.specs.declared.sources.Profile.{Profile}
use Rattle.pptext.specs.Profiles.{is_gnu}
use Rattle.pptext.specs.Lines.{LogicalLine}
use Rattle.pptext.specs.Tree.{GroupParts, Branches}
use Rattle.ppexpand.specs.declared.meter.Meter.{Meter}
use Rattle.ppexpand.specs.Expansion.{count_expansion}
use Rattle.ppexpr.specs.Conditions.{count_condition}
use Rattle.ppunit.specs.States.{Search, State, Context, Progress, Opening}
use Rattle.ppunit.specs.DirectiveLines.{operands}
use Rattle.ppunit.specs.Including.{IncludeName, begins_with_header, name_of_header, name_of_expansion}
use Rattle.ppunit.specs.Conditions.{Decides, DecidesByValue}
use Rattle.ppunit.specs.Directives.{NamesHeaderBy, NamesHeader, expanded_operands, ExecutesPragma, ExecutesDirective}
use Rattle.ppunit.specs.Probing.{begins_with, NamesOperand, Probes, ProbesBy, ProbesLine}
use Rattle.ppunit.specs.Group.{ExecutesGroup, ExecutesBranches, ExecutesControlLine, ExecutesInclude, OpensFile}

-- ---- lines: the replacements in their operands

abbrev pub count_names_header_by : (is_unexpanded : Bool) (unexpanded : Option IncludeName) (s : State) (line tokens : List Token) (meter_after : Meter) (include_name : Result IncludeName Fault)
    → NamesHeaderBy is_unexpanded unexpanded s line tokens meter_after include_name
    → ℕ
count_names_header_by true unexpanded s line tokens meter_after include_name h = 0
count_names_header_by false unexpanded s line tokens meter_after include_name h = count_expansion h.expands

abbrev pub count_names_header : (s : State) (line : List Token) (meter_after : Meter) (include_name : Result IncludeName Fault) → NamesHeader s line meter_after include_name → ℕ
count_names_header s line meter_after include_name h =
    count_names_header_by (begins_with_header (operands line)) (name_of_header (operands line)) s line (operands line) meter_after include_name h

abbrev pub count_names_operand : (s : State) (line operand : List Token) (meter_after : Meter) (include_name : Result IncludeName Fault)
    → NamesOperand s line operand meter_after include_name
    → ℕ
count_names_operand s line operand meter_after include_name h =
    count_names_header_by (begins_with (codes "<") operand) (name_of_expansion operand) s line operand meter_after include_name h

abbrev pub count_probes : {search : Search} {row : ℕ} {line : List Token} {s : State} {ts : List Token} {meter_after : Meter} {tokens : Result (List Token) Fault}
    → Probes search row line s ts meter_after tokens
    → ℕ
count_probes Probes.no_tokens = 0
count_probes (Probes.other ordinary rest) = count_probes rest
count_probes (Probes.unclosed begins open') = 0
count_probes {line = line} (Probes.operand_fault {s = s} {ts = ts} {end = end} {meter_after = meter_after} {f = f} begins ends names) =
    count_names_operand s line (take end (drop 1 ts)) meter_after (Err f) names
count_probes {line = line} (Probes.operator {s = s} {ts = ts} {end = end} {meter_between = meter_between} a begins ends names rest) =
    count_names_operand s line (take end (drop 1 ts)) meter_between (Ok a) names + count_probes rest

abbrev pub count_probes_by : (probes : Bool) (search : Search) (row : ℕ) (line : List Token) (s : State) (ts : List Token) (meter_after : Meter) (tokens : Result (List Token) Fault)
    → ProbesBy probes search row line s ts meter_after tokens
    → ℕ
count_probes_by true search row line s ts meter_after tokens h = count_probes h
count_probes_by false search row line s ts meter_after tokens h = 0

abbrev pub count_probes_line : (search : Search) (row : ℕ) (s : State) (line : List Token) (meter_after : Meter) (tokens : Result (List Token) Fault)
    → ProbesLine search row s line meter_after tokens
    → ℕ
count_probes_line search row s line meter_after tokens h = count_probes_by (is_gnu search.profile) search row line s (operands line) meter_after tokens h

abbrev pub count_value : {search : Search} {row : ℕ} {s : State} {line : List Token} {meter_after : Meter} {taken : Result Bool Fault}
    → DecidesByValue search row s line meter_after taken
    → ℕ
count_value {search} {row} {s} {line} {meter_after} (DecidesByValue.probing_fault {f = f} probes is) = count_probes_line search row s line meter_after (Err f) probes
count_value {search} {row} {s} {line} (DecidesByValue.evaluated {tokens = tokens} {meter_between = meter_between} probes condition) =
    count_probes_line search row s line meter_between (Ok tokens) probes + count_condition condition

abbrev pub count_decides : {search : Search} {row : ℕ} {s : State} {line : LogicalLine} {meter_after : Meter} {taken : Result Bool Fault}
    → Decides search row s line meter_after taken
    → ℕ
count_decides (Decides.unmatched quote freely) = 0
count_decides (Decides.tests_name quote question freely) = 0
count_decides (Decides.evaluates quote question value) = count_value value

abbrev pub count_pragma : (operands : Option (List Token)) (profile : Profile) (row : ℕ) (s : State) (line : LogicalLine) (m : Progress)
    → ExecutesPragma operands profile row s line m
    → ℕ
count_pragma (Some tokens) profile row s line m h = count_expansion h.expands
count_pragma None profile row s line m h = 0

abbrev pub count_control_by : (profile : Profile) (row : ℕ) (d : Option Directive) (s : State) (line : LogicalLine) (m : Progress)
    → ExecutesDirective profile row d s line m
    → ℕ
count_control_by profile row (Some Line) s line m h = count_expansion h.expands
count_control_by profile row (Some Pragma) s line m h = count_pragma (expanded_operands profile s.macros (operands line.tokens)) profile row s line m h
count_control_by profile row _ s line m h = 0

-- an invocation that waits was counted where it began
abbrev pub counted_before : List Token → ℕ
counted_before [] = 0
counted_before (t ∷ ts) = 1

-- ---- groups: their lines, and the files that they include

abbrev mutual
  pub count_group : {context : Context} {depth row : ℕ} {r : Progress} {ps : GroupParts} {end : Progress} → ExecutesGroup context depth row r ps end → ℕ
  count_group ExecutesGroup.already_stopped = 0
  count_group ExecutesGroup.no_parts = 0
  count_group (ExecutesGroup.text_lines {s = s} emits rest) = (count_expansion emits.expands - counted_before s.waiting) + count_group rest
  count_group (ExecutesGroup.control here rest) = count_control here + count_group rest
  count_group {context} {depth} {row} (ExecutesGroup.taken decides here rest) =
      count_decides decides + (count_group here + count_group rest)
  count_group {context} {depth} {row} (ExecutesGroup.skipped decides here rest) =
      count_decides decides + (count_branches here + count_group rest)
  count_group {context} {depth} {row} (ExecutesGroup.condition_fault decides) = count_decides decides

  pub count_branches : {context : Context} {depth row : ℕ} {s : State} {bs : Branches} {m : Progress}
      → ExecutesBranches context depth row s bs m
      → ℕ
  count_branches ExecutesBranches.no_branch_taken = 0
  count_branches (ExecutesBranches.else_group is here) = count_group here
  count_branches {context} {depth} {row} (ExecutesBranches.branch_taken is decides here) =
      count_decides decides + count_group here
  count_branches {context} {depth} {row} (ExecutesBranches.branch_skipped is decides rest) =
      count_decides decides + count_branches rest
  count_branches {context} {depth} {row} (ExecutesBranches.branch_condition_fault is decides) = count_decides decides

  pub count_control : {context : Context} {depth row : ℕ} {s : State} {line : LogicalLine} {m : Progress}
      → ExecutesControlLine context depth row s line m
      → ℕ
  count_control (ExecutesControlLine.error is) = 0
  count_control (ExecutesControlLine.ignored is) = 0
  count_control (ExecutesControlLine.quote_fault is q) = 0
  count_control (ExecutesControlLine.refused is q waits) = 0
  count_control {context} {depth} {row} (ExecutesControlLine.executed {s = s} {line = line} {m = m} q free does) =
      count_control_by context.profile row line.directive s line m does
  count_control (ExecutesControlLine.include is q free here) = count_includes here

  pub count_includes : {context : Context} {depth row : ℕ} {previous_directory : Option ℕ} {s : State} {line : LogicalLine} {m : Progress}
      → ExecutesInclude context depth row previous_directory s line m
      → ℕ
  count_includes (ExecutesInclude.operand_fault {s = s} {line = line} {meter_after = meter_after} {f = f} names) = count_names_header s line.tokens meter_after (Err f) names
  count_includes (ExecutesInclude.missing {s = s} {line = line} {meter_after = meter_after} a names finds) = count_names_header s line.tokens meter_after (Ok a) names
  count_includes (ExecutesInclude.included {s = s} {line = line} {meter_after = meter_after} a found names finds opens) =
      count_names_header s line.tokens meter_after (Ok a) names + count_opening opens

  pub count_opening : {context : Context} {depth row : ℕ} {how : Opening} {at : Place} {s : State} {m : Progress}
      → OpensFile context depth at s row how m
      → ℕ
  count_opening (OpensFile.too_deep deep) = 0
  count_opening (OpensFile.exhausted fits spent) = 0
  count_opening (OpensFile.not_read_again fits more once) = 1
  count_opening (OpensFile.not_readable fits more once is) = 1
  count_opening (OpensFile.content_fault fits more once is reads) = 1
  count_opening (OpensFile.read fits more once is reads tree here) = suc (count_group here)
