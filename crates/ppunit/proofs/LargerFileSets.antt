-- The value of a unit over some files is its value over any larger set of files, with the same count.
use Rattle.std.proofs.Common.{◌≡◌, ℕ, suc, ◌+◌, ◌-◌, List, Option, Ok, refl, ap}
use Rattle.pptext.specs.declared.tokens.Place.{Place}
use Rattle.pptext.specs.Lines.{LogicalLine}
use Rattle.pptext.specs.Tree.{GroupParts, Branches}
use Rattle.ppexpand.specs.Expansion.{count_expansion}
use Rattle.ppshelf.specs.Content.{unreadable}
use Rattle.ppshelf.specs.Files.{Files, Extends}
use Rattle.ppunit.specs.States.{State, Context, Progress, Opening}
use Rattle.ppunit.specs.Group.{ExecutesGroup, ExecutesBranches, ExecutesControlLine, ExecutesInclude, OpensFile}
use Rattle.ppunit.specs.Counts.{count_decides, count_names_header, counted_before, count_group, count_branches, count_control, count_includes, count_opening}
use Rattle.ppunit.specs.Unit.{Defines, unread, processed, Translates, definitions_fault, translated, context_of_unit, count_defines, count_translates, OpensFirst, all_read, first_fault, first_read}
use Rattle.ppunit.specs.Unit.{fault_before_main, count_first}
use Rattle.ppunit.specs.Laws.{Grows}
use Rattle.ppunit.specs.declared.units.FirstFile.{FirstFile}
use Rattle.ppunit.specs.declared.units.Unit.{Unit as UnitOfList}

module _ (context : Context) (more : Files) (grows : Extends more context.files) where
  abbrev pub wider : Context
  wider = record context { files = more }

  -- Equal counts have equal sums.
  both : {a b c d : ℕ} → a ≡ b → c ≡ d → a + c ≡ b + d
  both p q = λ i. p i + q i

  mutual
    pub group_grows : {depth row : ℕ} {r : Progress} {ps : GroupParts} {end : Progress} (d : ExecutesGroup context depth row r ps end) → (e : ExecutesGroup wider depth row r ps end) × (count_group e ≡ count_group d)
    group_grows ExecutesGroup.already_stopped = (ExecutesGroup.already_stopped, refl)
    group_grows ExecutesGroup.no_parts = (ExecutesGroup.no_parts, refl)
    group_grows (ExecutesGroup.text_lines {s = s} gives rest) =
        let r = group_grows rest in
        (ExecutesGroup.text_lines gives r.0, ap (λ n. (count_expansion gives.expands - counted_before s.waiting) + n) r.1)
    group_grows (ExecutesGroup.control here rest) =
        let h = control_grows here in
        let r = group_grows rest in
        (ExecutesGroup.control h.0 r.0, both h.1 r.1)
    group_grows (ExecutesGroup.taken decides here rest) =
        let h = group_grows here in
        let r = group_grows rest in
        (ExecutesGroup.taken decides h.0 r.0, ap (λ n. count_decides decides + n) (both h.1 r.1))
    group_grows (ExecutesGroup.skipped decides here rest) =
        let h = branches_grow here in
        let r = group_grows rest in
        (ExecutesGroup.skipped decides h.0 r.0, ap (λ n. count_decides decides + n) (both h.1 r.1))
    group_grows (ExecutesGroup.condition_fault decides) = (ExecutesGroup.condition_fault decides, refl)

    branches_grow : {depth row : ℕ} {s : State} {bs : Branches} {m : Progress} (d : ExecutesBranches context depth row s bs m) → (e : ExecutesBranches wider depth row s bs m) × (count_branches e ≡ count_branches d)
    branches_grow ExecutesBranches.no_branch_taken = (ExecutesBranches.no_branch_taken, refl)
    branches_grow (ExecutesBranches.else_group is here) = let h = group_grows here in (ExecutesBranches.else_group is h.0, h.1)
    branches_grow (ExecutesBranches.branch_taken is decides here) =
        let h = group_grows here in
        (ExecutesBranches.branch_taken is decides h.0, ap (λ n. count_decides decides + n) h.1)
    branches_grow (ExecutesBranches.branch_skipped is decides rest) =
        let r = branches_grow rest in
        (ExecutesBranches.branch_skipped is decides r.0, ap (λ n. count_decides decides + n) r.1)
    branches_grow (ExecutesBranches.branch_condition_fault is decides) = (ExecutesBranches.branch_condition_fault is decides, refl)

    control_grows : {depth row : ℕ} {s : State} {line : LogicalLine} {m : Progress} (d : ExecutesControlLine context depth row s line m) → (e : ExecutesControlLine wider depth row s line m) × (count_control e ≡ count_control d)
    control_grows (ExecutesControlLine.error is) = (ExecutesControlLine.error is, refl)
    control_grows (ExecutesControlLine.ignored is) = (ExecutesControlLine.ignored is, refl)
    control_grows (ExecutesControlLine.quote_fault is q) = (ExecutesControlLine.quote_fault is q, refl)
    control_grows (ExecutesControlLine.refused is q waits) = (ExecutesControlLine.refused is q waits, refl)
    control_grows (ExecutesControlLine.executed q free does) = (ExecutesControlLine.executed q free does, refl)
    control_grows (ExecutesControlLine.include is q free here) = let h = includes_grow here in (ExecutesControlLine.include is q free h.0, h.1)

    includes_grow : {depth row : ℕ} {following : Option ℕ} {s : State} {line : LogicalLine} {m : Progress} (d : ExecutesInclude context depth row following s line m)
        → (e : ExecutesInclude wider depth row following s line m) × (count_includes e ≡ count_includes d)
    includes_grow (ExecutesInclude.operand_fault asks) = (ExecutesInclude.operand_fault asks, refl)
    includes_grow (ExecutesInclude.missing a asks finds) = (ExecutesInclude.missing a asks finds, refl)
    includes_grow (ExecutesInclude.included {s = s} {line = line} {meter_after = meter_after} a found asks finds opens) =
        let o = opened_grows opens in
        (ExecutesInclude.included a found asks finds o.0, ap (λ n. count_names_header s line.tokens meter_after (Ok a) asks + n) o.1)

    pub opened_grows : {depth row : ℕ} {how : Opening} {at : Place} {s : State} {m : Progress} (d : OpensFile context depth at s row how m)
        → (e : OpensFile wider depth at s row how m) × (count_opening e ≡ count_opening d)
    opened_grows (OpensFile.too_deep deep) = (OpensFile.too_deep deep, refl)
    opened_grows (OpensFile.exhausted fits spent) = (OpensFile.exhausted fits spent, refl)
    opened_grows (OpensFile.not_read_again fits some known) = (OpensFile.not_read_again fits some known, refl)
    opened_grows {depth} {row} (OpensFile.not_readable fits some new is) = (OpensFile.not_readable fits some new (grows row unreadable is), refl)
    opened_grows {depth} {row} (OpensFile.content_fault fits some new is reads) = (OpensFile.content_fault fits some new (grows row _ is) reads, refl)
    opened_grows {depth} {row} (OpensFile.read fits some new is reads tree here) =
        let h = group_grows here in
        (OpensFile.read fits some new (grows row _ is) reads tree h.0, ap suc h.1)

  defines_grow : {defines : List (List ℕ)} {s : State} {m : Progress} (d : Defines context defines s m) → (e : Defines wider defines s m) × (count_defines e ≡ count_defines d)
  defines_grow (unread reads) = (unread reads, refl)
  defines_grow (processed reads tree here) = let h = group_grows here in (processed reads tree h.0, h.1)

  first_grows : {main number : ℕ} {s : State} {files : List FirstFile} {m : Progress} (d : OpensFirst context main number s files m)
      → (e : OpensFirst wider main number s files m) × (count_first e ≡ count_first d)
  first_grows all_read = (all_read, refl)
  first_grows (first_fault opens) = let o = opened_grows opens in (first_fault o.0, o.1)
  first_grows (first_read opens rest) =
      let o = opened_grows opens in
      let h = first_grows rest in
      (first_read o.0 h.0, both o.1 h.1)

  pub translates_grows : {unit : UnitOfList} {s : State} {m : Progress} (d : Translates context unit s m) → (e : Translates wider unit s m) × (count_translates e ≡ count_translates d)
  translates_grows (definitions_fault here) = let h = defines_grow here in (definitions_fault h.0, h.1)
  translates_grows (fault_before_main here first) =
      let h = defines_grow here in
      let f = first_grows first in
      (fault_before_main h.0 f.0, both h.1 f.1)
  translates_grows (translated here first opens) =
      let h = defines_grow here in
      let f = first_grows first in
      let o = opened_grows opens in
      (translated h.0 f.0 o.0, both h.1 (both f.1 o.1))

pub unit_grows : Grows
unit_grows names files more setting unit out grows is =
    let t = translates_grows (context_of_unit names files setting unit) more grows is.translates in
    (record { progress = is.progress; translates = t.0; is_output = is.is_output }, t.1)
