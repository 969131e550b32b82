use Rattle.std.proofs.Common.{◌≡◌, ◌∙◌, ◌<◌, suc, List, [], ◌∷◌, length, get_or, refl, sym, ap, subst, true≢false, arith}
use Rattle.std.specs.Prelude.{◌==◌}
use Rattle.std.proofs.lemmas.Bool.{eqb-true}
use Rattle.std.proofs.lemmas.List.Elements.{All-get_or}
use Rattle.pptext.proofs.ErrorReturns.{stopped}
use Rattle.ppunit.specs.declared.units.FirstFile.{FirstFile}
use Rattle.ppunit.specs.States.{State}
use Rattle.ppunit.specs.Unit.{before_first, main_name}
use Rattle.ppunit.specs.code.Contexts.{context_over}
use Rattle.ppunit.proofs.FileWalk.{continues_on}
use Rattle.ppunit.proofs.UnitValue.{FirstSoFar, first_start, first_named, none_first, first_more, first_stops, first_done}
use Rattle.ppunit.proofs.preprocessor.Preprocessor.process_all_first.Goals as goal

empty : (first : List FirstFile) → length first ≡ 0 → first ≡ []
empty [] none = refl
empty (file ∷ files) none = absurd (omega (arith, none))

pub returns-then-is_empty-clause-opened : goal.returns-then-is_empty-clause-opened
returns-then-is_empty-clause-opened g c =
    let unit = c.args.unit.now in
    let none = empty unit.first (ap length (sym c.as_slice-files.ensures) ∙ eqb-true (length c.as_slice-files.result.now) 0 (sym c.is_empty.ensures ∙ c.if-is_empty.true)) in
    none_first (context_over c.args.self.now.context.now) c.args.self.now.pass.now.files unit.file (suc (length unit.defines.texts))
    (main_name c.args.self.now.context.now.shelf.names unit) unit.first c.args.self.now.state none

pub loop-index-init : goal.loop-index-init
loop-index-init g c =
    let unit = c.args.unit.now in
    let name = main_name c.args.self.now.context.now.shelf.names unit in
    let some : ¬ (unit.first ≡ []) = λ none. true≢false
    (sym (ap (λ (z : List FirstFile). length z == 0) (c.as_slice-files.ensures ∙ none)) ∙ sym c.is_empty.ensures ∙ c.if-is_empty.false) in
    record {
      keeps_context = c.in_ok-name_main.ensures.keeps_context;
      walked =
          subst (λ (z : State). FirstSoFar (context_over c.args.self.now.context.now) c.name_main.new.self.pass.now.files unit.file (length unit.defines.texts)
          unit.first z 0 c.name_main.new.self.state)
          (c.in_ok-name_main.ensures.named ∙ sym (first_named unit.file name unit.first c.args.self.now.state some))
          (first_start (context_over c.args.self.now.context.now) c.name_main.new.self.pass.now.files unit.file (length unit.defines.texts) unit.first c.name_main.new.self.state);
    }

pub loop-index-preserved : goal.loop-index-preserved
loop-index-preserved g c =
    let unit = c.args.unit.now in
    let within = subst (λ (z : List FirstFile). c.loop-index.index < length z) c.as_slice-files.ensures c.loop-index-test.true in
    let is = c.index-files-index.is ∙ ap (λ (z : List FirstFile). get_or z c.loop-index.index c.index-files-index.result) c.as_slice-files.ensures in
    record {
      keeps_context = continues_on c.args.self.now c.loop-index.self c.process_first.new.self c.loop-index.invariant.keeps_context c.process_first.ensures.keeps_context;
      walked =
          first_more (context_over c.args.self.now.context.now) c.loop-index.self.pass.now.files c.process_first.new.self.pass.now.files unit.file (length unit.defines.texts)
          unit.first (before_first unit.file (main_name c.args.self.now.context.now.shelf.names unit) unit.first c.args.self.now.state) c.loop-index.index
          c.loop-index.self.state c.process_first.new.self.state c.index-files-index.result within is c.loop-index.invariant.walked c.process_first.ensures.keeps_context.grows
          (rw (c.loop-index.invariant.keeps_context.context, c.as_slice-defines.ensures, c.texts.ensures) at c.in_ok-process_first.ensures.opened);
    }

pub process_first-requires : goal.process_first-requires
process_first-requires g c =
    let IsRow = λ (f : FirstFile). f.file < length c.args.self.now.context.now.shelf.names in
    let within = subst (λ (z : List FirstFile). c.loop-index.index < length z) c.as_slice-files.ensures c.loop-index-test.true in
    let is = c.index-files-index.is ∙ ap (λ (z : List FirstFile). get_or z c.loop-index.index c.index-files-index.result) c.as_slice-files.ensures in
    let here = subst IsRow (sym is) (All-get_or IsRow c.args.unit.now.first c.loop-index.index c.index-files-index.result within c.requires.first) in
    record { row = rw c.loop-index.invariant.keeps_context.context here }

pub returns-in_err-process_first-clause-opened : goal.returns-in_err-process_first-clause-opened
returns-in_err-process_first-clause-opened g c =
    let unit = c.args.unit.now in
    let within = subst (λ (z : List FirstFile). c.loop-index.index < length z) c.as_slice-files.ensures c.loop-index-test.true in
    let is = c.index-files-index.is ∙ ap (λ (z : List FirstFile). get_or z c.loop-index.index c.index-files-index.result) c.as_slice-files.ensures in
    stopped _ _ _ _ c.from_residual-in_err-process_first.ensures.1
    (rw (c.loop-index.invariant.keeps_context.context, c.as_slice-defines.ensures, c.texts.ensures) at c.in_err-process_first.ensures.opened)
    (λ fault opens. first_stops (context_over c.args.self.now.context.now) c.loop-index.self.pass.now.files c.process_first.new.self.pass.now.files unit.file
    (length unit.defines.texts) unit.first (before_first unit.file (main_name c.args.self.now.context.now.shelf.names unit) unit.first c.args.self.now.state)
    c.loop-index.index c.loop-index.self.state c.process_first.new.self.state fault c.index-files-index.result within is c.loop-index.invariant.walked
    c.process_first.ensures.keeps_context.grows opens)

pub returns-clause-opened : goal.returns-clause-opened
returns-clause-opened g c =
    let unit = c.args.unit.now in
    first_done (context_over c.args.self.now.context.now) c.loop-index.self.pass.now.files unit.file (length unit.defines.texts) unit.first
    (before_first unit.file (main_name c.args.self.now.context.now.shelf.names unit) unit.first c.args.self.now.state) c.loop-index.index c.loop-index.self.state
    (rw c.as_slice-files.ensures at c.loop-index-test.false) c.loop-index.invariant.walked
