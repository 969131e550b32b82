use Rattle.std.proofs.Common.{◌≡◌, ◌∙◌, ◌&&◌, not, [], length, sym, ap}
use Rattle.ppmacro.specs.Chains.{parameter_names}
use Rattle.std.specs.List.{list_any, fold}
use Rattle.pptext.specs.declared.sources.Profile.TheVariants.{Later, Gnu}
use Rattle.ppmacro.specs.HashOperators.{is_paste}
use Rattle.ppmacro.specs.declared.macros.Macro.{Macro}
use Rattle.ppmacro.specs.VaOpt.{Separated}
use Rattle.ppmacro.specs.VaOptChains.{WithVaOpt, va_opt_chains, list_chains}
use Rattle.ppmacro.specs.PreExpansion.{with_use, va_opt_uses, order_by}
use Rattle.ppmacro.specs.code.VaOptLists.{separated_at, form_va_opt_chains}
use Rattle.ppmacro.proofs.VaOptLemmas.{va-opt-list, va-opt-function}
use Rattle.ppmacro.proofs.definition.Definition.with_va_opt.Goals as goal

pub returns-clause-prepared : goal.returns-clause-prepared
returns-clause-prepared c =
    let body = c.args.body.now in
    let d : Macro = record { kind = c.args.kind; body = body } in
    let s : Separated = separated_at body c.args.list.now in
    let list : WithVaOpt (va_opt_chains d s) ≡ list_chains d = sym (va-opt-list d s c.requires) in
    let f = c.in_ok-form.form in
    let uses : fold with_use [] (va_opt_uses f.parameters (form_va_opt_chains body f)) ≡ fold with_use [] (va_opt_uses (length (parameter_names c.args.kind)) (va_opt_chains d s)) =
    λ i. fold with_use [] (va_opt_uses (c.in_ok-form.ensures.parameters i) (c.in_ok-form.ensures.chains i)) in
    record {
      chains = ap WithVaOpt c.in_ok-form.ensures.chains ∙ list;
      lone = sym (ap (λ b. b && not (list_any is_paste body)) (va-opt-function d s c.requires));
      by_parameter = c.in_ok-used.ensures.by_parameter ∙ uses ∙ ap (order_by Later d) list;
      by_use = c.in_ok-used.ensures.by_use ∙ uses ∙ ap (order_by Gnu d) list;
    }
