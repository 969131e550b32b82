use Rattle.std.proofs.Common.{rules, ◌≡◌, ◌∙◌, sym, ap, map, length, false}
use Rattle.std.specs.List.{list_any}
use Rattle.ppmacro.specs.HashOperators.{is_paste}
use Rattle.ppmacro.specs.declared.macros.Macro.{Macro}
use Rattle.ppmacro.specs.Chains.{chains_of, parameter_names}
use Rattle.ppmacro.specs.Entries.{entries_at, entry_chain}
use Rattle.ppmacro.specs.PreExpansion.{used_parameters, order_by}
use Rattle.ppmacro.specs.VaOptChains.{Ordinary, list_chains}
use Rattle.pptext.specs.declared.sources.Profile.TheVariants.{Later, Gnu}
use Rattle.ppmacro.proofs.VaOptLemmas.{function-like-alone, plain-list}
use Rattle.ppmacro.proofs.ObjectLikeChains.{chains-alone}
use Rattle.ppmacro.proofs.PlainLists.{entries-alone, no-names}
use Rattle.ppmacro.proofs.ExpansionOrders.{no_first_uses}
use Rattle.ppmacro.proofs.definition.Definition.without_parameters.Goals as goal

pub returns-then-has_paste-clause-prepared : goal.returns-then-has_paste-clause-prepared
returns-then-has_paste-clause-prepared c =
    let d : Macro = record { kind = c.args.kind; body = c.args.body.now } in
    let plain : Ordinary (chains_of d) ≡ list_chains d = sym (plain-list d (function-like-alone d c.requires)) in
    let none : length (parameter_names c.args.kind) ≡ 0 = no-names c.args.kind c.requires in record {
      chains = ap Ordinary c.in_ok-chains_of.ensures ∙ plain;
      lone = search rules;
      by_parameter = c.none-used.ensures.by_parameter ∙ sym (ap (used_parameters (chains_of d)) none) ∙ ap (order_by Later d) plain;
      by_use = c.none-used.ensures.by_use ∙ no_first_uses d none ∙ ap (order_by Gnu d) plain;
    }

pub returns-clause-prepared : goal.returns-clause-prepared
returns-clause-prepared c =
    let body = c.args.body.now in
    let d : Macro = record { kind = c.args.kind; body = body } in
    let plain : Ordinary (chains_of d) ≡ list_chains d = sym (plain-list d (function-like-alone d c.requires)) in
    let no_parameters : length (parameter_names c.args.kind) ≡ 0 = no-names c.args.kind c.requires in
    let none : list_any is_paste body ≡ false = sym c.has_paste.ensures ∙ c.if-has_paste.false in record {
      chains = ap Ordinary (ap (λ us. map entry_chain (entries_at us body)) c.new.ensures.items ∙ entries-alone body ∙ sym (chains-alone c.args.kind body c.requires none)) ∙ plain;
      lone = search rules;
      by_parameter = c.none-used.ensures.by_parameter ∙ sym (ap (used_parameters (chains_of d)) no_parameters) ∙ ap (order_by Later d) plain;
      by_use = c.none-used.ensures.by_use ∙ no_first_uses d no_parameters ∙ ap (order_by Gnu d) plain;
    }
