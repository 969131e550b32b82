use Rattle.std.proofs.Common.{◌≡◌, ◌∙◌, ◌<◌, ◌&&◌, not, false, ℕ, IfSome, None, [], length, map, get_or, sym, ap, subst}
use Rattle.std.specs.List.{list_any, fold}
use Rattle.ppmacro.specs.HashOperators.{is_paste}
use Rattle.ppmacro.specs.Chains.{chains_of}
use Rattle.ppmacro.specs.declared.macros.Macro.{Macro}
use Rattle.ppmacro.specs.Entries.{is_operator, entries_at, entry_chain}
use Rattle.ppmacro.specs.PreExpansion.{with_use, used_parameters, lone_parameters, order_by}
use Rattle.ppmacro.specs.VaOptChains.{Ordinary, list_chains}
use Rattle.pptext.specs.declared.sources.Profile.TheVariants.{Later, Gnu}
use Rattle.ppmacro.proofs.VaOptLemmas.{plain-list}
use Rattle.ppmacro.specs.code.KeptChains.{lone_parameter_at}
use Rattle.ppmacro.proofs.EntryChains.{entry_chains}
use Rattle.ppmacro.proofs.ExpansionOrders.{each_within, used_in_order}
use Rattle.ppmacro.proofs.PlainLists.{entries-of, uses-alone, chains-alone, not-object}
use Rattle.ppmacro.proofs.definition.Definition.with_parameters.Goals as goal

pub new-requires : goal.new-requires
new-requires c =
    let d : Macro = record { kind = c.args.kind; body = c.args.body.now } in
    let us = c.as_slice-then-has_operator.result.now in
    let alone : us ≡ lone_parameters (chains_of d) =
    c.as_slice-then-has_operator.ensures.value ∙ c.in_ok-uses.ensures ∙ ap (map (lone_parameter_at c.args.body.now)) c.as_slice.ensures.value
    ∙ chains-alone c.args.body.now c.in_ok-chains.chains.items ∙ ap lone_parameters c.in_ok-chains.ensures in
    subst (λ ns. (k : ℕ) → k < length us → IfSome (get_or us k None) (λ i. i < length ns)) (sym c.parameter_names-count.ensures) (each_within d us alone)

pub new-requires-2 : goal.new-requires-2
new-requires-2 c =
    let d : Macro = record { kind = c.args.kind; body = c.args.body.now } in
    let us = c.as_slice-2.result.now in
    let none : list_any is_operator c.args.body.now ≡ false = sym c.has_operator.ensures ∙ c.if-has_operator.false in
    let alone : us ≡ lone_parameters (chains_of d) =
    c.as_slice-2.ensures.value ∙ c.in_ok-uses-2.ensures ∙ uses-alone c.args.kind c.args.body.now
    ∙ ap lone_parameters (entry_chains c.args.kind c.args.body.now none) in
    subst (λ ns. (k : ℕ) → k < length us → IfSome (get_or us k None) (λ i. i < length ns)) (sym c.parameter_names-count.ensures) (each_within d us alone)

pub returns-then-has_operator-clause-prepared : goal.returns-then-has_operator-clause-prepared
returns-then-has_operator-clause-prepared c =
    let body = c.args.body.now in
    let d : Macro = record { kind = c.args.kind; body = body } in
    let plain : Ordinary (chains_of d) ≡ list_chains d = sym (plain-list d c.requires.separated) in
    let us = c.as_slice-then-has_operator.result.now in
    let alone : us ≡ lone_parameters (chains_of d) =
    c.as_slice-then-has_operator.ensures.value ∙ c.in_ok-uses.ensures ∙ ap (map (lone_parameter_at body)) c.as_slice.ensures.value
    ∙ chains-alone body c.in_ok-chains.chains.items ∙ ap lone_parameters c.in_ok-chains.ensures in record {
      chains = ap Ordinary c.in_ok-chains.ensures ∙ plain;
      lone = sym (ap (λ b. b && not (list_any is_paste body)) (not-object c.args.kind c.requires.function_like));
      by_parameter = c.in_ok-used.ensures.by_parameter ∙ used_in_order (chains_of d) _ us alone
          ∙ ap (λ ns. used_parameters (chains_of d) (length ns)) c.parameter_names-count.ensures ∙ ap (order_by Later d) plain;
      by_use = c.in_ok-used.ensures.by_use ∙ ap (fold with_use []) alone ∙ ap (order_by Gnu d) plain;
    }

pub returns-clause-prepared : goal.returns-clause-prepared
returns-clause-prepared c =
    let kind = c.args.kind in
    let body = c.args.body.now in
    let d : Macro = record { kind = kind; body = body } in
    let none : list_any is_operator body ≡ false = sym c.has_operator.ensures ∙ c.if-has_operator.false in
    let uses = c.in_ok-uses-2.ensures in
    let plain : Ordinary (chains_of d) ≡ list_chains d = sym (plain-list d c.requires.separated) in
    let us = c.as_slice-2.result.now in
    let alone : us ≡ lone_parameters (chains_of d) =
    c.as_slice-2.ensures.value ∙ uses ∙ uses-alone kind body ∙ ap lone_parameters (entry_chains kind body none) in record {
      chains = ap Ordinary (ap (λ us. map entry_chain (entries_at us body)) uses ∙ ap (map entry_chain) (entries-of kind body) ∙ entry_chains kind body none) ∙ plain;
      lone = sym (ap (λ b. b && not (list_any is_paste body)) (not-object kind c.requires.function_like));
      by_parameter = c.in_ok-used-2.ensures.by_parameter ∙ used_in_order (chains_of d) _ us alone
          ∙ ap (λ ns. used_parameters (chains_of d) (length ns)) c.parameter_names-count.ensures ∙ ap (order_by Later d) plain;
      by_use = c.in_ok-used-2.ensures.by_use ∙ ap (fold with_use []) alone ∙ ap (order_by Gnu d) plain;
    }
