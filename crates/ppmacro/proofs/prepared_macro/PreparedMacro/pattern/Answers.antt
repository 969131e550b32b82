use Rattle.std.proofs.Common.{◌∙◌, map, ap, sym}
use Rattle.ppmacro.specs.VaOptChains.{Ordinary, WithVaOpt, list_chains}
use Rattle.ppmacro.specs.Entries.{entries_at, entry_chain}
use Rattle.ppmacro.specs.code.KeptChains.{chains_at}
use Rattle.ppmacro.specs.code.PreparedDefinitions.{form_chains}
use Rattle.ppmacro.proofs.prepared_macro.PreparedMacro.pattern.Goals as goal

pub returns-in-Plain : goal.returns-in-Plain
returns-in-Plain c =
    let body = c.self.inside.body.now in
    ap (λ es. Ordinary (map entry_chain es)) (c.new.ensures ∙ ap (λ us. entries_at us body) c.as_slice.ensures.value)
    ∙ ap (form_chains body) (sym c.in-Plain.is ∙ ap (λ d. d.form) c.get.ensures)
    ∙ c.self.invariant.chains
    ∙ ap list_chains c.self.view_is

pub returns-in-Pasted : goal.returns-in-Pasted
returns-in-Pasted c =
    let body = c.self.inside.body.now in
    ap Ordinary (c.new-in-Pasted.ensures ∙ ap (chains_at body) c.as_slice-in-Pasted.ensures.value)
    ∙ ap (form_chains body) (sym c.in-Pasted.is ∙ ap (λ d. d.form) c.get.ensures)
    ∙ c.self.invariant.chains
    ∙ ap list_chains c.self.view_is

pub returns-in-VaOpt : goal.returns-in-VaOpt
returns-in-VaOpt c =
    let body = c.self.inside.body.now in
    ap WithVaOpt c.new-in-VaOpt.ensures
    ∙ ap (form_chains body) (sym c.in-VaOpt.is ∙ ap (λ d. d.form) c.get.ensures)
    ∙ c.self.invariant.chains
    ∙ ap list_chains c.self.view_is
