use Rattle.std.proofs.Common.{rules, ◌≡◌, ◌∙◌, List, [], ◌∷◌, ◌||◌, sym, ap, refl}
use Rattle.std.specs.List.{list_any}
use Rattle.std.proofs.lemmas.Iterator.{YieldsList-from_slice}
use Rattle.std.proofs.lemmas.Iterator.Search.{any_from_yields_List}
use Rattle.ppmacro.specs.declared.hidden_token.Hidden.{Hidden}
use Rattle.ppmacro.specs.Substituting.{tokens_of}
use Rattle.ppexpand.specs.Slices.{slice_tokens}
use Rattle.ppexpr.specs.DefinedOperator.{is_defined}
use Rattle.ppexpr.proofs.tokens.has_defined.Goals as goal
use borrow.Author.Tests.{tests}

without_hide_sets : (hs : List Hidden) → list_any (λ h. is_defined h.token) hs ≡ list_any is_defined (tokens_of hs)
without_hide_sets [] = refl
without_hide_sets (h ∷ hs) = ap (λ b. is_defined h.token || b) (without_hide_sets hs)

pub returns-in-Hidden : goal.returns-in-Hidden
returns-in-Hidden c =
    let hidden = c.in-Hidden.tokens.now in
    any_from_yields_List (λ (h : Hidden). is_defined h.token) _ _ _ c.any-in-Hidden.ensures.ran (YieldsList-from_slice hidden c.iter-in-Hidden.ensures.rest) (λ x b q k. search (rules, tests))
    ∙ without_hide_sets hidden
    ∙ ap (λ s. list_any is_defined (slice_tokens s)) (sym c.in-Hidden.is)
