use Rattle.std.proofs.Common.{◌∙◌, ◌+◌, ◌++◌, sym, ap, drop, false, append_assoc}
use Rattle.ppmacro.specs.Substitution.{spelled_space, spelled_in_string, spelled_from}
use Rattle.ppmacro.specs.Substituting.{tokens_of}
use Rattle.ppmacro.proofs.ChainReplacementLemmas.{drop-item}
use Rattle.ppmacro.proofs.substituting.stringizing.string_text.Goals as goal

pub loop-hidden-preserved : goal.loop-hidden-preserved
loop-hidden-preserved c =
    let i = c.loop-hidden.hidden-index in
    let hs = c.args.argument.now in
    let h = c.hidden-item.result in
    let text = c.loop-hidden.text.items in
    let first = c.loop-hidden.first in
    let space = spelled_space first h.token in
    let spelled = spelled_in_string h.token in
    let rest = spelled_from false (tokens_of (drop (i + 1) hs)) in
    ap (λ bs. bs ++ rest) c.in_ok-push_with_space.ensures
    ∙ append_assoc text (space ++ spelled) rest
    ∙ ap (λ bs. text ++ bs) (append_assoc space spelled rest)
    ∙ ap (λ ts. text ++ spelled_from first (tokens_of ts)) (sym (drop-item hs i h c.loop-hidden-test.true c.hidden-item.is))
    ∙ c.loop-hidden.invariant
