use Rattle.std.proofs.Common.{◌≡◌, ◌∙◌, ℕ, ◌||◌, ◌==◌, true, false, List, [], ◌∷◌, ◌++◌, take, get_or, if◌then◌else◌, refl, sym, ap, append_assoc}
use Rattle.std.proofs.lemmas.List.{take_more}
use Rattle.ppmacro.specs.Substitution.{escaped_literal}
use Rattle.ppmacro.proofs.substituting.stringizing.push_escaped.Goals as goal

escaped-more : (bs : List ℕ) (b : ℕ) → escaped_literal (bs ++ b ∷ []) ≡ escaped_literal bs ++ escaped_literal (b ∷ [])
escaped-more [] b = refl
escaped-more (a ∷ bs) b = elim (a == 34 || a == 92) as (λ t. (if t then 92 ∷ (a ∷ escaped_literal (bs ++ b ∷ [])) else a ∷ escaped_literal (bs ++ b ∷ [])) ≡ (if t then 92 ∷ (a ∷ escaped_literal bs) else a ∷ escaped_literal bs) ++ escaped_literal (b ∷ [])) [
  | true ↦ ap (λ cs. 92 ∷ (a ∷ cs)) (escaped-more bs b)
  | false ↦ ap (λ cs. a ∷ cs) (escaped-more bs b)
]

pub loop-byte-preserved : goal.loop-byte-preserved
loop-byte-preserved c =
    let old = c.args.text.now.items in
    let i = c.loop-byte.byte-index in
    let bytes = c.args.spelling.now in
    let byte = get_or bytes i 0 in
    c.in_ok-push_escaped_byte.ensures.put
    ∙ ap (λ bs. bs ++ escaped_literal (byte ∷ [])) c.loop-byte.invariant
    ∙ append_assoc old (escaped_literal (take i bytes)) (escaped_literal (byte ∷ []))
    ∙ ap (λ bs. old ++ bs) (sym (escaped-more (take i bytes) byte) ∙ ap escaped_literal (sym (take_more bytes i 0 c.loop-byte-test.true)))
