use Rattle.std.proofs.Common.{drop, sym, ◌∙◌, IsTrue}
use Rattle.std.proofs.lemmas.List.{take_rest}
use Rattle.pptext.specs.Continuations.{IsNumberRest}
use Rattle.pptext.proofs.TokenContinuation.{Iff, positive, signed_is}
use Rattle.pptext.proofs.scanning.continuing.is_signed_rest.Goals as goal

pub returns-then-is_sign : goal.returns-then-is_sign
returns-then-is_sign c =
    let text = c.args.text.now in
    let rest : Iff (IsTrue c.is_number_rest.result) (IsNumberRest (drop 1 text)) = simp take_rest at c.is_number_rest.ensures in
    let signed = signed_is text (positive _ c.is_empty.result c.is_empty.ensures c.if-is_empty.false) (sym c.is_sign.ensures ∙ c.if-is_sign.true) in
    (λ e. signed.0 (rest.0 e), λ s. rest.1 (signed.1 s))
