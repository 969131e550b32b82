use Rattle.std.proofs.Common.{◌∷◌, ℕ, List, ◌+◌, take, ap, arith, ◌∙◌, sym}
use Rattle.std.proofs.lemmas.Bool.{false_from_ne_true}
use Rattle.std.proofs.lemmas.List.{take_rest}
use Rattle.ppshelf.specs.Names.{segments}
use Rattle.ppshelf.proofs.Paths.{cut_at, no_cut}
use Rattle.ppshelf.proofs.path.first_segment.Goals as goal

pub returns-in-Some-clause-segments : goal.returns-in-Some-clause-segments
returns-in-Some-clause-segments c =
    let text = c.args.text.now in
    let i = c.in-Some.i in
    let h = c.in-Some.ensures.0 in
    cut_at text i (omega (arith, h.high)) c.in-Some.ensures.1 (λ k below. false_from_ne_true _ (h.before k (omega arith) below))
    ∙ ap (λ (x : List ℕ). take i text ∷ segments x) (sym (take_rest text (i + 1)))

pub returns-in-None-clause-segments : goal.returns-in-None-clause-segments
returns-in-None-clause-segments c = no_cut c.args.text.now (λ k within. false_from_ne_true _ (c.in-None.ensures k (omega arith) within))
