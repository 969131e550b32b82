use Rattle.std.proofs.Common.{ℕ, take, [], Some, ap, ◌∙◌, arith}
use Rattle.std.proofs.lemmas.Bool.{false_from_ne_true}
use Rattle.ppshelf.specs.Search.{follow}
use Rattle.ppshelf.proofs.IncluderDirectory.{before_slash, no_slash}
use Rattle.ppshelf.proofs.search.directory_of.Goals as goal

-- The returned directory is the path of the text before the last slash.
pub returns-in-Some : goal.returns-in-Some
returns-in-Some c =
    let h = c.in-Some.ensures.0 in
    ap (λ (end : ℕ). follow (Some []) (take end c.args.name.now)) (omega arith)
    ∙ before_slash c.args.name.now c.in-Some.slash c.requires (omega (arith, h.high)) c.in-Some.ensures.1 (λ k above below. false_from_ne_true _ (h.after k (omega arith) below))

pub returns-in-None : goal.returns-in-None
returns-in-None c = no_slash c.args.name.now c.requires (λ k within. false_from_ne_true _ (c.in-None.ensures k (omega arith) within))
