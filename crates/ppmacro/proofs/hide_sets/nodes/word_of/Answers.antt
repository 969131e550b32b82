use Rattle.std.proofs.Common.{◌≡◌, ◌∙◌, ◌-◌, ◌/◌, sym, ap, subst, ◌<◌, length}
use Rattle.ppmacro.specs.code.Nodes.{word}
use Rattle.ppmacro.proofs.Tries.{word-left, word-right, word-zero, within-at}
use Rattle.ppmacro.proofs.hide_sets.nodes.word_of.Goals as goal
use Rattle.ppmacro.proofs.hide_sets.nodes.word_of.Goals.{then-rest-eq0, else-rest-eq0}

pub loop-rest-preserved : goal.loop-rest-preserved
loop-rest-preserved c =
    let ns = c.args.nodes.now.keys in
    let w = within-at ns c.loop-rest.at c.requires.pool c.loop-rest.invariant.0 in
    elim c.if-rest-eq0.branch [
      | then-rest-eq0 b ↦ subst (λ m. (m < length ns) × (word ns m ((c.loop-rest.rest - 1) / 2) ≡ word ns c.args.set c.args.index))
          (sym (b.at-is ∙ ap (λ s. s.left) (c.node.view_is ∙ c.read-node.ensures)))
          (w.left, sym (word-left ns c.loop-rest.at c.loop-rest.rest c.loop-rest-test.true b.if-rest-eq0.true) ∙ c.loop-rest.invariant.1)
      | else-rest-eq0 b ↦ subst (λ m. (m < length ns) × (word ns m ((c.loop-rest.rest - 1) / 2) ≡ word ns c.args.set c.args.index))
          (sym (b.at-is ∙ ap (λ s. s.right) (c.node.view_is ∙ c.read-node.ensures)))
          (w.right, sym (word-right ns c.loop-rest.at c.loop-rest.rest c.loop-rest-test.true b.if-rest-eq0.false) ∙ c.loop-rest.invariant.1)
    ]

pub returns : goal.returns
returns c = sym (sym c.loop-rest.invariant.1 ∙ word-zero c.args.nodes.now.keys c.loop-rest.at c.loop-rest.rest c.loop-rest-test.false ∙ ap (λ s. s.here) (sym (c.result.view_is ∙ c.read.ensures)))
