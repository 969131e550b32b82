use Rattle.std.proofs.Common.{◌<◌, ◌∙◌, ◌-◌, ◌/◌, ◌%◌, ◌^◌, ◌*◌, ◌+◌, arith, length, subst, sym}
use Rattle.std.specs.Int.RustNames.{bit_or}
use Rattle.std.proofs.lemmas.Nat.{one_shl, or_lt, mod_below}
use Rattle.ppmacro.specs.code.Nodes.{Node, node_at, word, word_with, IsBounded}
use Rattle.ppmacro.proofs.Tries.{insert-here, insert-left, insert-right, member-inserted, pos-of, within-at, bounded-on, bounded-insert, half-below, keeps-on, length-keeps}
use Rattle.ppmacro.proofs.ExistingSets.{HasMore, here-there, left-asked, left-found, right-asked, right-found}
use Rattle.ppmacro.proofs.hide_sets.nodes.+insert_bit.Goals as goal

pub number_for-requires-clause-within : goal.number_for-requires-clause-within
number_for-requires-clause-within t c =
    let old = c.args.nodes.now.keys in
    let w = within-at old c.args.set c.requires.pool c.requires.known in
    let is = sym (c.node.view_is ∙ c.read-node.ensures) in
    record {
      here = or_lt 64 c.node.inside.here (1 * 2 ^ c.args.bit % 2 ^ 64) (subst (λ s. s.here < 2 ^ 64) is w.here) (mod_below (1 * 2 ^ c.args.bit) (2 ^ 64) (omega arith));
      left = subst (λ s. s.left < length old) is w.left;
      right = subst (λ s. s.right < length old) is w.right;
    }

pub returns-then-index-eq0-clause-set : goal.returns-then-index-eq0-clause-set
returns-then-index-eq0-clause-set t c = λ w.
    let old = c.args.nodes.now.keys in
    let at = c.node.view_is ∙ c.read-node.ensures in
    let is = c.in_ok-whole.ensures.is ∙ (λ i. record { here = bit_or (at i).here (one_shl c.args.bit 64 c.requires.bit i); left = (at i).left; right = (at i).right }) in
    insert-here old c.number_for.new.nodes.keys c.args.set c.in_ok-whole.whole c.args.bit w c.requires.pool c.requires.known c.in_ok-whole.ensures.keeps is
    ∙ (λ i. bit_or (word old c.args.set w) (word_with (sym c.if-index-eq0.true i) c.args.bit w))

pub returns-in_ok-odd-clause-set : goal.returns-in_ok-odd-clause-set
returns-in_ok-odd-clause-set t c = λ w.
    let old = c.args.nodes.now.keys in
    let at = c.node.view_is ∙ c.read-node.ensures in
    let is = c.in_ok-odd.ensures.is ∙ (λ i. record { here = (at i).here; left = c.in_ok-left.left; right = (at i).right }) in
    insert-left old c.insert_bit.new.nodes.keys c.number_for-then-rest-eq0.new.nodes.keys c.args.set c.in_ok-left.left c.in_ok-odd.odd c.args.index c.args.bit w
    c.requires.pool c.in_ok-left.ensures.pool c.requires.known c.in_ok-left.ensures.known c.in_ok-left.ensures.keeps c.in_ok-odd.ensures.keeps
    (pos-of c.args.index c.if-index-eq0.false) c.if-rest-eq0.true
    (λ y. c.in_ok-left.ensures.set y ∙ (λ i. bit_or (word old (at i).left y) (word_with ((c.args.index - 1) / 2) c.args.bit y))) is

pub returns-in_ok-even-clause-set : goal.returns-in_ok-even-clause-set
returns-in_ok-even-clause-set t c = λ w.
    let old = c.args.nodes.now.keys in
    let at = c.node.view_is ∙ c.read-node.ensures in
    let is = c.in_ok-even.ensures.is ∙ (λ i. record { here = (at i).here; left = (at i).left; right = c.in_ok-right.right }) in
    insert-right old c.insert_bit-else-rest-eq0.new.nodes.keys c.number_for-else-rest-eq0.new.nodes.keys c.args.set c.in_ok-right.right c.in_ok-even.even
    c.args.index c.args.bit w c.requires.pool c.in_ok-right.ensures.pool c.requires.known c.in_ok-right.ensures.known c.in_ok-right.ensures.keeps
    c.in_ok-even.ensures.keeps (pos-of c.args.index c.if-index-eq0.false) c.if-rest-eq0.false
    (λ y. c.in_ok-right.ensures.set y ∙ (λ i. bit_or (word old (at i).right y) (word_with ((c.args.index - 1) / 2) c.args.bit y))) is

pub returns-then-index-eq0-clause-bounded : goal.returns-then-index-eq0-clause-bounded
returns-then-index-eq0-clause-bounded t c = λ limit l b.
    let old = c.args.nodes.now.keys in
    let new = c.number_for.new.nodes.keys in
    bounded-on limit old new c.in_ok-whole.whole c.requires.pool c.in_ok-whole.ensures.keeps b c.in_ok-whole.ensures.fresh
    (bounded-insert limit (c.args.index * 64 + c.args.bit) old new c.args.set c.in_ok-whole.whole l b c.requires.known
    (member-inserted old new c.args.set c.in_ok-whole.whole c.args.index c.args.bit c.requires.bit (returns-then-index-eq0-clause-set t c)))

pub returns-in_ok-odd-clause-bounded : goal.returns-in_ok-odd-clause-bounded
returns-in_ok-odd-clause-bounded t c = λ limit l b.
    let old = c.args.nodes.now.keys in
    let new = c.number_for-then-rest-eq0.new.nodes.keys in
    bounded-on limit c.insert_bit.new.nodes.keys new c.in_ok-odd.odd c.in_ok-left.ensures.pool c.in_ok-odd.ensures.keeps
    (c.in_ok-left.ensures.bounded limit (half-below c.args.index c.args.bit limit l) b) c.in_ok-odd.ensures.fresh
    (bounded-insert limit (c.args.index * 64 + c.args.bit) old new c.args.set c.in_ok-odd.odd l b c.requires.known
    (member-inserted old new c.args.set c.in_ok-odd.odd c.args.index c.args.bit c.requires.bit (returns-in_ok-odd-clause-set t c)))

pub returns-in_ok-even-clause-bounded : goal.returns-in_ok-even-clause-bounded
returns-in_ok-even-clause-bounded t c = λ limit l b.
    let old = c.args.nodes.now.keys in
    let new = c.number_for-else-rest-eq0.new.nodes.keys in
    bounded-on limit c.insert_bit-else-rest-eq0.new.nodes.keys new c.in_ok-even.even c.in_ok-right.ensures.pool c.in_ok-even.ensures.keeps
    (c.in_ok-right.ensures.bounded limit (half-below c.args.index c.args.bit limit l) b) c.in_ok-even.ensures.fresh
    (bounded-insert limit (c.args.index * 64 + c.args.bit) old new c.args.set c.in_ok-even.even l b c.requires.known
    (member-inserted old new c.args.set c.in_ok-even.even c.args.index c.args.bit c.requires.bit (returns-in_ok-even-clause-set t c)))

-- Existing nodes keep their numbers, and bounds on members hold also after a failure.

pub number_for-requires-then-rest-eq0-clause-within : goal.number_for-requires-then-rest-eq0-clause-within
number_for-requires-then-rest-eq0-clause-within t c =
    let old = c.args.nodes.now.keys in
    let w = within-at old c.args.set c.requires.pool c.requires.known in
    let is = sym (c.node.view_is ∙ c.read-node.ensures) in
    record {
      here = subst (λ s. s.here < 2 ^ 64) is w.here;
      left = c.in_ok-left.ensures.known;
      right = length-keeps old c.insert_bit.new.nodes.keys c.node.inside.right c.in_ok-left.ensures.keeps (subst (λ s. s.right < length old) is w.right);
    }

pub number_for-requires-else-rest-eq0-clause-within : goal.number_for-requires-else-rest-eq0-clause-within
number_for-requires-else-rest-eq0-clause-within t c =
    let old = c.args.nodes.now.keys in
    let w = within-at old c.args.set c.requires.pool c.requires.known in
    let is = sym (c.node.view_is ∙ c.read-node.ensures) in
    record {
      here = subst (λ s. s.here < 2 ^ 64) is w.here;
      left = length-keeps old c.insert_bit-else-rest-eq0.new.nodes.keys c.node.inside.left c.in_ok-right.ensures.keeps (subst (λ s. s.left < length old) is w.left);
      right = c.in_ok-right.ensures.known;
    }

pub returns-in_ok-odd-clause-keeps : goal.returns-in_ok-odd-clause-keeps
returns-in_ok-odd-clause-keeps t c = keeps-on _ _ _ c.in_ok-left.ensures.keeps c.in_ok-odd.ensures.keeps

pub returns-in_ok-even-clause-keeps : goal.returns-in_ok-even-clause-keeps
returns-in_ok-even-clause-keeps t c = keeps-on _ _ _ c.in_ok-right.ensures.keeps c.in_ok-even.ensures.keeps

pub returns-in_err-odd-clause-keeps : goal.returns-in_err-odd-clause-keeps
returns-in_err-odd-clause-keeps t c = keeps-on _ _ _ c.in_ok-left.ensures.keeps c.number_for-then-rest-eq0.ensures.keeps

pub returns-in_err-even-clause-keeps : goal.returns-in_err-even-clause-keeps
returns-in_err-even-clause-keeps t c = keeps-on _ _ _ c.in_ok-right.ensures.keeps c.number_for-else-rest-eq0.ensures.keeps

pub returns-in_err-left-clause-bounded : goal.returns-in_err-left-clause-bounded
returns-in_err-left-clause-bounded t c = λ limit l b. c.insert_bit.ensures.bounded limit (half-below c.args.index c.args.bit limit l) b

pub returns-in_err-right-clause-bounded : goal.returns-in_err-right-clause-bounded
returns-in_err-right-clause-bounded t c = λ limit l b. c.insert_bit-else-rest-eq0.ensures.bounded limit (half-below c.args.index c.args.bit limit l) b

pub returns-in_err-odd-clause-bounded : goal.returns-in_err-odd-clause-bounded
returns-in_err-odd-clause-bounded t c = λ limit l b.
    subst (IsBounded limit) (sym c.in_err-odd.ensures.err) (c.in_ok-left.ensures.bounded limit (half-below c.args.index c.args.bit limit l) b)

pub returns-in_err-even-clause-bounded : goal.returns-in_err-even-clause-bounded
returns-in_err-even-clause-bounded t c = λ limit l b.
    subst (IsBounded limit) (sym c.in_err-even.ensures.err) (c.in_ok-right.ensures.bounded limit (half-below c.args.index c.args.bit limit l) b)

pub returns-in_err-whole-clause-bounded : goal.returns-in_err-whole-clause-bounded
returns-in_err-whole-clause-bounded t c = λ limit l b. subst (IsBounded limit) (sym c.in_err-whole.ensures.err) b

-- If the resulting set exists already, the call returns its number and changes nothing.

pub returns-then-index-eq0-clause-there : goal.returns-then-index-eq0-clause-there
returns-then-index-eq0-clause-there t c = λ n l h.
    let old = c.args.nodes.now.keys in
    let at = c.node.view_is ∙ c.read-node.ensures in
    c.in_ok-whole.ensures.there n l
    (here-there old n c.args.set c.args.bit c.requires.pool l c.requires.known (subst (λ k. HasMore old n c.args.set k c.args.bit) c.if-index-eq0.true h)
    ∙ sym (λ i. record { here = bit_or (at i).here (one_shl c.args.bit 64 c.requires.bit i); left = (at i).left; right = (at i).right }))

pub returns-in_err-whole-clause-there : goal.returns-in_err-whole-clause-there
returns-in_err-whole-clause-there t c = λ n l h.
    let old = c.args.nodes.now.keys in
    let at = c.node.view_is ∙ c.read-node.ensures in
    absurd (cc (c.in_err-whole.ensures.there n l
    (here-there old n c.args.set c.args.bit c.requires.pool l c.requires.known (subst (λ k. HasMore old n c.args.set k c.args.bit) c.if-index-eq0.true h)
    ∙ sym (λ i. record { here = bit_or (at i).here (one_shl c.args.bit 64 c.requires.bit i); left = (at i).left; right = (at i).right }))).0)

pub returns-in_err-left-clause-there : goal.returns-in_err-left-clause-there
returns-in_err-left-clause-there t c = λ n l h.
    let old = c.args.nodes.now.keys in
    let at = c.node.view_is ∙ c.read-node.ensures in
    let node : Node = record { here = c.node.inside.here; left = c.node.inside.left; right = c.node.inside.right } in
    let asked = left-asked old n c.args.set c.args.index c.args.bit node at c.requires.pool l c.if-index-eq0.false c.if-rest-eq0.true h in
    let left = c.in_err-left.ensures.there (node_at old n).left asked.0 asked.1 in
    absurd (cc left.0)

pub returns-in_err-odd-clause-there : goal.returns-in_err-odd-clause-there
returns-in_err-odd-clause-there t c = λ n l h.
    let old = c.args.nodes.now.keys in
    let at = c.node.view_is ∙ c.read-node.ensures in
    let node : Node = record { here = c.node.inside.here; left = c.node.inside.left; right = c.node.inside.right } in
    let asked = left-asked old n c.args.set c.args.index c.args.bit node at c.requires.pool l c.if-index-eq0.false c.if-rest-eq0.true h in
    let left = c.in_ok-left.ensures.there (node_at old n).left asked.0 asked.1 in
    let at-odd = left-found old c.insert_bit.new.nodes.keys n c.args.set c.args.index c.args.bit c.in_ok-left.left node at c.requires.pool l c.requires.known c.if-index-eq0.false
    c.if-rest-eq0.true h (cc left.0) left.1 in
    absurd (cc (c.in_err-odd.ensures.there n at-odd.0 at-odd.1).0)

pub returns-in_ok-odd-clause-there : goal.returns-in_ok-odd-clause-there
returns-in_ok-odd-clause-there t c = λ n l h.
    let old = c.args.nodes.now.keys in
    let at = c.node.view_is ∙ c.read-node.ensures in
    let node : Node = record { here = c.node.inside.here; left = c.node.inside.left; right = c.node.inside.right } in
    let asked = left-asked old n c.args.set c.args.index c.args.bit node at c.requires.pool l c.if-index-eq0.false c.if-rest-eq0.true h in
    let left = c.in_ok-left.ensures.there (node_at old n).left asked.0 asked.1 in
    let at-odd = left-found old c.insert_bit.new.nodes.keys n c.args.set c.args.index c.args.bit c.in_ok-left.left node at c.requires.pool l c.requires.known c.if-index-eq0.false
    c.if-rest-eq0.true h (cc left.0) left.1 in
    let whole = c.in_ok-odd.ensures.there n at-odd.0 at-odd.1 in
    (whole.0, whole.1 ∙ left.1)

pub returns-in_err-right-clause-there : goal.returns-in_err-right-clause-there
returns-in_err-right-clause-there t c = λ n l h.
    let old = c.args.nodes.now.keys in
    let at = c.node.view_is ∙ c.read-node.ensures in
    let node : Node = record { here = c.node.inside.here; left = c.node.inside.left; right = c.node.inside.right } in
    let asked = right-asked old n c.args.set c.args.index c.args.bit node at c.requires.pool l c.if-index-eq0.false c.if-rest-eq0.false h in
    let right = c.in_err-right.ensures.there (node_at old n).right asked.0 asked.1 in
    absurd (cc right.0)

pub returns-in_err-even-clause-there : goal.returns-in_err-even-clause-there
returns-in_err-even-clause-there t c = λ n l h.
    let old = c.args.nodes.now.keys in
    let at = c.node.view_is ∙ c.read-node.ensures in
    let node : Node = record { here = c.node.inside.here; left = c.node.inside.left; right = c.node.inside.right } in
    let asked = right-asked old n c.args.set c.args.index c.args.bit node at c.requires.pool l c.if-index-eq0.false c.if-rest-eq0.false h in
    let right = c.in_ok-right.ensures.there (node_at old n).right asked.0 asked.1 in
    let at-even = right-found old c.insert_bit-else-rest-eq0.new.nodes.keys n c.args.set c.args.index c.args.bit c.in_ok-right.right node at c.requires.pool l c.requires.known c.if-index-eq0.false
    c.if-rest-eq0.false h (cc right.0) right.1 in
    absurd (cc (c.in_err-even.ensures.there n at-even.0 at-even.1).0)

pub returns-in_ok-even-clause-there : goal.returns-in_ok-even-clause-there
returns-in_ok-even-clause-there t c = λ n l h.
    let old = c.args.nodes.now.keys in
    let at = c.node.view_is ∙ c.read-node.ensures in
    let node : Node = record { here = c.node.inside.here; left = c.node.inside.left; right = c.node.inside.right } in
    let asked = right-asked old n c.args.set c.args.index c.args.bit node at c.requires.pool l c.if-index-eq0.false c.if-rest-eq0.false h in
    let right = c.in_ok-right.ensures.there (node_at old n).right asked.0 asked.1 in
    let at-even = right-found old c.insert_bit-else-rest-eq0.new.nodes.keys n c.args.set c.args.index c.args.bit c.in_ok-right.right node at c.requires.pool l c.requires.known c.if-index-eq0.false
    c.if-rest-eq0.false h (cc right.0) right.1 in
    let whole = c.in_ok-even.ensures.there n at-even.0 at-even.1 in
    (whole.0, whole.1 ∙ right.1)
