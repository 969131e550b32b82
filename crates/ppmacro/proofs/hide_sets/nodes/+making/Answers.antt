use Rattle.std.proofs.Common.{◌∙◌, refl, sym, ap, subst, Ok}
use Rattle.ppmacro.specs.code.Nodes.{Node, node_at, word, IsBounded}
use Rattle.ppmacro.specs.code.Operations.{word_rule}
use Rattle.ppmacro.proofs.Tries.{combine-set, member-member_rule, bounded-on, bounded-combine, keeps-on, length-keeps, words-sets_are_unique}
use Rattle.ppmacro.proofs.CachedResults.{trivial_result-is}
use Rattle.ppmacro.proofs.ExistingSets.{lefts-asked, rights-asked, member_rule-found}
use Rattle.ppmacro.proofs.hide_sets.nodes.+making.Goals as goal

pub compute-returns-in-Some-clause-known : goal.compute-returns-in-Some-clause-known
compute-returns-in-Some-clause-known t c = (trivial_result-is c.args.operation c.args.nodes.now.keys c.args.one c.args.two c.in-Some.number c.requires.pool c.requires.one c.requires.two (sym c.trivial_result.ensures ∙ c.in-Some.is)).within

pub compute-returns-in-Some-clause-set : goal.compute-returns-in-Some-clause-set
compute-returns-in-Some-clause-set t c = (trivial_result-is c.args.operation c.args.nodes.now.keys c.args.one c.args.two c.in-Some.number c.requires.pool c.requires.one c.requires.two (sym c.trivial_result.ensures ∙ c.in-Some.is)).is

pub compute_node-returns-clause-set : goal.compute_node-returns-clause-set
compute_node-returns-clause-set t c = λ w.
    let old = c.args.nodes.now.keys in
    let mid = c.compute.new.nodes.keys in
    let one = c.first.view_is ∙ c.read-first.ensures in
    let two = c.second.view_is ∙ c.read-second.ensures in
    let is = c.in_ok-both.ensures.is
    ∙ (λ i. record { here = c.combine_words-here.ensures i; left = c.in_ok-left.left; right = c.in_ok-right.right })
    ∙ (λ i. record {
      here = word_rule c.args.operation (one i).here (two i).here;
      left = c.in_ok-left.left;
      right = c.in_ok-right.right;
    }) in
    combine-set (word_rule c.args.operation) old mid c.compute-2.new.nodes.keys c.reuse_or_number.new.nodes.keys c.args.one c.args.two c.in_ok-left.left c.in_ok-right.right c.in_ok-both.both w
    c.requires.pool c.in_ok-left.ensures.pool c.in_ok-right.ensures.pool c.requires.one c.requires.two c.in_ok-left.ensures.known
    c.in_ok-right.ensures.known c.in_ok-left.ensures.keeps c.in_ok-right.ensures.keeps c.in_ok-both.ensures.keeps
    (λ y. c.in_ok-left.ensures.set y ∙ (λ i. word_rule c.args.operation (word old (one i).left y) (word old (two i).left y)))
    (λ y. c.in_ok-right.ensures.set y ∙ (λ i. word_rule c.args.operation (word mid (one i).right y) (word mid (two i).right y)))
    is

pub compute_node-returns-clause-bounded : goal.compute_node-returns-clause-bounded
compute_node-returns-clause-bounded t c = λ limit b.
    let start = c.args.nodes.now.keys in
    let new = c.reuse_or_number.new.nodes.keys in
    bounded-on limit c.compute-2.new.nodes.keys new c.in_ok-both.both c.in_ok-right.ensures.pool c.in_ok-both.ensures.keeps
    (c.in_ok-right.ensures.bounded limit (c.in_ok-left.ensures.bounded limit b)) c.in_ok-both.ensures.fresh
    (bounded-combine c.args.operation limit start new c.args.one c.args.two c.in_ok-both.both b c.requires.one c.requires.two
    (member-member_rule c.args.operation start new c.args.one c.args.two c.in_ok-both.both (compute_node-returns-clause-set t c)))

-- Existing nodes keep their numbers, and bounds on members hold also after a failure.

pub compute_node-reuse_or_number-requires-clause-one : goal.compute_node-reuse_or_number-requires-clause-one
compute_node-reuse_or_number-requires-clause-one t c =
    length-keeps _ _ c.args.one c.in_ok-right.ensures.keeps (length-keeps _ _ c.args.one c.in_ok-left.ensures.keeps c.requires.one)

pub compute_node-reuse_or_number-requires-clause-two : goal.compute_node-reuse_or_number-requires-clause-two
compute_node-reuse_or_number-requires-clause-two t c =
    length-keeps _ _ c.args.two c.in_ok-right.ensures.keeps (length-keeps _ _ c.args.two c.in_ok-left.ensures.keeps c.requires.two)

pub compute_node-returns-clause-keeps : goal.compute_node-returns-clause-keeps
compute_node-returns-clause-keeps t c = keeps-on _ _ _ (keeps-on _ _ _ c.in_ok-left.ensures.keeps c.in_ok-right.ensures.keeps) c.in_ok-both.ensures.keeps

pub compute_node-returns-in_err-right-clause-keeps : goal.compute_node-returns-in_err-right-clause-keeps
compute_node-returns-in_err-right-clause-keeps t c = keeps-on _ _ _ c.in_ok-left.ensures.keeps c.compute-2.ensures.keeps

pub compute_node-returns-in_err-both-clause-keeps : goal.compute_node-returns-in_err-both-clause-keeps
compute_node-returns-in_err-both-clause-keeps t c =
    keeps-on _ _ _ (keeps-on _ _ _ c.in_ok-left.ensures.keeps c.in_ok-right.ensures.keeps) c.reuse_or_number.ensures.keeps

pub compute_node-returns-in_err-right-clause-bounded : goal.compute_node-returns-in_err-right-clause-bounded
compute_node-returns-in_err-right-clause-bounded t c = λ limit b. c.compute-2.ensures.bounded limit (c.in_ok-left.ensures.bounded limit b)

pub compute_node-returns-in_err-both-clause-bounded : goal.compute_node-returns-in_err-both-clause-bounded
compute_node-returns-in_err-both-clause-bounded t c = λ limit b.
    subst (IsBounded limit) (sym c.in_err-both.ensures.err) (c.in_ok-right.ensures.bounded limit (c.in_ok-left.ensures.bounded limit b))

-- If the resulting set exists already, the call returns its number and changes nothing.

pub compute-returns-in-Some-clause-there : goal.compute-returns-in-Some-clause-there
compute-returns-in-Some-clause-there t c = λ n l h.
    let old = c.args.nodes.now.keys in
    let made = trivial_result-is c.args.operation old c.args.one c.args.two c.in-Some.number c.requires.pool c.requires.one c.requires.two (sym c.trivial_result.ensures ∙ c.in-Some.is) in
    (ap Ok (words-sets_are_unique old c.in-Some.number n c.requires.pool made.within l (λ w. made.is w ∙ sym (h w))), refl)

pub compute_node-returns-in_err-left-clause-there : goal.compute_node-returns-in_err-left-clause-there
compute_node-returns-in_err-left-clause-there t c = λ n l h.
    let old = c.args.nodes.now.keys in
    let op = word_rule c.args.operation in
    let one = c.first.view_is ∙ c.read-first.ensures in
    let two = c.second.view_is ∙ c.read-second.ensures in
    let first : Node = record { here = c.first.inside.here; left = c.first.inside.left; right = c.first.inside.right } in
    let second : Node = record { here = c.second.inside.here; left = c.second.inside.left; right = c.second.inside.right } in
    let lefts = lefts-asked op old n c.args.one c.args.two first second one two c.requires.pool l h in
    let left = c.in_err-left.ensures.there (node_at old n).left lefts.0 lefts.1 in
    absurd (cc left.0)

pub compute_node-returns-in_err-right-clause-there : goal.compute_node-returns-in_err-right-clause-there
compute_node-returns-in_err-right-clause-there t c = λ n l h.
    let old = c.args.nodes.now.keys in
    let op = word_rule c.args.operation in
    let one = c.first.view_is ∙ c.read-first.ensures in
    let two = c.second.view_is ∙ c.read-second.ensures in
    let first : Node = record { here = c.first.inside.here; left = c.first.inside.left; right = c.first.inside.right } in
    let second : Node = record { here = c.second.inside.here; left = c.second.inside.left; right = c.second.inside.right } in
    let lefts = lefts-asked op old n c.args.one c.args.two first second one two c.requires.pool l h in
    let left = c.in_ok-left.ensures.there (node_at old n).left lefts.0 lefts.1 in
    let rights = rights-asked op old c.compute.new.nodes.keys n c.args.one c.args.two first second one two c.requires.pool l h left.1 in
    let right = c.in_err-right.ensures.there (node_at old n).right rights.0 rights.1 in
    absurd (cc right.0)

pub compute_node-returns-in_err-both-clause-there : goal.compute_node-returns-in_err-both-clause-there
compute_node-returns-in_err-both-clause-there t c = λ n l h.
    let old = c.args.nodes.now.keys in
    let op = word_rule c.args.operation in
    let one = c.first.view_is ∙ c.read-first.ensures in
    let two = c.second.view_is ∙ c.read-second.ensures in
    let first : Node = record { here = c.first.inside.here; left = c.first.inside.left; right = c.first.inside.right } in
    let second : Node = record { here = c.second.inside.here; left = c.second.inside.left; right = c.second.inside.right } in
    let lefts = lefts-asked op old n c.args.one c.args.two first second one two c.requires.pool l h in
    let left = c.in_ok-left.ensures.there (node_at old n).left lefts.0 lefts.1 in
    let rights = rights-asked op old c.compute.new.nodes.keys n c.args.one c.args.two first second one two c.requires.pool l h left.1 in
    let right = c.in_ok-right.ensures.there (node_at old n).right rights.0 rights.1 in
    let both = member_rule-found op old c.compute.new.nodes.keys c.compute-2.new.nodes.keys n c.args.one c.args.two _ c.in_ok-left.left c.in_ok-right.right first second one two l h
    c.combine_words-here.ensures (cc left.0) (cc right.0) left.1 right.1 in
    absurd (cc (c.in_err-both.ensures.there n both.0 both.1).0)

pub compute_node-returns-clause-there : goal.compute_node-returns-clause-there
compute_node-returns-clause-there t c = λ n l h.
    let old = c.args.nodes.now.keys in
    let op = word_rule c.args.operation in
    let one = c.first.view_is ∙ c.read-first.ensures in
    let two = c.second.view_is ∙ c.read-second.ensures in
    let first : Node = record { here = c.first.inside.here; left = c.first.inside.left; right = c.first.inside.right } in
    let second : Node = record { here = c.second.inside.here; left = c.second.inside.left; right = c.second.inside.right } in
    let lefts = lefts-asked op old n c.args.one c.args.two first second one two c.requires.pool l h in
    let left = c.in_ok-left.ensures.there (node_at old n).left lefts.0 lefts.1 in
    let rights = rights-asked op old c.compute.new.nodes.keys n c.args.one c.args.two first second one two c.requires.pool l h left.1 in
    let right = c.in_ok-right.ensures.there (node_at old n).right rights.0 rights.1 in
    let both = member_rule-found op old c.compute.new.nodes.keys c.compute-2.new.nodes.keys n c.args.one c.args.two _ c.in_ok-left.left c.in_ok-right.right first second one two l h
    c.combine_words-here.ensures (cc left.0) (cc right.0) left.1 right.1 in
    let whole = c.in_ok-both.ensures.there n both.0 both.1 in
    (whole.0, whole.1 ∙ right.1 ∙ left.1)
