use Rattle.std.proofs.Common.{◌≡◌, ◌∙◌, ◌<◌, length, arith, sym, subst, ap, Ok}
use Rattle.ppmacro.specs.code.Nodes.{IsPool, KeepsNodes, node_at}
use Rattle.ppmacro.proofs.Tries.{pool-after, keeps-insert_node, at-got, same_node-true, fresh-after, inserted-there}
use Rattle.ppmacro.proofs.hide_sets.nodes.number_for.Goals as goal

pub returns-clause-pool : goal.returns-clause-pool
returns-clause-pool c = subst IsPool (sym c.in-Ok.ensures.keys) (pool-after c.args.nodes.now.keys c.args.node c.requires.pool (omega (arith, c.len.ensures.len, c.if-len-ge-MAX_NODES.false)) c.requires.within)

pub returns-clause-keeps : goal.returns-clause-keeps
returns-clause-keeps c = subst (KeepsNodes c.args.nodes.now.keys) (sym c.in-Ok.ensures.keys) (keeps-insert_node c.args.nodes.now.keys c.args.node)

pub returns-clause-is : goal.returns-clause-is
returns-clause-is c = let k = c.in-Ok.ensures.stored in at-got c.insert_full.new.self.keys c.in-Ok.number k.0 k.1 ∙ sym (same_node-true c.args.node k.0 k.2)

pub returns-clause-fresh : goal.returns-clause-fresh
returns-clause-fresh c = λ n a l.
    let new = c.insert_full.new.self.keys in
    let k = c.in-Ok.ensures.keys in
    let same : node_at new n ≡ c.args.node = (λ i. node_at (k i) n) ∙ fresh-after c.args.nodes.now.keys c.args.node n a (subst (λ ns. n < length ns) k l) in
    let p : IsPool new = returns-clause-pool c in
    p.different n c.in-Ok.number l c.in-Ok.ensures.within (same ∙ sym (returns-clause-is c))

pub returns-clause-there : goal.returns-clause-there
returns-clause-there c = λ n k e.
    let ns = c.args.nodes.now.keys in
    let same = c.in-Ok.ensures.keys ∙ inserted-there ns c.args.node n k e in
    let within = subst (λ xs. c.in-Ok.number < length xs) same c.in-Ok.ensures.within in
    let is = subst (λ xs. node_at xs c.in-Ok.number ≡ c.args.node) same (returns-clause-is c) in
    (ap Ok (c.requires.pool.different c.in-Ok.number n within k (is ∙ sym e)), same)
